use Rattle.std.proofs.Common.{◌∙◌, sym, subst, arith}
use Rattle.ccr_telling.specs.declared.judging.Judgement.{Judgement}
use Rattle.ccr_telling.specs.Judging.{IsJudged}
use Rattle.ccr_commands.proofs.FoundOnce.{illegal_is_found, legal_is_output, refused_line_within, told_within}
use Rattle.ccr_commands.proofs.judging.finding_of_text.Goals as goal

pub overflow_add-result-in-Illegal : goal.overflow_add-result-in-Illegal
overflow_add-result-in-Illegal c = omega (arith, refused_line_within c.args.wiring.now c.args.output.now c.args.judgement.now c.in-Illegal.at c.in-Illegal.rule c.requires.judged c.in-Illegal.is, c.requires.length, c.requires.before)

pub returns-in-Illegal : goal.returns-in-Illegal
returns-in-Illegal c = illegal_is_found c.args.wiring.now c.args.before c.args.output.now c.args.judgement.now c.in-Illegal.at c.in-Illegal.rule c.requires.judged c.in-Illegal.is

pub difference-requires-clause-legal : goal.difference-requires-clause-legal
difference-requires-clause-legal c = subst (λ (j : Judgement). IsJudged c.args.wiring.now c.args.output.now j) c.in-Legal.is c.requires.judged

pub difference-requires-clause-lines : goal.difference-requires-clause-lines
difference-requires-clause-lines c = omega (arith, (told_within c.args.wiring.now c.args.output.now c.in-Legal.found (subst (λ (j : Judgement). IsJudged c.args.wiring.now c.args.output.now j) c.in-Legal.is c.requires.judged)).0, c.requires.length)

pub difference-requires-clause-rest : goal.difference-requires-clause-rest
difference-requires-clause-rest c = (told_within c.args.wiring.now c.args.output.now c.in-Legal.found (subst (λ (j : Judgement). IsJudged c.args.wiring.now c.args.output.now j) c.in-Legal.is c.requires.judged)).1

pub returns-in-Some : goal.returns-in-Some
returns-in-Some c =
    let legal = legal_is_output c.args.wiring.now c.args.before c.args.output.now c.args.judgement.now c.in-Legal.found c.requires.judged c.in-Legal.is in
    (c.requires.judged.read, legal.0, sym (c.in_ok-line-in-Legal.ensures c.requires.judged.read legal.0.reads) ∙ c.in-Some.is)

pub returns-in-None : goal.returns-in-None
returns-in-None c =
    let legal = legal_is_output c.args.wiring.now c.args.before c.args.output.now c.args.judgement.now c.in-Legal.found c.requires.judged c.in-Legal.is in
    (c.requires.judged.read, legal.0, sym (c.in_ok-line-in-Legal.ensures c.requires.judged.read legal.0.reads) ∙ c.in-None.is, legal.1.complete, legal.1.quiet)

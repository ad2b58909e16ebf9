use Rattle.std.proofs.Common.{◌∙◌, ◌++◌, ◌∷◌, [], ap, sym, arith}
use Rattle.ccr_checker.specs.Judges.{Judged}
use Rattle.ccr_check.proofs.EachEventWasAccepted.{accepted_none, accepted_more, refused_here}
use Rattle.ccr_check.proofs.judging.first_refusal.Goals as goal

pub loop-at-init : goal.loop-at-init
loop-at-init c = accepted_none c.args.checker.now c.args.events.now c.requires.none

pub returns-in-Some-clause-refusal : goal.returns-in-Some-clause-refusal
returns-in-Some-clause-refusal c =
    refused_here c.args.checker.now c.loop-at.checker c.args.events.now c.loop-at.at c.in-Some.rule c.index-events-at.result (omega arith) c.index-events-at.is (sym c.in-Some.is ∙ c.in_ok-rule.ensures.rule) c.loop-at.invariant

pub loop-at-preserved : goal.loop-at-preserved
loop-at-preserved c =
    let event = c.index-events-at.result in
    accepted_more c.args.checker.now c.loop-at.checker c.accept.new.self c.args.events.now c.loop-at.at event (omega arith) c.index-events-at.is (sym c.in_default.is ∙ c.in_ok-rule.ensures.rule)
    (c.in_ok-accept.ensures.ok ∙ ap (λ (j : Judged). record j { history = j.history ++ event ∷ [] }) c.in_ok-rule.ensures.kept) c.loop-at.invariant

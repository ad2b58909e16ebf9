use Rattle.std.proofs.Common.{◌≡◌, [], None, arith}
use Rattle.ccr_model.specs.Legal.{first_refusal}
use Rattle.ccr_check.proofs.FirstRefusals.{IsLegalAfter-none, not_legal}
use Rattle.ccr_check.proofs.judging.verdict.Goals as goal

pub returns-in-Some-clause-legal : goal.returns-in-Some-clause-legal
returns-in-Some-clause-legal c = not_legal c.args.wiring.now c.args.history.now c.in-Some.at c.in-Some.rule (grind arith)

pub returns-clause-legal : goal.returns-clause-legal
returns-clause-legal c =
    let none : first_refusal c.args.wiring.now [] 0 c.args.history.now ≡ None = grind arith in
    IsLegalAfter-none c.args.wiring.now [] 0 c.args.history.now none

use Rattle.ccr_checker.proofs.JudgesStayJudges.{IsChecker-none}
use Rattle.ccr_checker.proofs.checker.Checker.new.Goals as goal

pub invariant_of-result : goal.invariant_of-result
invariant_of-result c = IsChecker-none c.args.wiring.now c.new-2.result c.in_ok-ledger.ledger c.parts-valid.ensures.valid c.new-2.ensures c.in_ok-ledger.ensures

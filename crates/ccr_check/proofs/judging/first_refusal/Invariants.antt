use Rattle.ccr_check.proofs.EachEventWasAccepted.{HasAccepted}
use Rattle.ccr_check.proofs.judging.first_refusal.Given as goal

abbrev pub invariant-loop-at : goal.invariant-loop-at
invariant-loop-at l = HasAccepted l.fn.checker l.checker l.events l.at

use Rattle.std.proofs.Common.{◌≡◌, drop}
use Rattle.ccr_claim.specs.Plans.{had_at}
use Rattle.ccr_claim.proofs.firing.messages_at.Given as goal

abbrev pub invariant-loop-one : goal.invariant-loop-one
invariant-loop-one l = had_at (drop l.one-index l.had) l.port ≡ had_at l.had l.port

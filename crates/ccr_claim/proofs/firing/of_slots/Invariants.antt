use Rattle.std.proofs.Common.{take}
use Rattle.ccr_claim.specs.Plans.{in_slots}
use Rattle.ccr_claim.specs.Firings.{IsOf}
use Rattle.ccr_claim.proofs.firing.of_slots.Given as goal

abbrev pub invariant-loop-slot : goal.invariant-loop-slot
invariant-loop-slot l = IsOf (in_slots (take l.slot-index l.slots) l.had) l.all

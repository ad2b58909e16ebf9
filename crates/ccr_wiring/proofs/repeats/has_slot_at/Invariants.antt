use Rattle.std.proofs.Common.{◌≡◌, drop}
use Rattle.ccr_base.specs.Lists.{has_number}
use Rattle.ccr_wiring.specs.Repeats.{slot_ports}
use Rattle.ccr_wiring.proofs.repeats.has_slot_at.Given as goal

-- none so far is at the port
abbrev pub invariant-loop-slot : goal.invariant-loop-slot
invariant-loop-slot l = has_number (slot_ports (drop l.slot-index l.slots)) l.port ≡ has_number (slot_ports l.slots) l.port

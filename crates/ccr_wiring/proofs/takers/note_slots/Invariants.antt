use Rattle.std.proofs.Common.{take}
use Rattle.ccr_base.specs.Lists.{has_number}
use Rattle.ccr_wiring.specs.Repeats.{slot_ports}
use Rattle.ccr_wiring.specs.Takers.{IsNoted}
use Rattle.ccr_wiring.proofs.takers.note_slots.Given as goal

abbrev pub invariant-loop-slot : goal.invariant-loop-slot
invariant-loop-slot l = IsNoted (has_number (take l.slot-index (slot_ports l.slots))) l.spot l.fn.lists l.lists

use Rattle.std.proofs.Common.{◌≡◌, ◌++◌, drop}
use Rattle.ccr_wiring.specs.Repeats.{slot_ports}
use Rattle.ccr_wiring.proofs.spots.add_slots.Given as goal

-- the ports so far and those still to come are all
abbrev pub invariant-loop-slot : goal.invariant-loop-slot
invariant-loop-slot l = l.ports.items ++ slot_ports (drop l.slot-index l.slots) ≡ l.fn.ports.items ++ slot_ports l.slots

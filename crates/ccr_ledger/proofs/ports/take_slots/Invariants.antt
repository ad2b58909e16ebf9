use Rattle.std.proofs.Common.{◌≡◌, ◌++◌, drop}
use Rattle.ccr_ledger.specs.Taking.{AreLeftOf, take_slots}
use Rattle.ccr_ledger.proofs.ports.take_slots.Given as goal

abbrev pub invariant-loop-slot : goal.invariant-loop-slot
invariant-loop-slot l = record {
  ports : (take_slots (drop l.slot-index l.slots) l.ports.items).ports ≡ (take_slots l.slots l.initial.ports.items).ports;
  left : AreLeftOf l.initial.ports.items l.ports.items;
  taken : l.taken.items ++ (take_slots (drop l.slot-index l.slots) l.ports.items).messages ≡ (take_slots l.slots l.initial.ports.items).messages;
}

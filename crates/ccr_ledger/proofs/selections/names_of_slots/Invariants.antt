use Rattle.std.proofs.Common.{◌≡◌, [], flat_map}
use Rattle.ccr_base.proofs.Loops.{AddsUp}
use Rattle.ccr_base.specs.declared.patterns.Slot.{Slot}
use Rattle.ccr_ledger.specs.Rows.{row}
use Rattle.ccr_model.specs.Selection.{names_of}
use Rattle.ccr_ledger.specs.Taking.{slot_takes}
use Rattle.ccr_ledger.proofs.selections.names_of_slots.Given as goal

-- the ports are as they were, and the names so far and those still to come are all
abbrev pub invariant-loop-slot : goal.invariant-loop-slot
invariant-loop-slot l = record {
  kept : l.ports.items ≡ l.initial.ports.items;
  names : AddsUp (flat_map (λ (slot : Slot). names_of (slot_takes (row l.initial.ports.items) slot))) l.slots l.slot-index [] l.names.items;
}

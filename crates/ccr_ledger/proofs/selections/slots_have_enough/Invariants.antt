use Rattle.std.proofs.Common.{◌≡◌}
use Rattle.std.specs.List.{list_all}
use Rattle.ccr_base.specs.declared.patterns.Slot.{Slot}
use Rattle.ccr_base.proofs.Loops.{GivesAsWhole}
use Rattle.ccr_base.specs.Selection.{is_choosable}
use Rattle.ccr_ledger.specs.Rows.{row}
use Rattle.ccr_ledger.proofs.selections.slots_have_enough.Given as goal

-- the ports are as they were, and all slots so far have enough
abbrev pub invariant-loop-slot : goal.invariant-loop-slot
invariant-loop-slot l = record {
  kept : l.ports.items ≡ l.initial.ports.items;
  left : GivesAsWhole (list_all (λ (slot : Slot). is_choosable slot (row l.initial.ports.items slot.port))) l.slots l.slot-index;
}

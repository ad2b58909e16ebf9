use Rattle.std.specs.List.{list_all}
use Rattle.ccr_base.specs.declared.patterns.Slot.{Slot}
use Rattle.ccr_base.specs.Selection.{is_choosable}
use Rattle.ccr_model.specs.Posts.{held}
use Rattle.ccr_base.proofs.Loops.{GivesAsWhole}
use Rattle.ccr_model.proofs.enough.slots_have_enough.Given as goal

-- all slots so far have enough
abbrev pub invariant-loop-slot : goal.invariant-loop-slot
invariant-loop-slot l = GivesAsWhole (list_all (λ (slot : Slot). is_choosable slot (held l.events slot.port))) l.slots l.slot-index

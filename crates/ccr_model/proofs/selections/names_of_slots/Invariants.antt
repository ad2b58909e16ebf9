use Rattle.ccr_model.proofs.NamesLeft.{NamesLeft}
use Rattle.ccr_model.proofs.selections.names_of_slots.Given as goal

-- the names so far and those still to come are all
abbrev pub invariant-loop-slot : goal.invariant-loop-slot
invariant-loop-slot l = NamesLeft l.events l.slots l.slot-index l.names.items

use Rattle.std.proofs.Common.{◌≡◌, ◌++◌, take}
use Rattle.std.specs.Prelude.{flat_map}
use Rattle.ccr_wiretext.specs.Spelling.{slot_words}
use Rattle.std.specs.List.{AllWithin}
use Rattle.ccr_wiretext.specs.Values.{IsPredValued}
use Rattle.ccr_wiretext.proofs.words.LineWords.slots.Given as goal

abbrev pub invariant-loop-slot : goal.invariant-loop-slot
invariant-loop-slot l = record { text : l.self ≡ l.fn.self ++ flat_map (slot_words l.parts) (take l.slot-index l.slots); valued : AllWithin (λ slot. IsPredValued slot.pred) l.slots 0 l.slot-index }

-- Where one port holds too little for its slot, the slots have no selection; else each takes its own.
use Rattle.std.proofs.Common.{◌≡◌, ◌∙◌, ap, ℕ, zero, suc, take, Bool, true, false, List, [], ◌∷◌, ◌++◌, flat_map, Option, Some, None, refl}
use Rattle.std.specs.Prelude.{option_map}
use Rattle.std.specs.List.{list_all}
use Rattle.std.proofs.lemmas.List.{map-append}
use Rattle.ccr_base.specs.declared.names.MsgId.{MsgId}
use Rattle.ccr_base.specs.declared.messages.Msg.{Msg}
use Rattle.ccr_base.specs.declared.patterns.Slot.{Slot}
use Rattle.ccr_base.specs.Selection.{selection, is_choosable}
use Rattle.ccr_base.proofs.Options.{not_some}
use Rattle.ccr_model.specs.Selection.{selection_of_slots, names_of}
use Rattle.ccr_model.proofs.CanFire.{some_selection_of_slots}
use Rattle.ccr_ledger.specs.Taking.{slot_takes}

pub no_selection_of_slots : (held_at : ℕ → List Msg) (slots : List Slot) → list_all (λ slot. is_choosable slot (held_at slot.port)) slots ≡ false → selection_of_slots held_at slots ≡ None
no_selection_of_slots held_at slots lacking = not_some (selection_of_slots held_at slots) (some_selection_of_slots held_at slots ∙ lacking)

-- an empty port gives nothing
pub none_taken : (held_at : ℕ → List Msg) (slot : Slot) → held_at slot.port ≡ [] → names_of (slot_takes held_at slot) ≡ []
none_taken held_at slot empty = rw empty (of_most slot.most)
  where
    of_most : (n : ℕ) → names_of (take n []) ≡ []
    of_most zero = refl
    of_most (suc n) = refl

pub names_of_whole_selection : (held_at : ℕ → List Msg) (slots : List Slot) → list_all (λ slot. is_choosable slot (held_at slot.port)) slots ≡ true
    → option_map names_of (selection_of_slots held_at slots) ≡ Some (flat_map (λ slot. names_of (slot_takes held_at slot)) slots)
names_of_whole_selection held_at [] whole = refl
names_of_whole_selection held_at (slot ∷ slots) whole = of_test (is_choosable slot (held_at slot.port)) refl (selection_of_slots held_at slots) refl (λ others. names_of_whole_selection held_at slots others)
  where
    of_test : (b : Bool) → is_choosable slot (held_at slot.port) ≡ b → (o : Option (List Msg)) → selection_of_slots held_at slots ≡ o
        → (list_all (λ other. is_choosable other (held_at other.port)) slots ≡ true → option_map names_of (selection_of_slots held_at slots) ≡ Some (flat_map (λ other. names_of (slot_takes held_at other)) slots))
        → option_map names_of (selection_of_slots held_at (slot ∷ slots)) ≡ Some (flat_map (λ other. names_of (slot_takes held_at other)) (slot ∷ slots))
    of_test false lacking o is rest = let none = rw lacking at whole in absurd (cc)
    of_test true enough None is rest = let others = rw is at (rest (rw enough at whole)) in absurd (cc)
    of_test true enough (Some back) is rest =
        let others = rw is at (rest (rw enough at whole)) in
        let behind : names_of back ≡ flat_map (λ other. names_of (slot_takes held_at other)) slots = cc in
        rw (enough, is) (ap Some (map-append (λ (m : Msg). m.id) (slot_takes held_at slot) back ∙ ap (λ (names : List MsgId). names_of (slot_takes held_at slot) ++ names) behind))

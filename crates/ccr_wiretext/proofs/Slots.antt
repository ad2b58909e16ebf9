-- One slot, one member or one cause more.
use Rattle.std.proofs.Common.{◌≡◌, ℕ, suc, ◌-◌, ◌<◌, false, List, [], ◌∷◌, ◌++◌, length, Ok, refl, arith, length-append}
use Rattle.std.specs.Prelude.{◌==◌}
use Rattle.ccr_base.specs.declared.patterns.Slot.{Slot}
use Rattle.ccr_text.specs.Fields.{Words}
use Rattle.ccr_wiretext.specs.Drafts.{Declared}
use Rattle.ccr_wiretext.specs.Patterns.{slot, slots, new_port, members, new_member, further}

slots_next : (draft : Declared) (room : ℕ) (found : List Slot) (words : Words) (next : Slot) (rest : Words) → (length words == 0) ≡ false → slot draft found words ≡ Ok (next, rest)
    → slots draft (suc room) found words ≡ slots draft room (found ++ next ∷ []) rest
unfolding slots
slots_next draft room found [] next rest some e = absurd cc
slots_next draft room found (w ∷ words) next rest some e = rw e refl

pub slots_step : (draft : Declared) (found : List Slot) (words : Words) (next : Slot) (rest : Words) → length found < 8 → (length words == 0) ≡ false → slot draft found words ≡ Ok (next, rest)
    → slots draft (8 - length found) found words ≡ slots draft (8 - length (found ++ next ∷ [])) (found ++ next ∷ []) rest
slots_step draft found words next rest room some e =
    let one : 8 - length found ≡ suc (8 - length (found ++ next ∷ [])) = omega (arith, length-append {A = Slot} found (next ∷ [])) in
    rw one (slots_next draft (8 - length (found ++ next ∷ [])) found words next rest some e)

members_next : (draft : Declared) (room : ℕ) (found : List ℕ) (words : Words) (next : ℕ) (rest : Words) → (length words == 0) ≡ false → new_port draft found words ≡ Ok (next, rest)
    → members draft (suc room) found words ≡ members draft room (found ++ next ∷ []) rest
unfolding members
members_next draft room found [] next rest some e = absurd cc
members_next draft room found (w ∷ words) next rest some e = rw e refl

pub members_step : (draft : Declared) (found : List ℕ) (words : Words) (next : ℕ) (rest : Words) → length found < 8 → (length words == 0) ≡ false → new_port draft found words ≡ Ok (next, rest)
    → members draft (8 - length found) found words ≡ members draft (8 - length (found ++ next ∷ [])) (found ++ next ∷ []) rest
members_step draft found words next rest room some e =
    let one : 8 - length found ≡ suc (8 - length (found ++ next ∷ [])) = omega (arith, length-append {A = ℕ} found (next ∷ [])) in
    rw one (members_next draft (8 - length (found ++ next ∷ [])) found words next rest some e)

further_next : (draft : Declared) (room : ℕ) (found : List ℕ) (words : Words) (next : ℕ) (rest : Words) → (length words == 0) ≡ false → new_member draft found words ≡ Ok (next, rest)
    → further draft (suc room) found words ≡ further draft room (found ++ next ∷ []) rest
unfolding further
further_next draft room found [] next rest some e = absurd cc
further_next draft room found (w ∷ words) next rest some e = rw e refl

pub further_step : (draft : Declared) (found : List ℕ) (words : Words) (next : ℕ) (rest : Words) → length found < 8 → (length words == 0) ≡ false → new_member draft found words ≡ Ok (next, rest)
    → further draft (8 - length found) found words ≡ further draft (8 - length (found ++ next ∷ [])) (found ++ next ∷ []) rest
further_step draft found words next rest room some e =
    let one : 8 - length found ≡ suc (8 - length (found ++ next ∷ [])) = omega (arith, length-append {A = ℕ} found (next ∷ [])) in
    rw one (further_next draft (8 - length (found ++ next ∷ [])) found words next rest some e)

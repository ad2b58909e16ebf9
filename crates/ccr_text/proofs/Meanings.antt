-- What a name means in a list of names, with one more at its end.
use Rattle.std.proofs.Common.{◌≡◌, ℕ, Bool, true, false, cond, List, [], ◌∷◌, ◌++◌, Some, None, refl, bytes_eq}
use Rattle.ccr_text.specs.Names.{meaning_of}

-- what means nothing meant nothing before, and isn't the new name
pub meaning_none : {T : Type 0} (names : List (List ℕ × T)) (name word : List ℕ) (what : T) → meaning_of (names ++ (name, what) ∷ []) word ≡ None → (meaning_of names word ≡ None) × (bytes_eq word name ≡ false)
meaning_none [] name word what e = (refl, by (bytes_eq word name) e)
  where
    by : (t : Bool) → cond t (Some what) None ≡ None → t ≡ false
    by true h = absurd cc
    by false h = refl
meaning_none (entry ∷ names) name word what e = by (bytes_eq word entry.0) e (meaning_none names name word what)
  where
    by : (t : Bool) → cond t (Some entry.1) (meaning_of (names ++ (name, what) ∷ []) word) ≡ None → (meaning_of (names ++ (name, what) ∷ []) word ≡ None → (meaning_of names word ≡ None) × (bytes_eq word name ≡ false))
        → (cond t (Some entry.1) (meaning_of names word) ≡ None) × (bytes_eq word name ≡ false)
    by true h next = absurd cc
    by false h next = next h

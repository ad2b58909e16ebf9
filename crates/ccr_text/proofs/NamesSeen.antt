-- The map of names seen as a list.
use Rattle.std.proofs.Common.{◌≡◌, ℕ, Bool, true, false, cond, List, [], ◌∷◌, ◌++◌, map, Option, Some, None, refl, ap}
use Rattle.std.specs.Global.{Vec}
use Rattle.std.specs.Str.{bytes_eq}
use Rattle.std.specs.Map.{lookup}
use Rattle.indexmap.specs.IndexMap.{insert_entry}
use Rattle.ccr_text.specs.Names.{meaning_of}

abbrev pub seen : {T : Type 0} → List (Vec ℕ × T) → List (List ℕ × T)
seen entries = map (λ entry. (entry.0.items, entry.1)) entries

-- a name is looked up
pub named-seen : {T : Type 0} (entries : List (Vec ℕ × T)) (word : List ℕ) → meaning_of (seen entries) word ≡ lookup (λ key. bytes_eq word key.items) entries
named-seen [] word = refl
named-seen (entry ∷ entries) word = ap (cond (bytes_eq word entry.0.items) (Some entry.1)) (named-seen entries word)

abbrev pub chosen : {T : Type 0} → Bool → Option T → T → Option T
chosen b found what = cond b (Some what) found

not_first : {T : Type 0} (b : Bool) (found : Option T) (what : T) → chosen b found what ≡ None → (b ≡ false) × (found ≡ None)
not_first true found what e = absurd cc
not_first false found what e = (refl, e)

-- a new name goes last
pub seen-insert : {T : Type 0} (entries : List (Vec ℕ × T)) (key : Vec ℕ) (what : T) → meaning_of (seen entries) key.items ≡ None
    → seen (insert_entry (λ (a : Vec ℕ) (b : Vec ℕ). bytes_eq a.items b.items) entries key what) ≡ seen entries ++ (key.items, what) ∷ []
seen-insert [] key what new = refl
seen-insert (entry ∷ entries) key what new =
    let parts = not_first (bytes_eq key.items entry.0.items) (meaning_of (seen entries) key.items) entry.1 new in
    rw (parts.0, seen-insert entries key what parts.1) refl

-- What holds in the middle of a loop over a list.
use Rattle.std.proofs.Common.{◌≡◌, ℕ, List, ◌++◌, drop}

-- the list from this index on gives what the whole gives
abbrev pub GivesAsWhole : {A B : Type 0} → (List A → B) → List A → ℕ → Type 0
GivesAsWhole give all i = give (drop i all) ≡ give all

-- a list that is built is, with what the rest from this index on adds, the one before with what all add
abbrev pub AddsUp : {A B : Type 0} → (List A → List B) → List A → ℕ → List B → List B → Type 0
AddsUp added all i before now = now ++ added (drop i all) ≡ before ++ added all

-- the same where what is added takes a number: this one for the rest, and the first for all
abbrev pub AddsUpFrom : {A B : Type 0} → (ℕ → List A → List B) → List A → ℕ → ℕ → ℕ → List B → List B → Type 0
AddsUpFrom added all i number first before now = now ++ added number (drop i all) ≡ before ++ added first all

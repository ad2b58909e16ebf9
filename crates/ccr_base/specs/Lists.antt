-- What holds of a list.
use Rattle.std.specs.Prelude.{ℕ, Bool, true, not, ◌==◌, ◌&&◌, List, [], ◌∷◌}
use Rattle.std.specs.List.{list_any}

-- P holds of each element
abbrev pub Each : {A : Type 0} → (A → Type 0) → List A → Type 0
Each P [] = Unit {0}
Each P (x ∷ xs) = P x × Each P xs

-- whether the number is among them
abbrev pub has_number : List ℕ → ℕ → Bool
has_number numbers number = list_any (λ other. other == number) numbers

-- whether no number stands twice
abbrev pub are_apart : List ℕ → Bool
are_apart [] = true
are_apart (number ∷ numbers) = not (has_number numbers number) && are_apart numbers

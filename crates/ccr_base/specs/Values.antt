-- Values: lists of 1 to 8 numbers.
use Rattle.std.specs.Prelude.{ℕ, Bool, nat_eq, nat_le, nat_lt, ◌&&◌, List, [], ◌∷◌, length, Option, Some, None, if◌then◌else◌}
use Rattle.std.specs.Cmp.Lexicographic.{pointwise}
use Rattle.ccr_base.specs.Bounds.{most_value_numbers}

-- whether two values have the same numbers
abbrev pub same_value : List ℕ → List ℕ → Bool
same_value = pointwise nat_eq

-- 1 to 8 numbers are a value
abbrev pub value_of_numbers : List ℕ → Option (List ℕ)
value_of_numbers numbers = if nat_lt 0 (length numbers) && nat_le (length numbers) most_value_numbers then Some numbers else None

-- the number that predicates look at
abbrev pub first_number : List ℕ → ℕ
first_number [] = 0
first_number (number ∷ numbers) = number

-- What an expression stands for over the values of a task.
use Rattle.std.specs.Prelude.{ℕ, ◌^◌, ◌%◌, max, List, [], ◌∷◌, map, length, sum, slice_index, unwrap_or}
use Rattle.std.specs.List.{slice_get, range_with_len}
use Rattle.std.specs.Option.{option_map_or}
use Rattle.ccr_base.specs.Values.{value_of_numbers}
use Rattle.ccr_base.specs.declared.handlers.Expr.{Expr}
use Rattle.ccr_base.specs.declared.handlers.Expr.TheVariants.{Number, Arg, Part, Sum, Count}

-- the value's number at the index, and 0 where there is none
abbrev pub number_at : ℕ → List ℕ → ℕ
number_at index value = slice_index value index

-- how many numbers the longest value has
abbrev pub longest : List (List ℕ) → ℕ
longest [] = 0
longest (value ∷ values) = max (length value) (longest values)

-- the sum of the numbers at this index, modulo 2^64
abbrev pub sum_at : List (List ℕ) → ℕ → ℕ
sum_at values index = sum (map (number_at index) values) % 2 ^ 64

-- as long as the longest value, each number the sum of those at its index; 0 where there is no value
abbrev pub sum_of : List (List ℕ) → List ℕ
sum_of values = unwrap_or (value_of_numbers (map (sum_at values) (range_with_len 0 (longest values)))) (0 ∷ [])

-- one number of the value of this message; 0 where there is no such message or number
abbrev pub part_of : List (List ℕ) → ℕ → ℕ → ℕ
part_of values message index = option_map_or (number_at index) (slice_get values message) 0

-- the value of the expression; an argument past the end is 0
abbrev pub value_of : Expr → List (List ℕ) → List ℕ
value_of (Number value) values = value
value_of (Arg k) values = unwrap_or (slice_get values k) (0 ∷ [])
value_of (Part k index) values = part_of values k index ∷ []
value_of Sum values = sum_of values
value_of Count values = length values ∷ []

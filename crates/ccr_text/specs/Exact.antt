-- Numbers in their one spelling: decimal digits without leading zeros.
use Rattle.std.specs.Prelude.{ℕ, Bool, true, false, not, List, [], ◌∷◌, ◌==◌, map, decimal, Option, Some, None, if◌then◌else◌}
use Rattle.std.specs.Option.{option_and_then, option_map}
use Rattle.std.specs.Str.{bytes_eq}
use Rattle.std.specs.List.{slice_split, join_with_byte}
use Rattle.ccr_text.specs.Words.{number_of}

-- the number where the word is its digits, which have no leading zero
abbrev pub where_spelled : List ℕ → ℕ → Option ℕ
where_spelled word n = if bytes_eq word (decimal n) then Some n else None

-- a number below 2 ^ 64
abbrev pub exact_number_of : List ℕ → Option ℕ
exact_number_of word = option_and_then (where_spelled word) (number_of word)

-- the bytes, split at each separator. What stands behind the last separator is a part too
abbrev pub parts : ℕ → List ℕ → List (List ℕ)
parts separator bytes = slice_split (λ b. b == separator) bytes

-- the numbers of a value, with commas between them
abbrev pub value_word : List ℕ → List ℕ
value_word value = join_with_byte 44 (map decimal value)

-- the number that the first word is, and the words behind it
abbrev pub number_first : List (List ℕ) → Option (ℕ × List (List ℕ))
number_first [] = None
number_first (word ∷ words) = option_map (λ n. (n, words)) (exact_number_of word)

-- whether a word may be the spelling of a number by its first two bytes: a zero stands alone
abbrev pub may_begin : List ℕ → Bool
may_begin [] = false
may_begin (first ∷ []) = true
may_begin (first ∷ second ∷ others) = not (first == 48)

-- what stands before the first separator
abbrev pub first_part : ℕ → List ℕ → List ℕ
first_part separator [] = []
first_part separator (b ∷ bytes) = if b == separator then [] else b ∷ first_part separator bytes

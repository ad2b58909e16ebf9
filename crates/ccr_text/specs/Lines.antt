-- The lines of a text.
use Rattle.std.specs.Prelude.{ℕ, Bool, false, List, [], ◌∷◌, ◌+◌, ◌==◌, length, Option, Some, None, if◌then◌else◌}
use Rattle.std.specs.Str.{bytes_eq}
use Rattle.std.specs.List.{list_any, onto_first}
use Rattle.ccr_text.specs.declared.lines.Line.{Line}
use Rattle.ccr_text.specs.Words.{words_of, is_clean}

-- the text split at each LF. What follows the last LF is a line where it isn't empty
abbrev pub split_text : List ℕ → List (List ℕ)
split_text [] = []
split_text (b ∷ bytes) = if b == 10 then [] ∷ split_text bytes else onto_first b (split_text bytes)

-- what stands before the first LF
abbrev pub first_line : List ℕ → List ℕ
first_line [] = []
first_line (b ∷ bytes) = if b == 10 then [] else b ∷ first_line bytes

-- what stands behind the first LF
abbrev pub behind_line : List ℕ → List ℕ
behind_line [] = []
behind_line (b ∷ bytes) = if b == 10 then bytes else behind_line bytes

-- whether an LF stands in the bytes
abbrev pub has_feed : List ℕ → Bool
has_feed bytes = list_any (λ b. b == 10) bytes

-- a line with its number, its words, and whether it is clean
abbrev pub numbered_line : ℕ → List ℕ → Line
numbered_line number bytes = record { number = number; words = words_of bytes; clean = is_clean bytes }

-- each line with its number
abbrev pub numbered : ℕ → List (List ℕ) → List Line
numbered number [] = []
numbered number (line ∷ lines) = numbered_line number line ∷ numbered (number + 1) lines

-- the lines of a text, numbered from 1
abbrev pub lines_of : List ℕ → List Line
lines_of text = numbered 1 (split_text text)

-- whether the first of the words is this one
abbrev pub is_first_word : List ℕ → List (List ℕ) → Bool
is_first_word word [] = false
is_first_word word (first ∷ words) = bytes_eq first word

-- whether the line's first word is this one
abbrev pub begins_with : List ℕ → List ℕ → Bool
begins_with word line = is_first_word word (words_of line)

-- of lines of which the first begins at this byte and has so many before it, the byte and the number before the first that begins with the word
abbrev pub begin_from : List ℕ → ℕ → ℕ → List (List ℕ) → Option (ℕ × ℕ)
begin_from word byte number [] = None
begin_from word byte number (line ∷ lines) = if begins_with word line then Some (byte, number) else begin_from word (byte + (length line + 1)) (number + 1) lines

-- these, or the text's length and number of lines
abbrev pub index_or_end : List ℕ → Option (ℕ × ℕ) → ℕ × ℕ
index_or_end text None = (length text, length (split_text text))
index_or_end text (Some index) = index

-- the first line that opens with this word: the byte it begins at, and the lines before it
abbrev pub find_line : List ℕ → List ℕ → ℕ × ℕ
find_line text word = index_or_end text (begin_from word 0 0 (split_text text))

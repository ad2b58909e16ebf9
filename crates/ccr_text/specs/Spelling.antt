-- The canonical text of lines that are given by their words.
use Rattle.std.specs.Prelude.{◌≡◌, ℕ, List, [], ◌∷◌, ◌++◌, ◌==◌, flat_map, length, ◌+◌, true, false}
use Rattle.std.specs.List.{list_all}
use Rattle.ccr_text.specs.declared.lines.Line.{Line}
use Rattle.ccr_text.specs.Words.{is_graphic}

-- single spaces between words
abbrev pub joined : List (List ℕ) → List ℕ
joined [] = []
joined (word ∷ []) = word
joined (word ∷ next ∷ words) = word ++ 32 ∷ joined (next ∷ words)

-- a line ends with LF
abbrev pub line_text : List (List ℕ) → List ℕ
line_text words = joined words ++ 10 ∷ []

-- what follows the first word of a line
abbrev pub spaced : List (List ℕ) → List ℕ
spaced [] = 10 ∷ []
spaced (word ∷ words) = 32 ∷ (word ++ spaced words)

-- the text of these lines
abbrev pub text_of : List (List (List ℕ)) → List ℕ
text_of lines = flat_map line_text lines

-- the lines that this text has
abbrev pub spelled_lines : ℕ → List (List (List ℕ)) → List Line
spelled_lines number [] = []
spelled_lines number (words ∷ lines) = record { number = number; words = words; clean = true } ∷ spelled_lines (number + 1) lines

-- words of a line: each has a byte, and only bytes of words
abbrev pub AreWords : List (List ℕ) → Type 0
AreWords [] = Unit {0}
AreWords (word ∷ words) = ((length word == 0) ≡ false) × (list_all is_graphic word ≡ true) × AreWords words

-- lines that are given by their words
abbrev pub AreLines : List (List (List ℕ)) → Type 0
AreLines [] = Unit {0}
AreLines (words ∷ lines) = AreWords words × AreLines lines

-- the new text begins with the old one
abbrev pub Grew : List ℕ → List ℕ → Type 0
Grew old new = (more : List ℕ) × (new ≡ old ++ more)

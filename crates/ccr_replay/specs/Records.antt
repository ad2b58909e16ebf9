-- The text of a record: the wiring as it was read, how many workers there are, whose turn it is, line by line, and the last line.
use Rattle.std.specs.Prelude.{ℕ, List, [], ◌∷◌, ◌++◌, map, codes, decimal}
use Rattle.ccr_text.specs.Spelling.{text_of}

-- the line of the record, with the number of workers
abbrev pub record_words : ℕ → List (List ℕ)
record_words workers = codes "record" ∷ codes "1" ∷ decimal workers ∷ []

-- the line of a turn
abbrev pub turn_words : ℕ → List (List ℕ)
turn_words actor = codes "turn" ∷ decimal actor ∷ []

-- the last line
abbrev pub done_words : List (List ℕ)
done_words = codes "done" ∷ codes "0" ∷ []

-- what stands behind the wiring
abbrev pub record_lines : ℕ → List ℕ → List (List (List ℕ))
record_lines workers turns = record_words workers ∷ (map turn_words turns ++ done_words ∷ [])

-- one LF ends the wiring's text, whether it ends with one or not
abbrev pub record_text : List ℕ → ℕ → List ℕ → List ℕ
record_text wiring_text workers turns = wiring_text ++ 10 ∷ text_of (record_lines workers turns)

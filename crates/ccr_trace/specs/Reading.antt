-- Reading a history line by line: the first line that offends, and its code.
use Rattle.std.specs.Prelude.{ℕ, ◌+◌, ◌^◌, max, List, [], ◌∷◌, ◌++◌, length, codes, Option, Some, None, Result, Ok, Err, if◌then◌else◌}
use Rattle.std.specs.Str.{bytes_eq}
use Rattle.ccr_wiring.specs.declared.parts.Parts.{Parts}
use Rattle.ccr_model.specs.declared.history.Event.{Event}
use Rattle.ccr_text.specs.Spelling.{joined}
use Rattle.ccr_text.specs.Fields.{or_code}
use Rattle.ccr_trace.specs.declared.reading.ReadHistory.{ReadHistory}
use Rattle.ccr_trace.specs.HistoryText.{first_words}
use Rattle.ccr_trace.specs.Pieces.{pieces}
use Rattle.ccr_trace.specs.Said.{Said}
use Rattle.ccr_trace.specs.Forms.{said_on}
use Rattle.ccr_trace.specs.Known.{known}

-- what a line says is code 2 where it names what the wiring doesn't have
abbrev pub event_of : Parts → Option Said → Result Event ℕ
event_of parts None = Err 1
event_of parts (Some said) = or_code (known parts said) 2

-- the event of a line, without its LF
abbrev pub event_on : Parts → List ℕ → Result Event ℕ
event_on parts line = event_of parts (said_on parts.version line)

-- the lines of a text stay below this
abbrev pub line_limit : ℕ
line_limit = 2 ^ 31

-- where the text ends before a line `report 1`: bytes behind the last LF are a line that lacks its LF
abbrev pub ended : ℕ → List ℕ → ℕ × ℕ
ended lines [] = (max lines 1, 3)
ended lines (b ∷ bytes) = (lines + 1, 1)

-- one line more, with its LF
abbrev pub with_event : ReadHistory → List ℕ → Event → ReadHistory
with_event read line event = record { history = read.history ++ event ∷ []; rest = read.rest + (length line + 1); lines = read.lines + 1 }

-- the lines behind the first, up to the line `report 1`. The last piece of a text lacks its LF
unfoldable pub reading_from : Parts → ReadHistory → List (List ℕ) → Result ReadHistory (ℕ × ℕ)
reading_from parts read [] = Err (ended read.lines [])
reading_from parts read (last ∷ []) = Err (ended read.lines last)
reading_from parts read (line ∷ next ∷ lines) =
    if bytes_eq line (codes "report 1") then Ok read
    else elim (event_on parts line) [ Ok event ↦ reading_from parts (with_event read line event) (next ∷ lines) | Err code ↦ Err (read.lines + 1, code) ]

-- the first line, without its LF
abbrev pub first_line : Parts → List ℕ
first_line parts = joined (first_words parts)

-- what stands behind the first line
abbrev pub head : ReadHistory
head = record { history = []; rest = 10; lines = 1 }

-- the lines of a text, of which the first is `history 1`, or `history 2` in version 2
unfoldable pub reading_lines : Parts → List (List ℕ) → Result ReadHistory (ℕ × ℕ)
reading_lines parts [] = Err (ended 0 [])
reading_lines parts (last ∷ []) = Err (ended 0 last)
reading_lines parts (line ∷ next ∷ lines) = if bytes_eq line (first_line parts) then reading_from parts head (next ∷ lines) else Err (1, 1)

-- the history that a text says up to its line `report 1`, where that line begins and how many stand before it;
-- or the first offending line and its code
abbrev pub reading : Parts → List ℕ → Result ReadHistory (ℕ × ℕ)
reading parts text = reading_lines parts (pieces 10 text)

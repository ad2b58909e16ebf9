-- Reading one line more.
use Rattle.std.proofs.Common.{◌≡◌, ℕ, ◌+◌, Bool, true, false, cond, List, [], ◌∷◌, ◌++◌, length, Result, Ok, Err, refl, sym, ap, ◌∙◌, arith}
use Rattle.std.specs.Prelude.{◌==◌, codes}
use Rattle.std.specs.Str.{bytes_eq}
use Rattle.std.proofs.lemmas.Bool.Decides.{nat_tests}
use Rattle.ccr_wiring.specs.declared.parts.Parts.{Parts}
use Rattle.ccr_model.specs.declared.history.Event.{Event}
use Rattle.ccr_text.specs.declared.stop.Stop.{Stop}
use Rattle.ccr_text.specs.declared.stop.Stop.TheVariants as stops
use Rattle.ccr_trace.specs.declared.line_fault.LineFault.{LineFault}
use Rattle.ccr_trace.specs.declared.line_fault.LineFault.TheVariants as faults
use Rattle.ccr_trace.specs.declared.refused.HistoryRefused.{HistoryRefused}
use Rattle.ccr_trace.specs.declared.refused.HistoryRefused.TheVariants as refusals
use Rattle.ccr_trace.specs.declared.reading.ReadHistory.{ReadHistory}
use Rattle.ccr_trace.specs.Answers.{HasCode, IsRefusal, IsReading, refused}
use Rattle.ccr_trace.specs.Reading.{event_on, ended, first_line, head, with_event, reading_from, reading_lines}
use Rattle.ccr_trace.specs.Pieces.{pieces, bytes_in}
use Rattle.std.specs.List.{onto_first}
use Rattle.std.proofs.lemmas.List.Sums.{sum_by-cons}
use Rattle.ccr_text.proofs.Parts.{parts_some}

-- no line is left
pub reading_none : (parts : Parts) (read : ReadHistory) → reading_from parts read [] ≡ Err (ended read.lines [])
unfolding reading_from
reading_none parts read = refl

-- the last piece
pub reading_last : (parts : Parts) (read : ReadHistory) (line : List ℕ) (rest : List (List ℕ)) → (length rest == 0) ≡ true → reading_from parts read (line ∷ rest) ≡ Err (ended read.lines line)
unfolding reading_from
reading_last parts read line [] e = refl
reading_last parts read line (next ∷ rest) e = absurd (grind (arith, nat_tests, e))

-- the line `report 1`
pub reading_done : (parts : Parts) (read : ReadHistory) (line : List ℕ) (rest : List (List ℕ)) → (length rest == 0) ≡ false → bytes_eq line (codes "report 1") ≡ true → reading_from parts read (line ∷ rest) ≡ Ok read
unfolding reading_from
reading_done parts read line [] e done = absurd cc
reading_done parts read line (next ∷ rest) e done = rw done refl

-- a line of an event
pub reading_next : (parts : Parts) (read : ReadHistory) (line : List ℕ) (rest : List (List ℕ)) (event : Event) → (length rest == 0) ≡ false → bytes_eq line (codes "report 1") ≡ false → event_on parts line ≡ Ok event
    → reading_from parts read (line ∷ rest) ≡ reading_from parts (with_event read line event) rest
unfolding reading_from
reading_next parts read line [] event e other is = absurd cc
reading_next parts read line (next ∷ rest) event e other is = rw (other, is) refl

-- a line that is refused
pub reading_stops : (parts : Parts) (read : ReadHistory) (line : List ℕ) (rest : List (List ℕ)) (code : ℕ) → (length rest == 0) ≡ false → bytes_eq line (codes "report 1") ≡ false → event_on parts line ≡ Err code
    → reading_from parts read (line ∷ rest) ≡ Err (read.lines + 1, code)
unfolding reading_from
reading_stops parts read line [] code e other is = absurd cc
reading_stops parts read line (next ∷ rest) code e other is = rw (other, is) refl

-- what is answered there
pub stopped : (parts : Parts) (read : ReadHistory) (line : List ℕ) (rest : List (List ℕ)) (stop : Stop LineFault) (whole : Result ReadHistory (ℕ × ℕ)) → (length rest == 0) ≡ false → bytes_eq line (codes "report 1") ≡ false → HasCode stop (event_on parts line)
    → reading_from parts read (line ∷ rest) ≡ whole → IsReading (Err (refused (read.lines + 1) stop)) whole
stopped parts read line rest stops.Memory whole e other is same = tt
stopped parts read line rest (stops.Refused faults.Malformed) whole e other is same = sym same ∙ reading_stops parts read line rest 1 e other is
stopped parts read line rest (stops.Refused faults.Unknown) whole e other is same = sym same ∙ reading_stops parts read line rest 2 e other is

-- what is answered at the end of the text
pub end_answered : (refusal : HistoryRefused) (at : ℕ × ℕ) (whole : Result ReadHistory (ℕ × ℕ)) → IsRefusal refusal at → whole ≡ Err at → IsReading (Err refusal) whole
end_answered refusals.Memory at whole is e = tt
end_answered (refusals.At line code) at whole is e = e ∙ ap Err is

-- the first line: there is none
pub lines_none : (parts : Parts) → reading_lines parts [] ≡ Err (ended 0 [])
unfolding reading_lines
lines_none parts = refl

-- the one piece
pub lines_last : (parts : Parts) (line : List ℕ) (rest : List (List ℕ)) → (length rest == 0) ≡ true → reading_lines parts (line ∷ rest) ≡ Err (ended 0 line)
unfolding reading_lines
lines_last parts line [] e = refl
lines_last parts line (next ∷ rest) e = absurd (grind (arith, nat_tests, e))

-- the first line
pub lines_next : (parts : Parts) (line : List ℕ) (rest : List (List ℕ)) → (length rest == 0) ≡ false → bytes_eq line (first_line parts) ≡ true → reading_lines parts (line ∷ rest) ≡ reading_from parts head rest
unfolding reading_lines
lines_next parts line [] e is = absurd cc
lines_next parts line (next ∷ rest) e is = rw is refl

-- another line
pub lines_stop : (parts : Parts) (line : List ℕ) (rest : List (List ℕ)) → (length rest == 0) ≡ false → bytes_eq line (first_line parts) ≡ false → reading_lines parts (line ∷ rest) ≡ Err (1, 1)
unfolding reading_lines
lines_stop parts line [] e other = absurd cc
lines_stop parts line (next ∷ rest) e other = rw other refl

-- the first line has nine bytes
pub first_bytes : (parts : Parts) → length (first_line parts) ≡ 9
first_bytes parts = by (parts.version == 2)
  where
    by : (test : Bool) → length (codes "history" ++ 32 ∷ cond test (codes "2") (codes "1")) ≡ 9
    by true = refl
    by false = refl

pub bytes_more : (line : List ℕ) (rest : List (List ℕ)) → bytes_in (line ∷ rest) ≡ (length line + 1) + bytes_in rest
bytes_more line rest = sum_by-cons (λ (piece : List ℕ). length piece + 1) line rest

onto_first_more : (b : ℕ) (parts : List (List ℕ)) → (length parts == 0) ≡ false → bytes_in (onto_first b parts) ≡ bytes_in parts + 1
onto_first_more b [] some = absurd cc
onto_first_more b (part ∷ parts) some = omega (arith, bytes_more (b ∷ part) parts, bytes_more part parts)

-- the bytes of all lines are those of the text, with one LF more
pub bytes-pieces : (separator : ℕ) (bytes : List ℕ) → bytes_in (pieces separator bytes) ≡ length bytes + 1
bytes-pieces separator [] = refl
bytes-pieces separator (b ∷ bytes) = of_test (b == separator) (bytes-pieces separator bytes)
  where
    of_test : (test : Bool) → bytes_in (pieces separator bytes) ≡ length bytes + 1 → bytes_in (cond test ([] ∷ pieces separator bytes) (onto_first b (pieces separator bytes))) ≡ length (b ∷ bytes) + 1
    of_test true rest = omega (arith, bytes_more [] (pieces separator bytes), rest)
    of_test false rest = omega (arith, onto_first_more b (pieces separator bytes) (parts_some separator bytes), rest)

pub ruleset first_steps = (lines_none, lines_last, lines_next, lines_stop)

pub ruleset line_steps = (reading_none, reading_last, reading_done, reading_next)

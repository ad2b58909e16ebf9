-- Reading a record: the wiring, then line by line, and the first line that offends with its code.
use Rattle.std.specs.Prelude.{ℕ, ◌+◌, ◌-◌, ◌==◌, max, nat_le, nat_lt, List, [], ◌∷◌, length, take, drop, filter, codes, Result, Ok, Err, if◌then◌else◌}
use Rattle.std.specs.Str.{bytes_eq}
use Rattle.ccr_base.specs.Bounds.{most_wiring_bytes, most_workers}
use Rattle.ccr_text.specs.declared.lines.Line.{Line}
use Rattle.ccr_text.specs.Lines.{split_text, find_line, numbered, numbered_line, behind_line}
use Rattle.ccr_text.specs.Fields.{Words, ◌>>=◌, word, no_more, unless, or_code}
use Rattle.ccr_text.specs.Words.{is_comment, number_of}
use Rattle.ccr_wiring.specs.Actors.{actor_count}
use Rattle.ccr_wiring.specs.declared.parts.Parts.{Parts}
use Rattle.ccr_wiretext.specs.Reading.{reading_text, at_line as on_line}
use Rattle.ccr_replay.specs.Turns.{reading_turns}
use Rattle.ccr_replay.specs.declared.records.Record.{Record}

-- ---- what stands where

-- the line that opens with `record`: the byte it begins at and the lines before it; where there is none, the end of the text and all its lines
abbrev pub record_index : List ℕ → ℕ × ℕ
record_index bytes = find_line bytes (codes "record")

-- what stands before the line that begins at this byte, less the LF at its end; the whole text where there is no such line
abbrev pub part_before : ℕ → List ℕ → List ℕ
part_before index bytes = if nat_lt index (length bytes) then take (index - 1) bytes else bytes

-- the text of the wiring that was recorded
abbrev pub recorded_wiring : List ℕ → List ℕ
recorded_wiring bytes = part_before (record_index bytes).0 bytes

-- the line of the record and all behind it
abbrev pub recorded_turns : List ℕ → List ℕ
recorded_turns bytes = drop (record_index bytes).0 bytes

-- where the first line begins whose first word is `done`, and how many lines stand before it
abbrev pub done_index : List ℕ → ℕ × ℕ
done_index bytes = find_line bytes (codes "done")

-- ---- the wiring

-- the number of the line at which the byte of this index stands
abbrev pub line_at : ℕ → List ℕ → ℕ
line_at index text = length (filter (λ b. b == 10) (take index text)) + 1

-- the wiring that the part says, or the first offending line and its code: of a longer part than a wiring text may be, that of the first byte too many
abbrev pub reading_part : List ℕ → Result Parts (ℕ × ℕ)
reading_part part = if nat_lt most_wiring_bytes (length part) then Err (line_at most_wiring_bytes part, 10) else reading_text part

-- ---- one line

-- the number of workers, with no word behind it
abbrev pub workers_of : List ℕ → Words → Result ℕ ℕ
workers_of digits words = do
  workers ← or_code (number_of digits) 5
  few ← unless (nat_le workers most_workers) 10
  whole ← no_more words
  Ok workers

-- the words behind `record` are 1 and the number of workers
abbrev pub workers_in : Words → Result ℕ ℕ
workers_in words = do
  version ← word words
  first ← unless (bytes_eq version.0 (codes "1")) 3
  digits ← word version.1
  workers_of digits.0 digits.1

-- the word behind `done` is 0
abbrev pub done_in : Words → Result (Unit {0}) ℕ
done_in words = do
  status ← word words
  zero ← unless (bytes_eq status.0 (codes "0")) 3
  no_more status.1

-- the words behind the first of a line that is clean
abbrev pub behind_first : Line → Result Words ℕ
behind_first line = if line.clean then Ok (drop 1 line.words) else Err 1

-- how many workers the line of the record says that there are
abbrev pub workers_on : Line → Result ℕ ℕ
workers_on line = behind_first line >>= workers_in

-- whether the line is the last line of a record
abbrev pub done_on : Line → Result (Unit {0}) ℕ
done_on line = behind_first line >>= done_in

-- a line without words or with a comment is skipped
abbrev pub skipped_in : Words → Result (Unit {0}) ℕ
skipped_in [] = Ok tt
skipped_in (first ∷ words) = unless (is_comment first) 17

-- the line is clean and skipped
abbrev pub skipped_on : Line → Result (Unit {0}) ℕ
skipped_on line = if line.clean then skipped_in line.words else Err 1

-- ---- line by line

-- one part of the text behind another: the first that offends decides
abbrev pub and_then : {A B : Type 0} → Result A (ℕ × ℕ) → (A → Result B (ℕ × ℕ)) → Result B (ℕ × ℕ)
and_then (Ok x) f = f x
and_then (Err refusal) f = Err refusal

-- each of the lines is skipped, of which the first has this number
abbrev pub skipped_lines : List Line → Result (Unit {0}) (ℕ × ℕ)
skipped_lines [] = Ok tt
skipped_lines (line ∷ lines) = and_then (on_line line.number (skipped_on line)) (λ done. skipped_lines lines)

-- the last line of the record and skipped ones, where the line before has this number. Without a last line code 17 stands there
abbrev pub ending : ℕ → List (List ℕ) → Result (Unit {0}) (ℕ × ℕ)
ending last [] = Err (last, 17)
ending last (line ∷ lines) = and_then (on_line (last + 1) (done_on (numbered_line (last + 1) line))) (λ done. skipped_lines (numbered (last + 2) lines))

-- what stands behind the line of the record, which has this number: turns up to the first line `done`, then that one and skipped ones
abbrev pub turns_behind : ℕ → ℕ → List ℕ → Result (List ℕ) (ℕ × ℕ)
turns_behind actors number bytes =
    and_then (reading_turns (take (done_index bytes).0 bytes) number actors)
    (λ turns. and_then (ending (number + (done_index bytes).1) (split_text (drop (done_index bytes).0 bytes))) (λ done. Ok turns))

-- the record of this wiring and so many workers, which stands behind their line
abbrev pub record_behind : Parts → ℕ → ℕ → List ℕ → Result Record (ℕ × ℕ)
record_behind wiring number workers bytes =
    and_then (turns_behind (actor_count wiring workers) number bytes) (λ turns. Ok (record { wiring = wiring; workers = workers; turns = turns }))

-- the record of this wiring, where so many lines stand before its line and the bytes have these lines. Without a line code 16 stands at the last
abbrev pub reading_lines : Parts → ℕ → List ℕ → List (List ℕ) → Result Record (ℕ × ℕ)
reading_lines wiring before bytes [] = Err (max before 1, 16)
reading_lines wiring before bytes (line ∷ lines) =
    and_then (on_line (before + 1) (workers_on (numbered_line (before + 1) line))) (λ workers. record_behind wiring (before + 1) workers (behind_line bytes))

-- the record of this wiring that stands in these bytes, behind so many lines
abbrev pub reading_behind : Parts → ℕ → List ℕ → Result Record (ℕ × ℕ)
reading_behind wiring before bytes = reading_lines wiring before bytes (split_text bytes)

-- the record that a text says, or its first offending line and the code
abbrev pub reading_record : List ℕ → Result Record (ℕ × ℕ)
reading_record bytes = and_then (reading_part (recorded_wiring bytes)) (λ wiring. reading_behind wiring (record_index bytes).1 (recorded_turns bytes))

-- A history's text, read event by event.
use Rattle.std.specs.Prelude.{◌≡◌, ◌≤◌, ◌<◌, ◌+◌, ℕ, List, [], ◌∷◌, ◌++◌, length, Result, Ok}
use Rattle.ccr_wiring.specs.declared.parts.Parts.{Parts}
use Rattle.ccr_model.specs.declared.history.Event.{Event}
use Rattle.ccr_trace.specs.declared.reading.ReadHistory.{ReadHistory}
use Rattle.ccr_trace.specs.Pieces.{bytes_in}
use Rattle.ccr_trace.specs.Reading.{reading, reading_from}

-- what was read so far, and the lines that are left
pub record Reader : Type 0 where
  pub wiring : Parts
  pub so_far : ReadHistory
  pub left : List (List ℕ)

-- what is read in the end
abbrev pub reading_of : Reader → Result ReadHistory (ℕ × ℕ)
reading_of reader = reading_from reader.wiring reader.so_far reader.left

-- fields and lines fit their types, and behind the first line each line is an event
pub record IsReader (reader : Reader) : Type 0 where
  pub room : reader.so_far.rest + bytes_in reader.left ≤ 33554443
  pub few : reader.so_far.lines ≤ reader.so_far.rest
  pub lines : reader.so_far.lines ≡ length reader.so_far.history + 1

-- the reader is before the events of the text
pub record IsBefore (parts : Parts) (text : List ℕ) (reader : Reader) : Type 0 where
  pub wiring : reader.wiring ≡ parts
  pub none : reader.so_far.history ≡ []
  pub reads : reading_of reader ≡ reading parts text

-- it has read one event more
pub record HasRead (old : Reader) (event : Event) (new : Reader) : Type 0 where
  pub wiring : new.wiring ≡ old.wiring
  pub history : new.so_far.history ≡ old.so_far.history ++ event ∷ []
  pub reads : reading_of new ≡ reading_of old
  pub fewer : length new.left < length old.left

-- it has read all
pub record HasReadAll (old new : Reader) : Type 0 where
  pub wiring : new.wiring ≡ old.wiring
  pub so_far : new.so_far ≡ old.so_far
  pub reads : reading_of old ≡ Ok old.so_far

-- What a law is about: records as they are written.
use Rattle.std.specs.Prelude.{◌≡◌, ◌≤◌, ℕ, List, [], length, Ok}
use Rattle.ccr_base.specs.Bounds.{most_wiring_bytes, most_workers}
use Rattle.ccr_wiring.specs.declared.parts.Parts.{Parts}
use Rattle.ccr_wiretext.specs.Reading.{reading_text}
use Rattle.ccr_runs.specs.declared.entries.Entry.{Entry}
use Rattle.ccr_runs.specs.EntryRuns.{scheduled, IsRunAfter, Lacks}
use Rattle.ccr_replay.specs.declared.records.Record.{Record}
use Rattle.ccr_replay.specs.Schedules.{AreActors, AskAlways, schedule}

-- the record of a run of the wiring
abbrev pub record_of : Parts → ℕ → List ℕ → Record
record_of wiring workers turns = record { wiring = wiring; workers = workers; turns = turns }

-- the law holds where the text says the wiring and isn't too long, and the workers and turns can be a run's
abbrev pub WhereRecorded : List ℕ → Parts → ℕ → List ℕ → Type 0 → Type 0
WhereRecorded text wiring workers turns law = reading_text text ≡ Ok wiring → length text ≤ most_wiring_bytes → workers ≤ most_workers → AreActors wiring workers turns → law

-- it holds of each such text and record
abbrev pub OfRecords : (List ℕ → Record → Type 0) → Type 0
OfRecords law = (text : List ℕ) (wiring : Parts) (workers : ℕ) (turns : List ℕ) → WhereRecorded text wiring workers turns (law text (record_of wiring workers turns))

-- it holds of the entries of each run in which nobody asked anything else out of memory
abbrev pub OfAmpleRuns : (Parts → ℕ → List Entry → Type 0) → Type 0
OfAmpleRuns law = (wiring : Parts) (workers : ℕ) (lacks : Lacks) (entries : List Entry) → IsRunAfter wiring workers lacks [] entries → AskAlways wiring lacks [] entries → law wiring workers entries

-- it holds of all entries whose actors, turn by turn, give them again
abbrev pub OfScheduled : (Parts → ℕ → List Entry → Type 0) → Type 0
OfScheduled law = (wiring : Parts) (workers : ℕ) (entries : List Entry) → AreActors wiring workers (schedule entries) → scheduled wiring (schedule entries) ≡ entries → law wiring workers entries

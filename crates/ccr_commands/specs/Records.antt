-- What is written of records: a run as whose turn it was, the run that those turns give again, and its steps.
use Rattle.std.specs.Prelude.{◌≡◌, ◌<◌, ◌≤◌, ℕ, zero, suc, All, Bool, false, List, [], length, Some, Ok}
use Rattle.ccr_base.specs.Bounds.{most_wiring_bytes, most_workers}
use Rattle.ccr_wiring.specs.Actors.{actor_count}
use Rattle.ccr_wiring.specs.declared.parts.Parts.{Parts}
use Rattle.ccr_wiretext.specs.Reading.{reading_text}
use Rattle.ccr_runs.specs.EntryRuns.{scheduled}
use Rattle.ccr_replay.specs.declared.records.Record.{Record}
use Rattle.ccr_replay.specs.Reading.{reading_record}
use Rattle.ccr_replay.specs.Records.{record_text}
use Rattle.ccr_replay.specs.Schedules.{schedule}
use Rattle.ccr_replay.specs.Steps.{steps_text}
use Rattle.ccr_space.specs.Closes.{IsBroughtToRest}
use Rattle.ccr_opening.specs.Begins.{IsRunToRest}
use Rattle.ccr_commands.specs.Runs.{IsRun}
use Rattle.ccr_commands.specs.declared.status.Status.{Status}
use Rattle.ccr_commands.specs.declared.status.Status.TheVariants.{Done}
use Rattle.ccr_commands.specs.Statuses.{IsDoneAnd}

-- turns that give a run in which each poster and each worker makes its own steps until it has none left, and each turn is a step;
-- that run is what some closed locks tell, whose passes all came to rest. Without workers there are none
abbrev pub AreTurnsToRest : Parts → ℕ → List ℕ → Type 0
AreTurnsToRest wiring zero turns = turns ≡ []
AreTurnsToRest wiring (suc n) turns =
    IsRunToRest wiring (suc n) (scheduled wiring turns)
    × (turns ≡ schedule (scheduled wiring turns))
    × IsBroughtToRest wiring (actor_count wiring (suc n)) (scheduled wiring turns) []

-- the text that is due for a record: the wiring's bytes as they were read, and such turns
abbrev pub RecordGives : Parts → ℕ → List ℕ → Status → List ℕ → Type 0
RecordGives wiring workers bytes status text = IsDoneAnd status ((turns : List ℕ) × AreTurnsToRest wiring workers turns × (text ≡ record_text bytes workers turns))

-- the text that is due for a record that is played again: that of a scheduled run of its turns, which ends as done also where a task was shed
abbrev pub ReplayGives : Record → Status → List ℕ → Type 0
ReplayGives said status text = IsDoneAnd status ((shed : Bool) × IsRun false said.wiring said.workers (Some said.turns) shed text)

-- the text that is due for the steps of a record: those of the run of its turns
abbrev pub StepsGives : Record → Status → List ℕ → Type 0
StepsGives said status text = IsDoneAnd status (text ≡ steps_text said.wiring (scheduled said.wiring said.turns))

-- some turns of the posters and so many workers give a scheduled run that has this text
abbrev pub IsToldAsTurns : Bool → Parts → ℕ → Bool → List ℕ → Type 0
IsToldAsTurns json wiring workers shed text = (turns : List ℕ) × All (λ actor. actor < actor_count wiring workers) turns × IsRun json wiring workers (Some turns) shed text

-- the text is read as a record of the wiring and so many workers, with such turns
abbrev pub IsReadAgain : Parts → ℕ → List ℕ → Type 0
IsReadAgain wiring workers text = (turns : List ℕ) × AreTurnsToRest wiring workers turns × (reading_record text ≡ Ok (record { wiring = wiring; workers = workers; turns = turns }))

-- the record of a run of the wiring that these bytes say is read again, where neither they nor the workers are too many
abbrev pub RecordIsReadAgain : Parts → ℕ → List ℕ → List ℕ → Type 0
RecordIsReadAgain wiring workers bytes text =
    reading_text bytes ≡ Ok wiring →
    length bytes ≤ most_wiring_bytes →
    workers ≤ most_workers →
    RecordGives wiring workers bytes Done text →
    IsReadAgain wiring workers text

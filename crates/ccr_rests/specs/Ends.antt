-- Which entries of a run begin and end the claims, the bookings and the roots of tasks, and that each is ended once.
use Rattle.std.specs.Prelude.{◌≡◌, ◌⊎◌, ℕ, Bool, true, false, ◌==◌, ◌&&◌, List, [], ◌∷◌, filter}
use Rattle.std.specs.List.{list_any}
use Rattle.ccr_base.specs.declared.names.Place.{Place}
use Rattle.ccr_base.specs.declared.names.TaskId.{TaskId}
use Rattle.ccr_base.specs.Names.{has_task}
use Rattle.ccr_model.specs.Firings.{fired}
use Rattle.ccr_places.specs.declared.notes.Note.{Note}
use Rattle.ccr_places.specs.declared.notes.Note.TheVariants as notes
use Rattle.ccr_places.specs.NotedTasks.{noted_cut, noted_admitted}
use Rattle.ccr_runs.specs.declared.entries.Entry.{Entry}
use Rattle.ccr_runs.specs.EntryRuns.{same_place}
use Rattle.ccr_runs.specs.Visible.{visible}

-- ---- the entries that tell it

-- whether the entry is at the place and tells it of the task
abbrev pub tells : (Note → List TaskId) → Place → TaskId → Entry → Bool
tells names place task entry = same_place entry.place place && has_task (names entry.note) task

-- those that do
abbrev pub telling : (Note → List TaskId) → Place → TaskId → List Entry → List Entry
telling names place task entries = filter (tells names place task) entries

-- those that tell it of the task, wherever they are
abbrev pub telling_of : (Note → List TaskId) → TaskId → List Entry → List Entry
telling_of names task entries = filter (λ (entry : Entry). has_task (names entry.note) task) entries

-- whether some entry of the actor tells it of the task, wherever it is
abbrev pub has_told : (Note → List TaskId) → ℕ → TaskId → List Entry → Bool
has_told names actor task entries = list_any (λ (entry : Entry). (entry.actor == actor) && has_task (names entry.note) task) entries

-- the entry ends what the task has at the place: one entry before it began that, of the actor whose attempt the task is, no other
-- entry began it, and no other ended it
pub record EndsOnce (begins ends : Note → List TaskId) (place : Place) (task : TaskId) (past : List Entry) (entry : Entry) (more : List Entry) : Type 0 where
  pub beginning : Entry
  pub begun : telling begins place task past ≡ beginning ∷ []
  pub by_itself : beginning.actor ≡ task.actor
  pub not_begun_later : telling begins place task (entry ∷ more) ≡ []
  pub not_ended_before : telling ends place task past ≡ []
  pub not_ended_later : telling ends place task more ≡ []

-- ---- by whom

-- a claim is consumed or freed by the actor of its attempt: consumed once that has fired, freed where it hasn't
abbrev pub EndsClaim : List Entry → ℕ → Note → Type 0
EndsClaim past actor (notes.Consume task) = (actor ≡ task.actor) × (has_task (fired (visible past)) task ≡ true)
EndsClaim past actor (notes.Free task) = (actor ≡ task.actor) × (has_task (fired (visible past)) task ≡ false)
EndsClaim past actor _ = ⊥

-- a task that has fired is put by the actor of its attempt, or by the actor that admitted it
abbrev pub MayPut : List Entry → ℕ → TaskId → Type 0
MayPut past actor task = (has_task (fired (visible past)) task ≡ true) × ((actor ≡ task.actor) ⊎ (has_told noted_admitted actor task past ≡ true))

-- its booking is given back by the actor of its attempt, where that hasn't fired, or by the actor whose firing cut it
abbrev pub MayUnbook : List Entry → ℕ → TaskId → Type 0
MayUnbook past actor task = ((actor ≡ task.actor) × (has_task (fired (visible past)) task ≡ false)) ⊎ (has_told noted_cut actor task past ≡ true)

-- a booking is ended by one of these
abbrev pub EndsBooking : List Entry → ℕ → Note → Type 0
EndsBooking past actor (notes.Put task dropped) = MayPut past actor task
EndsBooking past actor (notes.Unbook task) = MayUnbook past actor task
EndsBooking past actor _ = ⊥

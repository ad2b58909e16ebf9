-- What was put into a queue and what started from it.
use Rattle.std.specs.Prelude.{◌≡◌, ◌⊎◌, ℕ, Bool, true, false, ◌&&◌, ◌||◌, List, [], ◌∷◌, filter}
use Rattle.ccr_base.specs.declared.names.TaskId.{TaskId}
use Rattle.ccr_base.specs.Names.{same_task, has_task}
use Rattle.ccr_wiring.specs.declared.parts.Parts.{Parts}
use Rattle.ccr_model.specs.declared.history.Event.{Event}
use Rattle.ccr_model.specs.Firings.{dropped, started}
use Rattle.ccr_model.specs.Tasks.{is_for_queue, put_into}

-- the tasks of the queue that started, in the order of their starts
abbrev pub started_from : Parts → List Event → ℕ → List TaskId
started_from wiring history queue = filter (is_for_queue wiring history queue) (started history)

-- whether the first stands in the list, and the second somewhere behind it
abbrev pub stands_before : TaskId → TaskId → List TaskId → Bool
stands_before first second [] = false
stands_before first second (task ∷ tasks) = (same_task first task && has_task tasks second) || stands_before first second tasks

-- the earlier task was put into the queue before the other
abbrev pub IsPutBefore : Parts → List Event → ℕ → TaskId → TaskId → Type 0
IsPutBefore wiring history queue earlier task = stands_before earlier task (put_into wiring history queue) ≡ true

-- the task started
abbrev pub HasStarted : List Event → TaskId → Type 0
HasStarted history task = has_task (started history) task ≡ true

-- the earlier task started before this one from the queue, or was dropped
abbrev pub IsPast : Parts → List Event → ℕ → TaskId → TaskId → Type 0
IsPast wiring history queue earlier task = (stands_before earlier task (started_from wiring history queue) ≡ true) ⊎ (has_task (dropped history) earlier ≡ true)

-- How the object's table, its queue and its count are tied.
use Rattle.std.specs.Prelude.{◌≡◌, ℕ, ◌+◌, ◌≤◌, Bool, true, false, not, List, length, map, count_by}
use Rattle.std.specs.List.{list_any, IsDistinct}
use Rattle.std.specs.Map.{keys_of}
use Rattle.std.specs.Option.{option_map_or}
use Rattle.std.specs.FinSet as set
use Rattle.ccr_base.specs.declared.names.TaskId.{TaskId}
use Rattle.ccr_base.specs.declared.policies.Policy.{Policy}
use Rattle.ccr_base.specs.Names.{same_task}
use Rattle.ccr_places.specs.Queues.{Queued, QueueState}
use Rattle.ccr_places.specs.TaskTables.{tasks_where, kept_of}
use Rattle.ccr_queue.specs.declared.stage.QueueStage.{QueueStage}
use Rattle.ccr_queue.specs.declared.stage.QueueStage.TheVariants.{Fresh, Resuming, Queued as StandsQueued}
use Rattle.ccr_queue.specs.declared.stage.QueuedTask.{QueuedTask}

-- whether it is booked to start
abbrev pub is_fresh : QueueStage → Bool
is_fresh Fresh = true
is_fresh Resuming = false
is_fresh StandsQueued = false

-- whether it is booked to resume
abbrev pub is_resuming : QueueStage → Bool
is_resuming Fresh = false
is_resuming Resuming = true
is_resuming StandsQueued = false

-- whether it is queued
abbrev pub is_queued : QueueStage → Bool
is_queued Fresh = false
is_queued Resuming = false
is_queued StandsQueued = true

-- a queued task by its name
abbrev pub queued_of : QueuedTask → Queued
queued_of queued = record { task = queued.task.id; resumes = queued.resumes }

-- the state of a queue of this number and policy, by its table and what is queued
abbrev pub state_of : ℕ → Policy → List (TaskId × QueueStage) → List QueuedTask → QueueState
state_of number policy table queued = record { number = number; policy = policy; fresh = tasks_where is_fresh table; resuming = tasks_where is_resuming table; queued = map queued_of queued }

-- the table has the booked and the queued tasks, the count those of them that don't resume, and the queue has room for all
pub record Tied (table : List (TaskId × QueueStage)) (queued : List Queued) (fresh room : ℕ) : Type 0 where
  pub distinct : IsDistinct same_task (keys_of table)
  pub queued_distinct : IsDistinct same_task (map (λ (q : Queued). q.task) queued)
  pub same_queued : (task : TaskId) → option_map_or is_queued (kept_of table task) false ≡ list_any (λ (q : Queued). same_task task q.task) queued
  pub count : fresh ≡ set.len (tasks_where is_fresh table) + count_by (λ (q : Queued). not q.resumes) queued
  pub size : length table ≡ set.len (tasks_where is_fresh table) + set.len (tasks_where is_resuming table) + length queued
  pub fits : length table ≤ room

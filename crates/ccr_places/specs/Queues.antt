-- What a queue keeps, and its steps. The tasks stand here by their names; the queue's object keeps them whole.
use Rattle.std.specs.Prelude.{◌≡◌, ⊤, ℕ, Bool, true, false, not, ◌+◌, ◌||◌, nat_le, List, [], ◌∷◌, ◌++◌, length, drop, fold, count_by, slice_get, Option, Some, None, if◌then◌else◌, refl}
use Rattle.std.specs.Coded.{Coded, code_by, coded×, coded_ℕ, coded_bool, coded_list}
use Rattle.std.specs.List.{list_any}
use Rattle.std.specs.Option.{option_map}
use Rattle.std.specs.FinSet as set
use Rattle.ccr_base.specs.declared.names.TaskId.{TaskId}
use Rattle.ccr_base.specs.declared.tasks.Task.{Task}
use Rattle.ccr_base.specs.contracts.names.TaskId as name
use Rattle.ccr_base.specs.contracts.tasks.Task as whole
use Rattle.ccr_base.specs.contracts.policies.Policy as rule
use Rattle.ccr_base.specs.declared.policies.Policy.{Policy}
use Rattle.ccr_base.specs.declared.policies.Policy.TheVariants.{Unbounded, Discard, Throttle}
use Rattle.ccr_base.specs.Names.{same_task}
use Rattle.ccr_places.specs.TaskSets.{TaskSet, task_set_code}
use Rattle.ccr_places.specs.declared.notes.Note.{Note}
use Rattle.ccr_places.specs.declared.notes.Note.TheVariants.{Book, Unbook, Put, Take}

-- a queued task, and whether it resumes a suspended one
pub record Queued : Type 0 where
  pub task : TaskId
  pub resumes : Bool

-- the name of the queued task
abbrev pub queued_task : Queued → TaskId
queued_task queued = queued.task

-- the number and the policy; the booked tasks, those that resume a suspended one apart; the queued tasks, oldest first
pub record QueueState : Type 0 where
  pub number : ℕ
  pub policy : Policy
  pub fresh : TaskSet
  pub resuming : TaskSet
  pub queued : List Queued

-- an empty queue
abbrev pub start : ℕ → Policy → QueueState
start number policy = record { number = number; policy = policy; fresh = set.empty; resuming = set.empty; queued = [] }

-- whether the task has a booking, fresh or to resume
abbrev pub is_booked : QueueState → TaskId → Bool
is_booked queue task = set.contains queue.fresh task || set.contains queue.resuming task

-- whether the task is queued
abbrev pub is_queued : QueueState → TaskId → Bool
is_queued queue task = list_any (λ (queued : Queued). same_task task queued.task) queue.queued

-- how many tasks that don't resume are booked or queued
abbrev pub fresh_count : QueueState → ℕ
fresh_count queue = set.len queue.fresh + count_by (λ (queued : Queued). not queued.resumes) queue.queued

-- a task that is neither booked nor queued
abbrev pub may_book : QueueState → TaskId → Bool
may_book queue task = not (is_booked queue task || is_queued queue task)

-- a booked task
abbrev pub may_unbook : QueueState → TaskId → Bool
may_unbook queue task = is_booked queue task

-- a booked task
abbrev pub may_put : QueueState → TaskId → Bool
may_put queue task = is_booked queue task

-- the number of a throttle, where so many tasks leave it no room
abbrev pub fullness : Policy → ℕ → Option ℕ
fullness Unbounded count = None
fullness (Discard n) count = None
fullness (Throttle n) count = if nat_le n count then Some n else None

-- full, where the task doesn't resume and those that don't resume leave no room
abbrev pub book_note : QueueState → Bool → Option ℕ
book_note queue resumes = if resumes then None else fullness queue.policy (fresh_count queue)

-- how many tasks a put drops where so many are queued
abbrev pub overflow : Policy → ℕ → ℕ
overflow Unbounded count = 0
overflow (Discard n) count = if nat_le n count then 1 else 0
overflow (Throttle n) count = 0

-- how many of the oldest tasks the next put drops: one, where a discard queue holds its number
abbrev pub drop_count : QueueState → ℕ
drop_count queue = overflow queue.policy (length queue.queued)

-- the oldest queued task
abbrev pub take_note : QueueState → Option TaskId
take_note queue = option_map (λ (queued : Queued). queued.task) (slice_get queue.queued 0)

-- the task that the next put drops
abbrev pub put_note : QueueState → Option TaskId
put_note queue = if nat_le 1 (drop_count queue) then take_note queue else None

-- the task is booked, unless the queue was full
abbrev pub after_book : QueueState → TaskId → Bool → Option ℕ → QueueState
after_book queue task false None = record queue { fresh = set.insert queue.fresh task }
after_book queue task true None = record queue { resuming = set.insert queue.resuming task }
after_book queue task resumes (Some n) = queue

-- the task isn't booked any more
abbrev pub after_unbook : QueueState → TaskId → QueueState
after_unbook queue task = record queue { fresh = set.remove queue.fresh task; resuming = set.remove queue.resuming task }

-- the booking has ended, and the task is queued last
abbrev pub with_newest : QueueState → TaskId → QueueState
with_newest queue task = record queue {
  fresh = set.remove queue.fresh task;
  resuming = set.remove queue.resuming task;
  queued = queue.queued ++ (record { task = task; resumes = set.contains queue.resuming task }) ∷ [];
}

-- what the next put drops is gone
abbrev pub without_dropped : QueueState → QueueState
without_dropped queue = record queue { queued = drop (drop_count queue) queue.queued }

-- the booking has ended, what the put drops is gone, and the task is queued last
abbrev pub after_put : QueueState → TaskId → QueueState
after_put queue task = with_newest (without_dropped queue) task

-- the oldest task is gone
abbrev pub after_take : QueueState → QueueState
after_take queue = record queue { queued = drop 1 queue.queued }

-- what the queue keeps after a note of its own
abbrev pub after : QueueState → Note → QueueState
after queue (Book task resumes full) = after_book queue task resumes full
after queue (Unbook task) = after_unbook queue task
after queue (Put task dropped) = after_put queue task
after queue (Take task) = after_take queue
after queue _ = queue

-- what the queue keeps after all these notes
abbrev pub kept : QueueState → List Note → QueueState
kept queue notes = fold after queue notes

-- the notes that the queue may give
abbrev pub IsGiven : QueueState → Note → Type 0
IsGiven queue (Book task resumes full) = full ≡ book_note queue resumes
IsGiven queue (Unbook task) = ⊤
IsGiven queue (Put task dropped) = dropped ≡ put_note queue
IsGiven queue (Take task) = task ≡ take_note queue
IsGiven queue _ = ⊥

-- what the object of a queue keeps: the queue by its notes, and its queued tasks whole, oldest first
pub record QueueTasks : Type 0 where
  pub state : QueueState
  pub tasks : List Task

-- a queued task is told by its fields, and so is a queue
abbrev pub queued_code : Coded Queued
queued_code =
    code_by (TaskId × Bool) (coded× name.the_row.coded coded_bool) (λ q. (q.task, q.resumes)) (λ p. record { task = p.0; resumes = p.1 }) (λ _. refl)

-- its parts as a tuple, by which states are compared
abbrev pub queue_code : Coded QueueState
queue_code =
    code_by (ℕ × (Policy × (TaskSet × (TaskSet × List Queued))))
    (coded× coded_ℕ (coded× rule.the_row.coded (coded× task_set_code (coded× task_set_code (coded_list queued_code)))))
    (λ q. (q.number, (q.policy, (q.fresh, (q.resuming, q.queued)))))
    (λ p. record { number = p.0; policy = p.1.0; fresh = p.1.1.0; resuming = p.1.1.1.0; queued = p.1.1.1.1 })
    (λ _. refl)

-- its state and tasks as a pair, by which they are compared
abbrev pub queue_tasks_code : Coded QueueTasks
queue_tasks_code =
    code_by (QueueState × List Task) (coded× queue_code (coded_list whole.the_row.coded)) (λ q. (q.state, q.tasks)) (λ p. record { state = p.0; tasks = p.1 }) (λ _. refl)

-- What the object of an Interleave answers, and what it keeps then.
use Rattle.std.specs.Prelude.{ℕ, List, [], ◌∷◌, ◌++◌, drop, length, map, slice_get, is_some, Option, Some, None, if◌then◌else◌}
use Rattle.ccr_base.specs.declared.names.Spot.{Spot}
use Rattle.ccr_base.specs.declared.tasks.Task.{Task}
use Rattle.ccr_base.specs.declared.tasks.Cut.{Cut}
use Rattle.ccr_base.specs.declared.tasks.By.{By}
use Rattle.ccr_base.specs.declared.tasks.Commit.{Commit}
use Rattle.ccr_base.specs.declared.tasks.Commit.TheVariants.{Fired, Dead}
use Rattle.ccr_places.specs.Interleaves.{InterleaveTasks, Waiting, group_at, is_teardown, dead_by, admit_note, after_firing, after_admission}

-- a task by its name and its spot
abbrev pub waiting_of : Task → Waiting
waiting_of task = record { task = task.id; spot = task.spot }

-- a cut task, and the queue that it was booked at
abbrev pub cut_of : Task → Cut
cut_of task = record { task = task.id; queue = task.queue }

-- the cuts of a firing at the spot: all waiting tasks in order, where it is a teardown
abbrev pub cuts_at : InterleaveTasks → Spot → List Cut
cuts_at kept spot = if is_teardown (group_at kept.state spot) then map cut_of kept.tasks else []

-- the waiting tasks that a firing at the spot leaves
abbrev pub spared_tasks : InterleaveTasks → Spot → List Task
spared_tasks kept spot = if is_teardown (group_at kept.state spot) then [] else kept.tasks

-- the answer to the task's firing: it is kept, unless a teardown fired before
abbrev pub commit_reply : InterleaveTasks → Task → Commit
commit_reply kept task = reply (dead_by kept.state)
  where
    reply : Option By → Commit
    reply None = Fired None (cuts_at kept task.spot)
    reply (Some by) = Dead by

-- how many waiting tasks the commit of the task cuts: those that its firing cuts, and none where a teardown fired before
abbrev pub cut_count : InterleaveTasks → Task → ℕ
cut_count kept task = count (dead_by kept.state)
  where
    count : Option By → ℕ
    count None = length (cuts_at kept task.spot)
    count (Some by) = 0

-- the task waits last, beside those that it doesn't cut
abbrev pub after_wait : InterleaveTasks → Task → InterleaveTasks
after_wait kept task = record { state = after_firing kept.state task.id task.spot; tasks = spared_tasks kept task.spot ++ task ∷ [] }

-- the task has fired, unless a teardown fired before
abbrev pub after_commit : InterleaveTasks → Task → InterleaveTasks
after_commit kept task = fired (dead_by kept.state)
  where
    fired : Option By → InterleaveTasks
    fired None = after_wait kept task
    fired (Some by) = kept

-- the task that is admitted next
abbrev pub next_task : InterleaveTasks → Option Task
next_task kept = if is_some (admit_note kept.state) then slice_get kept.tasks 0 else None

-- the oldest waiting task is an admitted root
abbrev pub after_oldest : InterleaveTasks → InterleaveTasks
after_oldest kept = record { state = after_admission kept.state; tasks = drop 1 kept.tasks }

-- what is kept after an admission was asked for
abbrev pub after_next : InterleaveTasks → InterleaveTasks
after_next kept = if is_some (admit_note kept.state) then after_oldest kept else kept

use Rattle.std.proofs.Common.{◌≡◌, ◌||◌, drop}
use Rattle.indexmap.specs.IndexSet.{contains}
use Rattle.ccr_base.specs.declared.names.TaskId.{TaskId}
use Rattle.ccr_base.specs.Names.{same_task, has_task}
use Rattle.ccr_service.proofs.tables.add_tasks.Given as goal

-- what is in the set, or among the tasks still to come
abbrev pub invariant-loop-task : goal.invariant-loop-task
invariant-loop-task l = (task : TaskId) → (contains same_task l.set task || has_task (drop l.task-index l.tasks) task) ≡ (contains same_task l.fn.set task || has_task l.tasks task)

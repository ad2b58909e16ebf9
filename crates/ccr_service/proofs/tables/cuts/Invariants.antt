use Rattle.std.proofs.Common.{◌≡◌, ◌||◌, drop}
use Rattle.indexmap.specs.IndexSet.{contains}
use Rattle.ccr_base.specs.declared.names.TaskId.{TaskId}
use Rattle.ccr_base.specs.Names.{same_task, has_task}
use Rattle.ccr_model.specs.Firings.{cut}
use Rattle.ccr_service.proofs.tables.cuts.Given as goal

-- who was cut so far, or is cut in the events still to come
abbrev pub invariant-loop-event : goal.invariant-loop-event
invariant-loop-event l = (task : TaskId) → (contains same_task l.set task || has_task (cut (drop l.event-index l.events)) task) ≡ has_task (cut l.events) task

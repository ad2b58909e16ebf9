use Rattle.std.proofs.Common.{◌≡◌, ◌||◌, drop}
use Rattle.indexmap.specs.IndexSet.{contains}
use Rattle.ccr_base.specs.declared.names.TaskId.{TaskId}
use Rattle.ccr_base.specs.Names.{same_task, has_task}
use Rattle.ccr_model.specs.Firings.{dropped}
use Rattle.ccr_service.proofs.tables.drops.Given as goal

-- who was dropped so far, or is in the events still to come
abbrev pub invariant-loop-event : goal.invariant-loop-event
invariant-loop-event l = (task : TaskId) → (contains same_task l.set task || has_task (dropped (drop l.event-index l.events)) task) ≡ has_task (dropped l.events) task

use Rattle.std.proofs.Common.{◌≡◌, take}
use Rattle.std.specs.HashMap.{get}
use Rattle.ccr_base.specs.declared.names.TaskId.{TaskId}
use Rattle.ccr_base.specs.Names.{same_task}
use Rattle.ccr_model.specs.Firings.{spot_of}
use Rattle.ccr_report.proofs.tasks.spots_of_tasks.Given as goal

abbrev pub invariant-loop-event : goal.invariant-loop-event
invariant-loop-event l = (task : TaskId) → get same_task l.spots task ≡ spot_of (take l.event-index l.events) task

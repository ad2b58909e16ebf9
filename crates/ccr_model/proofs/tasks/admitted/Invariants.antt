use Rattle.std.proofs.Common.{◌≡◌, take}
use Rattle.std.specs.Prelude.{filter, not, ◌&&◌}
use Rattle.ccr_base.specs.declared.names.TaskId.{TaskId}
use Rattle.ccr_model.specs.Tasks.{is_of_domain, is_over}
use Rattle.ccr_model.proofs.tasks.admitted.Given as goal

abbrev pub invariant-loop-task : goal.invariant-loop-task
invariant-loop-task l = l.tasks.items ≡ filter (λ (task : TaskId). is_of_domain l.wiring l.events l.domain task && not (is_over l.events task)) (take l.task-index l.task-items)

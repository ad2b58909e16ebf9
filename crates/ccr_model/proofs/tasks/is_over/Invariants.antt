use Rattle.std.proofs.Common.{◌≡◌, drop}
use Rattle.std.specs.List.{list_any}
use Rattle.ccr_base.specs.declared.names.TaskId.{TaskId}
use Rattle.ccr_base.specs.Names.{same_task}
use Rattle.ccr_model.specs.Sites.{root_of}
use Rattle.ccr_model.specs.Tasks.{is_over}
use Rattle.ccr_model.proofs.tasks.is_over.Given as goal

abbrev pub invariant-loop-task : goal.invariant-loop-task
invariant-loop-task l = list_any (λ (task : TaskId). same_task (root_of l.events task) l.root) (drop l.task-index l.task-items) ≡ is_over l.events l.root

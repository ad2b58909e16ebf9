use Rattle.std.proofs.Common.{◌≡◌, ◌≤◌, take, length}
use Rattle.std.specs.Prelude.{filter}
use Rattle.ccr_model.specs.Tasks.{has_post_left}
use Rattle.ccr_model.proofs.tasks.count_unfinished.Given as goal

abbrev pub invariant-loop-task : goal.invariant-loop-task
invariant-loop-task l = record { count : l.count ≡ length (filter (has_post_left l.wiring l.events) (take l.task-index l.task-items)); bound : l.count ≤ l.task-index }

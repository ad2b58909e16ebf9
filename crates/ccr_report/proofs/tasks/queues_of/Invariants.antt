use Rattle.std.proofs.Common.{◌≡◌, take, flat_map, option_to_list, option_and_then}
use Rattle.std.specs.List.{slice_get}
use Rattle.std.specs.HashMap.{get}
use Rattle.ccr_base.specs.Names.{same_task}
use Rattle.ccr_wiring.specs.Wirings.{branch_of}
use Rattle.ccr_report.proofs.tasks.queues_of.Given as goal

abbrev pub invariant-loop-task : goal.invariant-loop-task
invariant-loop-task l = l.numbers.items ≡ flat_map (λ task. option_to_list (option_and_then (λ spot. slice_get l.queues (branch_of spot)) (get same_task l.spots task))) (take l.task-index l.tasks)

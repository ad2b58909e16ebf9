use Rattle.std.proofs.Common.{◌≡◌, ◌++◌, map, take}
use Rattle.std.specs.List.{All}
use Rattle.ccr_trace.specs.Words.{task_word}
use Rattle.ccr_trace.specs.HistoryText.{behind}
use Rattle.ccr_trace.specs.Said.{IsTask}
use Rattle.ccr_trace.proofs.events.put_tasks.Given as goal

abbrev pub invariant-loop-task : goal.invariant-loop-task
invariant-loop-task l = record {
  text : l.out ≡ l.fn.out ++ behind (map task_word (take l.task-index l.tasks));
  numbers : All IsTask (take l.task-index l.tasks);
}

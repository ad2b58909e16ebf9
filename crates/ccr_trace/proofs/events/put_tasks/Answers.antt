use Rattle.std.proofs.Common.{arith}
use Rattle.std.proofs.lemmas.Grind.{common_steps}
use Rattle.std.proofs.lemmas.List.Elements.{All-more}
use Rattle.ccr_trace.specs.Said.{IsTask}
use Rattle.ccr_trace.proofs.events.put_tasks.Goals as goal

pub loop-task-preserved : goal.loop-task-preserved
loop-task-preserved c = record {
  text = grind (arith, common_steps, c.loop-task.invariant.text);
  numbers = All-more IsTask c.args.tasks.now c.loop-task.task-index _ c.loop-task-test.true c.loop-task.invariant.numbers c.put_task.ensures.numbers;
}

use Rattle.std.proofs.Common.{arith}
use Rattle.std.proofs.lemmas.Grind.{common_steps}
use Rattle.std.proofs.lemmas.List.Elements.{All-more}
use Rattle.ccr_trace.specs.Said.{IsMessage}
use Rattle.ccr_trace.proofs.events.put_messages.Goals as goal

pub loop-message-preserved : goal.loop-message-preserved
loop-message-preserved c = record {
  text = grind (arith, common_steps, c.loop-message.invariant.text);
  numbers = All-more IsMessage c.args.messages.now c.loop-message.message-index _ c.loop-message-test.true c.loop-message.invariant.numbers c.put_message.ensures.numbers;
}

use Rattle.std.proofs.Common.{arith}
use Rattle.ccr_claim.proofs.Gathering.{one_more}
use Rattle.ccr_claim.proofs.firing.Gathered.gather.Goals as goal

pub loop-message-preserved : goal.loop-message-preserved
loop-message-preserved c = λ before is.
    one_more before c.args.messages.now c.loop-message.message-index c.message-item.result c.loop-message.self _ (omega arith) c.message-item.is (c.loop-message.invariant before is) c.in_ok-push.ensures.items c.in_ok-push-2.ensures.items c.in_ok-self.ensures

use Rattle.std.proofs.Common.{arith}
use Rattle.std.proofs.lemmas.Grind.{common_steps}
use Rattle.ccr_cause.proofs.Joined.{union-append}
use Rattle.ccr_ledger.proofs.loads.with_messages.Goals as goal

pub loop-message-preserved : goal.loop-message-preserved
loop-message-preserved c = grind (arith, common_steps, union-append)

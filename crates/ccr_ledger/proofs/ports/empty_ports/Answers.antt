use Rattle.ccr_ledger.proofs.Views.{empty-more}
use Rattle.ccr_ledger.proofs.ports.empty_ports.Goals as goal

pub loop-preserved : goal.loop-preserved
loop-preserved c = rw (c.in_ok-push.ensures.items, c.loop.invariant, c.new.ensures) (empty-more c.loop.counter)

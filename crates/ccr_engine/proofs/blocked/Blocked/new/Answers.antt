use Rattle.std.proofs.Common.{ℕ}
use Rattle.ccr_ledger.proofs.Views.{empty-more}
use Rattle.ccr_engine.proofs.blocked.Blocked.new.Goals as goal

pub loop-preserved : goal.loop-preserved
loop-preserved c = rw (c.in_ok-push.ensures.items, c.loop.invariant, c.new.ensures) (empty-more {T = ℕ} c.loop.counter)

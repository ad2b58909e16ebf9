use Rattle.std.proofs.lemmas.List.{map-append}
use Rattle.ccr_ledger.proofs.Views.{empty-more}
use Rattle.ccr_ledger.proofs.rows.Rows.new.Goals as goal

pub loop-preserved : goal.loop-preserved
loop-preserved g c = rw (c.in_ok-push.ensures.items, map-append, c.loop.invariant, c.new.ensures.items) (empty-more c.loop.counter)

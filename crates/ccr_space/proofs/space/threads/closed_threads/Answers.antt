use Rattle.ccr_space.proofs.RestedActorsAreThrough.{brought, brought_is_done}
use Rattle.ccr_space.proofs.space.threads.closed_threads.Goals as goal

pub returns-clause-threads : goal.returns-clause-threads
returns-clause-threads g c =
    let closed = c.in_ok-closed.ensures in
    brought c.args.wiring.now _ c.in_ok-space.space c.in_ok-space.passes c.in_ok-closed.closed.full.entries c.in_ok-closed.closed.short c.in_ok-space.ensures.rested closed.run closed.short

pub returns-clause-done : goal.returns-clause-done
returns-clause-done g c =
    let closed = c.in_ok-closed.ensures in
    brought_is_done c.args.wiring.now _ c.in_ok-closed.closed.full.entries c.in_ok-closed.closed.short
    (brought c.args.wiring.now _ c.in_ok-space.space c.in_ok-space.passes c.in_ok-closed.closed.full.entries c.in_ok-closed.closed.short c.in_ok-space.ensures.rested closed.run closed.short)

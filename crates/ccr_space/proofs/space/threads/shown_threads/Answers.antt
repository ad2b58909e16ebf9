use Rattle.ccr_space.proofs.RestedActorsAreThrough.{brought, brought_is_done}
use Rattle.ccr_space.proofs.space.threads.shown_threads.Goals as goal

pub returns : goal.returns
returns g c =
    let rested = c.in_ok-space.ensures.rested in
    let its = c.in_ok-seen.ensures.run in
    let rests = brought c.args.wiring.now _ c.in_ok-space.space c.in_ok-space.passes its.entries c.in_ok-seen.seen.short rested its.closed c.in_ok-seen.ensures.short in
    record {
      entries = its.entries;
      brought = rests;
      done = brought_is_done c.args.wiring.now _ its.entries c.in_ok-seen.seen.short rests;
      shown = its.shown;
    }

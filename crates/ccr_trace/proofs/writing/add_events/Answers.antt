use Rattle.std.proofs.Common.{[], ◌∷◌, ◌++◌, take, subst}
use Rattle.ccr_trace.specs.Written.{IsWritten}
use Rattle.ccr_trace.proofs.Written.{IsWritten-more}
use Rattle.ccr_trace.proofs.writing.add_events.Goals as goal

pub loop-event-preserved : goal.loop-event-preserved
loop-event-preserved c =
    let before = take c.loop-event.event-index c.args.events.now in
    let next = c.in_ok-add_event.ensures.written before c.loop-event.invariant in
    IsWritten-more c.args.names.now c.args.events.now c.loop-event.event-index c.event-item.result c.add_event.new.text c.loop-event-test.true (subst (λ e. IsWritten c.args.names.now (before ++ e ∷ []) c.add_event.new.text) c.event-item.is next)

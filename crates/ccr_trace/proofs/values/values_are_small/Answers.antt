use Rattle.std.proofs.Common.{subst}
use Rattle.std.proofs.lemmas.List.Elements.{All-more}
use Rattle.ccr_trace.specs.Values.{HasSmallValue}
use Rattle.ccr_trace.proofs.values.values_are_small.Goals as goal

pub loop-event-preserved : goal.loop-event-preserved
loop-event-preserved c = All-more HasSmallValue c.args.events.now c.loop-event.event-index c.event-item.result c.loop-event-test.true c.loop-event.invariant (subst HasSmallValue c.event-item.is c.event_is_small.ensures)

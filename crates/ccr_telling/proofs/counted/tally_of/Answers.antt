use Rattle.std.proofs.Common.{arith}
use Rattle.ccr_telling.proofs.NumbersAlongEvents.{along_next, along_none, along_fits}
use Rattle.ccr_telling.proofs.counted.tally_of.Goals as goal

pub loop-event-init : goal.loop-event-init
loop-event-init c = along_none c.args.ports c.args.indices c.args.queues c.args.ledger.now c.args.events.now c.in_ok-tally.tally c.in_ok-tally.ensures

pub loop-event-preserved : goal.loop-event-preserved
loop-event-preserved c =
    let fits = along_fits c.args.ports c.args.indices c.args.queues c.args.ledger.now c.args.events.now c.loop-event.event-index c.event-item.result c.loop-event.tally c.loop-event-test.true c.event-item.is (omega arith) (omega arith) c.requires.taken c.requires.cut c.loop-event.invariant in
    along_next c.args.ports c.args.indices c.args.queues c.args.ledger.now c.args.events.now c.loop-event.event-index c.event-item.result c.loop-event.tally c.enter.new.self c.loop-event-test.true c.event-item.is (c.enter.ensures fits) c.loop-event.invariant

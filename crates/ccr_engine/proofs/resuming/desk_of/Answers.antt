use Rattle.std.proofs.Common.{length, refl}
use Rattle.std.proofs.lemmas.Option.{slice_get_read}
use Rattle.ccr_engine.proofs.DesksAlongHistories.{attempt_fits_on, stands_none, stands_on}
use Rattle.ccr_engine.proofs.resuming.desk_of.Goals as goal

pub loop-event-init : goal.loop-event-init
loop-event-init c = rw (c.in_ok-desk.ensures, c.wiring.ensures) (stands_none c.args.indices.now c.parts-valid.ensures.valid c.args.closer)

pub push-requires : goal.push-requires
push-requires c =
    let at = slice_get_read c.args.events.now (length c.args.events.now) c.loop-event.event-index c.event-item.result refl c.loop-event-test.true c.event-item.is in
    attempt_fits_on c.args.indices.now c.args.closer c.args.events.now c.loop-event.event-index c.event-item.result c.loop-event.desk at c.loop-event.invariant c.requires.attempts

pub loop-event-preserved : goal.loop-event-preserved
loop-event-preserved c =
    let at = slice_get_read c.args.events.now (length c.args.events.now) c.loop-event.event-index c.event-item.result refl c.loop-event-test.true c.event-item.is in
    stands_on c.args.indices.now c.parts-valid.ensures.valid c.args.closer c.args.events.now c.loop-event.event-index c.event-item.result c.loop-event.desk c.push.new.self c.requires.legal at c.loop-event.invariant c.in_ok-push.ensures

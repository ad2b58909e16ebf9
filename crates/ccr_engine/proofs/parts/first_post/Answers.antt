use Rattle.std.proofs.Common.{refl, arith}
use Rattle.ccr_engine.proofs.PartSteps.{post_stops, post_passes, post_ends}
use Rattle.ccr_engine.proofs.parts.first_post.Goals as goal

pub returns-in-Some-clause-event : goal.returns-in-Some-clause-event
returns-in-Some-clause-event c = post_stops c.args.ledger.now c.as_slice-posters.result.now c.args.wiring.now.posters c.loop-number.number _ c.index-posters-number.result c.in_ok-event.field-0 c.in-Some.event (grind arith) (grind arith) c.loop-number.invariant.1 c.index-posters-number.is c.in_ok-event.ensures c.in-Some.is

pub loop-number-preserved : goal.loop-number-preserved
loop-number-preserved c = (refl, post_passes c.args.ledger.now c.as_slice-posters.result.now c.args.wiring.now.posters c.loop-number.number _ c.index-posters-number.result c.in_ok-event.field-0 (grind arith) (grind arith) c.loop-number.invariant.1 c.index-posters-number.is c.in_ok-event.ensures c.in_default.is)

pub returns-clause-event : goal.returns-clause-event
returns-clause-event c = post_ends c.args.ledger.now c.args.wiring.now.posters c.loop-number.number c.loop-number.invariant.1 (grind arith)

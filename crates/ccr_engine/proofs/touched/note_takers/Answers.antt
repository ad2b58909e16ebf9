use Rattle.std.proofs.Common.{arith}
use Rattle.ccr_engine.proofs.TakingSpots.{taker_next, takers_in}
use Rattle.ccr_engine.proofs.touched.note_takers.Goals as goal

pub loop-spot-preserved : goal.loop-spot-preserved
loop-spot-preserved c = taker_next c.args.indices.now c.spots_at-takers.result.now c.loop-spot.spot-index _ c.of_spot.result c.args.touched.now c.loop-spot.touched c.note_index.new.touched c.loop-spot-test.true c.of_spot.ensures c.loop-spot.invariant c.in_ok-note_index.ensures

pub returns : goal.returns
returns c = takers_in c.args.indices.now c.args.port c.spots_at-takers.result.now c.loop-spot.spot-index c.args.touched.now c.loop-spot.touched (grind arith) (grind arith) c.loop-spot.invariant

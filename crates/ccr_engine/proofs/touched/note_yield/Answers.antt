use Rattle.std.proofs.Common.{arith}
use Rattle.std.proofs.lemmas.Result.{on_ok_weaker}
use Rattle.ccr_engine.proofs.TouchedSpots.{yield_known, yield_unknown}
use Rattle.ccr_engine.proofs.touched.note_yield.Goals as goal

pub returns-in-Some : goal.returns-in-Some
returns-in-Some c = on_ok_weaker c.note_index.result (yield_known c.args.indices.now c.args.ledger.now c.args.task c.in-Some.card.now c.next_site.result c.args.touched.now c.note_index.new.touched (grind arith) c.next_site.ensures) c.note_index.ensures

pub returns-in-None : goal.returns-in-None
returns-in-None c = yield_unknown c.args.indices.now c.args.ledger.now c.args.task c.args.touched.now (grind arith)

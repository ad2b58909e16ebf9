use Rattle.std.proofs.lemmas.Result.{on_ok_weaker}
use Rattle.ccr_engine.proofs.TouchedSpots.{post_touched, end_touched, other_touched, yield_touched}
use Rattle.ccr_engine.proofs.touched.note_touched.Goals as goal

pub returns-in-Post : goal.returns-in-Post
returns-in-Post c = rw c.in-Post.is (on_ok_weaker c.note_takers.result (post_touched c.args.indices.now c.args.ledger.now c.in-Post.message c.args.touched.now c.note_takers.new.touched) c.note_takers.ensures)

pub returns-in-Yield : goal.returns-in-Yield
returns-in-Yield c = rw (c.in-End.is, c.in-Yield.is) (on_ok_weaker c.note_yield.result (yield_touched c.args.indices.now c.args.ledger.now c.in-End.task c.args.touched.now c.note_yield.new.touched) c.note_yield.ensures)

pub returns-in_default-how : goal.returns-in_default-how
returns-in_default-how c = rw c.in-End.is (end_touched c.args.indices.now c.args.ledger.now c.in-End.task c.in-End.how c.args.touched.now c.in_default-how.not-Yield)

pub returns-in_default : goal.returns-in_default
returns-in_default c = other_touched c.args.indices.now c.args.ledger.now c.args.event.now c.args.touched.now c.in_default.not-Post c.in_default.not-End

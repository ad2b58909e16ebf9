use Rattle.std.proofs.Common.{arith}
use Rattle.ccr_wiring.proofs.Noted.{noted_one, noted_past}
use Rattle.ccr_wiring.proofs.takers.note.Goals as goal

pub returns-in_ok-add : goal.returns-in_ok-add
returns-in_ok-add c = noted_one c.args.lists.now c.args.number c.args.spot c.index-lists-number.result c.add.new.self (grind arith) c.in_ok-add.ensures.ok

pub returns-else-number-lists : goal.returns-else-number-lists
returns-else-number-lists c = noted_past c.args.lists.now c.args.number c.args.spot (grind arith)

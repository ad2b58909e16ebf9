use Rattle.std.proofs.Common.{arith}
use Rattle.ccr_ledger.proofs.GrowingRows.{takes-none}
use Rattle.ccr_ledger.proofs.ports.take_oldest.Goals as goal

pub returns-else-number-len-clause-taken : goal.returns-else-number-len-clause-taken
returns-else-number-len-clause-taken c = takes-none c.args.taken.now.items c.args.ports.now.items c.args.port c.args.count (omega arith)

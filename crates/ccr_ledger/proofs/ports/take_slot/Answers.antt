use Rattle.std.proofs.Common.{arith}
use Rattle.ccr_ledger.proofs.GrowingRows.{takes-none-fitting}
use Rattle.ccr_ledger.proofs.ports.take_slot.Goals as goal

pub returns-else-number-len-clause-taken : goal.returns-else-number-len-clause-taken
returns-else-number-len-clause-taken c = takes-none-fitting c.args.taken.now.items c.args.ports.now.items c.args.slot.port c.args.slot.most c.args.slot.pred (omega arith)

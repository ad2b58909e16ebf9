use Rattle.std.proofs.Common.{arith}
use Rattle.ccr_ledger.proofs.GrowingRows.{shares-none}
use Rattle.ccr_ledger.proofs.ports.shared_with.Goals as goal

pub returns-else-number-len-clause-shared : goal.returns-else-number-len-clause-shared
returns-else-number-len-clause-shared c = shares-none c.args.ports.now.items c.args.port c.args.names.now (omega arith)

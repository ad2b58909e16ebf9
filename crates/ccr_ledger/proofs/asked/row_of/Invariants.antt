use Rattle.std.proofs.Common.{◌≡◌, take}
use Rattle.ccr_ledger.specs.Rows.{row}
use Rattle.ccr_ledger.proofs.asked.row_of.Given as goal

abbrev pub invariant-loop-index : goal.invariant-loop-index
invariant-loop-index l = l.tasks.items ≡ take l.index (row l.rows l.number)

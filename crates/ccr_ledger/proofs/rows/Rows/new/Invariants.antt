use Rattle.std.proofs.Common.{◌≡◌, map}
use Rattle.ccr_ledger.specs.Rows.{empty_rows}
use Rattle.ccr_ledger.proofs.rows.Rows.new.Given as goal

abbrev pub invariant-loop : goal.invariant-loop
invariant-loop g l = map (λ row. row.items) l.rows.items ≡ empty_rows l.counter

use Rattle.std.proofs.Common.{◌≡◌}
use Rattle.ccr_ledger.specs.Rows.{empty_rows}
use Rattle.ccr_ledger.proofs.ports.empty_ports.Given as goal

abbrev pub invariant-loop : goal.invariant-loop
invariant-loop l = l.ports.items ≡ empty_rows l.counter

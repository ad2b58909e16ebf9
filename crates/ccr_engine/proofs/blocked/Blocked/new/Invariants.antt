use Rattle.std.proofs.Common.{◌≡◌}
use Rattle.ccr_ledger.specs.Rows.{empty_rows}
use Rattle.ccr_engine.proofs.blocked.Blocked.new.Given as goal

abbrev pub invariant-loop : goal.invariant-loop
invariant-loop l = l.queues.items ≡ empty_rows l.counter

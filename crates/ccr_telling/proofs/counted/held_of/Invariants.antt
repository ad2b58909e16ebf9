use Rattle.std.proofs.Common.{◌≡◌, ◌<◌, ℕ, length}
use Rattle.std.specs.Prelude.{slice_index}
use Rattle.ccr_ledger.specs.Rows.{row}
use Rattle.ccr_telling.proofs.counted.held_of.Given as goal

abbrev pub invariant-loop-port : goal.invariant-loop-port
invariant-loop-port l = record {
  len : length l.counts.items ≡ l.port;
  counts : (k : ℕ) → k < l.port → slice_index l.counts.items k ≡ length (row l.ledger.ports k);
}

use Rattle.std.proofs.Common.{◌≡◌, ◌<◌, ℕ, take, length, slice_index}
use Rattle.ccr_wiring.specs.Spots.{times}
use Rattle.ccr_report.proofs.tally.tally.Given as goal

abbrev pub invariant-loop-number : goal.invariant-loop-number
invariant-loop-number l = record {
  len : length l.counts.items ≡ l.size;
  counts : (k : ℕ) → k < l.size → slice_index l.counts.items k ≡ times k (take l.number-index l.numbers);
}

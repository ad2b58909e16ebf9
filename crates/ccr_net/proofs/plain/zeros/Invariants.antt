use Rattle.std.proofs.Common.{◌≡◌, ℕ, length, slice_index}
use Rattle.ccr_net.proofs.plain.zeros.Given as goal

abbrev pub invariant-loop : goal.invariant-loop
invariant-loop l = (length l.stamps.items ≡ l.counter) × ((k : ℕ) → slice_index l.stamps.items k ≡ 0)

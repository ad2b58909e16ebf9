use Rattle.std.proofs.Common.{◌≡◌, ℕ, ◌<◌, [], length, Some}
use Rattle.std.specs.List.{slice_get}
use Rattle.ccr_wiring.proofs.takers.empty_lists.Given as goal

abbrev pub invariant-loop : goal.invariant-loop
invariant-loop l = record {
  size : length l.lists.items ≡ l.counter;
  empty : (number : ℕ) → number < l.counter → slice_get l.lists.items number ≡ Some [];
}

use Rattle.std.proofs.Common.{◌≡◌, length}
use Rattle.ccr_try_threads.proofs.turns.counter.counters.Given as goal

abbrev pub invariant-loop : goal.invariant-loop
invariant-loop l = length l.counters.items ≡ l.counter

use Rattle.std.proofs.Common.{◌≡◌, ◌≤◌, replicate, vec_len, vec_capacity}
use Rattle.ccr_turns.proofs.turns.make.zeros.Given as goal

abbrev pub invariant-loop : goal.invariant-loop
invariant-loop l = (l.words.items ≡ replicate l.counter 0) × (vec_len l.words ≡ l.counter) × (l.count ≤ vec_capacity l.words)

use Rattle.ccr_turns.specs.Locks.{IsSeatOf}
use Rattle.ccr_try_threads.proofs.turns.raise.Given as goal

abbrev pub invariant-loop : goal.invariant-loop
invariant-loop g l = IsSeatOf l.turns l.seat

use Rattle.ccr_turns.specs.Locks.{IsSeatOf}
use Rattle.ccr_try_threads.proofs.turns.mix.run.Given as goal

abbrev pub invariant-loop-step : goal.invariant-loop-step
invariant-loop-step g l = IsSeatOf l.turns l.seat

-- The seat stays one of these locks.
use Rattle.ccr_turns.specs.Locks.{IsSeatOf}
use Rattle.ccr_examples.proofs.tally.raise.Given as goal

abbrev pub invariant-loop : goal.invariant-loop
invariant-loop g l = IsSeatOf l.turns l.seat

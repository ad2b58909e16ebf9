use Rattle.ccr_space.specs.Spaces.{IsPassOf}
use Rattle.ccr_try_threads.proofs.spaces.make.Given as goal

abbrev pub invariant-loop : goal.invariant-loop
invariant-loop g l = IsPassOf l.space l.pass

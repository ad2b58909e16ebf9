use Rattle.ccr_net.specs.Schedules.{AreStarted}
use Rattle.ccr_net.proofs.schedules.all_actors.Given as goal

-- the actors so far
abbrev pub invariant-loop-number : goal.invariant-loop-number
invariant-loop-number l = AreStarted l.wiring l.number l.actors.items

use Rattle.std.proofs.Common.{◌≡◌, ◌++◌}
use Rattle.ccr_object.specs.Starts.{arbiter_places}
use Rattle.ccr_object.proofs.starting.add_arbiters.Given as goal

-- the places so far
abbrev pub invariant-loop-number : goal.invariant-loop-number
invariant-loop-number l = l.places.items ≡ l.fn.places.items ++ arbiter_places l.wiring.domains l.number

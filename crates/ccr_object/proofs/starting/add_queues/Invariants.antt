use Rattle.std.proofs.Common.{◌≡◌, ◌++◌}
use Rattle.ccr_object.specs.Starts.{queue_places}
use Rattle.ccr_object.proofs.starting.add_queues.Given as goal

-- the places so far
abbrev pub invariant-loop-number : goal.invariant-loop-number
invariant-loop-number l = l.places.items ≡ l.fn.places.items ++ queue_places l.number

use Rattle.std.proofs.Common.{◌≡◌, ◌++◌}
use Rattle.ccr_object.specs.Starts.{port_places}
use Rattle.ccr_object.proofs.starting.add_ports.Given as goal

-- the places so far
abbrev pub invariant-loop-number : goal.invariant-loop-number
invariant-loop-number l = l.places.items ≡ l.fn.places.items ++ port_places l.number

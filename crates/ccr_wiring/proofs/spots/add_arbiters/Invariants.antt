use Rattle.std.proofs.Common.{◌≡◌, ◌++◌, drop}
use Rattle.ccr_wiring.specs.Spots.{arbiters_named}
use Rattle.ccr_wiring.proofs.spots.add_arbiters.Given as goal

-- the ports so far and those still to come are all
abbrev pub invariant-loop-arbiter : goal.invariant-loop-arbiter
invariant-loop-arbiter l = l.ports.items ++ arbiters_named l.parts (drop l.arbiter-index l.arbiters) ≡ l.fn.ports.items ++ arbiters_named l.parts l.arbiters

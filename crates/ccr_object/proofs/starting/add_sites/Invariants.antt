use Rattle.std.proofs.Common.{◌≡◌, ◌++◌, drop}
use Rattle.ccr_object.specs.Starts.{site_places}
use Rattle.ccr_object.proofs.starting.add_sites.Given as goal

-- the places so far and those still to come are all
abbrev pub invariant-loop-spot : goal.invariant-loop-spot
invariant-loop-spot l = l.places.items ++ site_places (drop l.spot-index l.spots) ≡ l.fn.places.items ++ site_places l.spots

use Rattle.std.proofs.Common.{drop}
use Rattle.ccr_wiring.proofs.SpotsAreListed.{SpotsLeft}
use Rattle.ccr_wiring.proofs.spots.add_all_spots.Given as goal

-- the spots so far and those still to come are all
abbrev pub invariant-loop-arbiter : goal.invariant-loop-arbiter
invariant-loop-arbiter l = SpotsLeft l.parts l.arbiters (drop l.arbiter-index l.arbiters) l.number l.fn.spots.items l.spots.items

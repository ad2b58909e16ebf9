use Rattle.std.proofs.Common.{◌≡◌}
use Rattle.ccr_wiring.specs.Placements.{positions_from}
use Rattle.ccr_base.proofs.Loops.{AddsUpFrom}
use Rattle.ccr_wiring.proofs.placements.add_all_positions.Given as goal

-- the positions so far and those still to come are all
abbrev pub invariant-loop-arbiter : goal.invariant-loop-arbiter
invariant-loop-arbiter l = AddsUpFrom (positions_from l.domains) l.arbiters l.arbiter-index l.number 0 l.fn.positions.items l.positions.items × (l.number ≡ l.arbiter-index)

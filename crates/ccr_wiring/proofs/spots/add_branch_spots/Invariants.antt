use Rattle.std.proofs.Common.{◌≡◌, ◌+◌}
use Rattle.ccr_wiring.specs.Spots.{branch_spots}
use Rattle.ccr_base.proofs.Loops.{AddsUpFrom}
use Rattle.ccr_wiring.proofs.spots.add_branch_spots.Given as goal

-- the spots so far and those still to come are all
abbrev pub invariant-loop-branch : goal.invariant-loop-branch
invariant-loop-branch l = AddsUpFrom (branch_spots l.parts) l.branches l.branch-index l.number l.first l.fn.spots.items l.spots.items × (l.number ≡ l.first + l.branch-index)

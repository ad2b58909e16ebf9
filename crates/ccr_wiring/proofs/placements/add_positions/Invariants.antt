use Rattle.std.proofs.Common.{◌≡◌, ◌++◌}
use Rattle.ccr_wiring.specs.Placements.{positions_in}
use Rattle.ccr_wiring.proofs.placements.add_positions.Given as goal

-- the positions so far
abbrev pub invariant-loop-branch : goal.invariant-loop-branch
invariant-loop-branch l = l.positions.items ≡ l.fn.positions.items ++ positions_in l.arbiter l.domain l.branch

use Rattle.std.proofs.Common.{ℕ, ◌≤◌}
use Rattle.ccr_ledger.specs.Lanes.{HasLane}
use Rattle.ccr_ledger.proofs.held.lane_for.Given as goal

-- none of the lanes that were looked at is of the predicate
abbrev pub invariant-loop-number : goal.invariant-loop-number
invariant-loop-number l = (n : ℕ) → HasLane l.lanes.items n l.fn.pred → l.number ≤ n

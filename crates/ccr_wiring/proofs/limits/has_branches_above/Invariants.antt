use Rattle.std.proofs.Common.{◌≡◌, ◌+◌, ◌≤◌, length, sum, map, drop}
use Rattle.ccr_wiring.proofs.limits.has_branches_above.Given as goal

-- those counted and those still to come are all
abbrev pub invariant-loop-arbiter : goal.invariant-loop-arbiter
invariant-loop-arbiter l = (l.count + sum (map (λ arbiter. length arbiter.branches) (drop l.arbiter-index l.arbiters)) ≡ sum (map (λ arbiter. length arbiter.branches) l.arbiters)) × (l.count ≤ l.most)

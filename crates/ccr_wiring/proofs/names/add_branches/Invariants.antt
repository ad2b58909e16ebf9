use Rattle.std.proofs.Common.{◌≡◌, ◌++◌, map, drop}
use Rattle.ccr_wiring.specs.Names.{branch_names}
use Rattle.ccr_wiring.proofs.names.add_branches.Given as goal

-- the names so far and those still to come are all
abbrev pub invariant-loop-branch : goal.invariant-loop-branch
invariant-loop-branch l = map (λ name. name.now) l.names.items ++ branch_names (drop l.branch-index l.branches) ≡ map (λ name. name.now) l.fn.names.items ++ branch_names l.branches

use Rattle.std.proofs.Common.{◌≡◌, ◌++◌, drop}
use Rattle.ccr_wiring.specs.Spots.{branches_named}
use Rattle.ccr_wiring.proofs.spots.add_branches.Given as goal

-- the ports so far and those still to come are all
abbrev pub invariant-loop-branch : goal.invariant-loop-branch
invariant-loop-branch l = l.ports.items ++ branches_named l.parts (drop l.branch-index l.branches) ≡ l.fn.ports.items ++ branches_named l.parts l.branches

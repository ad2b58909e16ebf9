use Rattle.std.proofs.Common.{◌≡◌, ◌++◌, drop}
use Rattle.ccr_service.specs.Expansion.{branches_from}
use Rattle.ccr_service.proofs.expanding.branches.Given as goal

-- the branches so far and those still to come are all
abbrev pub invariant-loop-number : goal.invariant-loop-number
invariant-loop-number l = l.parts.items ++ branches_from l.faults l.number (drop l.number l.ops) ≡ branches_from l.faults 0 l.ops

use Rattle.std.proofs.Common.{◌≡◌, take}
use Rattle.ccr_engine.specs.Indices.{branch_indices}
use Rattle.ccr_engine.proofs.indices.indices_of_branches.Given as goal

abbrev pub invariant-loop-index : goal.invariant-loop-index
invariant-loop-index l = l.branches.items ≡ branch_indices 0 (take l.index l.spots)

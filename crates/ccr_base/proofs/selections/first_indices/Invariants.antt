use Rattle.std.proofs.Common.{◌≡◌, ◌++◌, drop, take}
use Rattle.ccr_base.specs.Selection.{indices_from}
use Rattle.ccr_base.proofs.selections.first_indices.Given as goal

-- the indices so far and those that are still to come
abbrev pub invariant-loop-index : goal.invariant-loop-index
invariant-loop-index g l = l.indices.items ++ take l.left (indices_from l.index l.pred (g.T.Seen.seen (drop l.index l.items))) ≡ take l.most (indices_from 0 l.pred (g.T.Seen.seen l.items))

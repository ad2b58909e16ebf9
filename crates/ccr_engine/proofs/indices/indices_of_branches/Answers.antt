use Rattle.std.proofs.Common.{arith}
use Rattle.ccr_engine.proofs.BranchIndices.{indices_next}
use Rattle.ccr_engine.proofs.indices.indices_of_branches.Goals as goal

pub loop-index-preserved : goal.loop-index-preserved
loop-index-preserved c = indices_next c.args.spots.now c.loop-index.index _ c.loop-index.branches.items c.note_branch.new.branches.items (grind arith) c.loop-index.invariant c.in_ok-note_branch.ensures

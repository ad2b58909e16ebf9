use Rattle.ccr_engine.proofs.SpotIndices.{branch_at}
use Rattle.ccr_engine.proofs.indices.SpotIndices.of_branch.Goals as goal

pub returns : goal.returns
returns c = let at = branch_at c.self.inside.wiring.now c.args.branch in cc (at, c.index_of.ensures, c.deref.ensures.value, c.self.invariant, c.self.view_is)

use Rattle.ccr_model.proofs.Cutting.{no_branch_fires}
use Rattle.ccr_laws.proofs.interleaves.no_branch_fires_after_a_teardown.Goals as goal

pub returns : goal.returns
returns c = no_branch_fires

use Rattle.ccr_laws.proofs.Exclusion.{one_segment}
use Rattle.ccr_laws.proofs.interleaves.roots_have_one_segment_at_work.Goals as goal

pub returns : goal.returns
returns c = one_segment

use Rattle.ccr_laws.proofs.Exclusion.{no_other_works, own_segments}
use Rattle.ccr_laws.proofs.interleaves.exclusive_roots_work_alone.Goals as goal

pub returns : goal.returns
returns c = record { until_over = own_segments; meanwhile = no_other_works }

use Rattle.ccr_laws.proofs.Exclusion.{admitted_works}
use Rattle.ccr_laws.proofs.interleaves.tasks_at_work_have_admitted_roots.Goals as goal

pub returns : goal.returns
returns c = admitted_works

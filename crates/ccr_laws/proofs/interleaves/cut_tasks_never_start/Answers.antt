use Rattle.ccr_model.proofs.Cutting.{cut_not_ever_admitted, cut_not_put, cut_not_started}
use Rattle.ccr_laws.proofs.interleaves.cut_tasks_never_start.Goals as goal

pub returns : goal.returns
returns c = record { not_admitted = cut_not_ever_admitted; not_put = cut_not_put; not_started = cut_not_started }

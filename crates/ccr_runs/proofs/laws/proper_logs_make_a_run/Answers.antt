use Rattle.ccr_runs.proofs.Telling.{run_of_logs}
use Rattle.ccr_runs.proofs.laws.proper_logs_make_a_run.Goals as goal

pub returns : goal.returns
returns g c = record { run = λ protocol seats scene cast acts merged logs. run_of_logs protocol seats scene cast acts merged logs }

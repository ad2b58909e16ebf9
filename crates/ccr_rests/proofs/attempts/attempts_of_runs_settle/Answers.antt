use Rattle.ccr_rests.proofs.RunsTried.{run_settled}
use Rattle.ccr_rests.proofs.attempts.attempts_of_runs_settle.Goals as goal

pub returns : goal.returns
returns c = run_settled

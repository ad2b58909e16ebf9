use Rattle.ccr_net.proofs.Kept.ClosersFireNothing.{closers_start}
use Rattle.ccr_net.proofs.laws.closers_are_new_to_runs.Goals as goal

pub returns : goal.returns
returns c = record { attempts = closers_start }

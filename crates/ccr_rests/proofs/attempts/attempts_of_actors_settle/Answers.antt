use Rattle.ccr_rests.proofs.RestedHaveSettled.{all_settled}
use Rattle.ccr_rests.proofs.attempts.attempts_of_actors_settle.Goals as goal

pub returns : goal.returns
returns c = all_settled

use Rattle.ccr_net.proofs.Conditions.AsksMeetConditions.{asks_met}
use Rattle.ccr_net.proofs.laws.asks_meet_their_conditions.Goals as goal

pub returns : goal.returns
returns c = record { met = asks_met }

use Rattle.ccr_wiring.proofs.Closed.{old_closed}
use Rattle.ccr_wiring.proofs.laws.old_wirings_are_closed.Goals as goal

pub returns : goal.returns
returns c = old_closed

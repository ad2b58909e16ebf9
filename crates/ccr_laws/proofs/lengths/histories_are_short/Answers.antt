use Rattle.ccr_laws.proofs.Ending.{few_events}
use Rattle.ccr_laws.proofs.lengths.histories_are_short.Goals as goal

pub returns : goal.returns
returns c = few_events

use Rattle.ccr_laws.proofs.Valid.{few_events-valid}
use Rattle.ccr_laws.proofs.lengths.valid_histories_are_short.Goals as goal

pub returns : goal.returns
returns c = few_events-valid

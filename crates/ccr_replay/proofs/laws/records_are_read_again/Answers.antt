use Rattle.ccr_replay.proofs.RecordsAreReadAgain.{again}
use Rattle.ccr_replay.proofs.laws.records_are_read_again.Goals as goal

pub returns : goal.returns
returns c = again

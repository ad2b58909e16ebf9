use Rattle.ccr_trace.proofs.ReadAgain.{history_told}
use Rattle.ccr_trace.proofs.laws.what_is_read_is_written.Goals as goal

pub returns : goal.returns
returns c = history_told

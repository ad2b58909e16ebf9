use Rattle.ccr_trace.proofs.ReadAgain.{history_again}
use Rattle.ccr_trace.proofs.laws.what_is_written_is_read.Goals as goal

pub returns : goal.returns
returns c = λ wiring history more valid there some short. history_again c.numbers_are_read_again.ensures wiring valid history more there some short

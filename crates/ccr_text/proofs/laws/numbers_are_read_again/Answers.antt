use Rattle.ccr_text.proofs.Decimals.{number_again}
use Rattle.ccr_text.proofs.laws.numbers_are_read_again.Goals as goal

pub returns : goal.returns
returns c = number_again

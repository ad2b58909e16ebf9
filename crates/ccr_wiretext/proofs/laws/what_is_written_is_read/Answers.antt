use Rattle.ccr_wiretext.proofs.Round.TextSaysItsWiring.{written_read}
use Rattle.ccr_wiretext.proofs.laws.what_is_written_is_read.Goals as goal

pub returns : goal.returns
returns c = written_read c.numbers_are_read_again.ensures c.lines_are_read_again.ensures

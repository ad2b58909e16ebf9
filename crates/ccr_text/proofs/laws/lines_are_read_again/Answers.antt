use Rattle.ccr_text.proofs.Again.{text_again}
use Rattle.ccr_text.proofs.laws.lines_are_read_again.Goals as goal

pub returns : goal.returns
returns c = text_again

use Rattle.ccr_trace.proofs.FormsSaid.{line_told}
use Rattle.ccr_trace.proofs.FormsRead.{said_again}
use Rattle.ccr_trace.proofs.laws.lines_are_read_exactly.Goals as goal

pub returns-clause-said : goal.returns-clause-said
returns-clause-said c = line_told

pub returns-clause-read : goal.returns-clause-read
returns-clause-read c = said_again c.numbers_are_read_again.ensures

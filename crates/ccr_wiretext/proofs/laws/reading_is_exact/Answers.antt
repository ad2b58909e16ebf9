use Rattle.ccr_wiretext.proofs.TextsRead.{text_said, text_read}
use Rattle.ccr_wiretext.proofs.laws.reading_is_exact.Goals as goal

pub returns : goal.returns
returns c = record { said = text_said; read = text_read }

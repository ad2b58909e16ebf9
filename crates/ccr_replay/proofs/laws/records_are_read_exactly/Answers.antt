use Rattle.ccr_replay.proofs.ReadingIsExact.{read, said}
use Rattle.ccr_replay.proofs.laws.records_are_read_exactly.Goals as goal

pub returns : goal.returns
returns c = record { said = said; read = read }

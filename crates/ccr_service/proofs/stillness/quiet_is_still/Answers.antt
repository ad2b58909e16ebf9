use Rattle.ccr_service.proofs.QuietIsStill.{still}
use Rattle.ccr_service.proofs.stillness.quiet_is_still.Goals as goal

pub returns : goal.returns
returns c = still

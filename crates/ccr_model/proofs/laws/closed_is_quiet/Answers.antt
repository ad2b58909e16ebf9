use Rattle.ccr_model.proofs.Closed.{idle_quiet}
use Rattle.ccr_model.proofs.laws.closed_is_quiet.Goals as goal

pub returns : goal.returns
returns c = λ w h closed idle. idle_quiet w closed h idle

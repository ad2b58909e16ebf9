use Rattle.ccr_model.proofs.QuietAllowsNone.{IsQuiet-first}
use Rattle.ccr_model.proofs.laws.none_first_is_quiet.Goals as goal

pub returns : goal.returns
returns c = IsQuiet-first

use Rattle.ccr_model.proofs.Allowing.{first_allowed}
use Rattle.ccr_model.proofs.laws.first_is_allowed.Goals as goal

pub returns : goal.returns
returns c = first_allowed

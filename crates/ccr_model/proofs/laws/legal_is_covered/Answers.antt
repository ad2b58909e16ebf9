use Rattle.ccr_model.proofs.LegalIsCovered.{IsCovered-legal}
use Rattle.ccr_model.proofs.laws.legal_is_covered.Goals as goal

pub returns : goal.returns
returns c = IsCovered-legal

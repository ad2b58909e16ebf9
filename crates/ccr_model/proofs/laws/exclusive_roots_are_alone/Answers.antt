use Rattle.ccr_model.proofs.laws.exclusive_roots_are_alone.Goals as goal
use Rattle.ccr_model.proofs.ExclusiveRootsAreAlone.{is_alone-legal}

pub returns : goal.returns
returns c = is_alone-legal

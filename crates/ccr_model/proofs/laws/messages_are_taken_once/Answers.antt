use Rattle.ccr_model.proofs.TakenOnce.{taken_once}
use Rattle.ccr_model.proofs.laws.messages_are_taken_once.Goals as goal

pub returns : goal.returns
returns c = taken_once

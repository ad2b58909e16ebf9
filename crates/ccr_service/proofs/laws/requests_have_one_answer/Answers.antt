use Rattle.ccr_service.proofs.Answering.{served_whole}
use Rattle.ccr_service.proofs.laws.requests_have_one_answer.Goals as goal

pub returns : goal.returns
returns c = served_whole

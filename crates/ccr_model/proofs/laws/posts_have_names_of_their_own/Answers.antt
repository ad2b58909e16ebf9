use Rattle.ccr_model.proofs.PostNames.{posted_once}
use Rattle.ccr_model.proofs.laws.posts_have_names_of_their_own.Goals as goal

pub returns : goal.returns
returns c = posted_once

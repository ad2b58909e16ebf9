use Rattle.ccr_dispatch.proofs.StepsLeaveLess.{less_left, settled_less}
use Rattle.ccr_dispatch.proofs.laws.actors_rest.Goals as goal

pub returns-clause-hand : goal.returns-clause-hand
returns-clause-hand c = settled_less

pub returns-clause-behind : goal.returns-clause-behind
returns-clause-behind c = less_left

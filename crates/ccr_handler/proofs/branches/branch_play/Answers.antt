use Rattle.std.proofs.Common.{arith}
use Rattle.std.proofs.lemmas.Grind.{common_steps}
use Rattle.ccr_handler.proofs.branches.branch_play.Goals as goal
use Rattle.ccr_handler.proofs.LaterSegments.{actions_from-none}

pub returns-in-None : goal.returns-in-None
returns-in-None c = grind (arith, common_steps, actions_from-none)

use Rattle.std.proofs.Common.{arith}
use Rattle.std.proofs.lemmas.Grind.{common_steps}
use Rattle.std.proofs.Math.ListN.{drop_of_length-le}
use Rattle.ccr_model.proofs.sites.behind.Goals as goal

pub returns-else-first-tasks : goal.returns-else-first-tasks
returns-else-first-tasks c = grind (arith, common_steps, drop_of_length-le)

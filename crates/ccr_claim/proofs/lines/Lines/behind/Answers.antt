use Rattle.std.proofs.Common.{arith}
use Rattle.std.proofs.lemmas.Grind.{common_steps}
use Rattle.std.proofs.lemmas.List.{drop-drop}
use Rattle.ccr_claim.proofs.lines.Lines.behind.Goals as goal

pub returns : goal.returns
returns c = grind (arith, common_steps, c.self.view_is, drop-drop 1 c.self.inside.index c.self.inside.script.now)

use Rattle.std.proofs.Common.{◌∙◌, ap, not}
use Rattle.std.specs.Prelude.{◌==◌}
use Rattle.ccr_model.specs.declared.history.Totals.{Totals}
use Rattle.ccr_model.proofs.ShedEnds.{shed_is_counted}
use Rattle.ccr_commands.proofs.sheds.sheds.Goals as goal

pub returns : goal.returns
returns c = λ w h counted. ap (λ (totals : Totals). not (totals.shed == 0)) counted.totals ∙ shed_is_counted h

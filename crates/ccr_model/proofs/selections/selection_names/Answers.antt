use Rattle.std.proofs.Common.{arith}
use Rattle.std.proofs.lemmas.Grind.{common_steps}
use Rattle.std.proofs.lemmas.Bool.Decides.{nat_tests}
use Rattle.ccr_base.specs.Selection.{fitting}
use Rattle.ccr_model.specs.Views.{seen}
use Rattle.ccr_model.proofs.FirstNames.{names_of-take, length-names_of}
use Rattle.ccr_model.proofs.selections.selection_names.Goals as goal

pub returns : goal.returns
returns c =
    let fit = fitting c.args.slot.now.pred (seen c.args.held.now) in
    grind (arith, nat_tests, common_steps, names_of-take c.args.slot.now.most fit, length-names_of fit)

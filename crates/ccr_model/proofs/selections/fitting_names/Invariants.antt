use Rattle.std.proofs.Common.{◌≡◌, take}
use Rattle.ccr_base.specs.Selection.{fitting}
use Rattle.ccr_model.specs.Selection.{names_of}
use Rattle.ccr_model.specs.Views.{seen}
use Rattle.ccr_model.proofs.selections.fitting_names.Given as goal

abbrev pub invariant-loop-message : goal.invariant-loop-message
invariant-loop-message l = l.names.items ≡ names_of (fitting l.slot.pred (seen (take l.message-index l.held)))

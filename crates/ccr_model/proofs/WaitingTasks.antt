-- Who waits in a domain of Interleaves, after one more admission.
use Rattle.std.proofs.Common.{◌≡◌, ℕ, List, [], ◌∷◌, ◌++◌, append-nil}
use Rattle.ccr_base.specs.declared.names.TaskId.{TaskId}
use Rattle.ccr_base.specs.Names.{without}
use Rattle.ccr_wiring.specs.declared.parts.Parts.{Parts}
use Rattle.ccr_model.specs.declared.history.Event.{Event}
use Rattle.ccr_model.specs.declared.history.Event.TheVariants.{Admit}
use Rattle.ccr_model.specs.Firings.{cut, ever_admitted}
use Rattle.ccr_model.specs.Interleaves.{is_placement_in}
use Rattle.ccr_model.specs.Tasks.{fired_by, waiting}
use Rattle.ccr_model.proofs.Cutting.{fired_by-append}
use Rattle.ccr_model.proofs.OneMoreEvent.{ever_admitted-push, cut-push}
use Rattle.ccr_model.proofs.TasksLeft.{without_middle}

pub waiting-admit : (w : Parts) (h : List Event) (t : TaskId) (i : ℕ) → waiting w (h ++ Admit t ∷ []) i ≡ without (waiting w h i) (t ∷ [])
waiting-admit w h t i =
    rw (fired_by-append w (is_placement_in i) h (Admit t ∷ []), ever_admitted-push h (Admit t), cut-push h (Admit t), append-nil (fired_by w (is_placement_in i) h), append-nil (cut h)) (without_middle (fired_by w (is_placement_in i) h) (ever_admitted h) (cut h) t)

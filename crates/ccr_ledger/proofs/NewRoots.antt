-- Who is admitted was never let in before, and is no root that is over.
use Rattle.std.proofs.Common.{◌≡◌, true, false, List, [], ◌∷◌, ◌++◌, refl, ap, ◌∙◌}
use Rattle.ccr_base.specs.declared.names.TaskId.{TaskId}
use Rattle.ccr_base.specs.Names.{has_task}
use Rattle.ccr_wiring.specs.declared.parts.Parts.{Parts}
use Rattle.ccr_model.specs.declared.history.Event.{Event}
use Rattle.ccr_model.specs.declared.history.Event.TheVariants.{Post, Fire, Admit, Put, Start, End}
use Rattle.ccr_model.specs.Firings.{ever_admitted, admitted_by}
use Rattle.ccr_model.specs.Tasks.{is_over}
use Rattle.ccr_model.specs.Legal.{IsAllowed, IsLegal}
use Rattle.ccr_model.specs.Consequences.{are_distinct_tasks}
use Rattle.ccr_model.proofs.Allowing.{OneName-legal}
use Rattle.ccr_model.proofs.OneMoreEvent.{ever_admitted-push}
use Rattle.ccr_model.proofs.LegalParts.{along_legal}
use Rattle.ccr_model.proofs.FiredTasks.{IsFired}
use Rattle.ccr_model.proofs.TasksLeft.{distinct-push}
use Rattle.ccr_model.proofs.AllowedFirings.{WaitingFacts-waiting}
use Rattle.ccr_model.proofs.Cutting.{AdmitFacts-allowed}
use Rattle.ccr_ledger.proofs.Admissions.{ever_admitted-other, new_lasts}

-- who is to be admitted was never let in, and is not over
pub record NewRoot (h : List Event) (t : TaskId) : Type 0 where
  pub is_fired : IsFired h t
  pub not_ever_admitted : has_task (ever_admitted h) t ≡ false
  pub not_over : is_over h t ≡ false

pub NewRoot-allowed : (w : Parts) (h : List Event) (t : TaskId) → IsLegal w h → IsAllowed w h (Admit t) → NewRoot h t
NewRoot-allowed w h t legal allowed =
    let facts = AdmitFacts-allowed w h t allowed in
    let waits = WaitingFacts-waiting w h facts.placement.domain t (OneName-legal w h legal) facts.waits in
    record { is_fired = (waits.firing, waits.is_firing); not_ever_admitted = waits.not_ever_admitted; not_over = new_lasts w h legal t allowed }

-- nobody is let in twice
pub ever_admitted_once : (w : Parts) (h : List Event) → IsLegal w h → are_distinct_tasks (ever_admitted h) ≡ true
ever_admitted_once w h legal = along_legal w (λ g. are_distinct_tasks (ever_admitted g) ≡ true) kept refl h legal
  where
    other : (g : List Event) → IsLegal w g → (e : Event) → admitted_by e ≡ [] → are_distinct_tasks (ever_admitted g) ≡ true → are_distinct_tasks (ever_admitted (g ++ e ∷ [])) ≡ true
    other g so e none once = ap are_distinct_tasks (ever_admitted-other w g so e none) ∙ once

    kept : (g : List Event) (e : Event) → IsLegal w g → IsAllowed w g e → are_distinct_tasks (ever_admitted g) ≡ true → are_distinct_tasks (ever_admitted (g ++ e ∷ [])) ≡ true
    kept g (Admit t) so allowed once = rw (ever_admitted-push g (Admit t)) (distinct-push (ever_admitted g) t once (NewRoot-allowed w g t so allowed).not_ever_admitted)
    kept g (Post m) so allowed once = other g so (Post m) refl once
    kept g (Fire t s ms cs) so allowed once = other g so (Fire t s ms cs) refl once
    kept g (Put t d) so allowed once = other g so (Put t d) refl once
    kept g (Start t a) so allowed once = other g so (Start t a) refl once
    kept g (End t how) so allowed once = other g so (End t how) refl once

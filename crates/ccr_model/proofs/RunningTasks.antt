-- Who runs for an actor, after one more event.
use Rattle.std.proofs.Common.{◌≡◌, ℕ, List, [], ◌∷◌, ◌++◌, flat_map, ◌∙◌, append-nil, arith, refl}
use Rattle.std.proofs.lemmas.Grind.{common_steps}
use Rattle.ccr_base.specs.declared.names.TaskId.{TaskId}
use Rattle.ccr_base.specs.Names.{without}
use Rattle.ccr_model.specs.declared.history.EndHow.{EndHow}
use Rattle.ccr_model.specs.declared.history.Event.{Event}
use Rattle.ccr_model.specs.declared.history.Event.TheVariants as events
use Rattle.ccr_model.specs.Firings.{ended, ended_by}
use Rattle.ccr_model.specs.Tasks.{running_by, started_as}
use Rattle.ccr_model.proofs.OneMoreEvent.{ended-push}
use Rattle.ccr_model.proofs.TasksLeft.{without_both}

-- the tasks that the actor started
abbrev pub starts : List Event → ℕ → List TaskId
starts h a = flat_map (started_as a) h

pub starts-push : (h : List Event) (e : Event) (a : ℕ) → starts (h ++ e ∷ []) a ≡ starts h a ++ started_as a e
starts-push h e a = grind (arith, common_steps)

pub running_by-push : (h : List Event) (e : Event) (a : ℕ) → running_by (h ++ e ∷ []) a ≡ without (starts h a ++ started_as a e) (ended h ++ ended_by e)
running_by-push h e a = rw (starts-push h e a, ended-push h e) refl

pub running_by-end : (h : List Event) (u : TaskId) (how : EndHow) (a : ℕ) → running_by (h ++ events.End u how ∷ []) a ≡ without (running_by h a) (u ∷ [])
running_by-end h u how a = running_by-push h (events.End u how) a ∙ rw (append-nil (starts h a)) (without_both (starts h a) (ended h) (u ∷ []))

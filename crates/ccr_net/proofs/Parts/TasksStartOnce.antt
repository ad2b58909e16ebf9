-- Who started a task, along a legal history: one actor, once, and before its end.
use Rattle.std.proofs.Common.{◌≡◌, ℕ, Bool, true, false, List, [], ◌∷◌, ◌++◌, refl, sym, arith, ap, ◌∙◌, subst, append-nil}
use Rattle.std.specs.Prelude.{◌==◌, if◌then◌else◌}
use Rattle.ccr_base.specs.declared.names.TaskId.{TaskId}
use Rattle.ccr_base.specs.Names.{has_task}
use Rattle.ccr_wiring.specs.declared.parts.Parts.{Parts}
use Rattle.ccr_model.specs.declared.history.Event.{Event}
use Rattle.ccr_model.specs.declared.history.Event.TheVariants as events
use Rattle.ccr_model.specs.Firings.{started, started_by, ended, ended_by}
use Rattle.ccr_model.specs.Tasks.{running, running_by, started_as}
use Rattle.ccr_model.specs.Legal.{IsAllowed, IsLegal}
use Rattle.ccr_base.proofs.Booleans.{same_number, no_both}
use Rattle.ccr_model.proofs.OneMoreEvent.{started-push, ended-push}
use Rattle.ccr_model.proofs.PostNames.{along, refused_not}
use Rattle.ccr_base.proofs.SameNames.{same_task-self}
use Rattle.ccr_model.proofs.TasksLeft.{of_without}
use Rattle.ccr_model.proofs.TaskLists.{of_more, of_one, among_left, to_without}
use Rattle.ccr_model.proofs.WhoWasPut.{StartFacts-allowed, StartFacts-queued}
use Rattle.ccr_model.proofs.RunningTasks.{starts, starts-push}

starts_started : (h : List Event) (a : ℕ) (t : TaskId) → has_task (starts h a) t ≡ true → has_task (started h) t ≡ true
starts_started [] a t is = is
starts_started (events.Start u b ∷ h) a t is = by (b == a) is (starts_started h a t)
  where
    by : (c : Bool) → has_task ((if c then u ∷ [] else []) ++ starts h a) t ≡ true → (has_task (starts h a) t ≡ true → has_task (started h) t ≡ true) → has_task (u ∷ started h) t ≡ true
    by true now rest = grind (arith, now, rest)
    by false now rest = grind (arith, rest now)
starts_started (events.Post m ∷ h) a t is = starts_started h a t is
starts_started (events.Fire u s ms cs ∷ h) a t is = starts_started h a t is
starts_started (events.Admit u ∷ h) a t is = starts_started h a t is
starts_started (events.Put u d ∷ h) a t is = starts_started h a t is
starts_started (events.End u how ∷ h) a t is = starts_started h a t is

pub record AreStartedOnce (h : List Event) : Type 0 where
  pub by_one : (a b : ℕ) (t : TaskId) → has_task (starts h a) t ≡ true → has_task (starts h b) t ≡ true → a ≡ b
  pub ended_so : (t : TaskId) → has_task (ended h) t ≡ true → has_task (started h) t ≡ true

AreStartedOnce-other : (h : List Event) (e : Event) → ((a : ℕ) → started_as a e ≡ []) → ended_by e ≡ [] → started_by e ≡ [] → AreStartedOnce h → AreStartedOnce (h ++ e ∷ [])
AreStartedOnce-other h e none no_end no_start known = record {
  by_one = λ a b t at_a at_b. known.by_one a b t (rw (starts-push h e a, none a, append-nil (starts h a)) at at_a) (rw (starts-push h e b, none b, append-nil (starts h b)) at at_b);
  ended_so = λ t is. rw (started-push, no_start, append-nil (started h)) (known.ended_so t (rw (ended-push, no_end, append-nil (ended h)) at is));
}

AreStartedOnce-kept : (w : Parts) (h : List Event) (e : Event) → AreStartedOnce h → IsAllowed w h e → AreStartedOnce (h ++ e ∷ [])
AreStartedOnce-kept w h (events.Post m) known allowed = AreStartedOnce-other h (events.Post m) (λ a. refl) refl refl known
AreStartedOnce-kept w h (events.Fire u s ms cs) known allowed = AreStartedOnce-other h (events.Fire u s ms cs) (λ a. refl) refl refl known
AreStartedOnce-kept w h (events.Admit u) known allowed = AreStartedOnce-other h (events.Admit u) (λ a. refl) refl refl known
AreStartedOnce-kept w h (events.Put u d) known allowed = AreStartedOnce-other h (events.Put u d) (λ a. refl) refl refl known
AreStartedOnce-kept w h (events.End u how) known allowed = record {
  by_one = λ a b t at_a at_b. known.by_one a b t (rw (starts-push, append-nil (starts h a)) at at_a) (rw (starts-push, append-nil (starts h b)) at at_b);
  ended_so = λ t is. rw (started-push, append-nil (started h)) (of_more (ended h) (u ∷ []) t (has_task (started h) t ≡ true) (rw ended-push at is) (known.ended_so t) (λ one. subst (λ x. has_task (started h) x ≡ true) (sym (of_one u t one)) (of_without (started h) (ended h) u (refused_not (has_task (running h) u) _ _ allowed).0).0));
}
AreStartedOnce-kept w h (events.Start u c) known allowed = record {
  by_one = λ a b t at_a at_b. one a b t (rw starts-push at at_a) (rw starts-push at at_b);
  ended_so = λ t is. rw started-push (among_left (started h) (u ∷ []) t (known.ended_so t (rw (ended-push, append-nil (ended h)) at is)));
}
  where
    new : has_task (started h) u ≡ false
    new = (StartFacts-queued w h u (StartFacts-allowed w h u c allowed)).not_started

    fresh : (a : ℕ) → has_task (starts h a) u ≡ true → ⊥
    fresh a is = no_both (starts_started h a u is) new

    here : (a : ℕ) (t : TaskId) → has_task (started_as a (events.Start u c)) t ≡ true → (c ≡ a) × (t ≡ u)
    here a t is = by (c == a) refl is
      where
        by : (b : Bool) → (c == a) ≡ b → has_task (if b then u ∷ [] else []) t ≡ true → (c ≡ a) × (t ≡ u)
        by true e now = (same_number c a e, of_one u t now)
        by false e now = absurd (cc)

    one : (a b : ℕ) (t : TaskId) → has_task (starts h a ++ started_as a (events.Start u c)) t ≡ true → has_task (starts h b ++ started_as b (events.Start u c)) t ≡ true → a ≡ b
    one a b t at_a at_b = of_more (starts h a) (started_as a (events.Start u c)) t (a ≡ b) at_a
        (λ old_a. of_more (starts h b) (started_as b (events.Start u c)) t (a ≡ b) at_b (λ old_b. known.by_one a b t old_a old_b) (λ new_b. absurd (fresh a (subst (λ x. has_task (starts h a) x ≡ true) (here b t new_b).1 old_a))))
        (λ new_a. of_more (starts h b) (started_as b (events.Start u c)) t (a ≡ b) at_b (λ old_b. absurd (fresh b (subst (λ x. has_task (starts h b) x ≡ true) (here a t new_a).1 old_b))) (λ new_b. sym (here a t new_a).0 ∙ (here b t new_b).0))

pub AreStartedOnce-legal : (w : Parts) (h : List Event) → IsLegal w h → AreStartedOnce h
AreStartedOnce-legal w h legal = along w AreStartedOnce (AreStartedOnce-kept w) (record { by_one = λ a b t is also. absurd (cc); ended_so = λ t is. absurd (cc) }) h legal

-- two actors run different tasks
pub run_apart : (h : List Event) (a b : ℕ) (t u : TaskId) → AreStartedOnce h → running_by h a ≡ t ∷ [] → running_by h b ≡ u ∷ [] → t ≡ u → a ≡ b
run_apart h a b t u known at_a at_b same = known.by_one a b t (there a t at_a) (subst (λ x. has_task (starts h b) x ≡ true) (sym same) (there b u at_b))
  where
    there : (a : ℕ) (t : TaskId) → running_by h a ≡ t ∷ [] → has_task (starts h a) t ≡ true
    there a t is = (of_without (starts h a) (ended h) t (ap (λ ts. has_task ts t) is ∙ grind (arith, same_task-self t))).0

-- a task that an actor runs is running
pub runs : (h : List Event) (a : ℕ) (t : TaskId) → running_by h a ≡ t ∷ [] → has_task (running h) t ≡ true
runs h a t is =
    let parts = of_without (starts h a) (ended h) t (ap (λ ts. has_task ts t) is ∙ grind (arith, same_task-self t)) in
    to_without (started h) (ended h) t (starts_started h a t parts.0) parts.1

-- No task of the actor behind posters and workers fires in a run.
use Rattle.std.proofs.Common.{inl, inr, ◌≡◌, ◌≤◌, ◌<◌, ℕ, ◌+◌, Bool, true, false, List, [], ◌∷◌, ◌++◌, length, refl, sym, arith, ap, subst}
use Rattle.std.specs.Prelude.{◌==◌}
use Rattle.std.proofs.lemmas.Bool.Decides.{nat_tests}
use Rattle.std.proofs.lemmas.Grind.{common_steps}
use Rattle.ccr_base.specs.declared.names.TaskId.{TaskId}
use Rattle.ccr_base.specs.Names.{has_task}
use Rattle.ccr_wiring.specs.declared.parts.Parts.{Parts}
use Rattle.ccr_wiring.specs.Valid.{IsValid}
use Rattle.ccr_wiring.proofs.Soundness.{sound}
use Rattle.ccr_model.specs.Firings.{fired}
use Rattle.ccr_model.specs.Order.{next_attempt}
use Rattle.ccr_base.proofs.Booleans.{same_number}
use Rattle.ccr_base.proofs.SameNames.{same_task-self}
use Rattle.ccr_actor.specs.Actors.{State, state_after}
use Rattle.ccr_runs.specs.declared.entries.Entry.{Entry}
use Rattle.ccr_runs.specs.EntryRuns.{Lacks, IsRun, IsRunAfter, replies_from, state_of}
use Rattle.ccr_runs.specs.Visible.{visible}
use Rattle.ccr_net.proofs.Kept.WholeInvariant.{Holds, IsBegun, begins}
use Rattle.ccr_net.proofs.Kept.ValidWiringsArePlain.{plain_facts}
use Rattle.ccr_net.proofs.Kept.RunsAreLegal.{visible_holds}

-- where all attempts of the actor are below a bound, so is the next one but for one
pub attempts_within : (actor bound : ℕ) (tasks : List TaskId) → ((t : TaskId) → t.actor ≡ actor → has_task tasks t ≡ true → t.attempt < bound) → next_attempt actor tasks ≤ bound
attempts_within actor bound [] low = omega arith
attempts_within actor bound (t ∷ ts) low = by (t.actor == actor) refl (attempts_within actor bound ts (λ u own is. low u own (let there : has_task ts u ≡ true = is in grind (arith, common_steps, there))))
  where
    by : (b : Bool) → (t.actor == actor) ≡ b → next_attempt actor ts ≤ bound → next_attempt actor (t ∷ ts) ≤ bound
    by true is more = let first : t.attempt < bound = low t (same_number t.actor actor is) (rw (same_task-self t) refl) in rw is (omega (arith, first, more))
    by false is more = rw is more

-- an actor behind those of a run has no entry, and so no reply
none_of : (w : Parts) (workers : ℕ) (lacks : Lacks) (past es : List Entry) → IsRunAfter w workers lacks past es → replies_from w (length w.posters + workers) past es ≡ []
none_of w workers lacks past [] run = refl
none_of w workers lacks past (e ∷ es) run = rw other (none_of w workers lacks (past ++ e ∷ []) es run.2)
  where
    other : (e.actor == length w.posters + workers) ≡ false
    other = let low = run.0 in grind (arith, nat_tests, low)

pub closers_start : (w : Parts) (workers : ℕ) (es : List Entry) → IsValid w → workers ≤ 16 → IsRun w workers es → next_attempt (length w.posters + workers) (fired (visible es)) ≤ 1
closers_start w workers es valid few run =
    attempts_within closer 1 (fired (visible es)) (λ t own is. low t ((holds.actors closer).claims.fired_below t own is))
  where
    closer : ℕ
    closer = length w.posters + workers

    holds : Holds w closer run.lacks es
    holds = visible_holds w workers (plain_facts w valid) (let posters = (sound w valid).small.posters in omega (arith, posters, few)) es run

    begun : IsBegun w closer (state_of w run.lacks es closer)
    begun = subst (λ given. IsBegun w closer (state_after w closer (run.lacks closer) given)) (sym (none_of w workers run.lacks [] es run.steps)) (begins w run.lacks closer)

    low : (t : TaskId) → t.attempt < (state_of w run.lacks es closer).attempt → t.attempt < 1
    low t below = by begun
      where
        by : IsBegun w closer (state_of w run.lacks es closer) → t.attempt < 1
        by (inl is) = let zero_so = ap (λ (s : State). s.attempt) is in omega (arith, below, zero_so)
        by (inr is) = let one_so = ap (λ (s : State). s.attempt) is in omega (arith, below, one_so)

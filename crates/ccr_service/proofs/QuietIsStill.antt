-- Without awaits a quiet history is still.
use Rattle.std.proofs.Common.{◌≡◌, ℕ, ◌+◌, ◌<◌, ◌≤◌, Bool, true, false, List, [], ◌∷◌, ◌++◌, length, Some, None, refl, sym, ap, ◌∙◌, arith, subst}
use Rattle.std.specs.Prelude.{◌==◌, if◌then◌else◌, option_map}
use Rattle.std.specs.List.{slice_get, list_all}
use Rattle.ccr_base.specs.declared.names.TaskId.{TaskId}
use Rattle.ccr_base.specs.Names.{same_task, has_task, without}
use Rattle.ccr_wiring.specs.declared.parts.Parts.{Parts}
use Rattle.ccr_wiring.specs.Wirings.{Placement, placement, branch_of, spots}
use Rattle.ccr_wiring.specs.Valid.{HasQueues}
use Rattle.ccr_model.specs.declared.history.Event.{Event}
use Rattle.ccr_model.specs.declared.history.Event.TheVariants.{Admit, Put}
use Rattle.ccr_model.specs.Firings.{Firing, firing_named, cut, ever_admitted, put, dropped, started, ended, last_segments}
use Rattle.ccr_model.specs.Sites.{root_of}
use Rattle.ccr_model.specs.TaskData.{placement_of}
use Rattle.ccr_model.specs.Tasks.{waiting, admitted, queued, running, is_for_queue, is_interleave, is_concurrent}
use Rattle.ccr_model.specs.Live.{is_none_of}
use Rattle.ccr_model.specs.Rules.{may_put, may_admit, drop_at, is_oldest_waiting, is_concurrent_task, needs_no_admission}
use Rattle.ccr_model.specs.Order.{first, post_from, fire_from, admit_from, put_first, run_task, start_from}
use Rattle.ccr_model.specs.Legal.{IsLegal, IsQuiet}
use Rattle.ccr_model.proofs.Allowing.{first_allowed, same_option-self}
use Rattle.ccr_base.proofs.Booleans.{both, no_both, or_left, or_right, refuted, same_number, eq-self}
use Rattle.ccr_model.proofs.QuietAllowsNone.{start_none, none_if_quiet}
use Rattle.ccr_base.proofs.Options.{none_or, none_map, no_head, some_of}
use Rattle.ccr_model.proofs.FiredTasks.{IsFired, placement_fired}
use Rattle.ccr_base.proofs.SameNames.{same_task-self}
use Rattle.ccr_model.specs.Interleaves.{is_placement_in}
use Rattle.ccr_model.proofs.TaskLists.{to_filter, to_without, not_more, no_members}
use Rattle.ccr_model.proofs.WhoWasPut.{placement_by, QueuedFacts-queued}
use Rattle.ccr_model.proofs.AllowedFirings.{BranchFacts-where, WaitingFacts-waiting}
use Rattle.ccr_model.proofs.Cutting.{CutFacts-legal}
use Rattle.ccr_model.proofs.Roots.{root_own, AdmittedFacts, AdmittedFacts-admitted, over_so}
use Rattle.ccr_model.proofs.Allowing.{OneName-legal}
use Rattle.ccr_service.specs.Stillness.{HasNoAwaits, IsStill}
use Rattle.ccr_service.proofs.NoAwaits.{at_branches, none_yields, ended_last, dropped_last}

-- what is left of `first` at the end
pub record AtEnd (w : Parts) (h : List Event) : Type 0 where
  pub fires : fire_from w (length w.posters) h (spots w) ≡ None
  pub runs : running h ≡ []
  pub starts : start_from w (length w.posters) h 0 w.queues ≡ None

pub AtEnd-quiet : (w : Parts) → length w.posters ≤ 32 → (h : List Event) → IsLegal w h → IsQuiet w h → AtEnd w h
AtEnd-quiet w few h legal quiet =
    let c : ℕ = length w.posters in
    let is = none_if_quiet w h quiet (first w c h) (first_allowed w c h (omega arith) few legal) in
    let a = none_or (post_from h 0 w.posters) _ is in
    let b = none_or (fire_from w c h (spots w)) _ a.1 in
    let d = none_or (admit_from w h 0 w.arbiters) _ b.1 in
    let e = none_or (put_first w h) _ d.1 in
    let f = none_or (option_map (run_task w h) (slice_get (running h) 0)) _ e.1 in
    record { fires = b.0; runs = no_head (running h) (none_map (run_task w h) (slice_get (running h) 0) f.0); starts = f.1 }

none_queued : (w : Parts) → HasQueues w → (h : List Event) → AtEnd w h → (q : ℕ) (t : TaskId) → has_task (queued w h q) t ≡ false
none_queued w fit h end q t = refuted (has_task (queued w h q) t) (λ is. gone is)
  where
    gone : has_task (queued w h q) t ≡ true → ⊥
    gone is =
        let facts = QueuedFacts-queued w h q t is in
        let its = some_of (λ (s : Placement). s.branch.queue == q) (placement_of w h t) facts.for_queue in
        let fired = placement_fired w h t its.0 its.1 in
        let seated : placement w (branch_of fired.0.spot) ≡ Some its.0 = sym (placement_by w h t fired.0 fired.1) ∙ its.1 in
        let lt = fit (branch_of fired.0.spot) its.0 seated in
        let same = same_number its.0.branch.queue q its.2 in
        let nothing : slice_get (queued w h (0 + q)) 0 ≡ None = start_none w (length w.posters) h 0 q w.queues end.starts (subst (λ n. n < length w.queues) same lt) in
        let e : 0 + q ≡ q = omega arith in
        let empty = no_head (queued w h q) (subst (λ i. slice_get (queued w h i) 0 ≡ None) e nothing) in
        let out : has_task (queued w h q) t ≡ false = rw empty refl in
        no_both is out

none_ready : (w : Parts) (h : List Event) → IsQuiet w h → (t : TaskId) → may_put w h t ≡ false
none_ready w h quiet t = refuted (may_put w h t) (λ is. quiet (Put t (drop_at w h t)) (rw (is, same_option-self (drop_at w h t)) refl))

-- the tests of the readiness of a task that fired and was let in
ready_so : (w : Parts) (h : List Event) (t : TaskId) (f : Firing) → firing_named h t ≡ Some f → has_task (put h) t ≡ false → has_task (cut h) t ≡ false → has_task (ever_admitted h) t ≡ true → may_put w h t ≡ true
ready_so w h t f found unput uncut entered = rw (unput, uncut, found, entered) (or_right (needs_no_admission w f.spot) true refl)

for_its : (w : Parts) (h : List Event) (t : TaskId) (s : Placement) → placement_of w h t ≡ Some s → is_for_queue w h s.branch.queue t ≡ true
for_its w h t s at = rw at (eq-self s.branch.queue)

-- each admitted root is over
none_lasts : (w : Parts) → HasQueues w → HasNoAwaits w → (h : List Event) → IsLegal w h → IsQuiet w h → AtEnd w h → (i : ℕ) → admitted w h i ≡ []
none_lasts w fit none h legal quiet end i = no_members (admitted w h i) (λ t is. gone t (AdmittedFacts-admitted w h i t is))
  where
    gone : (t : TaskId) → AdmittedFacts w h i t → ⊥
    gone t facts = by_put (has_task (put h) t) refl
      where
        its : (s : Placement) × (placement_of w h t ≡ Some s) × ((s.domain == i) ≡ true)
        its = some_of (λ (s : Placement). s.domain == i) (placement_of w h t) facts.within

        fired : IsFired h t
        fired = placement_fired w h t its.0 its.1

        uncut : has_task (cut h) t ≡ false
        uncut = refuted (has_task (cut h) t) (λ is. no_both facts.entered ((CutFacts-legal w h legal).not_ever_admitted t is))

        own : root_of h t ≡ t
        own = let branch = at_branches w none h legal t fired.0 fired.1 in root_own h t fired.0 branch.0 fired.1 branch.1

        last : has_task (last_segments h) t ≡ true → ⊥
        last is = no_both (over_so h t own is) facts.lasts

        by_started : (a b : Bool) → has_task (put h) t ≡ true → has_task (started h) t ≡ a → has_task (dropped h) t ≡ b → ⊥
        by_started a true was_put e d = last (dropped_last h t d)
        by_started true false was_put e d = by_ended (has_task (ended h) t) refl
          where
            by_ended : (b : Bool) → has_task (ended h) t ≡ b → ⊥
            by_ended true x = last (ended_last h t (none_yields w none h legal) x)
            by_ended false x =
                let here : has_task (running h) t ≡ true = to_without (started h) (ended h) t e x in
                let out : has_task (running h) t ≡ false = rw end.runs refl in
                no_both here out
        by_started false false was_put e d =
            let inner = to_without (put h) (started h ++ dropped h) t was_put (not_more (started h) (dropped h) t e d) in
            let here : is_for_queue w h its.0.branch.queue t ≡ true = for_its w h t its.0 its.1 in
            no_both (to_filter (is_for_queue w h its.0.branch.queue) (without (put h) (started h ++ dropped h)) t inner here) (none_queued w fit h end its.0.branch.queue t)

        by_put : (b : Bool) → has_task (put h) t ≡ b → ⊥
        by_put false e = no_both (ready_so w h t fired.0 fired.1 e uncut facts.entered) (none_ready w h quiet t)
        by_put true e = by_started (has_task (started h) t) (has_task (dropped h) t) e refl refl

-- nobody waits: the oldest could be admitted
none_waits : (w : Parts) (h : List Event) → IsLegal w h → IsQuiet w h → ((i : ℕ) → admitted w h i ≡ []) → (i : ℕ) → waiting w h i ≡ []
none_waits w h legal quiet over i = by_list (waiting w h i) refl
  where
    by_list : (ts : List TaskId) → waiting w h i ≡ ts → waiting w h i ≡ []
    by_list [] is = is
    by_list (t ∷ ts) is =
        let among : has_task (waiting w h i) t ≡ true = rw is (or_left (same_task t t) (has_task ts t) (same_task-self t)) in
        let facts = WaitingFacts-waiting w h i t (OneName-legal w h legal) among in
        let branch = BranchFacts-where w (is_placement_in i) facts.firing.spot facts.is_branch in
        let seated : placement_of w h t ≡ Some branch.placement = placement_by w h t facts.firing facts.is_firing ∙ ap (λ s. placement w (branch_of s)) branch.is_branch ∙ branch.is_placement in
        let number = same_number branch.placement.domain i (both (is_interleave branch.placement.kind) (branch.placement.domain == i) branch.passes).1 in
        let oldest : is_oldest_waiting w h t ≡ true = rw (seated, number, is) (same_task-self t) in
        let enters : may_admit w h t ≡ true = rw (seated, over branch.placement.domain) (free (is_concurrent branch.placement.branch.group)) in
        absurd (quiet (Admit t) (rw (oldest, enters) refl))
      where
        free : (b : Bool) → (if b then list_all (is_concurrent_task w h) [] else is_none_of []) ≡ true
        free true = refl
        free false = refl

pub still : (w : Parts) → HasQueues w → HasNoAwaits w → length w.posters ≤ 32 → (h : List Event) → IsLegal w h → IsQuiet w h → IsStill w h
still w fit none few h legal quiet =
    let end = AtEnd-quiet w few h legal quiet in
    let over = none_lasts w fit none h legal quiet end in
    record { waits = none_waits w h legal quiet over; ready = none_ready w h quiet; in_queues = none_queued w fit h end; runs = end.runs; lasts = over }

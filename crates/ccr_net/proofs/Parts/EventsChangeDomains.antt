-- Who waits in a domain of Interleaves after one more event, and who of its roots is left.
use Rattle.std.proofs.Common.{◌≡◌, ℕ, Bool, true, false, ◌||◌, List, [], ◌∷◌, ◌++◌, flat_map, Some, refl, sym, ap, ◌∙◌, subst, append-nil, append_assoc}
use Rattle.std.specs.Prelude.{◌==◌, if◌then◌else◌}
use Rattle.std.specs.List.{list_any}
use Rattle.std.specs.Option.{option_map_or, option_or}
use Rattle.ccr_base.specs.declared.names.MsgId.{MsgId}
use Rattle.ccr_base.specs.declared.names.Spot.{Spot}
use Rattle.ccr_base.specs.declared.names.TaskId.{TaskId}
use Rattle.ccr_base.specs.Names.{same_task, has_task, without}
use Rattle.ccr_wiring.specs.declared.parts.Parts.{Parts}
use Rattle.ccr_wiring.specs.Wirings.{Placement}
use Rattle.ccr_model.specs.declared.history.Event.{Event}
use Rattle.ccr_model.specs.declared.history.Event.TheVariants as events
use Rattle.ccr_model.specs.Firings.{Firing, firing_of, firings, fired, cut, ever_admitted, admitted_by, last_by, last_segments, spot_of}
use Rattle.ccr_model.specs.Sites.{root_of}
use Rattle.ccr_model.specs.Interleaves.{is_placement_in}
use Rattle.ccr_model.specs.Legal.{IsAllowed, IsLegal}
use Rattle.ccr_model.specs.Rules.{is_concurrent_task}
use Rattle.ccr_model.specs.Tasks.{is_branch_where, fired_by, waiting, admitted, is_over, is_of_domain}
use Rattle.ccr_model.proofs.Allowing.{OneName-legal}
use Rattle.ccr_model.proofs.ExclusiveRootsAreAlone.{over_stays, lasts_fired, ever_admitted_fired}
use Rattle.ccr_base.proofs.Booleans.{refuted, no_both, or_left, or_right}
use Rattle.ccr_base.proofs.Lists.{any_right}
use Rattle.ccr_model.proofs.Cutting.{cut_by, cut_fired, fired_by-fire, fired_by-same}
use Rattle.ccr_model.proofs.FiredTasks.{IsFired, fired_has, placement_stays}
use Rattle.ccr_model.proofs.AllowedFirings.{FiresSo-allowed}
use Rattle.ccr_model.proofs.OneMoreEvent.{firings-push, ever_admitted-push, cut-push, last-push}
use Rattle.ccr_model.proofs.Roots.{AdmittedFacts-admitted, admitted_whole}
use Rattle.ccr_base.proofs.SameNames.{same_task-is, same_task-self}
use Rattle.ccr_model.proofs.Stable.{spot_of-append}
use Rattle.ccr_model.proofs.TasksLeft.{without_both}
use Rattle.ccr_model.proofs.TaskLists.{without-append, not_more, not_within}

-- ---- where tasks fired

-- a firing's spot stays
pub spot_stays : (h es : List Event) (t : TaskId) (s : Spot) → spot_of h t ≡ Some s → spot_of (h ++ es) t ≡ Some s
spot_stays h es t s is = spot_of-append h es t ∙ ap (λ o. option_or o (spot_of es t)) is

-- whom a firing cuts had fired
pub cuts_fired : (w : Parts) (h : List Event) (t : TaskId) (s : Spot) (ms : List MsgId) (cs : List TaskId) → IsLegal w h → IsAllowed w h (events.Fire t s ms cs) → (u : TaskId) → has_task cs u ≡ true → IsFired h u
cuts_fired w h t s ms cs legal allowed u is = let waits = cut_by w h t s ms cs (OneName-legal w h legal) allowed u (subst (λ ts. has_task ts u ≡ true) (sym (append-nil cs)) is) in (waits.1.firing, waits.1.is_firing)

-- ---- who waits

pub waiting-same : (w : Parts) (h : List Event) (e : Event) (i : ℕ) → firing_of e ≡ [] → admitted_by e ≡ [] → waiting w (h ++ e ∷ []) i ≡ waiting w h i
waiting-same w h e i fires admits =
    let firing = fired_by-same w (is_placement_in i) h e fires in
    let entered : ever_admitted (h ++ e ∷ []) ≡ ever_admitted h = ever_admitted-push h e ∙ ap (λ ts. ever_admitted h ++ ts) admits ∙ append-nil (ever_admitted h) in
    let gone : cut (h ++ e ∷ []) ≡ cut h = ap (λ (fs : List Firing). flat_map (λ (f : Firing). f.cuts) fs) (firings-push h e ∙ ap (λ fs. firings h ++ fs) fires ∙ append-nil (firings h)) in
    ap (λ ts. without ts (ever_admitted (h ++ e ∷ []) ++ cut (h ++ e ∷ []))) firing ∙ ap (λ ts. without (fired_by w (is_placement_in i) h) (ts ++ cut (h ++ e ∷ []))) entered ∙ ap (λ ts. without (fired_by w (is_placement_in i) h) (ever_admitted h ++ ts)) gone

pub waiting-fire : (w : Parts) (h : List Event) (t : TaskId) (spot : Spot) (ms : List MsgId) (cs : List TaskId) (i : ℕ) → IsLegal w h → IsAllowed w h (events.Fire t spot ms cs) → waiting w (h ++ events.Fire t spot ms cs ∷ []) i ≡ without (waiting w h i) cs ++ (if is_branch_where w (is_placement_in i) spot then t ∷ [] else [])
waiting-fire w h t spot ms cs i legal allowed =
    ap (λ ts. without ts (ever_admitted after ++ cut after)) (fired_by-fire w (is_placement_in i) h t spot ms cs)
    ∙ ap (λ ts. without (old ++ new) (ts ++ cut after)) (ever_admitted-push h (events.Fire t spot ms cs) ∙ append-nil (ever_admitted h))
    ∙ ap (λ ts. without (old ++ new) (ever_admitted h ++ ts)) (cut-push h (events.Fire t spot ms cs) ∙ ap (λ ts. cut h ++ ts) (append-nil cs))
    ∙ ap (without (old ++ new)) (sym (append_assoc (ever_admitted h) (cut h) cs))
    ∙ without-append old new ((ever_admitted h ++ cut h) ++ cs)
    ∙ ap (λ ts. ts ++ without new ((ever_admitted h ++ cut h) ++ cs)) (without_both old (ever_admitted h ++ cut h) cs)
    ∙ ap (λ ts. without (waiting w h i) cs ++ ts) (by (is_branch_where w (is_placement_in i) spot))
  where
    after : List Event
    after = h ++ events.Fire t spot ms cs ∷ []

    old : List TaskId
    old = fired_by w (is_placement_in i) h

    new : List TaskId
    new = if is_branch_where w (is_placement_in i) spot then t ∷ [] else []

    fresh : has_task (fired h) t ≡ false
    fresh = (FiresSo-allowed w h t spot ms cs allowed).new_name

    out : has_task ((ever_admitted h ++ cut h) ++ cs) t ≡ false
    out = not_more (ever_admitted h ++ cut h) cs t (not_more (ever_admitted h) (cut h) t (not_within (ever_admitted h) (fired h) t (λ is. fired_has h t (ever_admitted_fired w h legal t is)) fresh) (not_within (cut h) (fired h) t (λ is. fired_has h t (cut_fired w h legal t is)) fresh)) (not_within cs (fired h) t (λ is. fired_has h t (cuts_fired w h t spot ms cs legal allowed t is)) fresh)

    by : (b : Bool) → without (if b then t ∷ [] else []) ((ever_admitted h ++ cut h) ++ cs) ≡ (if b then t ∷ [] else [])
    by true = rw out refl
    by false = refl

-- ---- whose root is left

-- where nobody is admitted, the roots that are left were left before
pub admitted_before : (w : Parts) (h : List Event) (e : Event) (i : ℕ) (t : TaskId) → IsLegal w h → has_task (ever_admitted h) t ≡ true → has_task (admitted w (h ++ e ∷ []) i) t ≡ true → has_task (admitted w h i) t ≡ true
admitted_before w h e i t legal entered is =
    let facts = AdmittedFacts-admitted w (h ++ e ∷ []) i t is in
    let stays = placement_stays w h (e ∷ []) t (ever_admitted_fired w h legal t entered) in
    let within : is_of_domain w h i t ≡ true = ap (λ o. option_map_or (λ (s : Placement). s.domain == i) o false) (sym stays) ∙ facts.within in
    admitted_whole w h i t entered within (refuted (is_over h t) (λ over. no_both (over_stays h e t (lasts_fired w h legal) over) facts.lasts))

pub concurrent_stays : (w : Parts) (h : List Event) (e : Event) (t : TaskId) → IsLegal w h → has_task (ever_admitted h) t ≡ true → is_concurrent_task w (h ++ e ∷ []) t ≡ is_concurrent_task w h t
concurrent_stays w h e t legal entered = rw (placement_stays w h (e ∷ []) t (ever_admitted_fired w h legal t entered)) refl

-- the last segment of a root: it is over then
pub over_now : (h : List Event) (e : Event) (t : TaskId) → has_task (last_by e) t ≡ true → is_over (h ++ e ∷ []) (root_of (h ++ e ∷ []) t) ≡ true
over_now h e t is = rw last-push (any_right (λ u. same_task (root_of (h ++ e ∷ []) u) (root_of (h ++ e ∷ []) t)) (last_segments h) (last_by e) (any_here (last_by e) is))
  where
    any_here : (ts : List TaskId) → has_task ts t ≡ true → list_any (λ u. same_task (root_of (h ++ e ∷ []) u) (root_of (h ++ e ∷ []) t)) ts ≡ true
    any_here [] now = absurd (cc)
    any_here (u ∷ ts) now = of_test (same_task t u) refl now (any_here ts)
      where
        of_test : (b : Bool) → same_task t u ≡ b → b || has_task ts t ≡ true → (has_task ts t ≡ true → list_any (λ v. same_task (root_of (h ++ e ∷ []) v) (root_of (h ++ e ∷ []) t)) ts ≡ true) → list_any (λ v. same_task (root_of (h ++ e ∷ []) v) (root_of (h ++ e ∷ []) t)) (u ∷ ts) ≡ true
        of_test true same at rest = or_left _ _ (ap (λ v. same_task (root_of (h ++ e ∷ []) v) (root_of (h ++ e ∷ []) t)) (sym (same_task-is t u same)) ∙ same_task-self (root_of (h ++ e ∷ []) t))
        of_test false same at rest = or_right _ _ (rest at)

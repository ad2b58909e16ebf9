-- In a quiet history of a steady wiring every task that fired has ended.
use Rattle.std.proofs.Common.{◌≡◌, ℕ, ◌+◌, ◌<◌, Bool, true, false, List, [], ◌∷◌, length, find, Option, Some, None, refl, sym, ◌∙◌, subst, arith}
use Rattle.std.specs.Prelude.{◌==◌, ◌&&◌, if◌then◌else◌, IfSome}
use Rattle.std.specs.List.{list_all}
use Rattle.std.specs.Option.{option_map_or}
use Rattle.std.proofs.lemmas.Bool.Decides.{nat_tests}
use Rattle.ccr_base.specs.declared.names.TaskId.{TaskId}
use Rattle.ccr_base.specs.declared.names.Spot.{Spot}
use Rattle.ccr_base.specs.declared.names.Spot.TheVariants.{Branch, Site}
use Rattle.ccr_base.specs.Names.{same_task, has_task}
use Rattle.ccr_wiring.specs.declared.parts.Parts.{Parts}
use Rattle.ccr_wiring.specs.Wirings.{Placement, placement, branch_of}
use Rattle.ccr_wiring.specs.Valid.{IsSound}
use Rattle.ccr_model.specs.declared.history.Event.{Event}
use Rattle.ccr_model.specs.declared.history.Event.TheVariants as events
use Rattle.ccr_model.specs.declared.history.TaskState.{TaskState}
use Rattle.ccr_model.specs.declared.history.TaskState.TheVariants as states
use Rattle.ccr_model.specs.Firings.{Firing, firings, firing_named, fired, ended, last_segments}
use Rattle.ccr_model.specs.Tasks.{waiting, queued, admitted, is_concurrent}
use Rattle.ccr_model.specs.TaskData.{placement_of}
use Rattle.ccr_model.specs.Rules.{may_put, may_admit, is_concurrent_task}
use Rattle.ccr_model.specs.Live.{is_none_of}
use Rattle.ccr_model.specs.Fates.{state_of}
use Rattle.ccr_model.specs.Order.{first, admit_first}
use Rattle.ccr_model.specs.Legal.{IsAllowed, IsLegal, IsQuiet}
use Rattle.ccr_model.proofs.Allowing.{first_allowed, OneName-legal}
use Rattle.ccr_model.proofs.ExclusiveRootsAreAlone.{ever_admitted_fired}
use Rattle.ccr_base.proofs.Booleans.{no_both}
use Rattle.ccr_model.proofs.Members.{found_among}
use Rattle.ccr_base.proofs.Options.{no_head, none_map}
use Rattle.ccr_model.proofs.PlacementDomains.{placement-within}
use Rattle.ccr_base.proofs.SameNames.{same_task-self}
use Rattle.ccr_laws.specs.OneFate.{IsIn, Waits, IsQueued}
use Rattle.ccr_model.proofs.AllowedFirings.{WaitingFacts-waiting}
use Rattle.ccr_model.proofs.Roots.{root_own, AdmittedFacts-admitted, over_so}
use Rattle.ccr_model.proofs.FiringPlacements.{firing_with_placement}
use Rattle.ccr_laws.proofs.States.{is_in, has_ended}
use Rattle.ccr_model.proofs.WhoWasPut.{QueuedFacts-queued, placement_by}
use Rattle.ccr_steady.specs.Flow.{IsSteady}
use Rattle.ccr_steady.proofs.Calm.{none_cut, none_dropped, are_over, at_branches}
use Rattle.ccr_model.proofs.QuietAllowsNone.{NoneFirst, NoneFirst-first, start_none, admit_none, found_fired, find_among}
use Rattle.ccr_model.proofs.TaskLists.{no_members}

-- nothing comes first after a quiet history
pub quiet_none : (w : Parts) → IsSound w → (h : List Event) → IsLegal w h → IsQuiet w h → NoneFirst w (length w.posters) h
quiet_none w sound h legal quiet =
    let few = sound.small.posters in
    NoneFirst-first w (length w.posters) h (by (first w (length w.posters) h) (first_allowed w (length w.posters) h (omega arith) (omega (arith, few)) legal))
  where
    by : (o : Option Event) → IfSome o (IsAllowed w h) → o ≡ None
    by None some = refl
    by (Some e) some = absurd (quiet e some)

none_queued : (w : Parts) → IsSound w → (h : List Event) → NoneFirst w (length w.posters) h → (t : TaskId) → IsQueued w h t → ⊥
none_queued w sound h none t is =
    let facts = QueuedFacts-queued w h is.queue t is.among in
    let its = Rattle.ccr_base.proofs.Options.some_of (λ (s : Placement). s.branch.queue == is.queue) (placement_of w h t) facts.for_queue in
    let placed = Rattle.ccr_base.proofs.Options.some_then (λ spot. placement w (branch_of spot)) (Rattle.ccr_model.specs.Firings.spot_of h t) its.0 its.1 in
    let below = sound.queues (branch_of placed.0) its.0 placed.2 in
    let same : its.0.branch.queue ≡ is.queue = grind (arith, nat_tests, its.2) in
    let nothing = start_none w (length w.posters) h 0 its.0.branch.queue w.queues none.start below in
    let empty : queued w h (0 + its.0.branch.queue) ≡ [] = no_head _ nothing in
    let number : 0 + its.0.branch.queue ≡ is.queue = omega (arith, same) in
    let gone : queued w h is.queue ≡ [] = subst (λ (q : ℕ). queued w h q ≡ []) number empty in
    let there : has_task [] t ≡ true = subst (λ (ts : List TaskId). has_task ts t ≡ true) gone is.among in
    absurd cc

-- a task that fired and does not wait has ended
settled : (w : Parts) → IsSound w → IsSteady w → (h : List Event) → IsLegal w h → NoneFirst w (length w.posters) h → (t : TaskId) (f : Firing) → firing_named h t ≡ Some f → (Waits w h t → ⊥) → has_task (ended h) t ≡ true
settled w sound steady h legal none t f found waits =
    let r = firing_with_placement w h legal f (found_among (λ (g : Firing). same_task g.task t) (firings h) f found) in
    by (state_of w h t) (is_in w h t f r.0 found r.1)
  where
    by : (state : TaskState) → IsIn w h t state → has_task (ended h) t ≡ true
    by states.Waiting is = absurd (waits is)
    by states.Cut is = let there : has_task [] t ≡ true = subst (λ (ts : List TaskId). has_task ts t ≡ true) (none_cut w steady h legal) is in absurd cc
    by states.Ready is = absurd (find_among (may_put w h) (fired h) t (found_fired (firings h) t f found) is (none_map _ (find (may_put w h) (fired h)) none.put_next))
    by states.Queued is = absurd (none_queued w sound h none t is)
    by states.Dropped is = let there : has_task [] t ≡ true = subst (λ (ts : List TaskId). has_task ts t ≡ true) (none_dropped w steady h legal) is in absurd cc
    by states.Running is = let there : has_task [] t ≡ true = subst (λ (ts : List TaskId). has_task ts t ≡ true) none.run is in absurd cc
    by (states.Ended how) is = has_ended h t how is

-- no Interleave has an admitted root that isn't over
none_admitted : (w : Parts) → IsSound w → IsSteady w → (h : List Event) → IsLegal w h → NoneFirst w (length w.posters) h → (i : ℕ) (t : TaskId) → has_task (admitted w h i) t ≡ true → ⊥
none_admitted w sound steady h legal none i t is =
    let facts = AdmittedFacts-admitted w h i t is in
    let firing = ever_admitted_fired w h legal t facts.entered in
    let done = settled w sound steady h legal none t firing.0 firing.1 (λ waits. no_both facts.entered (WaitingFacts-waiting w h waits.interleave t (OneName-legal w h legal) waits.among).not_ever_admitted) in
    let spot = at_branches w steady h legal firing.0 (found_among (λ (g : Firing). same_task g.task t) (firings h) firing.0 firing.1) in
    let root = root_own h t firing.0 spot.0 firing.1 spot.2 in
    let last : has_task (last_segments h) t ≡ true = subst (λ (ts : List TaskId). has_task ts t ≡ true) (sym (are_over w steady h legal)) done in
    no_both (over_so h t root last) facts.lasts

none_waits : (w : Parts) → IsSound w → IsSteady w → (h : List Event) → IsLegal w h → NoneFirst w (length w.posters) h → (t : TaskId) → Waits w h t → ⊥
none_waits w sound steady h legal none t waits = by (waiting w h waits.interleave) refl waits.among
  where
    enter : (u : TaskId) → has_task (waiting w h waits.interleave) u ≡ true → admit_first w h (waiting w h waits.interleave) ≡ None × (may_admit w h u ≡ true)
    enter u among =
        let facts = WaitingFacts-waiting w h waits.interleave u (OneName-legal w h legal) among in
        let seated = firing_with_placement w h legal facts.firing (found_among (λ (g : Firing). same_task g.task u) (firings h) facts.firing facts.is_firing) in
        let placed : placement_of w h u ≡ Some seated.0 = placement_by w h u facts.firing facts.is_firing ∙ seated.1 in
        let its = at_interleave facts.firing.spot seated.0 seated.1 facts.is_branch in
        let empty = no_members (admitted w h seated.0.domain) (none_admitted w sound steady h legal none seated.0.domain) in
        let inside : seated.0.domain < length w.arbiters = placement-within w (branch_of facts.firing.spot) seated.0 seated.1 in
        let zero_more : 0 + seated.0.domain ≡ seated.0.domain = omega arith in
        let first_none = subst (λ (i : ℕ). admit_first w h (waiting w h i) ≡ None) zero_more (admit_none w h 0 seated.0.domain w.arbiters none.admit inside) in
        (subst (λ (i : ℕ). admit_first w h (waiting w h i) ≡ None) its first_none, may u seated.0 placed empty)
      where
        may : (u : TaskId) (s : Placement) → placement_of w h u ≡ Some s → admitted w h s.domain ≡ [] → may_admit w h u ≡ true
        may u s placed empty = rw (placed, empty) (either_way (is_concurrent s.branch.group))
          where
            either_way : (b : Bool) → (if b then list_all (is_concurrent_task w h) [] else is_none_of []) ≡ true
            either_way true = refl
            either_way false = refl

        at_interleave : (spot : Spot) (s : Placement) → placement w (branch_of spot) ≡ Some s → Rattle.ccr_model.specs.Tasks.is_branch_where w (λ (r : Placement). Rattle.ccr_model.specs.Tasks.is_interleave r.kind && (r.domain == waits.interleave)) spot ≡ true → s.domain ≡ waits.interleave
        at_interleave (Site b k) s known is = absurd cc
        at_interleave (Branch b) s known is =
            let so : Rattle.ccr_model.specs.Tasks.is_interleave s.kind && (s.domain == waits.interleave) ≡ true = subst (λ (o : Option Placement). option_map_or (λ (r : Placement). Rattle.ccr_model.specs.Tasks.is_interleave r.kind && (r.domain == waits.interleave)) o false ≡ true) known is in
            Rattle.ccr_base.proofs.Booleans.same_number s.domain waits.interleave (Rattle.ccr_base.proofs.Booleans.both (Rattle.ccr_model.specs.Tasks.is_interleave s.kind) (s.domain == waits.interleave) so).1

    by : (ts : List TaskId) → waiting w h waits.interleave ≡ ts → has_task ts t ≡ true → ⊥
    by [] e among = absurd cc
    by (u ∷ ts) e among =
        let head : has_task (waiting w h waits.interleave) u ≡ true = subst (λ (us : List TaskId). has_task us u ≡ true) (sym e) (rw (same_task-self u) refl) in
        let facts = enter u head in
        let stuck : admit_first w h (u ∷ ts) ≡ None = subst (λ (us : List TaskId). admit_first w h us ≡ None) e facts.0 in
        let moves : (if may_admit w h u then Some (events.Admit u) else None) ≡ None = stuck in
        let goes : Some (events.Admit u) ≡ None = subst (λ (b : Bool). (if b then Some (events.Admit u) else None) ≡ None) facts.1 moves in
        absurd (cc)

-- every task that fired has ended
pub all_ended : (w : Parts) → IsSound w → IsSteady w → (h : List Event) → IsLegal w h → IsQuiet w h → (t : TaskId) (f : Firing) → firing_named h t ≡ Some f → has_task (ended h) t ≡ true
all_ended w sound steady h legal quiet t f found =
    let none = quiet_none w sound h legal quiet in
    settled w sound steady h legal none t f found (none_waits w sound steady h legal none t)

-- A domain that can admit no task can admit none after an event that does not touch it.
use Rattle.std.proofs.Common.{◌≡◌, ◌∙◌, ℕ, Bool, true, false, not, ◌&&◌, ◌||◌, List, [], ◌∷◌, ◌++◌, map, filter, Option, None, Some, refl, ap, sym, subst, arith, append-nil}
use Rattle.std.specs.Prelude.{◌==◌, if◌then◌else◌}
use Rattle.std.specs.List.{list_any, list_all}
use Rattle.std.specs.Option.{option_map_or}
use Rattle.std.proofs.Math.Bool.{or-false}
use Rattle.std.proofs.lemmas.Bool.Decides.{nat_tests}
use Rattle.std.proofs.lemmas.List.Elements.{filter-append}
use Rattle.ccr_base.specs.declared.names.TaskId.{TaskId}
use Rattle.ccr_base.specs.declared.names.Spot.{Spot}
use Rattle.ccr_base.specs.declared.names.Spot.TheVariants.{Branch, Site}
use Rattle.ccr_base.specs.Names.{same_task, has_task, without}
use Rattle.ccr_wiring.specs.declared.parts.Parts.{Parts}
use Rattle.ccr_wiring.specs.Wirings.{Placement, placement, branch_of}
use Rattle.ccr_model.specs.declared.history.Event.{Event}
use Rattle.ccr_model.specs.declared.history.Event.TheVariants.{Post, Fire, Admit, Put, Start, End}
use Rattle.ccr_model.specs.declared.history.EndHow.{EndHow}
use Rattle.ccr_model.specs.declared.history.EndHow.TheVariants.{Done, Failed, Yield, Shed}
use Rattle.ccr_model.specs.Firings.{Firing, cut, ever_admitted, admitted_by, last_by}
use Rattle.ccr_model.specs.Interleaves.{is_placement_in}
use Rattle.ccr_model.specs.Live.{is_none_of}
use Rattle.ccr_model.specs.Order.{admit_first}
use Rattle.ccr_model.specs.Rules.{cuts_at, is_first, is_oldest_waiting, is_concurrent_task, may_admit}
use Rattle.ccr_model.specs.Sites.{root_of}
use Rattle.ccr_model.specs.TaskData.{placement_of}
use Rattle.ccr_model.specs.Tasks.{is_interleave, is_teardown, is_concurrent, is_branch_where, fired_by, waiting, is_over, is_of_domain, admitted}
use Rattle.ccr_model.specs.Legal.{IsAllowed, IsLegal}
use Rattle.ccr_model.proofs.Allowing.{OneName-legal}
use Rattle.ccr_model.proofs.ExclusiveRootsAreAlone.{ever_admitted_fired}
use Rattle.ccr_base.proofs.Booleans.{both, neither, refuted, no_both, or_left, or_right, and_false, same_number, eq-self, eq_turned}
use Rattle.ccr_model.proofs.Cutting.{fired_by-append}
use Rattle.ccr_model.proofs.Ending.{RunningFacts-allowed}
use Rattle.ccr_model.proofs.FiredTasks.{IsFired, placement_fired, placement_stays}
use Rattle.ccr_model.proofs.AllowedFirings.{FiresSo-allowed, WaitingFacts-waiting, BranchFacts-where}
use Rattle.ccr_base.proofs.Options.{some_of}
use Rattle.ccr_model.proofs.PostNames.{refused_not}
use Rattle.ccr_model.proofs.OneMoreEvent.{ever_admitted-push, cut-push}
use Rattle.ccr_model.proofs.Roots.{placement_of_root}
use Rattle.ccr_base.proofs.SameNames.{same_task-is, same_task-self, has_task-append}
use Rattle.ccr_model.proofs.TasksLeft.{filter_on, of_filter}
use Rattle.ccr_model.proofs.TaskLists.{to_without, first_rest, has_oldest, of_one}
use Rattle.ccr_model.proofs.WhoWasPut.{ArePlaced-legal, placement_by, new_drop}
use Rattle.ccr_ledger.proofs.Admissions.{over-other, over-last}
use Rattle.ccr_engine.specs.Cursor.{admission}
use Rattle.ccr_engine.specs.Touched.{fires_for, touches_domain}

-- over plain lists: more go, none of whom was left
without_more : (ts a more b others : List TaskId) → ((u : TaskId) → has_task (without ts (a ++ b)) u ≡ true → has_task more u || has_task others u ≡ false) → without ts ((a ++ more) ++ (b ++ others)) ≡ without ts (a ++ b)
without_more ts a more b others out = filter_on (λ u. not (has_task ((a ++ more) ++ (b ++ others)) u)) (λ u. not (has_task (a ++ b) u)) ts (λ u among. ap not (gone u among))
  where
    of_tests : (x y z v : Bool) → (x || z ≡ false → y || v ≡ false) → (x || y) || (z || v) ≡ x || z
    of_tests true y z v none = refl
    of_tests false true true v none = refl
    of_tests false false true v none = refl
    of_tests false true false v none = absurd (let some = none refl in cc)
    of_tests false false false v none = none refl

    gone : (u : TaskId) → has_task ts u ≡ true → has_task ((a ++ more) ++ (b ++ others)) u ≡ has_task (a ++ b) u
    gone u among =
        rw (has_task-append (a ++ more) (b ++ others) u, has_task-append a more u, has_task-append b others u, has_task-append a b u)
        (of_tests (has_task a u) (has_task more u) (has_task b u) (has_task others u) (λ none. out u (to_without ts (a ++ b) u among (has_task-append a b u ∙ none))))

-- a test that agrees on the members
all_on : (p q : TaskId → Bool) (ts : List TaskId) → ((u : TaskId) → has_task ts u ≡ true → p u ≡ q u) → list_all p ts ≡ list_all q ts
all_on p q [] same = refl
all_on p q (x ∷ ts) same = rw (same x (or_left (same_task x x) (has_task ts x) (same_task-self x)), all_on p q ts (λ u is. same u (or_right (same_task u x) (has_task ts u) is))) refl

-- a placement is of one domain
one_domain : (o : Option Placement) (i j : ℕ) → option_map_or (λ (s : Placement). s.domain == i) o false ≡ true → option_map_or (λ (s : Placement). s.domain == j) o false ≡ true → i ≡ j
one_domain None i j here there = absurd (cc)
one_domain (Some s) i j here there = sym (same_number s.domain i here) ∙ same_number s.domain j there

-- the event lets nobody more wait in a domain at whose branches it does not fire
none_comes : (w : Parts) (e : Event) (d : ℕ) → fires_for w e d ≡ false → fired_by w (is_placement_in d) (e ∷ []) ≡ []
none_comes w (Post m) d none = refl
none_comes w (Admit t) d none = refl
none_comes w (Put t x) d none = refl
none_comes w (Start t a) d none = refl
none_comes w (End t how) d none = refl
none_comes w (Fire t (Site n k) ms cs) d none = refl
none_comes w (Fire t (Branch n) ms cs) d none = of_placement (placement w n) none
  where
    of_placement : (o : Option Placement) → option_map_or (λ (s : Placement). d == s.domain) o false ≡ false → map (λ (f : Firing). f.task) (if option_map_or (is_placement_in d) o false then record { task = t; spot = Branch n; messages = ms; cuts = cs } ∷ [] else []) ≡ []
    of_placement None none = refl
    of_placement (Some s) none = rw (eq_turned d s.domain none, and_false (is_interleave s.kind)) refl

module _ (w : Parts) (h : List Event) (legal : IsLegal w h) where
  -- who waits in a domain fired, and is of it
  waits_within : (d : ℕ) (u : TaskId) → has_task (waiting w h d) u ≡ true → IsFired h u × (is_of_domain w h d u ≡ true)
  waits_within d u waits =
      let facts = WaitingFacts-waiting w h d u (OneName-legal w h legal) waits in
      let branch = BranchFacts-where w (is_placement_in d) facts.firing.spot facts.is_branch in
      let placed : placement_of w h u ≡ Some branch.placement = placement_by w h u facts.firing facts.is_firing ∙ (ap (λ s. placement w (branch_of s)) branch.is_branch ∙ branch.is_placement) in
      ((facts.firing, facts.is_firing), ap (λ o. option_map_or (λ (s : Placement). s.domain == d) o false) placed ∙ (both (is_interleave branch.placement.kind) (branch.placement.domain == d) branch.passes).1)

  -- whom the event cuts does not wait in a domain at whose branches it does not fire
  none_cut : (e : Event) (d : ℕ) → IsAllowed w h e → fires_for w e d ≡ false → (u : TaskId) → has_task (waiting w h d) u ≡ true → has_task (cut (e ∷ [])) u ≡ false
  none_cut (Post m) d allowed none u waits = refl
  none_cut (Admit t) d allowed none u waits = refl
  none_cut (Put t x) d allowed none u waits = refl
  none_cut (Start t a) d allowed none u waits = refl
  none_cut (End t how) d allowed none u waits = refl
  none_cut (Fire t spot ms cs) d allowed none u waits = ap (λ ts. has_task ts u) (append-nil cs ∙ (FiresSo-allowed w h t spot ms cs allowed).cuts) ∙ of_spot spot none
    where
      of_test : (a : ℕ) → (d == a) ≡ false → (tears : Bool) → has_task (if tears then waiting w h a else []) u ≡ false
      of_test a other false = refl
      of_test a other true = refuted (has_task (waiting w h a) u) (λ there. no_both (subst (λ k. (d == k) ≡ true) (one_domain (placement_of w h u) d a (waits_within d u waits).1 (waits_within a u there).1) (eq-self d)) other)

      of_placement : (o : Option Placement) → option_map_or (λ (s : Placement). d == s.domain) o false ≡ false → has_task (option_map_or (λ (s : Placement). if is_teardown s.branch.group then waiting w h s.domain else []) o []) u ≡ false
      of_placement None none = refl
      of_placement (Some s) none = of_test s.domain none (is_teardown s.branch.group)

      of_spot : (spot : Spot) → is_branch_where w (λ s. d == s.domain) spot ≡ false → has_task (cuts_at w h spot) u ≡ false
      of_spot (Site n k) none = refl
      of_spot (Branch n) none = of_placement (placement w n) none

  -- whom the event admits is of no domain that could admit none
  none_admitted : (e : Event) (d : ℕ) → IsAllowed w h e → admission w h d ≡ None → (t : TaskId) → has_task (admitted_by e) t ≡ true → is_of_domain w h d t ≡ false
  none_admitted (Post m) d allowed was t among = absurd (cc)
  none_admitted (Fire x s ms cs) d allowed was t among = absurd (cc)
  none_admitted (Put x y) d allowed was t among = absurd (cc)
  none_admitted (Start x a) d allowed was t among = absurd (cc)
  none_admitted (End x how) d allowed was t among = absurd (cc)
  none_admitted (Admit x) d allowed was t among = subst (λ u. is_of_domain w h d u ≡ false) (sym (of_one x t among)) (refuted (is_of_domain w h d x) admits)
    where
      admits : is_of_domain w h d x ≡ true → ⊥
      admits within =
          let rules = refused_not (is_oldest_waiting w h x) _ _ allowed in
          let may = (refused_not (may_admit w h x) _ None rules.1).0 in
          let found = some_of (λ (s : Placement). is_first (waiting w h s.domain) x) (placement_of w h x) rules.0 in
          let head = first_rest (waiting w h found.0.domain) x found.2 in
          let own : found.0.domain ≡ d = one_domain (placement_of w h x) found.0.domain d (ap (λ o. option_map_or (λ (s : Placement). s.domain == found.0.domain) o false) found.1 ∙ eq-self found.0.domain) within in
          let shut : admit_first w h (x ∷ head.0) ≡ None = sym (ap (admit_first w h) head.1) ∙ subst (λ k. admission w h k ≡ None) (sym own) was in
          let opens : Some (Admit x) ≡ None = sym (ap (λ b. if b then Some (Admit x) else None) may) ∙ shut in
          cc

  -- the domain of a task that fired stays
  within_same : (e : Event) (d : ℕ) (u : TaskId) → IsFired h u → is_of_domain w (h ++ e ∷ []) d u ≡ is_of_domain w h d u
  within_same e d u fired = ap (λ o. option_map_or (λ (s : Placement). s.domain == d) o false) (placement_stays w h (e ∷ []) u fired)

  -- by a task of another domain no root of the domain is over
  over_last : (e : Event) (d : ℕ) (x : TaskId) → last_by e ≡ x ∷ [] → IsFired h x → is_of_domain w h d x || false ≡ false → (u : TaskId) → is_of_domain w h d u ≡ true → is_over (h ++ e ∷ []) u ≡ is_over h u
  over_last e d x last fired out u within = over-last w h legal e x u last fired ∙ (ap (λ b. is_over h u || b) (refuted (same_task (root_of h x) u) root) ∙ or-false (is_over h u))
    where
      root : same_task (root_of h x) u ≡ true → ⊥
      root same =
          let here : is_of_domain w h d (root_of h x) ≡ true = subst (λ v. is_of_domain w h d v ≡ true) (sym (same_task-is (root_of h x) u same)) within in
          no_both (ap (λ o. option_map_or (λ (s : Placement). s.domain == d) o false) (sym (placement_of_root w h legal x fired)) ∙ here) (neither (is_of_domain w h d x) false out).0

  -- who ends fired
  ended_fired : (t : TaskId) (how : EndHow) → IsAllowed w h (End t how) → IsFired h t
  ended_fired t how allowed = let placed = ArePlaced-legal w h legal in placed.all_fired t (placed.lists.put_started t (RunningFacts-allowed w h t how allowed).started_so)

  -- the roots of the domain that are over are as they were
  over_same : (e : Event) (d : ℕ) → IsAllowed w h e → list_any (is_of_domain w h d) (last_by e) ≡ false → (u : TaskId) → is_of_domain w h d u ≡ true → is_over (h ++ e ∷ []) u ≡ is_over h u
  over_same (Post m) d allowed none u within = over-other w h legal (Post m) u refl
  over_same (Fire t s ms cs) d allowed none u within = over-other w h legal (Fire t s ms cs) u refl
  over_same (Admit t) d allowed none u within = over-other w h legal (Admit t) u refl
  over_same (Start t a) d allowed none u within = over-other w h legal (Start t a) u refl
  over_same (Put t None) d allowed none u within = over-other w h legal (Put t None) u refl
  over_same (Put t (Some x)) d allowed none u within = over_last (Put t (Some x)) d x refl ((ArePlaced-legal w h legal).all_fired x (new_drop w h (Put t (Some x)) x allowed (or_left (same_task x x) false (same_task-self x))).1.put_so) none u within
  over_same (End t Yield) d allowed none u within = over-other w h legal (End t Yield) u refl
  over_same (End t Done) d allowed none u within = over_last (End t Done) d t refl (ended_fired t Done allowed) none u within
  over_same (End t (Failed v)) d allowed none u within = over_last (End t (Failed v)) d t refl (ended_fired t (Failed v) allowed) none u within
  over_same (End t Shed) d allowed none u within = over_last (End t Shed) d t refl (ended_fired t Shed allowed) none u within

  -- the event admits nobody to the domain
  none_enters : (e : Event) (d : ℕ) → IsAllowed w h e → ((t : TaskId) → has_task (admitted_by e) t ≡ true → is_of_domain w h d t ≡ false) → filter (λ u. is_of_domain w (h ++ e ∷ []) d u && not (is_over (h ++ e ∷ []) u)) (admitted_by e) ≡ []
  none_enters (Post m) d allowed others = refl
  none_enters (Fire t s ms cs) d allowed others = refl
  none_enters (Put t x) d allowed others = refl
  none_enters (Start t a) d allowed others = refl
  none_enters (End t how) d allowed others = refl
  none_enters (Admit t) d allowed others =
      let found = some_of (λ (s : Placement). is_first (waiting w h s.domain) t) (placement_of w h t) (refused_not (is_oldest_waiting w h t) _ _ allowed).0 in
      let out : is_of_domain w (h ++ Admit t ∷ []) d t ≡ false = within_same (Admit t) d t (placement_fired w h t found.0 found.1) ∙ others t (or_left (same_task t t) false (same_task-self t)) in
      rw out refl

  module _ (e : Event) (allowed : IsAllowed w h e) (d : ℕ) (others : (t : TaskId) → has_task (admitted_by e) t ≡ true → is_of_domain w h d t ≡ false) (lasts : list_any (is_of_domain w h d) (last_by e) ≡ false) where
    -- the same tasks wait
    waits_same : fires_for w e d ≡ false → waiting w (h ++ e ∷ []) d ≡ waiting w h d
    waits_same none =
        rw (fired_by-append w (is_placement_in d) h (e ∷ []), ever_admitted-push h e, cut-push h e, none_comes w e d none, append-nil (fired_by w (is_placement_in d) h))
        (without_more (fired_by w (is_placement_in d) h) (ever_admitted h) (admitted_by e) (cut h) (cut (e ∷ [])) stays)
      where
        stays : (u : TaskId) → has_task (waiting w h d) u ≡ true → has_task (admitted_by e) u || has_task (cut (e ∷ [])) u ≡ false
        stays u waits =
            let unadmitted : has_task (admitted_by e) u ≡ false = refuted (has_task (admitted_by e) u) (λ is. no_both (waits_within d u waits).1 (others u is)) in
            rw unadmitted (none_cut e d allowed none u waits)

    -- the same roots are admitted to the domain and not over
    admitted_same : admitted w (h ++ e ∷ []) d ≡ admitted w h d
    admitted_same =
        ap (λ ts. filter now ts) (ever_admitted-push h e)
        ∙ (filter-append now (ever_admitted h) (admitted_by e)
        ∙ (ap (λ ts. filter now (ever_admitted h) ++ ts) (none_enters e d allowed others)
        ∙ (append-nil (filter now (ever_admitted h))
        ∙ filter_on now (λ u. is_of_domain w h d u && not (is_over h u)) (ever_admitted h) (λ u among. passes u (ever_admitted_fired w h legal u among)))))
      where
        now : TaskId → Bool
        now u = is_of_domain w (h ++ e ∷ []) d u && not (is_over (h ++ e ∷ []) u)

        of_test : (u : TaskId) (b : Bool) → is_of_domain w h d u ≡ b → b && not (is_over (h ++ e ∷ []) u) ≡ b && not (is_over h u)
        of_test u false within = refl
        of_test u true within = ap not (over_same e d allowed lasts u within)

        passes : (u : TaskId) → IsFired h u → now u ≡ is_of_domain w h d u && not (is_over h u)
        passes u fired = ap (λ b. b && not (is_over (h ++ e ∷ []) u)) (within_same e d u fired) ∙ of_test u (is_of_domain w h d u) refl

    -- who waits there may be admitted as before
    may_same : (t : TaskId) → has_task (waiting w h d) t ≡ true → may_admit w (h ++ e ∷ []) t ≡ may_admit w h t
    may_same t waits =
        ap (λ o. option_map_or (λ (s : Placement). if is_concurrent s.branch.group then list_all (is_concurrent_task w (h ++ e ∷ [])) (admitted w (h ++ e ∷ []) s.domain) else is_none_of (admitted w (h ++ e ∷ []) s.domain)) o false) (placement_stays w h (e ∷ []) t (waits_within d t waits).0)
        ∙ of_placement (placement_of w h t) (waits_within d t waits).1
      where
        all_same : list_all (is_concurrent_task w (h ++ e ∷ [])) (admitted w h d) ≡ list_all (is_concurrent_task w h) (admitted w h d)
        all_same = all_on (is_concurrent_task w (h ++ e ∷ [])) (is_concurrent_task w h) (admitted w h d) (λ u among.
            ap (λ o. option_map_or (λ (s : Placement). is_concurrent s.branch.group) o false) (placement_stays w h (e ∷ []) u (ever_admitted_fired w h legal u (of_filter (λ v. is_of_domain w h d v && not (is_over h v)) (ever_admitted h) u among).0)))

        of_test : (c : Bool) → (if c then list_all (is_concurrent_task w (h ++ e ∷ [])) (admitted w (h ++ e ∷ []) d) else is_none_of (admitted w (h ++ e ∷ []) d)) ≡ (if c then list_all (is_concurrent_task w h) (admitted w h d) else is_none_of (admitted w h d))
        of_test true = ap (λ ts. list_all (is_concurrent_task w (h ++ e ∷ [])) ts) admitted_same ∙ all_same
        of_test false = ap is_none_of admitted_same

        of_domain : (c : Bool) (a : ℕ) → a ≡ d → (if c then list_all (is_concurrent_task w (h ++ e ∷ [])) (admitted w (h ++ e ∷ []) a) else is_none_of (admitted w (h ++ e ∷ []) a)) ≡ (if c then list_all (is_concurrent_task w h) (admitted w h a) else is_none_of (admitted w h a))
        of_domain c a same = rw same (of_test c)

        of_placement : (o : Option Placement) → option_map_or (λ (s : Placement). s.domain == d) o false ≡ true → option_map_or (λ (s : Placement). if is_concurrent s.branch.group then list_all (is_concurrent_task w (h ++ e ∷ [])) (admitted w (h ++ e ∷ []) s.domain) else is_none_of (admitted w (h ++ e ∷ []) s.domain)) o false ≡ option_map_or (λ (s : Placement). if is_concurrent s.branch.group then list_all (is_concurrent_task w h) (admitted w h s.domain) else is_none_of (admitted w h s.domain)) o false
        of_placement None within = absurd (cc)
        of_placement (Some s) within = of_domain (is_concurrent s.branch.group) s.domain (same_number s.domain d within)

    -- none of them is admitted first, as before
    first_same : admit_first w h (waiting w h d) ≡ None → admit_first w (h ++ e ∷ []) (waiting w h d) ≡ None
    first_same was = of_list (waiting w h d) refl was
      where
        of_list : (ts : List TaskId) → waiting w h d ≡ ts → admit_first w h ts ≡ None → admit_first w (h ++ e ∷ []) ts ≡ None
        of_list [] at was = refl
        of_list (t ∷ ts) at was = rw (may_same t (has_oldest (waiting w h d) ts t at)) was

  -- a domain that can admit no task cannot after an event that does not touch it
  pub admission_stays : (e : Event) (d : ℕ) → IsAllowed w h e → touches_domain w h e d ≡ false → admission w h d ≡ None → admission w (h ++ e ∷ []) d ≡ None
  admission_stays e d allowed none was =
      let outs = neither (fires_for w e d) (list_any (is_of_domain w h d) (last_by e)) none in
      let others = none_admitted e d allowed was in
      ap (admit_first w (h ++ e ∷ [])) (waits_same e allowed d others outs.1 outs.0) ∙ first_same e allowed d others outs.1 was

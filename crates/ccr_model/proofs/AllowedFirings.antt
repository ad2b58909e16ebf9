-- What an allowed firing says, and who fired where.
use Rattle.std.proofs.Common.{◌≡◌, ℕ, Bool, true, false, not, ◌||◌, List, [], ◌∷◌, ◌++◌, map, filter, Some, None, inl, inr, refl, sym, ap, ◌∙◌, subst, append-nil}
use Rattle.std.specs.Prelude.{◌==◌, if◌then◌else◌, find, nat_le}
use Rattle.ccr_base.specs.declared.names.TaskId.{TaskId}
use Rattle.ccr_base.specs.declared.names.MsgId.{MsgId}
use Rattle.ccr_base.specs.declared.names.Spot.{Spot}
use Rattle.ccr_base.specs.declared.names.Spot.TheVariants.{Branch, Site}
use Rattle.ccr_base.specs.Names.{same_task, same_lists, has_task}
use Rattle.ccr_wiring.specs.declared.parts.Parts.{Parts}
use Rattle.ccr_wiring.specs.Wirings.{Placement, placement}
use Rattle.ccr_wiring.specs.Wirings as wirings
use Rattle.ccr_model.specs.declared.history.Event.{Event}
use Rattle.ccr_model.specs.declared.history.Event.TheVariants.{Post, Fire, Admit, Put, Start, End}
use Rattle.ccr_model.specs.Firings.{Firing, firing_of, firings, fired, firing_named, cut, ever_admitted}
use Rattle.ccr_model.specs.Sites.{before}
use Rattle.ccr_model.specs.Tasks.{is_interleave, is_branch_where, fired_by, waiting}
use Rattle.ccr_model.specs.Live.{is_live, is_live_in, has_room}
use Rattle.ccr_model.specs.Selection.{is_selection}
use Rattle.ccr_model.specs.Rules.{is_new, cuts_at, needs_no_admission}
use Rattle.ccr_model.specs.Legal.{IsAllowed}
use Rattle.ccr_model.proofs.PostNames.{refused_not}
use Rattle.ccr_model.proofs.Allowing.{OneName}
use Rattle.ccr_model.proofs.OneMoreEvent.{firings-push}
use Rattle.ccr_base.proofs.Options.{some_of}
use Rattle.ccr_model.proofs.Members.{Among}
use Rattle.ccr_base.proofs.SameNames.{same_task-is, same_task-self, same_task-sym, same_lists-is}
use Rattle.ccr_model.proofs.TasksLeft.{of_without, out_left}
use Rattle.ccr_base.proofs.Booleans.{not_true, both, neither, or_left, or_right, refuted, no_both}
use Rattle.ccr_model.proofs.FiredTasks.{IsFired, find_last, fired_has}
use Rattle.ccr_model.specs.Interleaves.{is_placement_in}
use Rattle.ccr_model.proofs.TaskLists.{to_without, not_more, out_right}

-- what an allowed firing says, rule by rule
pub record FiresSo (w : Parts) (h : List Event) (t : TaskId) (s : Spot) (ms : List MsgId) (cs : List TaskId) : Type 0 where
  pub new_name : has_task (fired h) t ≡ false
  pub live : is_live w h s ≡ true
  pub cuts : cs ≡ cuts_at w h s

pub FiresSo-allowed : (w : Parts) (h : List Event) (t : TaskId) (s : Spot) (ms : List MsgId) (cs : List TaskId) → IsAllowed w h (Fire t s ms cs) → FiresSo w h t s ms cs
FiresSo-allowed w h t s ms cs allowed =
    let a = refused_not (is_new h t) _ _ allowed in
    let b = refused_not (is_live w h s) _ _ a.1 in
    let c = refused_not (is_selection w h s ms) _ _ b.1 in
    let d = refused_not (has_room w h s) _ _ c.1 in
    let e = refused_not (same_lists same_task cs (cuts_at w h s)) _ None d.1 in
    record {
      new_name = not_true (has_task (fired h) t) (both (not (has_task (fired h) t)) (nat_le t.actor 32) a.0).0;
      live = b.0;
      cuts = same_lists-is same_task same_task-is cs (cuts_at w h s) e.0;
    }

-- who is found among the firings is among their tasks
found_named : (fs : List Firing) (t : TaskId) (f : Firing) (test : Firing → Bool) → find (λ (g : Firing). same_task g.task t) fs ≡ Some f → test f ≡ true → has_task (map (λ (g : Firing). g.task) (filter test fs)) t ≡ true
found_named [] t f test is passes = absurd (cc)
found_named (g ∷ fs) t f test is passes = of_test (same_task g.task t) refl is (found_named fs t f test)
  where
    behind : (b : Bool) → has_task (map (λ (x : Firing). x.task) (filter test fs)) t ≡ true → has_task (map (λ (x : Firing). x.task) (if b then g ∷ filter test fs else filter test fs)) t ≡ true
    behind true rest = or_right (same_task t g.task) _ rest
    behind false rest = rest

    of_test : (b : Bool) → same_task g.task t ≡ b → (if b then Some g else find (λ (x : Firing). same_task x.task t) fs) ≡ Some f → (find (λ (x : Firing). same_task x.task t) fs ≡ Some f → test f ≡ true → has_task (map (λ (x : Firing). x.task) (filter test fs)) t ≡ true) → has_task (map (λ (x : Firing). x.task) (filter test (g ∷ fs))) t ≡ true
    of_test false e at rest = behind (test g) (rest at passes)
    of_test true e at rest =
        let one : g ≡ f = cc in
        let here : test g ≡ true = rw one passes in
        rw here (or_left (same_task t g.task) _ (same_task-sym t g.task ∙ e))

-- a new task isn't one that fired
pub not_new : (h : List Event) (t u : TaskId) → has_task (fired h) t ≡ false → IsFired h u → same_task t u ≡ false
not_new h t u new found = refuted (same_task t u) (λ same. no_both (subst (λ x. has_task (fired h) x ≡ true) (sym (same_task-is t u same)) (fired_has h u found)) new)

pub firing_named-new : (h : List Event) (t : TaskId) (s : Spot) (ms : List MsgId) (cs : List TaskId) → has_task (fired h) t ≡ false → firing_named (h ++ Fire t s ms cs ∷ []) t ≡ Some (record { task = t; spot = s; messages = ms; cuts = cs })
firing_named-new h t s ms cs new = rw firings-push (find_last t (firings h) _ refl new)

-- before a new task's firing stands the whole history
pub before-new : (h : List Event) (t : TaskId) (s : Spot) (ms : List MsgId) (cs : List TaskId) → has_task (fired h) t ≡ false → before t (h ++ Fire t s ms cs ∷ []) ≡ h
before-new [] t s ms cs new = rw same_task-self refl
before-new (Fire u r ns bs ∷ h) t s ms cs new =
    let outs = neither (same_task t u) (has_task (fired h) t) new in
    rw (same_task-sym u t, outs.0) (ap (λ g. Fire u r ns bs ∷ g) (before-new h t s ms cs outs.1))
before-new (Post m ∷ h) t s ms cs new = ap (λ g. Post m ∷ g) (before-new h t s ms cs new)
before-new (Admit u ∷ h) t s ms cs new = ap (λ g. Admit u ∷ g) (before-new h t s ms cs new)
before-new (Put u d ∷ h) t s ms cs new = ap (λ g. Put u d ∷ g) (before-new h t s ms cs new)
before-new (Start u a ∷ h) t s ms cs new = ap (λ g. Start u a ∷ g) (before-new h t s ms cs new)
before-new (End u how ∷ h) t s ms cs new = ap (λ g. End u how ∷ g) (before-new h t s ms cs new)

-- an event that is no firing adds none
pub firings-other : (h : List Event) (e : Event) → firing_of e ≡ [] → firings (h ++ e ∷ []) ≡ firings h
firings-other h e none = rw (firings-push, none, append-nil) refl

-- who fired by branches of one kind
named_one : (test : Firing → Bool) (fs : List Firing) (t : TaskId) → has_task (map (λ (f : Firing). f.task) (filter test fs)) t ≡ true → (f : Firing) × Among f fs × (test f ≡ true) × (f.task ≡ t)
named_one test [] t among = absurd (cc)
named_one test (g ∷ fs) t among = of_test (test g) refl among (named_one test fs t)
  where
    of_rest : (f : Firing) × Among f fs × (test f ≡ true) × (f.task ≡ t) → (f : Firing) × Among f (g ∷ fs) × (test f ≡ true) × (f.task ≡ t)
    of_rest r = (r.0, inr r.1, r.2, r.3)

    of_test : (b : Bool) → test g ≡ b → has_task (map (λ (f : Firing). f.task) (if b then g ∷ filter test fs else filter test fs)) t ≡ true → (has_task (map (λ (f : Firing). f.task) (filter test fs)) t ≡ true → (f : Firing) × Among f fs × (test f ≡ true) × (f.task ≡ t)) → (f : Firing) × Among f (g ∷ fs) × (test f ≡ true) × (f.task ≡ t)
    of_test false e at rest = of_rest (rest at)
    of_test true e at rest = of_name (same_task t g.task) refl at
      where
        of_name : (c : Bool) → same_task t g.task ≡ c → c || has_task (map (λ (f : Firing). f.task) (filter test fs)) t ≡ true → (f : Firing) × Among f (g ∷ fs) × (test f ≡ true) × (f.task ≡ t)
        of_name true e' at' = (g, inl refl, e, sym (same_task-is t g.task e'))
        of_name false e' at' = of_rest (rest at')

pub fired_by_named : (w : Parts) (test : Placement → Bool) (h : List Event) (t : TaskId) → OneName h → has_task (fired_by w test h) t ≡ true → (f : Firing) × (firing_named h t ≡ Some f) × (is_branch_where w test f.spot ≡ true)
fired_by_named w test h t one among =
    let found = named_one (λ f. is_branch_where w test f.spot) (firings h) t among in
    (found.0, subst (λ u. firing_named h u ≡ Some found.0) found.3 (one found.0 found.1), found.2)

pub fired_by_has : (w : Parts) (test : Placement → Bool) (h : List Event) (t : TaskId) (f : Firing) → firing_named h t ≡ Some f → is_branch_where w test f.spot ≡ true → has_task (fired_by w test h) t ≡ true
fired_by_has w test h t f is passes = found_named (firings h) t f (λ g. is_branch_where w test g.spot) is passes

-- a branch of this kind
pub record BranchFacts (w : Parts) (test : Placement → Bool) (s : Spot) : Type 0 where
  pub number : ℕ
  pub is_branch : s ≡ Branch number
  pub placement : Placement
  pub is_placement : wirings.placement w number ≡ Some placement
  pub passes : test placement ≡ true

pub BranchFacts-where : (w : Parts) (test : Placement → Bool) (s : Spot) → is_branch_where w test s ≡ true → BranchFacts w test s
BranchFacts-where w test (Branch b) is =
    let found = some_of test (placement w b) is in
    record { number = b; is_branch = refl; placement = found.0; is_placement = found.1; passes = found.2 }
BranchFacts-where w test (Site b k) is = absurd (cc)

-- it is live where the spot is
pub live_at : (w : Parts) (h : List Event) (test : Placement → Bool) (s : Spot) → (facts : BranchFacts w test s) → is_live w h s ≡ true → is_live_in w h facts.number facts.placement.domain facts.placement.branch.group ≡ true
live_at w h test s facts live = rw (facts.is_branch, facts.is_placement) at live

-- a waiting task is one that fired there, neither admitted nor cut
pub waits_parts : (w : Parts) (h : List Event) (i : ℕ) (t : TaskId) → has_task (waiting w h i) t ≡ true → (has_task (fired_by w (is_placement_in i) h) t ≡ true) × (has_task (ever_admitted h) t ≡ false) × (has_task (cut h) t ≡ false)
waits_parts w h i t is =
    let parts = of_without (fired_by w (is_placement_in i) h) (ever_admitted h ++ cut h) t is in
    (parts.0, out_left (ever_admitted h) (cut h) t parts.1, out_right (ever_admitted h) (cut h) t parts.1)

pub waits_whole : (w : Parts) (h : List Event) (i : ℕ) (t : TaskId) → has_task (fired_by w (is_placement_in i) h) t ≡ true → has_task (ever_admitted h) t ≡ false → has_task (cut h) t ≡ false → has_task (waiting w h i) t ≡ true
waits_whole w h i t fired_so not_ever_admitted not_cut = to_without (fired_by w (is_placement_in i) h) (ever_admitted h ++ cut h) t fired_so (not_more (ever_admitted h) (cut h) t not_ever_admitted not_cut)

-- a waiting task: a branch of the Interleave fired it, and it was neither admitted nor cut
pub record WaitingFacts (w : Parts) (h : List Event) (i : ℕ) (t : TaskId) : Type 0 where
  pub firing : Firing
  pub is_firing : firing_named h t ≡ Some firing
  pub is_branch : is_branch_where w (is_placement_in i) firing.spot ≡ true
  pub not_ever_admitted : has_task (ever_admitted h) t ≡ false
  pub not_cut : has_task (cut h) t ≡ false

pub WaitingFacts-waiting : (w : Parts) (h : List Event) (i : ℕ) (t : TaskId) → OneName h → has_task (waiting w h i) t ≡ true → WaitingFacts w h i t
WaitingFacts-waiting w h i t one is =
    let parts = waits_parts w h i t is in
    let found = fired_by_named w (is_placement_in i) h t one parts.0 in
    record { firing = found.0; is_firing = found.1; is_branch = found.2; not_ever_admitted = parts.1; not_cut = parts.2 }

-- a waiting task needs an admission, and has none
pub waits_outside : (w : Parts) (h : List Event) (i : ℕ) (t : TaskId) → (waits : WaitingFacts w h i t) → needs_no_admission w waits.firing.spot || has_task (ever_admitted h) t ≡ false
waits_outside w h i t waits =
    let branch = BranchFacts-where w (is_placement_in i) waits.firing.spot waits.is_branch in
    let parts = both (is_interleave branch.placement.kind) (branch.placement.domain == i) branch.passes in
    let needs : needs_no_admission w waits.firing.spot ≡ false = rw (branch.is_branch, branch.is_placement, parts.0) refl in
    rw (needs, waits.not_ever_admitted) refl

-- an event that fires nobody leaves each firing
pub firing-same : (h : List Event) (e : Event) (u : TaskId) → firing_of e ≡ [] → firing_named (h ++ e ∷ []) u ≡ firing_named h u
firing-same h e u other = rw (firings-other h e other) refl

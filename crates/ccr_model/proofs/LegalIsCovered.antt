-- Each legal history is covered.
use Rattle.std.proofs.Common.{◌≡◌, ℕ, ◌+◌, ◌-◌, ◌≤◌, ◌⊎◌, inl, inr, Bool, true, false, not, ◌&&◌, List, [], ◌∷◌, ◌++◌, length, filter, None, refl, sym, arith, ◌∙◌, subst, append-nil}
use Rattle.std.proofs.lemmas.Grind.{common_steps}
use Rattle.std.proofs.lemmas.Bool.Decides.{nat_tests}
use Rattle.ccr_base.specs.declared.names.TaskId.{TaskId}
use Rattle.ccr_base.specs.declared.names.MsgId.{MsgId}
use Rattle.ccr_base.specs.declared.names.MsgId.TheVariants.{Script, Task}
use Rattle.ccr_base.specs.declared.messages.Msg.{Msg}
use Rattle.ccr_wiring.specs.declared.parts.Parts.{Parts}
use Rattle.ccr_model.specs.declared.history.Event.{Event}
use Rattle.ccr_model.specs.declared.history.Event.TheVariants.{Post, Fire, Admit, Put, Start, End}
use Rattle.ccr_model.specs.declared.history.EndHow.{EndHow}
use Rattle.ccr_model.specs.declared.history.EndHow.TheVariants as ends
use Rattle.ccr_base.specs.Names.{same_task, has_task, without}
use Rattle.ccr_model.specs.Posts.{posts, posts_of_task, posts_of_tasks}
use Rattle.ccr_model.specs.Firings.{started, started_by, ended}
use Rattle.ccr_model.specs.Tasks.{running, has_post_left, unfinished, count_unfinished}
use Rattle.ccr_model.specs.Rules.{may_end, may_shed, is_shed}
use Rattle.ccr_model.specs.Consequences.{are_distinct_tasks}
use Rattle.ccr_model.specs.Legal.{IsAllowed, IsLegal, has_shed}
use Rattle.ccr_model.specs.Counts.{is_shed as is_shed_end}
use Rattle.ccr_model.proofs.PostNames.{along, refused_not}
use Rattle.ccr_model.proofs.TaskSteps.{running-post, running-fire, running-admit, running-put, running-end}
use Rattle.ccr_model.proofs.Stable.{play_of-append}
use Rattle.ccr_model.proofs.OneMoreEvent.{started-push}
use Rattle.ccr_base.proofs.SameNames.{same_task-is, same_task-self, same_task-sym}
use Rattle.ccr_model.proofs.TasksLeft.{of_without, filter_on, distinct-filter, distinct-push}
use Rattle.ccr_base.proofs.Booleans.{not_true, both, or_left, or_right, refuted, no_both}
use Rattle.ccr_model.proofs.FiredTasks.{IsFired, AreFired, IsFired-append, placement_fired}
use Rattle.ccr_model.proofs.WhoWasPut.{StartFacts-allowed, StartFacts-queued}

-- what is known of the tasks that started
pub record AreStarted (h : List Event) : Type 0 where
  pub named : AreFired h (started h)
  pub once : are_distinct_tasks (started h) ≡ true

pub no_member : (ts : List TaskId) (x u : TaskId) → has_task ts x ≡ false → has_task ts u ≡ true → same_task x u ≡ false
no_member ts x u out within = refuted (same_task x u) (λ e. no_both (subst (λ t. has_task ts t ≡ true) (sym (same_task-is x u e)) within) out)

-- a test that changes at one member alone
one_changes : (p q : TaskId → Bool) (t : TaskId) (ts : List TaskId) → are_distinct_tasks ts ≡ true → ((u : TaskId) → has_task ts u ≡ true → same_task t u ≡ false → p u ≡ q u) → length (filter p ts) ≤ length (filter q ts) + 1
one_changes p q t [] distinct same = omega arith
one_changes p q t (x ∷ ts) distinct same =
    let parts = both (not (has_task ts x)) (are_distinct_tasks ts) distinct in
    let out = not_true (has_task ts x) parts.0 in
    of_test (same_task t x) refl (one_changes p q t ts parts.1 (λ u is. same u (or_right (same_task u x) (has_task ts u) is)))
    (λ e. filter_on p q ts (λ u is. same u (or_right (same_task u x) (has_task ts u) is) (let one : t ≡ x = same_task-is t x e in rw one (no_member ts x u out is))))
    (λ e. same x (or_left (same_task x x) (has_task ts x) (same_task-self x)) e)
  where
    of_test : (b : Bool) → same_task t x ≡ b → length (filter p ts) ≤ length (filter q ts) + 1 → (same_task t x ≡ true → filter p ts ≡ filter q ts) → (same_task t x ≡ false → p x ≡ q x) → length (filter p (x ∷ ts)) ≤ length (filter q (x ∷ ts)) + 1
    of_test true e rest all one = let same_rest = all e in grind (arith, same_rest)
    of_test false e rest all one = let same_here = one e in grind (arith, same_here, rest)

pub filter_twice : (p r : TaskId → Bool) (ts : List TaskId) → filter p (filter r ts) ≡ filter (λ u. r u && p u) ts
filter_twice p r [] = refl
filter_twice p r (x ∷ ts) = grind (arith, filter_twice p r ts)

-- one that goes
one_goes : (p : TaskId → Bool) (t : TaskId) (ts : List TaskId) → are_distinct_tasks ts ≡ true → length (filter p ts) ≤ length (filter p (without ts (t ∷ []))) + 1
one_goes p t ts distinct = rw (filter_twice p (λ u. not (has_task (t ∷ []) u)) ts) (one_changes p (λ u. not (has_task (t ∷ []) u) && p u) t ts distinct (λ u is other. grind (arith, other, same_task-sym t u)))

-- one that goes, and didn't pass
none_goes : (p : TaskId → Bool) (t : TaskId) (ts : List TaskId) → p t ≡ false → filter p (without ts (t ∷ [])) ≡ filter p ts
none_goes p t [] fails = refl
none_goes p t (x ∷ ts) fails = of_test (same_task x t) refl (none_goes p t ts fails)
  where
    of_test : (b : Bool) → same_task x t ≡ b → filter p (without ts (t ∷ [])) ≡ filter p ts → filter p (without (x ∷ ts) (t ∷ [])) ≡ filter p (x ∷ ts)
    of_test true e rest = let same : x ≡ t = same_task-is x t e in let out : p x ≡ false = rw same fails in grind (arith, e, out, rest)
    of_test false e rest = grind (arith, e, rest)

-- who started, by one more event
AreStarted_other : (h : List Event) (e : Event) → started_by e ≡ [] → AreStarted h → AreStarted (h ++ e ∷ [])
AreStarted_other h e none known =
    let same : started (h ++ e ∷ []) ≡ started h = rw (started-push, none, append-nil) refl in
    record { named = λ t is. IsFired-append h (e ∷ []) t (known.named t (rw same at is)); once = rw same known.once }

AreStarted_start : (w : Parts) (h : List Event) (t : TaskId) (a : ℕ) → IsAllowed w h (Start t a) → AreStarted h → AreStarted (h ++ Start t a ∷ [])
AreStarted_start w h t a allowed known =
    let facts = StartFacts-allowed w h t a allowed in
    record { named = λ u among. old_or_new u (same_task u t) refl (rw started-push at among) (placement_fired w h t facts.placement facts.is_placement); once = rw started-push (distinct-push (started h) t known.once (StartFacts-queued w h t facts).not_started) }
  where
    old_or_new : (u : TaskId) (b : Bool) → same_task u t ≡ b → has_task (started h ++ t ∷ []) u ≡ true → IsFired h t → IsFired (h ++ Start t a ∷ []) u
    old_or_new u true e among found = let same : t ≡ u = sym (same_task-is u t e) in IsFired-append h (Start t a ∷ []) u (subst (IsFired h) same found)
    old_or_new u false e among found = let old : has_task (started h) u ≡ true = grind (arith, common_steps, e, among) in IsFired-append h (Start t a ∷ []) u (known.named u old)

pub AreStarted_kept : (w : Parts) (h : List Event) (e : Event) → AreStarted h → IsAllowed w h e → AreStarted (h ++ e ∷ [])
AreStarted_kept w h (Start t a) known allowed = AreStarted_start w h t a allowed known
AreStarted_kept w h (Post m) known allowed = AreStarted_other h (Post m) refl known
AreStarted_kept w h (Fire t s ms cs) known allowed = AreStarted_other h (Fire t s ms cs) refl known
AreStarted_kept w h (Admit t) known allowed = AreStarted_other h (Admit t) refl known
AreStarted_kept w h (Put t d) known allowed = AreStarted_other h (Put t d) refl known
AreStarted_kept w h (End t how) known allowed = AreStarted_other h (End t how) refl known

-- whether a post of its play is left to a task that started, where the event is no post of it
left_same : (w : Parts) (h : List Event) (e : Event) (u : TaskId) → AreStarted h → has_task (started h) u ≡ true → posts_of_task (h ++ e ∷ []) u ≡ posts_of_task h u → has_post_left w (h ++ e ∷ []) u ≡ has_post_left w h u
left_same w h e u known is same = let f = known.named u is in rw (same, play_of-append w h (e ∷ []) u f.0 f.1) refl

pub running_started : (h : List Event) (u : TaskId) → has_task (running h) u ≡ true → has_task (started h) u ≡ true
running_started h u is = (of_without (started h) (ended h) u is).0

-- the same unfinished tasks after an event that starts, ends and posts for no task
unfinished_same : (w : Parts) (h : List Event) (e : Event) → AreStarted h → running (h ++ e ∷ []) ≡ running h → ((u : TaskId) → posts_of_task (h ++ e ∷ []) u ≡ posts_of_task h u) → unfinished w (h ++ e ∷ []) ≡ unfinished w h
unfinished_same w h e known runs same = rw runs (filter_on (has_post_left w (h ++ e ∷ [])) (has_post_left w h) (running h) (λ u is. left_same w h e u known (running_started h u is) (same u)))

-- covered, as a bound
abbrev IsCovered : Parts → List Event → Type 0
IsCovered w h = has_shed h ≡ true → w.budget ≤ posts_of_tasks h + length (unfinished w h)

posts_same : (h : List Event) (e : Event) → posts (h ++ e ∷ []) ≡ posts h → (u : TaskId) → posts_of_task (h ++ e ∷ []) u ≡ posts_of_task h u
posts_same h e same u = rw same refl

shed_same : (h : List Event) (e : Event) → is_shed_end e ≡ false → has_shed (h ++ e ∷ []) ≡ has_shed h
shed_same h e no_shed = grind (arith, common_steps, no_shed)

Covered_same : (w : Parts) (h : List Event) (e : Event) → AreStarted h → is_shed_end e ≡ false → posts (h ++ e ∷ []) ≡ posts h → running (h ++ e ∷ []) ≡ running h → IsCovered w h → IsCovered w (h ++ e ∷ [])
Covered_same w h e known calm posts_so runs covered shed = rw (posts_so, unfinished_same w h e known runs (posts_same h e posts_so)) (covered (sym (shed_same h e calm) ∙ shed))

-- a post of a script
Covered_script : (w : Parts) (h : List Event) (m : Msg) (a k : ℕ) → m.id ≡ Script a k → AreStarted h → IsCovered w h → IsCovered w (h ++ Post m ∷ [])
Covered_script w h m a k is known covered shed =
    let more : posts_of_tasks (h ++ Post m ∷ []) ≡ posts_of_tasks h = grind (arith, common_steps, is) in
    rw (more, unfinished_same w h (Post m) known (running-post h m) (λ u. grind (arith, common_steps, is))) (covered (sym (shed_same h (Post m) refl) ∙ shed))

-- a post of a task
Covered_task : (w : Parts) (h : List Event) (m : Msg) (t : TaskId) (k : ℕ) → m.id ≡ Task t k → AreStarted h → IsCovered w h → IsCovered w (h ++ Post m ∷ [])
Covered_task w h m t k is known covered shed =
    let more : posts_of_tasks (h ++ Post m ∷ []) ≡ posts_of_tasks h + 1 = grind (arith, common_steps, is) in
    let few : length (unfinished w h) ≤ length (filter (has_post_left w (h ++ Post m ∷ [])) (running h)) + 1 = one_changes (has_post_left w h) (has_post_left w (h ++ Post m ∷ [])) t (running h) (distinct-filter (λ u. not (has_task (ended h) u)) (started h) known.once) (λ u among other. sym (left_same w h (Post m) u known (running_started h u among) (grind (arith, common_steps, is, other, same_task-sym t u)))) in
    let old = covered (sym (shed_same h (Post m) refl) ∙ shed) in
    rw (more, running-post h m) (omega (arith, few, old))

Covered_post : (w : Parts) (h : List Event) (m : Msg) (name : MsgId) → m.id ≡ name → AreStarted h → IsCovered w h → IsCovered w (h ++ Post m ∷ [])
Covered_post w h m (Script a k) is known covered = Covered_script w h m a k is known covered
Covered_post w h m (Task t k) is known covered = Covered_task w h m t k is known covered

Covered_start : (w : Parts) (h : List Event) (t : TaskId) (a : ℕ) → AreStarted h → IsCovered w h → IsCovered w (h ++ Start t a ∷ [])
Covered_start w h t a known covered shed =
    let posts_so : posts (h ++ Start t a ∷ []) ≡ posts h = grind (arith, common_steps) in
    let runs : running (h ++ Start t a ∷ []) ≡ running h ++ without (t ∷ []) (ended h) = grind (arith, common_steps) in
    let old = covered (sym (shed_same h (Start t a) refl) ∙ shed) in
    let same = filter_on (has_post_left w (h ++ Start t a ∷ [])) (has_post_left w h) (running h) (λ u is. left_same w h (Start t a) u known (running_started h u is) (posts_same h (Start t a) posts_so u)) in
    rw (posts_so, runs) (grind (arith, common_steps, same, old))

shed_or_not : (how : EndHow) → (is_shed how ≡ true) × (how ≡ ends.Shed) ⊎ (is_shed how ≡ false) × ((t : TaskId) → is_shed_end (End t how) ≡ false)
shed_or_not ends.Done = inr (refl, λ t. refl)
shed_or_not (ends.Failed v) = inr (refl, λ t. refl)
shed_or_not ends.Yield = inr (refl, λ t. refl)
shed_or_not ends.Shed = inl (refl, refl)

Covered_end : (w : Parts) (h : List Event) (t : TaskId) (how : EndHow) → AreStarted h → IsCovered w h → IsAllowed w h (End t how) → IsCovered w (h ++ End t how ∷ [])
Covered_end w h t how known covered allowed shed =
    let a = refused_not (has_task (running h) t) _ _ allowed in
    let b = (refused_not (may_end w h t how) _ None a.1).0 in
    let posts_so : posts (h ++ End t how ∷ []) ≡ posts h = grind (arith, common_steps) in
    let distinct = distinct-filter (λ u. not (has_task (ended h) u)) (started h) known.once in
    let same = filter_on (has_post_left w (h ++ End t how ∷ [])) (has_post_left w h) (without (running h) (t ∷ [])) (λ u is. left_same w h (End t how) u known (running_started h u (of_without (running h) (t ∷ []) u is).0) (posts_same h (End t how) posts_so u)) in
    rw (posts_so, running-end h t how, same) (by_how (shed_or_not how) b (one_goes (has_post_left w h) t (running h) distinct))
  where
    by_how : (is_shed how ≡ true) × (how ≡ ends.Shed) ⊎ (is_shed how ≡ false) × ((u : TaskId) → is_shed_end (End u how) ≡ false) → may_end w h t how ≡ true → length (unfinished w h) ≤ length (filter (has_post_left w h) (without (running h) (t ∷ []))) + 1 → w.budget ≤ posts_of_tasks h + length (filter (has_post_left w h) (without (running h) (t ∷ [])))
    by_how (inl sheds) may few =
        let may_so : may_shed w h t ≡ true = grind (arith, sheds.0, may) in
        let parts = both (has_post_left w h t) _ may_so in
        let much : w.budget ≤ posts_of_tasks h + (length (unfinished w h) - 1) = grind (arith, nat_tests, parts.1) in
        omega (arith, much, few)
    by_how (inr ends_so) may few =
        let none : has_post_left w h t ≡ false = grind (arith, ends_so.0, may) in
        rw (none_goes (has_post_left w h) t (running h) none) (covered (sym (shed_same h (End t how) (ends_so.1 t)) ∙ shed))

Covered_kept : (w : Parts) (h : List Event) (e : Event) → AreStarted h → IsCovered w h → IsAllowed w h e → IsCovered w (h ++ e ∷ [])
Covered_kept w h (Post m) known covered allowed = Covered_post w h m m.id refl known covered
Covered_kept w h (Fire t s ms cs) known covered allowed = Covered_same w h (Fire t s ms cs) known refl (grind (arith, common_steps)) (running-fire h t s ms cs) covered
Covered_kept w h (Admit t) known covered allowed = Covered_same w h (Admit t) known refl (grind (arith, common_steps)) (running-admit h t) covered
Covered_kept w h (Put t d) known covered allowed = Covered_same w h (Put t d) known refl (grind (arith, common_steps)) (running-put h t d) covered
Covered_kept w h (Start t a) known covered allowed = Covered_start w h t a known covered
Covered_kept w h (End t how) known covered allowed = Covered_end w h t how known covered allowed

pub IsCovered-legal : (w : Parts) (h : List Event) → IsLegal w h → has_shed h ≡ true → w.budget ≤ posts_of_tasks h + count_unfinished w h
IsCovered-legal w h legal = (along w (λ g. AreStarted g × IsCovered w g) (λ g e p allowed. (AreStarted_kept w g e p.0 allowed, Covered_kept w g e p.0 p.1 allowed)) (record { named = λ t is. absurd (cc); once = refl }, λ shed. absurd (cc)) h legal).1

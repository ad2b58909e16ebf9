-- Who is an admitted root that isn't over, and how many posts each task has made, after each event.
use Rattle.std.proofs.Common.{◌≡◌, ◌+◌, Bool, true, false, not, ◌&&◌, ◌||◌, List, [], ◌∷◌, ◌++◌, length, filter, inl, inr, refl, sym, ap, ◌∙◌, append-nil, subst}
use Rattle.std.specs.Prelude.{if◌then◌else◌}
use Rattle.std.specs.List.{list_any}
use Rattle.std.proofs.Math.Bool.{or-false}
use Rattle.std.proofs.lemmas.List.Folds.{list_any-append}
use Rattle.ccr_base.specs.declared.names.TaskId.{TaskId}
use Rattle.ccr_base.specs.declared.names.MsgId.{MsgId}
use Rattle.ccr_base.specs.declared.names.Spot.{Spot}
use Rattle.ccr_base.specs.declared.messages.Msg.{Msg}
use Rattle.ccr_base.specs.Names.{same_task, has_task}
use Rattle.ccr_wiring.specs.declared.parts.Parts.{Parts}
use Rattle.ccr_model.specs.declared.history.Event.{Event}
use Rattle.ccr_model.specs.declared.history.Event.TheVariants.{Post, Fire, Admit}
use Rattle.ccr_model.specs.Posts.{posts, post_of, is_message_of, posts_of_task}
use Rattle.ccr_model.specs.Firings.{fired, ever_admitted, admitted_by, put, ended, dropped, started, yielded, last_segments, last_by}
use Rattle.ccr_model.specs.Sites.{root_of}
use Rattle.ccr_model.specs.Tasks.{is_over}
use Rattle.ccr_model.specs.Legal.{IsAllowed, IsLegal}
use Rattle.ccr_model.proofs.Allowing.{OneName-legal}
use Rattle.ccr_model.proofs.ExclusiveRootsAreAlone.{lasts_fired, ever_admitted_fired}
use Rattle.ccr_base.proofs.Booleans.{refuted, no_both}
use Rattle.ccr_model.proofs.Cutting.{AdmitFacts-allowed, CutFacts-legal, waits_unput}
use Rattle.ccr_model.proofs.Ending.{AreEnded-legal}
use Rattle.ccr_model.proofs.FiredTasks.{IsFired, fired_has, root_stays}
use Rattle.ccr_model.proofs.AllowedFirings.{WaitingFacts-waiting, BranchFacts-where}
use Rattle.ccr_model.proofs.OneMoreEvent.{posts-push, last-push, ever_admitted-push}
use Rattle.ccr_model.proofs.Roots.{root_own, IsOneEach-legal}
use Rattle.ccr_base.proofs.SameNames.{same_task-is, same_task-sym, has_task-append}
use Rattle.ccr_model.proofs.Suspending.{is_gone_on}
use Rattle.ccr_model.proofs.TaskLists.{any_named, not_within}
use Rattle.ccr_model.proofs.WhoWasPut.{ArePlaced-legal, started_fired}
use Rattle.ccr_model.proofs.Members.{same_any}
use Rattle.ccr_model.proofs.TasksLeft.{has_among}
use Rattle.ccr_model.proofs.NoPosts.{no_posts}
use Rattle.ccr_ledger.specs.Kept.{is_admitted}
use Rattle.ccr_ledger.proofs.ScriptPosts.{counted-post}

-- a test that agrees on the members
any_on : (p q : TaskId → Bool) (ts : List TaskId) → ((u : TaskId) → has_task ts u ≡ true → p u ≡ q u) → list_any p ts ≡ list_any q ts
any_on p q ts same = same_any p q ts (λ u is. same u (has_among ts u is))

module _ (w : Parts) (h : List Event) (legal : IsLegal w h) where
  -- a root is over by the last segments so far, or by those of the event
  over-push : (e : Event) (u : TaskId) → is_over (h ++ e ∷ []) u ≡ is_over h u || list_any (λ x. same_task (root_of (h ++ e ∷ []) x) u) (last_by e)
  over-push e u =
      ap (list_any (λ x. same_task (root_of (h ++ e ∷ []) x) u)) (last-push h e)
      ∙ (list_any-append (λ x. same_task (root_of (h ++ e ∷ []) x) u) (last_segments h) (last_by e)
      ∙ ap (λ b. b || list_any (λ x. same_task (root_of (h ++ e ∷ []) x) u) (last_by e)) (any_on _ (λ x. same_task (root_of h x) u) (last_segments h) (λ x is. ap (λ r. same_task r u) (root_stays h (e ∷ []) x (lasts_fired w h legal x is)))))

  pub over-other : (e : Event) (u : TaskId) → last_by e ≡ [] → is_over (h ++ e ∷ []) u ≡ is_over h u
  over-other e u no_last = over-push e u ∙ (ap (λ ts. is_over h u || list_any (λ x. same_task (root_of (h ++ e ∷ []) x) u) ts) no_last ∙ or-false (is_over h u))

  -- the root of one more last segment is over
  pub over-last : (e : Event) (x u : TaskId) → last_by e ≡ x ∷ [] → IsFired h x → is_over (h ++ e ∷ []) u ≡ is_over h u || same_task (root_of h x) u
  over-last e x u last fired =
      over-push e u
      ∙ (ap (λ ts. is_over h u || list_any (λ y. same_task (root_of (h ++ e ∷ []) y) u) ts) last
      ∙ (ap (λ r. is_over h u || (same_task r u || false)) (root_stays h (e ∷ []) x fired) ∙ ap (λ b. is_over h u || b) (or-false (same_task (root_of h x) u))))

  pub ever_admitted-other : (e : Event) → admitted_by e ≡ [] → ever_admitted (h ++ e ∷ []) ≡ ever_admitted h
  ever_admitted-other e no_admit = rw (ever_admitted-push h e, no_admit) (append-nil (ever_admitted h))

  pub admitted-other : (e : Event) (u : TaskId) → last_by e ≡ [] → admitted_by e ≡ [] → is_admitted (h ++ e ∷ []) u ≡ is_admitted h u
  admitted-other e u no_last no_admit = rw (ever_admitted-other e no_admit, over-other e u no_last) refl

  -- the root of one more last segment is admitted no more
  pub admitted-last : (e : Event) (x u : TaskId) → last_by e ≡ x ∷ [] → admitted_by e ≡ [] → IsFired h x → is_admitted (h ++ e ∷ []) u ≡ (if same_task (root_of h x) u then false else is_admitted h u)
  admitted-last e x u last no_admit fired =
      rw (ever_admitted-other e no_admit, over-last e x u last fired) (of_tests (has_task (ever_admitted h) u) (is_over h u) (same_task (root_of h x) u))
    where
      of_tests : (a b c : Bool) → a && not (b || c) ≡ (if c then false else a && not b)
      of_tests true true true = refl
      of_tests true true false = refl
      of_tests true false true = refl
      of_tests true false false = refl
      of_tests false b true = refl
      of_tests false b false = refl

  -- an admitted task's root, which is itself, isn't over
  pub new_lasts : (t : TaskId) → IsAllowed w h (Admit t) → is_over h t ≡ false
  new_lasts t allowed = refuted (is_over h t) over
    where
      over : is_over h t ≡ true → ⊥
      over is =
          let facts = AdmitFacts-allowed w h t allowed in
          let waits = WaitingFacts-waiting w h facts.placement.domain t (OneName-legal w h legal) facts.waits in
          let no_put = waits_unput w h facts.placement.domain t (CutFacts-legal w h legal) waits in
          let placed = ArePlaced-legal w h legal in
          let ended_so = AreEnded-legal w h legal in
          let no_start = not_within (started h) (put h) t (placed.lists.put_started t) no_put in
          let no_end = not_within (ended h) (started h) t (ended_so.started_ended t) no_start in
          let no_drop = not_within (dropped h) (put h) t (placed.lists.put_dropped t) no_put in
          let unyielded = not_within (yielded h) (ended h) t (ended_so.ended_yielded t) no_end in
          let branch = BranchFacts-where w _ waits.firing.spot waits.is_branch in
          let own = root_own h t waits.firing branch.number waits.is_firing branch.is_branch in
          let last = any_named (λ x. same_task (root_of h x) t) (last_segments h) is in
          let last_unyielded = refuted (has_task (yielded h) last.0) (λ yields. no_both last.1 (ended_so.not_both last.0 yields)) in
          let latest : is_gone_on h last.0 ≡ false = rw last_unyielded refl in
          let latest_t : is_gone_on h t ≡ false = rw unyielded refl in
          let one : last.0 ≡ t = IsOneEach-legal w h legal last.0 t (lasts_fired w h legal last.0 last.1) (waits.firing, waits.is_firing) latest latest_t (same_task-is (root_of h last.0) t last.2 ∙ sym own) in
          elim (ended_so.last_ends t (subst (λ u. has_task (last_segments h) u ≡ true) one last.1)) [ inl e ↦ no_both e no_end | inr d ↦ no_both d no_drop ]

  pub admitted-admit : (t u : TaskId) → IsAllowed w h (Admit t) → is_admitted (h ++ Admit t ∷ []) u ≡ (if same_task t u then true else is_admitted h u)
  admitted-admit t u allowed =
      let longer : has_task (ever_admitted (h ++ Admit t ∷ [])) u ≡ has_task (ever_admitted h) u || (same_task t u || false) = rw (ever_admitted-push h (Admit t), has_task-append (ever_admitted h) (t ∷ []) u, same_task-sym u t) refl in
      rw (longer, over-other (Admit t) u refl) (of_test (same_task t u) refl (has_task (ever_admitted h) u) (is_over h u) refl)
    where
      of_test : (b : Bool) → same_task t u ≡ b → (a c : Bool) → is_over h u ≡ c → (a || (b || false)) && not c ≡ (if b then true else a && not c)
      of_test true is a c over =
          let one : t ≡ u = same_task-is t u is in
          let lasts : c ≡ false = sym over ∙ subst (λ v. is_over h v ≡ false) one (new_lasts t allowed) in
          rw lasts (of_entered a)
        where
          of_entered : (a : Bool) → (a || true) && true ≡ true
          of_entered true = refl
          of_entered false = refl
      of_test false is true c over = refl
      of_test false is false c over = refl

  -- a new task wasn't admitted
  pub admitted-new : (t : TaskId) (s : Spot) (ms : List MsgId) (cs : List TaskId) → has_task (fired h) t ≡ false → is_admitted (h ++ Fire t s ms cs ∷ []) t ≡ false
  admitted-new t s ms cs new =
      let out : has_task (ever_admitted h) t ≡ false = refuted (has_task (ever_admitted h) t) (λ is. no_both (fired_has h t (ever_admitted_fired w h legal t is)) new) in
      rw (ever_admitted-other (Fire t s ms cs) refl, out) refl

-- no post, no more posts of a task
pub made-other : (h : List Event) (e : Event) (u : TaskId) → post_of e ≡ [] → posts_of_task (h ++ e ∷ []) u ≡ posts_of_task h u
made-other h e u none = ap (λ (ms : List Msg). length (filter (λ (m : Msg). is_message_of u m.id) ms)) (posts-push h e ∙ (ap (λ ms. posts h ++ ms) none ∙ append-nil (posts h)))

pub made-post : (h : List Event) (m : Msg) (id : MsgId) (u : TaskId) → m.id ≡ id → posts_of_task (h ++ Post m ∷ []) u ≡ (if is_message_of u id then posts_of_task h u + 1 else posts_of_task h u)
made-post h m id u is = counted-post h m id (is_message_of u) is

-- who never fired made no post
pub made-none : (w : Parts) (h : List Event) → IsLegal w h → (t : TaskId) → has_task (fired h) t ≡ false → posts_of_task h t ≡ 0
made-none w h legal t new = no_posts w h t legal (not_within (started h) (fired h) t (λ is. fired_has h t (started_fired w h legal t is)) new)

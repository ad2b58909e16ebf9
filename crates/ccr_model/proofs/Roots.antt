-- The roots of tasks: each has one latest segment, and whoever of an Interleave is at work has an admitted root.
use Rattle.std.proofs.Common.{◌≡◌, ℕ, suc, Bool, true, false, not, ◌&&◌, ◌||◌, List, [], ◌∷◌, ◌++◌, Some, ◌⊎◌, inl, inr, refl, sym, ap, ◌∙◌, subst}
use Rattle.std.specs.Prelude.{◌==◌}
use Rattle.std.specs.Option.{option_map_or}
use Rattle.std.specs.List.{list_any}
use Rattle.ccr_base.specs.declared.names.TaskId.{TaskId}
use Rattle.ccr_base.specs.declared.names.MsgId.{MsgId}
use Rattle.ccr_base.specs.declared.names.Spot.{Spot}
use Rattle.ccr_base.specs.declared.names.Spot.TheVariants.{Branch, Site}
use Rattle.ccr_base.specs.Names.{same_task, has_task}
use Rattle.ccr_wiring.specs.declared.parts.Parts.{Parts}
use Rattle.ccr_wiring.specs.Wirings.{Placement, placement, branch_of}
use Rattle.ccr_model.specs.declared.history.Event.{Event}
use Rattle.ccr_model.specs.declared.history.Event.TheVariants.{Post, Fire, Admit, Put, Start, End}
use Rattle.ccr_model.specs.Firings.{Firing, firing_of, fired, firing_named, ever_admitted, admitted_by, put, started, dropped, ended, yielded, last_segments}
use Rattle.ccr_model.specs.Sites.{root_at, root_of, resumed}
use Rattle.ccr_model.specs.TaskData.{placement_of}
use Rattle.ccr_model.specs.Tasks.{is_interleave, is_of_domain, is_over, admitted, queued, running}
use Rattle.ccr_model.specs.Rules.{needs_no_admission}
use Rattle.ccr_model.specs.Legal.{IsAllowed, IsLegal}
use Rattle.ccr_model.proofs.TaskSteps.{firing_named-fire}
use Rattle.ccr_model.proofs.Stable.{firing_named-append, root_at-append}
use Rattle.ccr_model.proofs.OneMoreEvent.{ever_admitted-push}
use Rattle.ccr_model.proofs.LegalParts.{along_legal}
use Rattle.ccr_base.proofs.Options.{some_of}
use Rattle.ccr_base.proofs.SameNames.{same_task-is, same_task-self}
use Rattle.ccr_model.proofs.TasksLeft.{of_filter}
use Rattle.ccr_base.proofs.Booleans.{not_true, both, and_not, and_false, refuted, no_both, or_left, or_right}
use Rattle.ccr_model.proofs.FiredTasks.{IsFired, root_stays}
use Rattle.ccr_model.proofs.ExclusiveRootsAreAlone.{lasts_fired}
use Rattle.ccr_model.specs.AtWork.{is_queued, is_suspended, is_at_work}
use Rattle.ccr_model.specs.Interleaves.{is_placement_in, is_of_interleave}
use Rattle.ccr_model.proofs.TaskLists.{to_filter, among_left, not_within, any_named}
use Rattle.ccr_model.proofs.WhoWasPut.{ArePlaced-legal, QueuedFacts-queued, placement_by}
use Rattle.ccr_model.proofs.AllowedFirings.{FiresSo-allowed, not_new, firing_named-new, before-new, firing-same}
use Rattle.ccr_model.proofs.Cutting.{CutFacts-legal}
use Rattle.ccr_model.proofs.Ending.{AreEnded-legal, RunningFacts-running}
use Rattle.ccr_model.proofs.Suspending.{ResumeFacts, ResumeFacts-allowed, is_gone_on, gone_stays, resumes_suspended, resumes_gone, suspended_yielded}

-- a branch's task is its own root
pub root_own : (h : List Event) (t : TaskId) (f : Firing) (b : ℕ) → firing_named h t ≡ Some f → f.spot ≡ Branch b → root_of h t ≡ t
root_own h t f b is at = rw (is, at) refl

-- a resumed task has the root of the one that it goes on for
pub root_resumed : (w : Parts) (h : List Event) (t : TaskId) (b k : ℕ) (ms : List MsgId) (cs : List TaskId) → IsAllowed w h (Fire t (Site b k) ms cs) → (facts : ResumeFacts h b k) → root_of (h ++ Fire t (Site b k) ms cs ∷ []) t ≡ root_of h facts.resumes
root_resumed w h t b k ms cs allowed facts =
    let new = (FiresSo-allowed w h t (Site b k) ms cs allowed).new_name in
    let g = h ++ Fire t (Site b k) ms cs ∷ [] in
    let now : root_of g t ≡ root_at g b (suc k) t = rw (firing_named-new h t (Site b k) ms cs new) refl in
    let goes_on : resumed g (Site b k) t ≡ Some facts.resumes = rw (before-new h t (Site b k) ms cs new, facts.is_first) refl in
    let step : root_at g b (suc k) t ≡ root_at g b k facts.resumes = ap (λ o. option_map_or (λ (u : TaskId). root_at g b k u) o t) goes_on in
    let same : root_at g b k facts.resumes ≡ root_at h b k facts.resumes = root_at-append h (Fire t (Site b k) ms cs ∷ []) b k facts.resumes facts.firing facts.is_firing in
    let was : root_of h facts.resumes ≡ root_at h b k facts.resumes = rw (facts.is_firing, facts.same_branch, facts.same_segment) refl in
    now ∙ (step ∙ (same ∙ sym was))

-- a branch fired the root, of which the task's spot is the branch or a site
abbrev HasRoot : List Event → TaskId → Firing → Type 0
HasRoot h t f = (g : Firing) × (firing_named h (root_of h t) ≡ Some g) × (g.spot ≡ Branch (branch_of f.spot))

abbrev AreRooted : List Event → Type 0
AreRooted h = (t : TaskId) (f : Firing) → firing_named h t ≡ Some f → HasRoot h t f

rooted_stays : (h es : List Event) (t : TaskId) (f : Firing) → AreRooted h → firing_named h t ≡ Some f → HasRoot (h ++ es) t f
rooted_stays h es t f known is =
    let root = known t f is in
    let same = root_stays h es t (f, is) in
    (root.0, subst (λ r. firing_named (h ++ es) r ≡ Some root.0) (sym same) (firing_named-append h es (root_of h t) root.0 root.1), root.2)

rooted_new : (w : Parts) (h : List Event) (t : TaskId) (s : Spot) (ms : List MsgId) (cs : List TaskId) → IsAllowed w h (Fire t s ms cs) → AreRooted h → HasRoot (h ++ Fire t s ms cs ∷ []) t (record { task = t; spot = s; messages = ms; cuts = cs })
rooted_new w h t (Branch b) ms cs allowed known =
    let f : Firing = record { task = t; spot = Branch b; messages = ms; cuts = cs } in
    let named = firing_named-new h t (Branch b) ms cs (FiresSo-allowed w h t (Branch b) ms cs allowed).new_name in
    (f, subst (λ r. firing_named (h ++ Fire t (Branch b) ms cs ∷ []) r ≡ Some f) (sym (root_own (h ++ Fire t (Branch b) ms cs ∷ []) t f b named refl)) named, refl)
rooted_new w h t (Site b k) ms cs allowed known =
    let facts = ResumeFacts-allowed w h t b k ms cs allowed in
    let root = known facts.resumes facts.firing facts.is_firing in
    let same = root_resumed w h t b k ms cs allowed facts in
    let e : Event = Fire t (Site b k) ms cs in
    (root.0, subst (λ r. firing_named (h ++ e ∷ []) r ≡ Some root.0) (sym same) (firing_named-append h (e ∷ []) (root_of h facts.resumes) root.0 root.1), root.2 ∙ ap Branch facts.same_branch)

-- whose firing it is after one more firing
pub of_firing : (h : List Event) (x : TaskId) (s : Spot) (ms : List MsgId) (cs : List TaskId) (t : TaskId) (f : Firing) → has_task (fired h) x ≡ false → firing_named (h ++ Fire x s ms cs ∷ []) t ≡ Some f → (firing_named h t ≡ Some f) ⊎ ((t ≡ x) × (f ≡ record { task = x; spot = s; messages = ms; cuts = cs }))
of_firing h x s ms cs t f new is = of_test (same_task x t) refl
  where
    of_test : (b : Bool) → same_task x t ≡ b → (firing_named h t ≡ Some f) ⊎ ((t ≡ x) × (f ≡ record { task = x; spot = s; messages = ms; cuts = cs }))
    of_test false e = inl (sym (firing_named-fire h x t s ms cs e) ∙ is)
    of_test true e =
        let one : t ≡ x = sym (same_task-is x t e) in
        let named = firing_named-new h x s ms cs new in
        let found : firing_named (h ++ Fire x s ms cs ∷ []) x ≡ Some f = subst (λ u. firing_named (h ++ Fire x s ms cs ∷ []) u ≡ Some f) one is in
        let both_so : Some f ≡ Some (record { task = x; spot = s; messages = ms; cuts = cs }) = sym found ∙ named in
        inr (one, cc)

pub other_firing : (h : List Event) (e : Event) (t : TaskId) (f : Firing) → firing_of e ≡ [] → firing_named (h ++ e ∷ []) t ≡ Some f → firing_named h t ≡ Some f
other_firing h e t f none is = sym (firing-same h e t none) ∙ is

rooted_other : (h : List Event) (e : Event) → firing_of e ≡ [] → AreRooted h → AreRooted (h ++ e ∷ [])
rooted_other h e none known t f is = rooted_stays h (e ∷ []) t f known (other_firing h e t f none is)

rooted_fire : (w : Parts) (h : List Event) (x : TaskId) (s : Spot) (ms : List MsgId) (cs : List TaskId) → IsAllowed w h (Fire x s ms cs) → AreRooted h → AreRooted (h ++ Fire x s ms cs ∷ [])
rooted_fire w h x s ms cs allowed known t f is = of_case (of_firing h x s ms cs t f (FiresSo-allowed w h x s ms cs allowed).new_name is)
  where
    of_case : (firing_named h t ≡ Some f) ⊎ ((t ≡ x) × (f ≡ record { task = x; spot = s; messages = ms; cuts = cs })) → HasRoot (h ++ Fire x s ms cs ∷ []) t f
    of_case (inl old) = rooted_stays h (Fire x s ms cs ∷ []) t f known old
    of_case (inr new) = rw (new.0, new.1) (rooted_new w h x s ms cs allowed known)

AreRooted_kept : (w : Parts) (h : List Event) (e : Event) → IsLegal w h → IsAllowed w h e → AreRooted h → AreRooted (h ++ e ∷ [])
AreRooted_kept w h (Fire x s ms cs) legal allowed known = rooted_fire w h x s ms cs allowed known
AreRooted_kept w h (Post m) legal allowed known = rooted_other h (Post m) refl known
AreRooted_kept w h (Admit x) legal allowed known = rooted_other h (Admit x) refl known
AreRooted_kept w h (Put x d) legal allowed known = rooted_other h (Put x d) refl known
AreRooted_kept w h (Start x a) legal allowed known = rooted_other h (Start x a) refl known
AreRooted_kept w h (End x how) legal allowed known = rooted_other h (End x how) refl known

pub AreRooted-legal : (w : Parts) (h : List Event) → IsLegal w h → AreRooted h
AreRooted-legal w h legal = along_legal w AreRooted (AreRooted_kept w) (λ t f is. absurd (cc)) h legal

-- a root has one segment for which no other goes on
abbrev IsOneEach : List Event → Type 0
IsOneEach h = (t u : TaskId) → IsFired h t → IsFired h u → is_gone_on h t ≡ false → is_gone_on h u ≡ false → root_of h t ≡ root_of h u → t ≡ u

not_gone : (w : Parts) (h : List Event) (e : Event) (t : TaskId) → IsLegal w h → IsAllowed w h e → is_gone_on (h ++ e ∷ []) t ≡ false → is_gone_on h t ≡ false
not_gone w h e t legal allowed is = refuted (is_gone_on h t) (λ gone. no_both (gone_stays w h e t legal allowed gone) is)

one_each_old : (w : Parts) (h : List Event) (e : Event) → IsLegal w h → IsAllowed w h e → IsOneEach h → (t u : TaskId) → IsFired h t → IsFired h u → is_gone_on (h ++ e ∷ []) t ≡ false → is_gone_on (h ++ e ∷ []) u ≡ false → root_of (h ++ e ∷ []) t ≡ root_of (h ++ e ∷ []) u → t ≡ u
one_each_old w h e legal allowed known t u ft fu nt nu same =
    known t u ft fu (not_gone w h e t legal allowed nt) (not_gone w h e u legal allowed nu) (sym (root_stays h (e ∷ []) t ft) ∙ (same ∙ root_stays h (e ∷ []) u fu))

-- a new task has the root of no other for which none goes on
one_each_new : (w : Parts) (h : List Event) (x : TaskId) (s : Spot) (ms : List MsgId) (cs : List TaskId) → IsLegal w h → IsAllowed w h (Fire x s ms cs) → IsOneEach h → (u : TaskId) → IsFired h u → is_gone_on (h ++ Fire x s ms cs ∷ []) u ≡ false → root_of (h ++ Fire x s ms cs ∷ []) x ≡ root_of (h ++ Fire x s ms cs ∷ []) u → ⊥
one_each_new w h x (Branch b) ms cs legal allowed known u fu nu same =
    let e : Event = Fire x (Branch b) ms cs in
    let new = (FiresSo-allowed w h x (Branch b) ms cs allowed).new_name in
    let own = root_own (h ++ e ∷ []) x (record { task = x; spot = Branch b; messages = ms; cuts = cs }) b (firing_named-new h x (Branch b) ms cs new) refl in
    let root = AreRooted-legal w h legal u fu.0 fu.1 in
    let one : x ≡ root_of h u = sym own ∙ (same ∙ root_stays h (e ∷ []) u fu) in
    let other = not_new h x (root_of h u) new (root.0, root.1) in
    let self = same_task-self x in
    cc (subst (λ r. same_task x r ≡ false) (sym one) other)
one_each_new w h x (Site b k) ms cs legal allowed known u fu nu same =
    let e : Event = Fire x (Site b k) ms cs in
    let facts = ResumeFacts-allowed w h x b k ms cs allowed in
    let roots : root_of h facts.resumes ≡ root_of h u = sym (root_resumed w h x b k ms cs allowed facts) ∙ (same ∙ root_stays h (e ∷ []) u fu) in
    let here : is_gone_on h facts.resumes ≡ false = rw (resumes_suspended h b k facts) (and_false (has_task (yielded h) facts.resumes)) in
    let one : facts.resumes ≡ u = known facts.resumes u (facts.firing, facts.is_firing) fu here (not_gone w h e u legal allowed nu) roots in
    let gone = resumes_gone w h x b k ms cs legal facts in
    cc (subst (λ r. is_gone_on (h ++ e ∷ []) r ≡ true) one gone)

one_each_fire : (w : Parts) (h : List Event) (x : TaskId) (s : Spot) (ms : List MsgId) (cs : List TaskId) → IsLegal w h → IsAllowed w h (Fire x s ms cs) → IsOneEach h → IsOneEach (h ++ Fire x s ms cs ∷ [])
one_each_fire w h x s ms cs legal allowed known t u ft fu nt nu same =
    let new = (FiresSo-allowed w h x s ms cs allowed).new_name in
    of_cases (of_firing h x s ms cs t ft.0 new ft.1) (of_firing h x s ms cs u fu.0 new fu.1)
  where
    of_cases : (firing_named h t ≡ Some ft.0) ⊎ ((t ≡ x) × (ft.0 ≡ record { task = x; spot = s; messages = ms; cuts = cs })) → (firing_named h u ≡ Some fu.0) ⊎ ((u ≡ x) × (fu.0 ≡ record { task = x; spot = s; messages = ms; cuts = cs })) → t ≡ u
    of_cases (inl old_t) (inl old_u) = one_each_old w h (Fire x s ms cs) legal allowed known t u (ft.0, old_t) (fu.0, old_u) nt nu same
    of_cases (inr new_t) (inr new_u) = new_t.0 ∙ sym new_u.0
    of_cases (inr new_t) (inl old_u) = absurd (one_each_new w h x s ms cs legal allowed known u (fu.0, old_u) nu (subst (λ v. root_of (h ++ Fire x s ms cs ∷ []) v ≡ root_of (h ++ Fire x s ms cs ∷ []) u) new_t.0 same))
    of_cases (inl old_t) (inr new_u) = absurd (one_each_new w h x s ms cs legal allowed known t (ft.0, old_t) nt (subst (λ v. root_of (h ++ Fire x s ms cs ∷ []) v ≡ root_of (h ++ Fire x s ms cs ∷ []) t) new_u.0 (sym same)))

one_each_other : (w : Parts) (h : List Event) (e : Event) → firing_of e ≡ [] → IsLegal w h → IsAllowed w h e → IsOneEach h → IsOneEach (h ++ e ∷ [])
one_each_other w h e none legal allowed known t u ft fu nt nu same = one_each_old w h e legal allowed known t u (ft.0, other_firing h e t ft.0 none ft.1) (fu.0, other_firing h e u fu.0 none fu.1) nt nu same

IsOneEach_kept : (w : Parts) (h : List Event) (e : Event) → IsLegal w h → IsAllowed w h e → IsOneEach h → IsOneEach (h ++ e ∷ [])
IsOneEach_kept w h (Fire x s ms cs) legal allowed known = one_each_fire w h x s ms cs legal allowed known
IsOneEach_kept w h (Post m) legal allowed known = one_each_other w h (Post m) refl legal allowed known
IsOneEach_kept w h (Admit x) legal allowed known = one_each_other w h (Admit x) refl legal allowed known
IsOneEach_kept w h (Put x d) legal allowed known = one_each_other w h (Put x d) refl legal allowed known
IsOneEach_kept w h (Start x a) legal allowed known = one_each_other w h (Start x a) refl legal allowed known
IsOneEach_kept w h (End x how) legal allowed known = one_each_other w h (End x how) refl legal allowed known

pub IsOneEach-legal : (w : Parts) (h : List Event) → IsLegal w h → IsOneEach h
IsOneEach-legal w h legal = along_legal w IsOneEach (IsOneEach_kept w) (λ t u ft fu nt nu same. absurd (cc)) h legal

-- who is at work: was put, is no last segment, and no other goes on for it
pub record IsAtWork (h : List Event) (t : TaskId) : Type 0 where
  pub put_so : has_task (put h) t ≡ true
  pub not_last : has_task (last_segments h) t ≡ false
  pub latest : is_gone_on h t ≡ false

-- two at work of one root are one
pub one_at_work : (w : Parts) (h : List Event) → IsLegal w h → (t u : TaskId) → IsAtWork h t → IsAtWork h u → root_of h t ≡ root_of h u → t ≡ u
one_at_work w h legal t u work_t work_u same =
    let placed = ArePlaced-legal w h legal in
    IsOneEach-legal w h legal t u (placed.all_fired t work_t.put_so) (placed.all_fired u work_u.put_so) work_t.latest work_u.latest same

-- the root of who is at work isn't over
pub not_over : (w : Parts) (h : List Event) → IsLegal w h → (t : TaskId) → IsAtWork h t → is_over h (root_of h t) ≡ false
not_over w h legal t work = refuted (is_over h (root_of h t)) over
  where
    over : is_over h (root_of h t) ≡ true → ⊥
    over is =
        let last = any_named (λ u. same_task (root_of h u) (root_of h t)) (last_segments h) is in
        let fired = (ArePlaced-legal w h legal).all_fired t work.put_so in
        let unyielded : has_task (yielded h) last.0 ≡ false = refuted (has_task (yielded h) last.0) (λ yields. no_both last.1 ((AreEnded-legal w h legal).not_both last.0 yields)) in
        let latest : is_gone_on h last.0 ≡ false = rw unyielded refl in
        let one : last.0 ≡ t = IsOneEach-legal w h legal last.0 t (lasts_fired w h legal last.0 last.1) fired latest work.latest (same_task-is (root_of h last.0) (root_of h t) last.2) in
        no_both (subst (λ u. has_task (last_segments h) u ≡ true) one last.1) work.not_last

-- a task of a site has a root that was admitted, where its branch is one of an Interleave
abbrev AreEverAdmitted : Parts → List Event → Type 0
AreEverAdmitted w h = (t : TaskId) (f : Firing) (b k : ℕ) (z : Placement) → firing_named h t ≡ Some f → f.spot ≡ Site b k → placement w b ≡ Some z → is_interleave z.kind ≡ true → has_task (ever_admitted h) (root_of h t) ≡ true

-- and so has one that was put
put_ever_admitted : (w : Parts) (h : List Event) → IsLegal w h → AreEverAdmitted w h → (t : TaskId) (f : Firing) (s : Spot) (z : Placement) → has_task (put h) t ≡ true → firing_named h t ≡ Some f → f.spot ≡ s → placement w (branch_of s) ≡ Some z → is_interleave z.kind ≡ true → has_task (ever_admitted h) (root_of h t) ≡ true
put_ever_admitted w h legal known t f (Site b k) z there is at placed kind = known t f b k z is at placed kind
put_ever_admitted w h legal known t f (Branch b) z there is at placed kind =
    let entered = (CutFacts-legal w h legal).entered t f there is in
    let needs : needs_no_admission w f.spot ≡ false = rw (at, placed, kind) refl in
    let ever_admitted_so : has_task (ever_admitted h) t ≡ true = rw needs at entered in
    rw (root_own h t f b is at) ever_admitted_so

ever_admitted_stays : (h : List Event) (e : Event) (t : TaskId) → has_task (ever_admitted h) t ≡ true → has_task (ever_admitted (h ++ e ∷ [])) t ≡ true
ever_admitted_stays h e t is = rw (ever_admitted-push h e) (among_left (ever_admitted h) (admitted_by e) t is)

ever_admitted_old : (w : Parts) (h : List Event) (e : Event) → AreEverAdmitted w h → (t : TaskId) (f : Firing) (b k : ℕ) (z : Placement) → firing_named h t ≡ Some f → f.spot ≡ Site b k → placement w b ≡ Some z → is_interleave z.kind ≡ true → has_task (ever_admitted (h ++ e ∷ [])) (root_of (h ++ e ∷ []) t) ≡ true
ever_admitted_old w h e known t f b k z is at placed kind = rw (root_stays h (e ∷ []) t (f, is)) (ever_admitted_stays h e (root_of h t) (known t f b k z is at placed kind))

AreEverAdmitted-fire : (w : Parts) (h : List Event) (x : TaskId) (s : Spot) (ms : List MsgId) (cs : List TaskId) → IsLegal w h → IsAllowed w h (Fire x s ms cs) → AreEverAdmitted w h → AreEverAdmitted w (h ++ Fire x s ms cs ∷ [])
AreEverAdmitted-fire w h x s ms cs legal allowed known t f b k z is at placed kind = of_case (of_firing h x s ms cs t f (FiresSo-allowed w h x s ms cs allowed).new_name is)
  where
    this : (r : Spot) → s ≡ r → r ≡ Site b k → has_task (ever_admitted (h ++ Fire x s ms cs ∷ [])) (root_of (h ++ Fire x s ms cs ∷ []) x) ≡ true
    this r e site =
        let here : s ≡ Site b k = e ∙ site in
        let allowed_here : IsAllowed w h (Fire x (Site b k) ms cs) = subst (λ p. IsAllowed w h (Fire x p ms cs)) here allowed in
        let facts = ResumeFacts-allowed w h x b k ms cs allowed_here in
        let ends_so = AreEnded-legal w h legal in
        let was_put = (ArePlaced-legal w h legal).lists.put_started facts.resumes (ends_so.started_ended facts.resumes (ends_so.ended_yielded facts.resumes facts.yielded_so)) in
        let placed_was : placement w (branch_of facts.firing.spot) ≡ Some z = rw facts.same_branch placed in
        let entered = put_ever_admitted w h legal known facts.resumes facts.firing facts.firing.spot z was_put facts.is_firing refl placed_was kind in
        subst (λ p. has_task (ever_admitted (h ++ Fire x p ms cs ∷ [])) (root_of (h ++ Fire x p ms cs ∷ []) x) ≡ true) (sym here) (rw (root_resumed w h x b k ms cs allowed_here facts) (ever_admitted_stays h (Fire x (Site b k) ms cs) (root_of h facts.resumes) entered))

    of_case : (firing_named h t ≡ Some f) ⊎ ((t ≡ x) × (f ≡ record { task = x; spot = s; messages = ms; cuts = cs })) → has_task (ever_admitted (h ++ Fire x s ms cs ∷ [])) (root_of (h ++ Fire x s ms cs ∷ []) t) ≡ true
    of_case (inl old) = ever_admitted_old w h (Fire x s ms cs) known t f b k z old at placed kind
    of_case (inr new) = rw new.0 (this s refl (sym (ap (λ (g : Firing). g.spot) new.1) ∙ at))

AreEverAdmitted-other : (w : Parts) (h : List Event) (e : Event) → firing_of e ≡ [] → AreEverAdmitted w h → AreEverAdmitted w (h ++ e ∷ [])
AreEverAdmitted-other w h e none known t f b k z is at placed kind = ever_admitted_old w h e known t f b k z (other_firing h e t f none is) at placed kind

AreEverAdmitted_kept : (w : Parts) (h : List Event) (e : Event) → IsLegal w h → IsAllowed w h e → AreEverAdmitted w h → AreEverAdmitted w (h ++ e ∷ [])
AreEverAdmitted_kept w h (Fire x s ms cs) legal allowed known = AreEverAdmitted-fire w h x s ms cs legal allowed known
AreEverAdmitted_kept w h (Post m) legal allowed known = AreEverAdmitted-other w h (Post m) refl known
AreEverAdmitted_kept w h (Admit x) legal allowed known = AreEverAdmitted-other w h (Admit x) refl known
AreEverAdmitted_kept w h (Put x d) legal allowed known = AreEverAdmitted-other w h (Put x d) refl known
AreEverAdmitted_kept w h (Start x a) legal allowed known = AreEverAdmitted-other w h (Start x a) refl known
AreEverAdmitted_kept w h (End x how) legal allowed known = AreEverAdmitted-other w h (End x how) refl known

AreEverAdmitted-legal : (w : Parts) (h : List Event) → IsLegal w h → AreEverAdmitted w h
AreEverAdmitted-legal w h legal = along_legal w (AreEverAdmitted w) (AreEverAdmitted_kept w) (λ t f b k z is at placed kind. absurd (cc)) h legal

-- a segment has its root's placement
pub placement_of_root : (w : Parts) (h : List Event) → IsLegal w h → (t : TaskId) → IsFired h t → placement_of w h (root_of h t) ≡ placement_of w h t
placement_of_root w h legal t fired =
    let root = AreRooted-legal w h legal t fired.0 fired.1 in
    let of_root : placement_of w h (root_of h t) ≡ placement w (branch_of fired.0.spot) = placement_by w h (root_of h t) root.0 root.1 ∙ ap (λ s. placement w (branch_of s)) root.2 in
    of_root ∙ sym (placement_by w h t fired.0 fired.1)

-- an admitted root that isn't over
pub record AdmittedFacts (w : Parts) (h : List Event) (i : ℕ) (t : TaskId) : Type 0 where
  pub entered : has_task (ever_admitted h) t ≡ true
  pub within : is_of_domain w h i t ≡ true
  pub lasts : is_over h t ≡ false

pub AdmittedFacts-admitted : (w : Parts) (h : List Event) (i : ℕ) (t : TaskId) → has_task (admitted w h i) t ≡ true → AdmittedFacts w h i t
AdmittedFacts-admitted w h i t is =
    let parts = of_filter (λ u. is_of_domain w h i u && not (is_over h u)) (ever_admitted h) t is in
    let tests = both (is_of_domain w h i t) (not (is_over h t)) parts.1 in
    record { entered = parts.0; within = tests.0; lasts = not_true (is_over h t) tests.1 }

pub admitted_whole : (w : Parts) (h : List Event) (i : ℕ) (t : TaskId) → has_task (ever_admitted h) t ≡ true → is_of_domain w h i t ≡ true → is_over h t ≡ false → has_task (admitted w h i) t ≡ true
admitted_whole w h i t entered within lasts = to_filter (λ u. is_of_domain w h i u && not (is_over h u)) (ever_admitted h) t entered (and_not (is_of_domain w h i t) (is_over h t) within lasts)

-- who of an Interleave is at work has a root that was admitted and isn't over
pub at_work_admitted : (w : Parts) (h : List Event) → IsLegal w h → (i : ℕ) (t : TaskId) → is_of_interleave w h i t ≡ true → IsAtWork h t → has_task (admitted w h i) (root_of h t) ≡ true
at_work_admitted w h legal i t within work =
    let fired = (ArePlaced-legal w h legal).all_fired t work.put_so in
    let found = some_of (is_placement_in i) (placement_of w h t) within in
    let parts = both (is_interleave found.0.kind) (found.0.domain == i) found.2 in
    let placed : placement w (branch_of fired.0.spot) ≡ Some found.0 = sym (placement_by w h t fired.0 fired.1) ∙ found.1 in
    let entered = put_ever_admitted w h legal (AreEverAdmitted-legal w h legal) t fired.0 fired.0.spot found.0 work.put_so fired.1 refl placed parts.0 in
    let there : is_of_domain w h i (root_of h t) ≡ true = ap (λ o. option_map_or (λ (s : Placement). s.domain == i) o false) (placement_of_root w h legal t fired ∙ found.1) ∙ parts.1 in
    admitted_whole w h i (root_of h t) entered there (not_over w h legal t work)

unfinished_last : (w : Parts) (h : List Event) → IsLegal w h → (t : TaskId) → has_task (ended h) t ≡ false → has_task (dropped h) t ≡ false → has_task (last_segments h) t ≡ false
unfinished_last w h legal t not_ended not_dropped = not_within (last_segments h) (ended h) t (λ is. of_case ((AreEnded-legal w h legal).last_ends t is)) not_ended
  where
    of_case : (has_task (ended h) t ≡ true) ⊎ (has_task (dropped h) t ≡ true) → has_task (ended h) t ≡ true
    of_case (inl e) = e
    of_case (inr d) = absurd (cc)

unfinished_latest : (w : Parts) (h : List Event) → IsLegal w h → (t : TaskId) → has_task (ended h) t ≡ false → is_gone_on h t ≡ false
unfinished_latest w h legal t not_ended = rw (not_within (yielded h) (ended h) t ((AreEnded-legal w h legal).ended_yielded t) not_ended) refl

-- who runs, is queued or is suspended is at work
pub running_works : (w : Parts) (h : List Event) → IsLegal w h → (t : TaskId) → has_task (running h) t ≡ true → IsAtWork h t
running_works w h legal t is =
    let runs = RunningFacts-running h t is in
    let placed = ArePlaced-legal w h legal in
    record { put_so = placed.lists.put_started t runs.started_so; not_last = unfinished_last w h legal t runs.not_ended (placed.lists.not_both t runs.started_so); latest = unfinished_latest w h legal t runs.not_ended }

pub queued_works : (w : Parts) (h : List Event) → IsLegal w h → (q : ℕ) (t : TaskId) → has_task (queued w h q) t ≡ true → IsAtWork h t
queued_works w h legal q t is =
    let facts = QueuedFacts-queued w h q t is in
    let not_ended = not_within (ended h) (started h) t ((AreEnded-legal w h legal).started_ended t) facts.not_started in
    record { put_so = facts.put_so; not_last = unfinished_last w h legal t not_ended facts.not_dropped; latest = unfinished_latest w h legal t not_ended }

pub suspended_works : (w : Parts) (h : List Event) → IsLegal w h → (t : TaskId) → is_suspended h t ≡ true → IsAtWork h t
suspended_works w h legal t is =
    let ends_so = AreEnded-legal w h legal in
    let yields = suspended_yielded h t is in
    record {
      put_so = (ArePlaced-legal w h legal).lists.put_started t (ends_so.started_ended t (ends_so.ended_yielded t yields));
      not_last = ends_so.not_both t yields;
      latest = rw (is, yields) refl;
    }

pub work_so : (w : Parts) (h : List Event) → IsLegal w h → (t : TaskId) → is_at_work w h t ≡ true → IsAtWork h t
work_so w h legal t is = of_test (is_queued w h t) refl is
  where
    later : (b : Bool) → has_task (running h) t ≡ b → b || is_suspended h t ≡ true → IsAtWork h t
    later true e at = running_works w h legal t e
    later false e at = suspended_works w h legal t at

    of_test : (b : Bool) → is_queued w h t ≡ b → (b || has_task (running h) t) || is_suspended h t ≡ true → IsAtWork h t
    of_test true e at = let found = some_of (λ (s : Placement). has_task (queued w h s.branch.queue) t) (placement_of w h t) e in queued_works w h legal found.0.branch.queue t found.2
    of_test false e at = later (has_task (running h) t) refl at

-- a root whose last segment ended is over
pub over_so : (h : List Event) (t : TaskId) → root_of h t ≡ t → has_task (last_segments h) t ≡ true → is_over h t ≡ true
over_so h t own is = any_root (last_segments h) is
  where
    any_root : (ts : List TaskId) → has_task ts t ≡ true → list_any (λ task. same_task (root_of h task) t) ts ≡ true
    any_root [] is = absurd (cc)
    any_root (u ∷ ts) is = by_test (same_task t u) refl is (any_root ts)
      where
        by_test : (b : Bool) → same_task t u ≡ b → b || has_task ts t ≡ true → (has_task ts t ≡ true → list_any (λ task. same_task (root_of h task) t) ts ≡ true) → same_task (root_of h u) t || list_any (λ task. same_task (root_of h task) t) ts ≡ true
        by_test true e at rest = let one = same_task-is t u e in or_left _ _ (subst (λ x. same_task (root_of h x) t ≡ true) one (rw own (same_task-self t)))
        by_test false e at rest = or_right _ _ (rest at)

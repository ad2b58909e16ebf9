-- Who is suspended, and for whom another task goes on.
use Rattle.std.proofs.Common.{◌≡◌, ℕ, suc, ◌≤◌, Bool, true, false, not, ◌&&◌, List, [], ◌∷◌, ◌++◌, length, filter, Some, refl, sym, arith, ap, ◌∙◌, subst, append-nil, length-append}
use Rattle.std.specs.Prelude.{◌==◌, if◌then◌else◌, option_map}
use Rattle.std.proofs.lemmas.Grind.{common_steps}
use Rattle.std.proofs.lemmas.Bool.Decides.{nat_tests}
use Rattle.std.proofs.lemmas.List.{drop-append-le}
use Rattle.std.proofs.lemmas.List.Elements.{filter-append}
use Rattle.ccr_base.specs.declared.names.TaskId.{TaskId}
use Rattle.ccr_base.specs.declared.names.MsgId.{MsgId}
use Rattle.ccr_base.specs.declared.names.Spot.{Spot}
use Rattle.ccr_base.specs.declared.names.Spot.TheVariants.{Branch, Site}
use Rattle.ccr_base.specs.Names.{same_task, same_spot, has_task}
use Rattle.ccr_wiring.specs.declared.parts.Parts.{Parts}
use Rattle.ccr_wiring.specs.Wirings.{branch_of, segment_of, next_site}
use Rattle.ccr_model.specs.declared.history.EndHow.{EndHow}
use Rattle.ccr_model.specs.declared.history.EndHow.TheVariants as ends
use Rattle.ccr_model.specs.declared.history.Event.{Event}
use Rattle.ccr_model.specs.declared.history.Event.TheVariants.{Post, Fire, Admit, Put, Start, End}
use Rattle.ccr_model.specs.Firings.{Firing, firing_of, firing_named, fired_at, spot_of, yielded, yielded_by}
use Rattle.ccr_model.specs.Sites.{yields_at, yielded_at, suspended}
use Rattle.ccr_model.specs.Live.{is_none_of}
use Rattle.ccr_model.specs.Legal.{IsAllowed, IsLegal}
use Rattle.ccr_model.specs.Consequences.{are_distinct_tasks}
use Rattle.ccr_model.proofs.Stable.{firing_named-append}
use Rattle.ccr_model.proofs.OneMoreEvent.{yielded-push}
use Rattle.ccr_model.proofs.LegalParts.{along_legal}
use Rattle.ccr_base.proofs.Options.{some_of, some_map}
use Rattle.ccr_base.proofs.SameNames.{same_task-self, has_task-append}
use Rattle.ccr_model.proofs.TasksLeft.{of_filter, filter_on, distinct-filter}
use Rattle.ccr_base.proofs.Booleans.{not_true, both, or_left, or_right, and_not, same_number}
use Rattle.ccr_model.proofs.FiredTasks.{IsFired, none_fired}
use Rattle.ccr_model.specs.AtWork.{is_suspended}
use Rattle.ccr_model.proofs.TaskLists.{has_oldest, of_more, of_one, has_task-drop, distinct-drop, drop_one_more, drop_some}
use Rattle.ccr_model.proofs.WhoWasPut.{ArePlaced-legal}
use Rattle.ccr_model.proofs.AllowedFirings.{FiresSo-allowed, firings-other}
use Rattle.ccr_model.proofs.Ending.{AreEnded-legal, RunningFacts-allowed}

pub same_site : (c l b k : ℕ) → (c == b) && (l == k) ≡ true → Site c l ≡ Site b k
same_site c l b k is =
    let numbers = both (c == b) (l == k) is in
    ap (λ n. Site n l) (same_number c b numbers.0) ∙ ap (λ n. Site b n) (same_number l k numbers.1)

-- who was suspended fired
pub yielded_fired : (w : Parts) (h : List Event) → IsLegal w h → (t : TaskId) → has_task (yielded h) t ≡ true → IsFired h t
yielded_fired w h legal t is =
    let placed = ArePlaced-legal w h legal in
    let ended_so = AreEnded-legal w h legal in
    placed.all_fired t (placed.lists.put_started t (ended_so.started_ended t (ended_so.ended_yielded t is)))

pub yields_stays : (h es : List Event) (site : Spot) (t : TaskId) → IsFired h t → yields_at (h ++ es) site t ≡ yields_at h site t
yields_stays h es site t fired = rw (firing_named-append h es t fired.0 fired.1, fired.1) refl

-- the tasks that ended as yield at the site, after one more event
yielded_at-push : (w : Parts) (h : List Event) (e : Event) (site : Spot) → IsLegal w h → ((t : TaskId) → has_task (yielded_by e) t ≡ true → IsFired h t) → yielded_at (h ++ e ∷ []) site ≡ yielded_at h site ++ filter (yields_at h site) (yielded_by e)
yielded_at-push w h e site legal fires =
    rw (yielded-push h e, filter-append (yields_at (h ++ e ∷ []) site) (yielded h) (yielded_by e), filter_on (yields_at (h ++ e ∷ []) site) (yields_at h site) (yielded h) (λ u is. yields_stays h (e ∷ []) site u (yielded_fired w h legal u is)), filter_on (yields_at (h ++ e ∷ []) site) (yields_at h site) (yielded_by e) (λ u is. yields_stays h (e ∷ []) site u (fires u is))) refl

fired_at-other : (h : List Event) (e : Event) (site : Spot) → firing_of e ≡ [] → fired_at (h ++ e ∷ []) site ≡ fired_at h site
fired_at-other h e site none = rw (firings-other h e none) refl

fired_at-fire : (h : List Event) (t : TaskId) (s : Spot) (ms : List MsgId) (cs : List TaskId) (site : Spot) → fired_at (h ++ Fire t s ms cs ∷ []) site ≡ fired_at h site ++ (if same_spot s site then t ∷ [] else [])
fired_at-fire h t s ms cs site = grind (arith, common_steps)

-- the first of those suspended where a site is live
not_empty : (ts : List TaskId) → not (is_none_of ts) ≡ true → (t : TaskId) × (us : List TaskId) × (ts ≡ t ∷ us)
not_empty [] is = absurd (cc)
not_empty (t ∷ ts) is = (t, ts, refl)

-- who is suspended at a site yielded there, fired at the branch and segment before it
pub record SuspendedFacts (h : List Event) (b k : ℕ) (u : TaskId) : Type 0 where
  pub yielded_so : has_task (yielded h) u ≡ true
  pub firing : Firing
  pub is_firing : firing_named h u ≡ Some firing
  pub same_branch : branch_of firing.spot ≡ b
  pub same_segment : segment_of firing.spot ≡ k

pub SuspendedFacts-first : (h : List Event) (b k : ℕ) (u : TaskId) (others : List TaskId) → suspended h (Site b k) ≡ u ∷ others → SuspendedFacts h b k u
SuspendedFacts-first h b k u others list =
    let among : has_task (suspended h (Site b k)) u ≡ true = has_oldest (suspended h (Site b k)) others u list in
    let yields = of_filter (yields_at h (Site b k)) (yielded h) u (has_task-drop (length (fired_at h (Site b k))) (yielded_at h (Site b k)) u among) in
    let at = some_of (λ spot. same_spot (next_site spot) (Site b k)) (spot_of h u) yields.1 in
    let fired = some_map (λ (f : Firing). f.spot) (firing_named h u) at.0 at.1 in
    let there : Some fired.0.spot ≡ Some at.0 = sym (ap (λ o. option_map (λ (f : Firing). f.spot) o) fired.1) ∙ at.1 in
    let same : at.0 ≡ fired.0.spot = cc in
    let numbers = both (branch_of fired.0.spot == b) (segment_of fired.0.spot == k) (subst (λ s. same_spot (next_site s) (Site b k) ≡ true) same at.2) in
    record {
      yielded_so = yields.0;
      firing = fired.0;
      is_firing = fired.1;
      same_branch = same_number (branch_of fired.0.spot) b numbers.0;
      same_segment = same_number (segment_of fired.0.spot) k numbers.1;
    }

-- what an allowed firing at a site says
pub record ResumeFacts (h : List Event) (b k : ℕ) : Type 0 where
  pub resumes : TaskId
  pub others : List TaskId
  pub is_first : suspended h (Site b k) ≡ resumes ∷ others
  pub yielded_so : has_task (yielded h) resumes ≡ true
  pub firing : Firing
  pub is_firing : firing_named h resumes ≡ Some firing
  pub same_branch : branch_of firing.spot ≡ b
  pub same_segment : segment_of firing.spot ≡ k

pub ResumeFacts-allowed : (w : Parts) (h : List Event) (t : TaskId) (b k : ℕ) (ms : List MsgId) (cs : List TaskId) → IsAllowed w h (Fire t (Site b k) ms cs) → ResumeFacts h b k
ResumeFacts-allowed w h t b k ms cs allowed =
    let head = not_empty (suspended h (Site b k)) (FiresSo-allowed w h t (Site b k) ms cs allowed).live in
    let facts = SuspendedFacts-first h b k head.0 head.1 head.2 in
    record {
      resumes = head.0;
      others = head.1;
      is_first = head.2;
      yielded_so = facts.yielded_so;
      firing = facts.firing;
      is_firing = facts.is_firing;
      same_branch = facts.same_branch;
      same_segment = facts.same_segment;
    }

-- at each site at most as many firings as suspensions
abbrev AreEnough : List Event → Type 0
AreEnough h = (b k : ℕ) → length (fired_at h (Site b k)) ≤ length (yielded_at h (Site b k))

pub end_fired : (w : Parts) (h : List Event) (t : TaskId) (how : EndHow) → IsLegal w h → IsAllowed w h (End t how) → (u : TaskId) → has_task (yielded_by (End t how)) u ≡ true → IsFired h u
end_fired w h t how legal allowed u among =
    let placed = ArePlaced-legal w h legal in
    let runs = RunningFacts-allowed w h t how allowed in
    let one : u ≡ t = of_end how among in
    placed.all_fired u (rw one (placed.lists.put_started t runs.started_so))
  where
    of_end : (how : EndHow) → has_task (yielded_by (End t how)) u ≡ true → u ≡ t
    of_end ends.Yield is = of_one t u is
    of_end ends.Done is = absurd (cc)
    of_end (ends.Failed v) is = absurd (cc)
    of_end ends.Shed is = absurd (cc)

enough_more : (n : ℕ) (ts us : List TaskId) → n ≤ length ts → n ≤ length (ts ++ us)
enough_more n ts us few = omega (arith, few, length-append ts us)

AreEnough-other : (w : Parts) (h : List Event) (e : Event) → firing_of e ≡ [] → IsLegal w h → ((t : TaskId) → has_task (yielded_by e) t ≡ true → IsFired h t) → AreEnough h → AreEnough (h ++ e ∷ [])
AreEnough-other w h e none legal fires enough b k = rw (fired_at-other h e (Site b k) none, yielded_at-push w h e (Site b k) legal fires) (enough_more (length (fired_at h (Site b k))) (yielded_at h (Site b k)) (filter (yields_at h (Site b k)) (yielded_by e)) (enough b k))

AreEnough-fire : (w : Parts) (h : List Event) (t : TaskId) (s : Spot) (ms : List MsgId) (cs : List TaskId) → IsLegal w h → IsAllowed w h (Fire t s ms cs) → AreEnough h → AreEnough (h ++ Fire t s ms cs ∷ [])
AreEnough-fire w h t (Branch c) ms cs legal allowed enough b k = rw (fired_at-fire h t (Branch c) ms cs (Site b k), yielded_at-push w h (Fire t (Branch c) ms cs) (Site b k) legal (none_fired h), append-nil (fired_at h (Site b k)), append-nil (yielded_at h (Site b k))) (enough b k)
AreEnough-fire w h t (Site c l) ms cs legal allowed enough b k = rw (fired_at-fire h t (Site c l) ms cs (Site b k), yielded_at-push w h (Fire t (Site c l) ms cs) (Site b k) legal (none_fired h), append-nil (yielded_at h (Site b k))) (of_test ((c == b) && (l == k)) refl)
  where
    of_test : (d : Bool) → (c == b) && (l == k) ≡ d → length (fired_at h (Site b k) ++ (if d then t ∷ [] else [])) ≤ length (yielded_at h (Site b k))
    of_test false e = rw (append-nil (fired_at h (Site b k))) (enough b k)
    of_test true e =
        let facts = ResumeFacts-allowed w h t c l ms cs allowed in
        let first : suspended h (Site b k) ≡ facts.resumes ∷ facts.others = subst (λ s. suspended h s ≡ facts.resumes ∷ facts.others) (same_site c l b k e) facts.is_first in
        let less = drop_some (length (fired_at h (Site b k))) (yielded_at h (Site b k)) facts.others facts.resumes first in
        omega (arith, less, length-append (fired_at h (Site b k)) (t ∷ []))

AreEnough_kept : (w : Parts) (h : List Event) (e : Event) → IsLegal w h → IsAllowed w h e → AreEnough h → AreEnough (h ++ e ∷ [])
AreEnough_kept w h (Fire t s ms cs) legal allowed enough = AreEnough-fire w h t s ms cs legal allowed enough
AreEnough_kept w h (End t how) legal allowed enough = AreEnough-other w h (End t how) refl legal (end_fired w h t how legal allowed) enough
AreEnough_kept w h (Post m) legal allowed enough = AreEnough-other w h (Post m) refl legal (none_fired h) enough
AreEnough_kept w h (Admit t) legal allowed enough = AreEnough-other w h (Admit t) refl legal (none_fired h) enough
AreEnough_kept w h (Put t d) legal allowed enough = AreEnough-other w h (Put t d) refl legal (none_fired h) enough
AreEnough_kept w h (Start t a) legal allowed enough = AreEnough-other w h (Start t a) refl legal (none_fired h) enough

AreEnough-legal : (w : Parts) (h : List Event) → IsLegal w h → AreEnough h
AreEnough-legal w h legal = along_legal w AreEnough (AreEnough_kept w) (λ b k. omega arith) h legal

-- who is suspended after one more event
pub suspended-other : (w : Parts) (h : List Event) (e : Event) (b k : ℕ) → firing_of e ≡ [] → IsLegal w h → ((t : TaskId) → has_task (yielded_by e) t ≡ true → IsFired h t) → suspended (h ++ e ∷ []) (Site b k) ≡ suspended h (Site b k) ++ filter (yields_at h (Site b k)) (yielded_by e)
suspended-other w h e b k none legal fires = rw (fired_at-other h e (Site b k) none, yielded_at-push w h e (Site b k) legal fires) (drop-append-le (length (fired_at h (Site b k))) (yielded_at h (Site b k)) (filter (yields_at h (Site b k)) (yielded_by e)) (AreEnough-legal w h legal b k))

pub suspended-branch : (w : Parts) (h : List Event) (t : TaskId) (c : ℕ) (ms : List MsgId) (cs : List TaskId) (b k : ℕ) → IsLegal w h → suspended (h ++ Fire t (Branch c) ms cs ∷ []) (Site b k) ≡ suspended h (Site b k)
suspended-branch w h t c ms cs b k legal = rw (fired_at-fire h t (Branch c) ms cs (Site b k), yielded_at-push w h (Fire t (Branch c) ms cs) (Site b k) legal (none_fired h), append-nil (fired_at h (Site b k)), append-nil (yielded_at h (Site b k))) refl

pub suspended-elsewhere : (w : Parts) (h : List Event) (t : TaskId) (c l : ℕ) (ms : List MsgId) (cs : List TaskId) (b k : ℕ) → IsLegal w h → (c == b) && (l == k) ≡ false → suspended (h ++ Fire t (Site c l) ms cs ∷ []) (Site b k) ≡ suspended h (Site b k)
suspended-elsewhere w h t c l ms cs b k legal other = rw (fired_at-fire h t (Site c l) ms cs (Site b k), other, yielded_at-push w h (Fire t (Site c l) ms cs) (Site b k) legal (none_fired h), append-nil (fired_at h (Site b k)), append-nil (yielded_at h (Site b k))) refl

pub suspended-here : (w : Parts) (h : List Event) (t : TaskId) (b k : ℕ) (ms : List MsgId) (cs : List TaskId) → IsLegal w h → (facts : ResumeFacts h b k) → suspended (h ++ Fire t (Site b k) ms cs ∷ []) (Site b k) ≡ facts.others
suspended-here w h t b k ms cs legal facts =
    let here : (b == b) && (k == k) ≡ true = grind (arith, nat_tests) in
    let longer : length (fired_at h (Site b k) ++ t ∷ []) ≡ suc (length (fired_at h (Site b k))) = omega (arith, length-append (fired_at h (Site b k)) (t ∷ [])) in
    rw (fired_at-fire h t (Site b k) ms cs (Site b k), here, yielded_at-push w h (Fire t (Site b k) ms cs) (Site b k) legal (none_fired h), append-nil (yielded_at h (Site b k)), longer) (drop_one_more (length (fired_at h (Site b k))) (yielded_at h (Site b k)) facts.others facts.resumes facts.is_first)

-- who is suspended stands there once
pub suspended_once : (w : Parts) (h : List Event) → IsLegal w h → (b k : ℕ) → are_distinct_tasks (suspended h (Site b k)) ≡ true
suspended_once w h legal b k = distinct-drop (length (fired_at h (Site b k))) (yielded_at h (Site b k)) (distinct-filter (yields_at h (Site b k)) (yielded h) (AreEnded-legal w h legal).once)

-- who is suspended after one more event was so before, where he had been suspended before
was_suspended : (w : Parts) (h : List Event) (e : Event) (b k : ℕ) (t : TaskId) → IsLegal w h → IsAllowed w h e → has_task (yielded h) t ≡ true → has_task (suspended (h ++ e ∷ []) (Site b k)) t ≡ true → has_task (suspended h (Site b k)) t ≡ true
was_suspended w h (Fire x (Branch c) ms cs) b k t legal allowed yields is = rw (suspended-branch w h x c ms cs b k legal) at is
was_suspended w h (Fire x (Site c l) ms cs) b k t legal allowed yields is = of_test ((c == b) && (l == k)) refl
  where
    of_test : (d : Bool) → (c == b) && (l == k) ≡ d → has_task (suspended h (Site b k)) t ≡ true
    of_test false e = rw (suspended-elsewhere w h x c l ms cs b k legal e) at is
    of_test true e =
        let site = same_site c l b k e in
        let facts = ResumeFacts-allowed w h x c l ms cs allowed in
        let now : has_task (suspended (h ++ Fire x (Site c l) ms cs ∷ []) (Site c l)) t ≡ true = subst (λ s. has_task (suspended (h ++ Fire x (Site c l) ms cs ∷ []) s) t ≡ true) (sym site) is in
        let behind : has_task facts.others t ≡ true = rw (suspended-here w h x c l ms cs legal facts) at now in
        subst (λ s. has_task (suspended h s) t ≡ true) site (rw facts.is_first (or_right (same_task t facts.resumes) (has_task facts.others t) behind))
was_suspended w h (End x how) b k t legal allowed yields is =
    of_more (suspended h (Site b k)) (filter (yields_at h (Site b k)) (yielded_by (End x how))) t (has_task (suspended h (Site b k)) t ≡ true) (subst (λ ts. has_task ts t ≡ true) (suspended-other w h (End x how) b k refl legal (end_fired w h x how legal allowed)) is) (λ old. old)
    (λ new. absurd (never (of_filter (yields_at h (Site b k)) (yielded_by (End x how)) t new).0))
  where
    ends_now : (how : EndHow) → has_task (yielded_by (End x how)) t ≡ true → t ≡ x
    ends_now ends.Yield among = of_one x t among
    ends_now ends.Done among = absurd (cc)
    ends_now (ends.Failed v) among = absurd (cc)
    ends_now ends.Shed among = absurd (cc)

    never : has_task (yielded_by (End x how)) t ≡ true → ⊥
    never among =
        let one = ends_now how among in
        let before = (AreEnded-legal w h legal).ended_yielded t yields in
        let runs = (RunningFacts-allowed w h x how allowed).not_ended in
        cc
was_suspended w h (Post m) b k t legal allowed yields is = rw (suspended-other w h (Post m) b k refl legal (none_fired h), append-nil (suspended h (Site b k))) at is
was_suspended w h (Admit x) b k t legal allowed yields is = rw (suspended-other w h (Admit x) b k refl legal (none_fired h), append-nil (suspended h (Site b k))) at is
was_suspended w h (Put x d) b k t legal allowed yields is = rw (suspended-other w h (Put x d) b k refl legal (none_fired h), append-nil (suspended h (Site b k))) at is
was_suspended w h (Start x a) b k t legal allowed yields is = rw (suspended-other w h (Start x a) b k refl legal (none_fired h), append-nil (suspended h (Site b k))) at is

-- whether another task goes on for the task: it was suspended, and isn't any more
abbrev pub is_gone_on : List Event → TaskId → Bool
is_gone_on h t = has_task (yielded h) t && not (is_suspended h t)

-- where the task is suspended, if it is
pub suspended_at : (h : List Event) (t : TaskId) (f : Firing) → firing_named h t ≡ Some f → is_suspended h t ≡ has_task (suspended h (Site (branch_of f.spot) (segment_of f.spot))) t
suspended_at h t f is = rw is refl

-- who is suspended ended so
pub suspended_yielded : (h : List Event) (t : TaskId) → is_suspended h t ≡ true → has_task (yielded h) t ≡ true
suspended_yielded h t is =
    let at = some_of (λ spot. has_task (suspended h (next_site spot)) t) (spot_of h t) is in
    let among = has_task-drop (length (fired_at h (next_site at.0))) (yielded_at h (next_site at.0)) t at.2 in
    (of_filter (yields_at h (next_site at.0)) (yielded h) t among).0

-- for whom another went on, he stays so
pub gone_stays : (w : Parts) (h : List Event) (e : Event) (t : TaskId) → IsLegal w h → IsAllowed w h e → is_gone_on h t ≡ true → is_gone_on (h ++ e ∷ []) t ≡ true
gone_stays w h e t legal allowed gone =
    let parts = both (has_task (yielded h) t) (not (is_suspended h t)) gone in
    let fired = yielded_fired w h legal t parts.0 in
    let longer : has_task (yielded (h ++ e ∷ [])) t ≡ true = rw (yielded-push h e, has_task-append (yielded h) (yielded_by e) t) (or_left (has_task (yielded h) t) (has_task (yielded_by e) t) parts.0) in
    let out = sym (suspended_at h t fired.0 fired.1) ∙ not_true (is_suspended h t) parts.1 in
    let now = suspended_at (h ++ e ∷ []) t fired.0 (firing_named-append h (e ∷ []) t fired.0 fired.1) in
    let still : is_suspended (h ++ e ∷ []) t ≡ false = now ∙ of_test (branch_of fired.0.spot) (segment_of fired.0.spot) parts.0 out _ refl in
    and_not (has_task (yielded (h ++ e ∷ [])) t) (is_suspended (h ++ e ∷ []) t) longer still
  where
    of_test : (b k : ℕ) → has_task (yielded h) t ≡ true → has_task (suspended h (Site b k)) t ≡ false → (d : Bool) → has_task (suspended (h ++ e ∷ []) (Site b k)) t ≡ d → d ≡ false
    of_test b k yields out false is = refl
    of_test b k yields out true is = let was = was_suspended w h e b k t legal allowed yields is in absurd (cc)

-- the first suspended one is suspended, and gone on for once the firing at its site resumes it
pub resumes_suspended : (h : List Event) (b k : ℕ) (facts : ResumeFacts h b k) → is_suspended h facts.resumes ≡ true
resumes_suspended h b k facts = rw (facts.is_firing, facts.same_branch, facts.same_segment, facts.is_first, same_task-self facts.resumes) refl

pub resumes_gone : (w : Parts) (h : List Event) (t : TaskId) (b k : ℕ) (ms : List MsgId) (cs : List TaskId) → IsLegal w h → (facts : ResumeFacts h b k) → is_gone_on (h ++ Fire t (Site b k) ms cs ∷ []) facts.resumes ≡ true
resumes_gone w h t b k ms cs legal facts =
    let e : Event = Fire t (Site b k) ms cs in
    let once : are_distinct_tasks (facts.resumes ∷ facts.others) ≡ true = subst (λ ts. are_distinct_tasks ts ≡ true) facts.is_first (suspended_once w h legal b k) in
    let out = not_true (has_task facts.others facts.resumes) (both (not (has_task facts.others facts.resumes)) (are_distinct_tasks facts.others) once).0 in
    let yields : has_task (yielded (h ++ e ∷ [])) facts.resumes ≡ true = rw (yielded-push h e, append-nil (yielded h)) facts.yielded_so in
    let named = firing_named-append h (e ∷ []) facts.resumes facts.firing facts.is_firing in
    rw (yields, named, facts.same_branch, facts.same_segment, suspended-here w h t b k ms cs legal facts, out) refl

-- an event that neither fires nor suspends leaves those that are suspended
pub suspended-same : (w : Parts) (h : List Event) (e : Event) → IsLegal w h → firing_of e ≡ [] → yielded_by e ≡ [] → (b k : ℕ) → suspended (h ++ e ∷ []) (Site b k) ≡ suspended h (Site b k)
suspended-same w h e legal calm none b k =
    suspended-other w h e b k calm legal (λ t is. none_fired h t (subst (λ ts. has_task ts t ≡ true) none is))
    ∙ ap (λ ts. suspended h (Site b k) ++ filter (yields_at h (Site b k)) ts) none
    ∙ append-nil (suspended h (Site b k))

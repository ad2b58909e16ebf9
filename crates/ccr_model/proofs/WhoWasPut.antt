-- Who was put, who started and who was dropped, along a legal history.
use Rattle.std.proofs.Common.{◌≡◌, ℕ, true, false, not, ◌&&◌, ◌||◌, List, [], ◌∷◌, ◌++◌, Option, Some, None, refl, sym, ap, ◌∙◌, subst, append-nil, option_to_list}
use Rattle.std.specs.Prelude.{option_map}
use Rattle.std.specs.Option.{option_map_or}
use Rattle.ccr_base.specs.declared.names.TaskId.{TaskId}
use Rattle.ccr_wiring.specs.declared.parts.Parts.{Parts}
use Rattle.ccr_model.specs.declared.history.Event.{Event}
use Rattle.ccr_model.specs.declared.history.Event.TheVariants.{Post, Fire, Admit, Put, Start, End}
use Rattle.ccr_base.specs.Names.{has_task, without, same_task}
use Rattle.ccr_wiring.specs.Wirings.{Placement, placement, branch_of}
use Rattle.ccr_model.specs.Firings.{Firing, firing_named, spot_of, cut, ever_admitted, put, put_by, started, started_by, dropped, dropped_by}
use Rattle.ccr_model.specs.TaskData.{placement_of}
use Rattle.ccr_model.specs.Tasks.{is_for_queue, queued}
use Rattle.ccr_model.specs.Rules.{is_first, needs_no_admission, may_put, is_oldest_queued}
use Rattle.ccr_model.specs.Legal.{IsAllowed, IsLegal}
use Rattle.ccr_model.specs.Consequences.{are_distinct_tasks}
use Rattle.ccr_model.proofs.PostNames.{along, refused_not}
use Rattle.ccr_model.proofs.OneMoreEvent.{put-push, started-push, dropped-push}
use Rattle.ccr_base.proofs.Options.{some_of, some_map, head_rest}
use Rattle.ccr_model.proofs.TasksLeft.{of_filter, of_without, out_left, distinct-push}
use Rattle.ccr_base.proofs.Booleans.{not_true, both, refuted, no_both, or_left}
use Rattle.ccr_base.proofs.SameNames.{same_task-self}
use Rattle.ccr_model.proofs.FiredTasks.{IsFired, AreFired, IsFired-append}
use Rattle.ccr_model.proofs.AllowedDrops.{put_allowed, drop_allowed}
use Rattle.ccr_model.proofs.TaskLists.{first_rest, has_oldest, of_more, among_left, not_more, of_one, out_right}

-- the placement of a task that fired
pub placement_by : (w : Parts) (h : List Event) (t : TaskId) (f : Firing) → firing_named h t ≡ Some f → placement_of w h t ≡ placement w (branch_of f.spot)
placement_by w h t f is = rw is refl

-- a queued task was put, and neither started nor dropped
pub record QueuedFacts (w : Parts) (h : List Event) (q : ℕ) (t : TaskId) : Type 0 where
  pub put_so : has_task (put h) t ≡ true
  pub not_started : has_task (started h) t ≡ false
  pub not_dropped : has_task (dropped h) t ≡ false
  pub for_queue : is_for_queue w h q t ≡ true

pub QueuedFacts-queued : (w : Parts) (h : List Event) (q : ℕ) (t : TaskId) → has_task (queued w h q) t ≡ true → QueuedFacts w h q t
QueuedFacts-queued w h q t is =
    let parts = of_filter (is_for_queue w h q) (without (put h) (started h ++ dropped h)) t is in
    let inner = of_without (put h) (started h ++ dropped h) t parts.0 in
    record { put_so = inner.0; not_started = out_left (started h) (dropped h) t inner.1; not_dropped = out_right (started h) (dropped h) t inner.1; for_queue = parts.1 }

-- what an allowed start says
pub record StartFacts (w : Parts) (h : List Event) (t : TaskId) : Type 0 where
  pub placement : Placement
  pub is_placement : placement_of w h t ≡ Some placement
  pub others : List TaskId
  pub is_oldest : queued w h placement.branch.queue ≡ t ∷ others

pub StartFacts-allowed : (w : Parts) (h : List Event) (t : TaskId) (a : ℕ) → IsAllowed w h (Start t a) → StartFacts w h t
StartFacts-allowed w h t a allowed =
    let first = (refused_not (is_oldest_queued w h t) _ _ allowed).0 in
    let found = some_of (λ (s : Placement). is_first (queued w h s.branch.queue) t) (placement_of w h t) first in
    let head = first_rest (queued w h found.0.branch.queue) t found.2 in
    record { placement = found.0; is_placement = found.1; others = head.0; is_oldest = head.1 }

pub StartFacts-queued : (w : Parts) (h : List Event) (t : TaskId) → (s : StartFacts w h t) → QueuedFacts w h s.placement.branch.queue t
StartFacts-queued w h t s = QueuedFacts-queued w h s.placement.branch.queue t (has_oldest (queued w h s.placement.branch.queue) s.others t s.is_oldest)

-- what may be put
pub record PutFacts (w : Parts) (h : List Event) (t : TaskId) : Type 0 where
  pub new_put : has_task (put h) t ≡ false
  pub not_cut : has_task (cut h) t ≡ false
  pub firing : Firing
  pub is_firing : firing_named h t ≡ Some firing
  pub entered : needs_no_admission w firing.spot || has_task (ever_admitted h) t ≡ true

pub PutFacts-may : (w : Parts) (h : List Event) (t : TaskId) → may_put w h t ≡ true → PutFacts w h t
PutFacts-may w h t may =
    let may_be_admitted = option_map_or (λ spot. needs_no_admission w spot || has_task (ever_admitted h) t) (spot_of h t) false in
    let parts = both (not (has_task (put h) t) && not (has_task (cut h) t)) may_be_admitted may in
    let outs = both (not (has_task (put h) t)) (not (has_task (cut h) t)) parts.0 in
    let at = some_of (λ spot. needs_no_admission w spot || has_task (ever_admitted h) t) (spot_of h t) parts.1 in
    let fired = some_map (λ (f : Firing). f.spot) (firing_named h t) at.0 at.1 in
    let there : Some fired.0.spot ≡ Some at.0 = sym (ap (λ o. option_map (λ (f : Firing). f.spot) o) fired.1) ∙ at.1 in
    let same : fired.0.spot ≡ at.0 = cc in
    record {
      new_put = not_true (has_task (put h) t) outs.0;
      not_cut = not_true (has_task (cut h) t) outs.1;
      firing = fired.0;
      is_firing = fired.1;
      entered = rw same at.2;
    }

pub PutFacts-allowed : (w : Parts) (h : List Event) (t : TaskId) (d : Option TaskId) → IsAllowed w h (Put t d) → PutFacts w h t
PutFacts-allowed w h t d allowed = PutFacts-may w h t (put_allowed w h t d allowed).0

-- who is dropped was queued
pub new_drop : (w : Parts) (h : List Event) (e : Event) (u : TaskId) → IsAllowed w h e → has_task (dropped_by e) u ≡ true → (q : ℕ) × QueuedFacts w h q u
new_drop w h (Put t None) u allowed is = absurd (cc)
new_drop w h (Put t (Some x)) u allowed is =
    let facts = drop_allowed w h t x allowed in
    let q = facts.its.branch.queue in
    let head = head_rest (queued w h q) x facts.oldest in
    (q, subst (QueuedFacts w h q) (sym (of_one x u is)) (QueuedFacts-queued w h q x (has_oldest (queued w h q) head.0 x head.1)))
new_drop w h (Post m) u allowed is = absurd (cc)
new_drop w h (Fire t s ms cs) u allowed is = absurd (cc)
new_drop w h (Admit t) u allowed is = absurd (cc)
new_drop w h (Start t a) u allowed is = absurd (cc)
new_drop w h (End t how) u allowed is = absurd (cc)

-- no task is put twice; who started or was dropped was put, and not both
pub record AreApart (ps ss ds : List TaskId) : Type 0 where
  pub once : are_distinct_tasks ps ≡ true
  pub put_started : (t : TaskId) → has_task ss t ≡ true → has_task ps t ≡ true
  pub put_dropped : (t : TaskId) → has_task ds t ≡ true → has_task ps t ≡ true
  pub not_both : (t : TaskId) → has_task ss t ≡ true → has_task ds t ≡ false

AreApart-start : (ps ss ds : List TaskId) (t : TaskId) → AreApart ps ss ds → has_task ps t ≡ true → has_task ds t ≡ false → AreApart ps (ss ++ t ∷ []) ds
AreApart-start ps ss ds t known is out = record {
  once = known.once;
  put_started = λ u among. of_more ss (t ∷ []) u (has_task ps u ≡ true) among (known.put_started u) (λ one. rw (of_one t u one) is);
  put_dropped = known.put_dropped;
  not_both = λ u among. of_more ss (t ∷ []) u (has_task ds u ≡ false) among (known.not_both u) (λ one. rw (of_one t u one) out);
}

AreApart-put : (ps ss ds more : List TaskId) (t : TaskId) → AreApart ps ss ds → has_task ps t ≡ false → ((u : TaskId) → has_task more u ≡ true → (has_task ps u ≡ true) × (has_task ss u ≡ false)) → AreApart (ps ++ t ∷ []) ss (ds ++ more)
AreApart-put ps ss ds more t known new drops = record {
  once = distinct-push ps t known.once new;
  put_started = λ u among. among_left ps (t ∷ []) u (known.put_started u among);
  put_dropped = λ u among. among_left ps (t ∷ []) u (of_more ds more u (has_task ps u ≡ true) among (known.put_dropped u) (λ one. (drops u one).0));
  not_both = λ u among. not_more ds more u (known.not_both u among) (refuted (has_task more u) (λ is. no_both among (drops u is).1));
}

-- what is known along a legal history
pub record ArePlaced (h : List Event) : Type 0 where
  pub lists : AreApart (put h) (started h) (dropped h)
  pub all_fired : AreFired h (put h)

-- who is put fired before
pub put_fired : (w : Parts) (h : List Event) (e : Event) → IsAllowed w h e → ArePlaced h → AreFired h (put (h ++ e ∷ []))
put_fired w h e allowed known t among = of_more (put h) (put_by e) t (IsFired h t) (sym (ap (λ ts. has_task ts t) (put-push h e)) ∙ among) (known.all_fired t) (of_event e allowed)
  where
    of_event : (e : Event) → IsAllowed w h e → has_task (put_by e) t ≡ true → IsFired h t
    of_event (Put u d) allowed one =
        let facts = PutFacts-allowed w h u d allowed in
        let same : u ≡ t = sym (of_one u t one) in
        subst (IsFired h) same (facts.firing, facts.is_firing)
    of_event (Post m) allowed one = absurd (cc)
    of_event (Fire u s ms cs) allowed one = absurd (cc)
    of_event (Admit u) allowed one = absurd (cc)
    of_event (Start u a) allowed one = absurd (cc)
    of_event (End u how) allowed one = absurd (cc)

lists_other : (h : List Event) (e : Event) → put_by e ≡ [] → started_by e ≡ [] → dropped_by e ≡ [] → AreApart (put h) (started h) (dropped h) → AreApart (put (h ++ e ∷ [])) (started (h ++ e ∷ [])) (dropped (h ++ e ∷ []))
lists_other h e no_put no_start no_drop known = rw (put-push, started-push, dropped-push, no_put, no_start, no_drop, append-nil (put h), append-nil (started h), append-nil (dropped h)) known

lists_kept : (w : Parts) (h : List Event) (e : Event) → AreApart (put h) (started h) (dropped h) → IsAllowed w h e → AreApart (put (h ++ e ∷ [])) (started (h ++ e ∷ [])) (dropped (h ++ e ∷ []))
lists_kept w h (Start t a) known allowed =
    let facts = StartFacts-queued w h t (StartFacts-allowed w h t a allowed) in
    rw (put-push, started-push, dropped-push, append-nil (put h), append-nil (dropped h)) (AreApart-start (put h) (started h) (dropped h) t known facts.put_so facts.not_dropped)
lists_kept w h (Put t d) known allowed =
    let facts = PutFacts-allowed w h t d allowed in
    rw (put-push, started-push, dropped-push, append-nil (started h)) (AreApart-put (put h) (started h) (dropped h) (option_to_list d) t known facts.new_put (λ u one. (let was = new_drop w h (Put t d) u allowed one in (was.1.put_so, was.1.not_started))))
lists_kept w h (Post m) known allowed = lists_other h (Post m) refl refl refl known
lists_kept w h (Fire t s ms cs) known allowed = lists_other h (Fire t s ms cs) refl refl refl known
lists_kept w h (Admit t) known allowed = lists_other h (Admit t) refl refl refl known
lists_kept w h (End t how) known allowed = lists_other h (End t how) refl refl refl known

pub ArePlaced_kept : (w : Parts) (h : List Event) (e : Event) → ArePlaced h → IsAllowed w h e → ArePlaced (h ++ e ∷ [])
ArePlaced_kept w h e known allowed = record {
  lists = lists_kept w h e known.lists allowed;
  all_fired = λ t among. IsFired-append h (e ∷ []) t (put_fired w h e allowed known t among);
}

pub ArePlaced-none : ArePlaced []
ArePlaced-none = record { lists = record { once = refl; put_started = λ t is. absurd (cc); put_dropped = λ t is. absurd (cc); not_both = λ t is. refl }; all_fired = λ t is. absurd (cc) }

pub ArePlaced-legal : (w : Parts) (h : List Event) → IsLegal w h → ArePlaced h
ArePlaced-legal w h legal = along w ArePlaced (ArePlaced_kept w) ArePlaced-none h legal

-- who started has fired
pub started_fired : (w : Parts) (h : List Event) → IsLegal w h → (t : TaskId) → has_task (started h) t ≡ true → IsFired h t
started_fired w h legal t is = let placed = ArePlaced-legal w h legal in placed.all_fired t (placed.lists.put_started t is)

-- who is dropped by a put was put
pub dropped_was_put : (w : Parts) (h : List Event) (t : TaskId) (d : Option TaskId) → IsAllowed w h (Put t d) → (x : TaskId) → d ≡ Some x → has_task (put h) x ≡ true
dropped_was_put w h t d allowed x is = (new_drop w h (Put t d) x allowed (subst (λ o. has_task (option_to_list o) x ≡ true) (sym is) (or_left (same_task x x) false (same_task-self x)))).1.put_so

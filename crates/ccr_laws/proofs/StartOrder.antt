-- Tasks of one queue start in the order of their puts.
use Rattle.std.proofs.Common.{◌≡◌, ℕ, Bool, true, false, not, ◌&&◌, ◌||◌, List, [], ◌∷◌, ◌++◌, filter, Option, option_to_list, ◌⊎◌, inl, inr, refl, sym, ap, ◌∙◌, subst, append_assoc, append-nil}
use Rattle.std.specs.Prelude.{◌==◌, if◌then◌else◌}
use Rattle.std.proofs.lemmas.List.Elements.{filter-append}
use Rattle.ccr_base.specs.declared.names.TaskId.{TaskId}
use Rattle.ccr_wiring.specs.declared.parts.Parts.{Parts}
use Rattle.ccr_model.specs.declared.history.Event.{Event}
use Rattle.ccr_model.specs.declared.history.Event.TheVariants.{Post, Fire, Admit, Put, Start, End}
use Rattle.ccr_base.specs.Names.{same_task, has_task, without}
use Rattle.ccr_model.specs.Firings.{put, put_by, started, started_by, dropped, dropped_by}
use Rattle.ccr_model.specs.Tasks.{is_for_queue, queued, put_into}
use Rattle.ccr_model.specs.Legal.{IsAllowed, IsLegal}
use Rattle.ccr_model.specs.Consequences.{are_distinct_tasks}
use Rattle.ccr_model.proofs.PostNames.{along}
use Rattle.ccr_model.proofs.OneMoreEvent.{put-push, started-push, dropped-push}
use Rattle.ccr_base.proofs.SameNames.{same_task-is}
use Rattle.ccr_model.proofs.TasksLeft.{has_task-filter, has_task-without, of_filter, of_without, filter_on, without_both, lists_start, distinct-filter}
use Rattle.ccr_base.proofs.Booleans.{both, or_left, or_right, and_false, refuted, no_both, same_number}
use Rattle.ccr_base.proofs.Filters.{filter_swap}
use Rattle.ccr_model.proofs.FiredTasks.{for_queue_stays}
use Rattle.ccr_laws.specs.Queues.{started_from, stands_before}
use Rattle.ccr_model.proofs.TaskLists.{without-append, without_none, without_other, without_first, of_more, not_more, not_within}
use Rattle.ccr_model.proofs.WhoWasPut.{AreApart, ArePlaced, ArePlaced_kept, ArePlaced-none, ArePlaced-legal, StartFacts, StartFacts-allowed, PutFacts-allowed, QueuedFacts-queued, put_fired, new_drop}

-- who of the tested ones started, then who is queued: who was put and not dropped
abbrev IsOrder : (TaskId → Bool) → List TaskId → List TaskId → List TaskId → Type 0
IsOrder p ps ss ds = filter p ss ++ filter p (without ps (ss ++ ds)) ≡ filter p (without ps ds)

-- one more started: the oldest of the queued ones, where it is one of them
IsOrder-start : (p : TaskId → Bool) (ps ss ds : List TaskId) (t : TaskId) → AreApart ps ss ds → (p t ≡ true → (rest : List TaskId) × (filter p (without ps (ss ++ ds)) ≡ t ∷ rest)) → IsOrder p ps ss ds → IsOrder p ps (ss ++ t ∷ []) ds
IsOrder-start p ps ss ds t known oldest is = rw (lists_start p ps ss ds t, filter-append p ss (t ∷ [])) (of_test (p t) refl oldest)
  where
    of_test : (b : Bool) → p t ≡ b → (p t ≡ true → (rest : List TaskId) × (filter p (without ps (ss ++ ds)) ≡ t ∷ rest)) → (filter p ss ++ (if b then t ∷ [] else [])) ++ without (filter p (without ps (ss ++ ds))) (t ∷ []) ≡ filter p (without ps ds)
    of_test false e oldest' =
        let out : has_task (filter p (without ps (ss ++ ds))) t ≡ false = rw (has_task-filter p (without ps (ss ++ ds)) t, e) (and_false _) in
        rw (append-nil (filter p ss), without_other (filter p (without ps (ss ++ ds))) t out) is
    of_test true e oldest' =
        let head = oldest' e in
        let distinct : are_distinct_tasks (t ∷ head.0) ≡ true = subst (λ ts. are_distinct_tasks ts ≡ true) head.1 (distinct-filter p (without ps (ss ++ ds)) (distinct-filter (λ u. not (has_task (ss ++ ds) u)) ps known.once)) in
        let was : filter p ss ++ (t ∷ head.0) ≡ filter p (without ps ds) = rw head.1 at is in
        rw (head.1, without_first head.0 t distinct, append_assoc (filter p ss) (t ∷ []) head.0) was

-- one more put, and some of the queued ones dropped
IsOrder-put : (p : TaskId → Bool) (ps ss ds more : List TaskId) (t : TaskId) → AreApart ps ss ds → has_task ps t ≡ false → ((u : TaskId) → has_task more u ≡ true → (has_task ps u ≡ true) × (has_task ss u ≡ false)) → IsOrder p ps ss ds → IsOrder p (ps ++ t ∷ []) ss (ds ++ more)
IsOrder-put p ps ss ds more t known new drops is =
    let out_more = not_within more ps t (λ among. (drops t among).0) new in
    let out_dropped = not_within ds ps t (known.put_dropped t) new in
    let out_started = not_within ss ps t (known.put_started t) new in
    let gone : has_task (ds ++ more) t ≡ false = not_more ds more t out_dropped out_more in
    let all_gone : has_task (ss ++ (ds ++ more)) t ≡ false = not_more ss (ds ++ more) t out_started gone in
    let left : filter p (without (ps ++ t ∷ []) (ss ++ (ds ++ more))) ≡ without (filter p (without ps (ss ++ ds))) more ++ filter p (t ∷ []) =
    rw (without-append ps (t ∷ []) (ss ++ (ds ++ more)), all_gone, ← (append_assoc ss ds more), without_both ps (ss ++ ds) more, filter-append, filter_swap p (λ u. not (has_task more u)) (without ps (ss ++ ds))) refl in
    let right : filter p (without (ps ++ t ∷ []) (ds ++ more)) ≡ without (filter p (without ps ds)) more ++ filter p (t ∷ []) =
    rw (without-append ps (t ∷ []) (ds ++ more), gone, without_both ps ds more, filter-append, filter_swap p (λ u. not (has_task more u)) (without ps ds)) refl in
    let stays : without (filter p ss) more ≡ filter p ss = without_none (filter p ss) more (λ u among. refuted (has_task more u) (λ gone. no_both (of_filter p ss u among).0 (drops u gone).1)) in
    let both_sides : without (filter p (without ps ds)) more ≡ filter p ss ++ without (filter p (without ps (ss ++ ds))) more =
    sym (ap (λ ts. without ts more) is) ∙ (without-append (filter p ss) (filter p (without ps (ss ++ ds))) more ∙ ap (λ ts. ts ++ without (filter p (without ps (ss ++ ds))) more) stays) in
    rw (left, right, both_sides, append_assoc (filter p ss) (without (filter p (without ps (ss ++ ds))) more) (filter p (t ∷ []))) refl

-- another test that agrees on who was put
IsOrder-test : (p q : TaskId → Bool) (ps ss ds : List TaskId) → AreApart ps ss ds → ((u : TaskId) → has_task ps u ≡ true → q u ≡ p u) → IsOrder p ps ss ds → IsOrder q ps ss ds
IsOrder-test p q ps ss ds known same is =
    rw (filter_on q p ss (λ u among. same u (known.put_started u among)), filter_on q p (without ps (ss ++ ds)) (λ u among. same u (of_without ps (ss ++ ds) u among).0), filter_on q p (without ps ds) (λ u among. same u (of_without ps ds u among).0)) is

-- the order of one queue
abbrev IsOrderOf : Parts → ℕ → List Event → Type 0
IsOrderOf w q h = IsOrder (is_for_queue w h q) (put h) (started h) (dropped h)

order_other : (p : TaskId → Bool) (h : List Event) (e : Event) → put_by e ≡ [] → started_by e ≡ [] → dropped_by e ≡ [] → IsOrder p (put h) (started h) (dropped h) → IsOrder p (put (h ++ e ∷ [])) (started (h ++ e ∷ [])) (dropped (h ++ e ∷ []))
order_other p h e no_put no_start no_drop is = rw (put-push, started-push, dropped-push, no_put, no_start, no_drop, append-nil (put h), append-nil (started h), append-nil (dropped h)) is

order_start : (w : Parts) (q : ℕ) (h : List Event) (t : TaskId) (a : ℕ) → IsAllowed w h (Start t a) → ArePlaced h → IsOrderOf w q h → IsOrder (is_for_queue w h q) (put (h ++ Start t a ∷ [])) (started (h ++ Start t a ∷ [])) (dropped (h ++ Start t a ∷ []))
order_start w q h t a allowed known is =
    let facts = StartFacts-allowed w h t a allowed in
    rw (put-push, started-push, dropped-push, append-nil (put h), append-nil (dropped h)) (IsOrder-start (is_for_queue w h q) (put h) (started h) (dropped h) t known.lists (λ passes. (facts.others, oldest facts passes)) is)
  where
    oldest : (facts : StartFacts w h t) → is_for_queue w h q t ≡ true → queued w h q ≡ t ∷ facts.others
    oldest facts passes =
        let there : (facts.placement.branch.queue == q) ≡ true = rw facts.is_placement at passes in
        let same = same_number facts.placement.branch.queue q there in
        subst (λ n. queued w h n ≡ t ∷ facts.others) same facts.is_oldest

order_put : (w : Parts) (q : ℕ) (h : List Event) (t : TaskId) (d : Option TaskId) → IsAllowed w h (Put t d) → ArePlaced h → IsOrderOf w q h → IsOrder (is_for_queue w h q) (put (h ++ Put t d ∷ [])) (started (h ++ Put t d ∷ [])) (dropped (h ++ Put t d ∷ []))
order_put w q h t d allowed known is =
    let facts = PutFacts-allowed w h t d allowed in
    rw (put-push, started-push, dropped-push, append-nil (started h)) (IsOrder-put (is_for_queue w h q) (put h) (started h) (dropped h) (option_to_list d) t known.lists facts.new_put (λ u one. (let was = new_drop w h (Put t d) u allowed one in (was.1.put_so, was.1.not_started))) is)

order_by : (w : Parts) (q : ℕ) (h : List Event) (e : Event) → IsAllowed w h e → ArePlaced h → IsOrderOf w q h → IsOrder (is_for_queue w h q) (put (h ++ e ∷ [])) (started (h ++ e ∷ [])) (dropped (h ++ e ∷ []))
order_by w q h (Start t a) allowed known is = order_start w q h t a allowed known is
order_by w q h (Put t d) allowed known is = order_put w q h t d allowed known is
order_by w q h (Post m) allowed known is = order_other (is_for_queue w h q) h (Post m) refl refl refl is
order_by w q h (Fire t s ms cs) allowed known is = order_other (is_for_queue w h q) h (Fire t s ms cs) refl refl refl is
order_by w q h (Admit t) allowed known is = order_other (is_for_queue w h q) h (Admit t) refl refl refl is
order_by w q h (End t how) allowed known is = order_other (is_for_queue w h q) h (End t how) refl refl refl is

order_kept : (w : Parts) (q : ℕ) (h : List Event) (e : Event) → ArePlaced h → IsOrderOf w q h → IsAllowed w h e → IsOrderOf w q (h ++ e ∷ [])
order_kept w q h e known is allowed =
    let now = ArePlaced_kept w h e known allowed in
    IsOrder-test (is_for_queue w h q) (is_for_queue w (h ++ e ∷ []) q) (put (h ++ e ∷ [])) (started (h ++ e ∷ [])) (dropped (h ++ e ∷ [])) now.lists
    (λ u among. for_queue_stays w h (e ∷ []) q u (put_fired w h e allowed known u among)) (order_by w q h e allowed known is)

in_order : (w : Parts) (q : ℕ) (h : List Event) → IsLegal w h → IsOrderOf w q h
in_order w q h legal = (along w (λ g. ArePlaced g × IsOrderOf w q g) (λ g e p allowed. (ArePlaced_kept w g e p.0 allowed, order_kept w q g e p.0 p.1 allowed)) (ArePlaced-none, refl) h legal).1

-- start order
pub starts_in_order : (w : Parts) (h : List Event) → IsLegal w h → (q : ℕ) → started_from w h q ++ queued w h q ≡ without (put_into w h q) (dropped h)
starts_in_order w h legal q = in_order w q h legal ∙ filter_swap (is_for_queue w h q) (λ u. not (has_task (dropped h) u)) (put h)

-- over plain lists: who stands before whom
behind_has : (t u : TaskId) (ts : List TaskId) → stands_before t u ts ≡ true → has_task ts u ≡ true
behind_has t u [] is = absurd (cc)
behind_has t u (x ∷ ts) is = of_test (same_task t x && has_task ts u) refl is (behind_has t u ts)
  where
    of_test : (b : Bool) → same_task t x && has_task ts u ≡ b → b || stands_before t u ts ≡ true → (stands_before t u ts ≡ true → has_task ts u ≡ true) → has_task (x ∷ ts) u ≡ true
    of_test true e at rest = or_right (same_task u x) (has_task ts u) (both (same_task t x) (has_task ts u) e).1
    of_test false e at rest = or_right (same_task u x) (has_task ts u) (rest at)

before_front : (t u : TaskId) (ts us : List TaskId) → has_task us u ≡ false → stands_before t u (ts ++ us) ≡ true → stands_before t u ts ≡ true
before_front t u [] us out is = let there = behind_has t u us is in absurd (cc)
before_front t u (x ∷ ts) us out is = of_test (same_task t x && has_task (ts ++ us) u) refl is (before_front t u ts us out)
  where
    of_test : (b : Bool) → same_task t x && has_task (ts ++ us) u ≡ b → b || stands_before t u (ts ++ us) ≡ true → (stands_before t u (ts ++ us) ≡ true → stands_before t u ts ≡ true) → stands_before t u (x ∷ ts) ≡ true
    of_test false e at rest = or_right (same_task t x && has_task ts u) (stands_before t u ts) (rest at)
    of_test true e at rest =
        let parts = both (same_task t x) (has_task (ts ++ us) u) e in
        let there : has_task ts u ≡ true = of_more ts us u (has_task ts u ≡ true) parts.1 (λ one. one) (λ one. absurd (cc)) in
        or_left (same_task t x && has_task ts u) (stands_before t u ts) (rw (parts.0, there) refl)

before_without : (t u : TaskId) (ts gone : List TaskId) → has_task gone t ≡ false → has_task gone u ≡ false → stands_before t u ts ≡ true → stands_before t u (without ts gone) ≡ true
before_without t u [] gone out_t out_u is = absurd (cc)
before_without t u (x ∷ ts) gone out_t out_u is = of_test (same_task t x && has_task ts u) refl is (before_without t u ts gone out_t out_u)
  where
    longer : (b : Bool) → stands_before t u (without ts gone) ≡ true → stands_before t u (if b then x ∷ without ts gone else without ts gone) ≡ true
    longer true rest = or_right (same_task t x && has_task (without ts gone) u) (stands_before t u (without ts gone)) rest
    longer false rest = rest

    of_test : (b : Bool) → same_task t x && has_task ts u ≡ b → b || stands_before t u ts ≡ true → (stands_before t u ts ≡ true → stands_before t u (without ts gone) ≡ true) → stands_before t u (without (x ∷ ts) gone) ≡ true
    of_test false e at rest = longer (not (has_task gone x)) (rest at)
    of_test true e at rest =
        let parts = both (same_task t x) (has_task ts u) e in
        let one : t ≡ x = same_task-is t x parts.0 in
        let stays : has_task gone x ≡ false = subst (λ y. has_task gone y ≡ false) one out_t in
        let there : has_task (without ts gone) u ≡ true = rw (has_task-without ts gone u, parts.1, out_u) refl in
        rw (stays, parts.0, there) refl

-- of two tasks of a queue
pub starts_earlier : (w : Parts) (h : List Event) → IsLegal w h → (q : ℕ) (t u : TaskId) → stands_before t u (put_into w h q) ≡ true → has_task (started h) u ≡ true → (stands_before t u (started_from w h q) ≡ true) ⊎ (has_task (dropped h) t ≡ true)
starts_earlier w h legal q t u earlier runs = of_test (has_task (dropped h) t) refl
  where
    not_queued : has_task (queued w h q) u ≡ false
    not_queued = refuted (has_task (queued w h q) u) (λ is. no_both runs (QueuedFacts-queued w h q u is).not_started)

    of_test : (b : Bool) → has_task (dropped h) t ≡ b → (stands_before t u (started_from w h q) ≡ true) ⊎ (b ≡ true)
    of_test true e = inr refl
    of_test false e =
        let stays = (ArePlaced-legal w h legal).lists.not_both u runs in
        let stands : stands_before t u (started_from w h q ++ queued w h q) ≡ true = rw (starts_in_order w h legal q) (before_without t u (put_into w h q) (dropped h) e stays earlier) in
        inl (before_front t u (started_from w h q) (queued w h q) not_queued stands)

-- Each event keeps how many tasks are on their way to each queue.
use Rattle.std.proofs.Common.{◌≡◌, ℕ, ◌<◌, Bool, true, false, not, ◌&&◌, List, [], ◌∷◌, ◌++◌, length, map, filter, Option, Some, None, refl, sym, ap, ◌∙◌, arith, subst, append_assoc, append-nil, length-set}
use Rattle.std.specs.Prelude.{◌==◌, if◌then◌else◌}
use Rattle.std.specs.Option.{option_map_or}
use Rattle.ccr_base.specs.declared.names.TaskId.{TaskId}
use Rattle.ccr_base.specs.declared.names.MsgId.{MsgId}
use Rattle.ccr_base.specs.declared.names.MsgId.TheVariants.{Script, Task}
use Rattle.ccr_base.specs.declared.names.Spot.TheVariants.{Branch, Site}
use Rattle.ccr_base.specs.Names.{same_task, has_task, without}
use Rattle.ccr_wiring.specs.declared.parts.Parts.{Parts}
use Rattle.ccr_wiring.specs.Wirings.{Placement, placement, is_branch}
use Rattle.ccr_model.specs.declared.history.Event.{Event}
use Rattle.ccr_model.specs.declared.history.Event.TheVariants.{Post, Fire, Admit, Put, Start, End}
use Rattle.ccr_model.specs.declared.history.EndHow.{EndHow}
use Rattle.ccr_model.specs.Firings.{Firing, firing_of, firings, started_by, dropped_by, cut}
use Rattle.ccr_model.specs.Tasks.{is_branch_where, fired_by, coming}
use Rattle.ccr_model.specs.Live.{is_live_in}
use Rattle.ccr_model.specs.Legal.{IsAllowed, IsLegal}
use Rattle.ccr_model.specs.Consequences.{are_distinct_tasks}
use Rattle.ccr_model.proofs.Allowing.{OneName-legal}
use Rattle.ccr_base.proofs.Options.{some_of}
use Rattle.ccr_base.proofs.SameNames.{same_task-self}
use Rattle.ccr_base.proofs.Booleans.{not_true, both, or_left, or_right, refuted, no_both}
use Rattle.ccr_model.proofs.TasksLeft.{filter_on}
use Rattle.ccr_model.proofs.TaskLists.{of_more, not_more, not_one}
use Rattle.ccr_model.proofs.FiredTasks.{IsFired, fired_has}
use Rattle.ccr_model.proofs.WhoWasPut.{ArePlaced-legal, StartFacts-allowed, StartFacts-queued, PutFacts-allowed, new_drop}
use Rattle.ccr_model.proofs.AllowedFirings.{FiresSo-allowed, WaitingFacts, firings-other}
use Rattle.ccr_model.proofs.Cutting.{CutFacts-legal, cut_by, waits_unput}
use Rattle.ccr_model.proofs.TasksOnce.{cuts_distinct, fired_once, some_once}
use Rattle.ccr_ledger.specs.declared.cards.Card.{Card}
use Rattle.ccr_ledger.specs.declared.cards.TaskStage.TheVariants as stages
use Rattle.ccr_ledger.specs.Books.{Books, card_at, number, more, less}
use Rattle.ccr_ledger.specs.Posting.{counted}
use Rattle.ccr_ledger.specs.Firing.{without_coming, cut_card, after_cut, after_cuts, after_taking, resumed_card}
use Rattle.ccr_ledger.specs.Events.{after_last, after_discard, after_drop, after_dropped, after_enter, after_start, after_stop, after_yield, after_end, after_event, is_yield}
use Rattle.ccr_ledger.specs.Kept.{HasSizes, KeepsTasks}
use Rattle.ccr_ledger.proofs.Counting.{more_if, less_if, number-more, number-less, left-less, left-more}
use Rattle.ccr_ledger.proofs.GoneFromQueues.{gone, gone_fired, not_gone, queued_here, gone-other, gone-fire, gone-start, gone-drop}
use Rattle.ccr_ledger.proofs.TaskCards.{CardFacts, CardFacts-fired, card_moved}
use Rattle.ccr_ledger.proofs.OneMoreFiring.{fired_where-fire}
use Rattle.ccr_ledger.proofs.FiredBy.{fired_by-is, branch-is}

-- the numbers count, where these are gone, those that branches fired for each queue
abbrev AreCounted : Parts → List Event → List TaskId → List ℕ → Type 0
AreCounted w h out numbers = (q : ℕ) → q < length w.queues → number numbers q ≡ length (without (fired_by w (λ s. s.branch.queue == q) h) out)

-- the same numbers, the same that are gone
by_numbers : (w : Parts) (h : List Event) (out : List TaskId) (ns ms : List ℕ) → ms ≡ ns → AreCounted w h out ns → AreCounted w h out ms
by_numbers w h out ns ms same counts q low = ap (λ numbers. number numbers q) same ∙ counts q low

by_gone : (w : Parts) (h : List Event) (out others : List TaskId) (ns : List ℕ) → ((u : TaskId) → has_task out u ≡ has_task others u) → AreCounted w h out ns → AreCounted w h others ns
by_gone w h out others ns same counts q low = counts q low ∙ ap length (filter_on (λ u. not (has_task out u)) (λ u. not (has_task others u)) (fired_by w (λ s. s.branch.queue == q) h) (λ u among. ap not (same u)))

by_list : (w : Parts) (h : List Event) (out others : List TaskId) (ns : List ℕ) → others ≡ out → AreCounted w h out ns → AreCounted w h others ns
by_list w h out others ns same counts = by_gone w h out others ns (λ u. ap (λ ts. has_task ts u) (sym same)) counts

-- an event that is no firing
by_event : (w : Parts) (h : List Event) (e : Event) (out : List TaskId) (ns : List ℕ) → firing_of e ≡ [] → AreCounted w h out ns → AreCounted w (h ++ e ∷ []) out ns
by_event w h e out ns none counts q low = counts q low ∙ ap (λ fs. length (without (map (λ (f : Firing). f.task) (filter (λ (f : Firing). is_branch_where w (λ s. s.branch.queue == q) f.spot) fs)) out)) (sym (firings-other h e none))

length-without_coming : (c : Card) (ns : List ℕ) → length (without_coming c ns) ≡ length ns
length-without_coming c ns = of_test (is_branch c.spot)
  where
    of_test : (b : Bool) → length (if b then less c.queue ns else ns) ≡ length ns
    of_test true = length-set ns c.queue _
    of_test false = refl

-- one more is gone
counted-less : (w : Parts) (h : List Event) (out : List TaskId) (ns : List ℕ) (t : TaskId) (b : Books) → IsLegal w h → length ns ≡ length w.queues → (facts : CardFacts w h t b) → has_task out t ≡ false → AreCounted w h out ns → AreCounted w h (out ++ t ∷ []) (without_coming facts.card ns)
counted-less w h out ns t b legal size facts there counts q low =
    number-less (is_branch facts.card.spot) ns facts.card.queue q (omega (arith, low, size))
    ∙ (ap (λ n. less_if (is_branch facts.card.spot && (facts.card.queue == q)) n) (counts q low)
    ∙ (ap (λ is. less_if is (length (without (fired_by w (λ s. s.branch.queue == q) h) out))) same
    ∙ sym (left-less (fired_by w (λ s. s.branch.queue == q) h) out t (some_once (λ (f : Firing). is_branch_where w (λ s. s.branch.queue == q) f.spot) (firings h) (fired_once w h legal)) there)))
  where
    same : is_branch facts.card.spot && (facts.card.queue == q) ≡ has_task (fired_by w (λ s. s.branch.queue == q) h) t
    same = rw (facts.spot, facts.queue) (sym (fired_by-is w (λ s. s.branch.queue == q) h t facts.firing legal facts.is_firing ∙ branch-is w (λ s. s.branch.queue == q) facts.firing.spot facts.placement facts.sits))

-- one more fired
counted-more : (w : Parts) (h : List Event) (out : List TaskId) (ns : List ℕ) (t : TaskId) (n : ℕ) (z : Placement) (ms : List MsgId) (cs : List TaskId) → placement w n ≡ Some z → length ns ≡ length w.queues → has_task out t ≡ false → AreCounted w h out ns → AreCounted w (h ++ Fire t (Branch n) ms cs ∷ []) out (more z.branch.queue ns)
counted-more w h out ns t n z ms cs at size there counts q low =
    number-more true ns z.branch.queue q (omega (arith, low, size))
    ∙ (ap (λ k. more_if (z.branch.queue == q) k) (counts q low)
    ∙ sym (ap (λ ts. length (without ts out)) (fired_where-fire (λ (f : Firing). is_branch_where w (λ s. s.branch.queue == q) f.spot) h t (Branch n) ms cs)
    ∙ (left-more (fired_by w (λ s. s.branch.queue == q) h) out t (is_branch_where w (λ s. s.branch.queue == q) (Branch n)) there
    ∙ ap (λ o. more_if (option_map_or (λ (s : Placement). s.branch.queue == q) o false) (length (without (fired_by w (λ s. s.branch.queue == q) h) out))) at)))

-- a site's task is none of a branch
counted-site : (w : Parts) (h : List Event) (out : List TaskId) (ns : List ℕ) (t : TaskId) (n k : ℕ) (ms : List MsgId) (cs : List TaskId) → AreCounted w h out ns → AreCounted w (h ++ Fire t (Site n k) ms cs ∷ []) out ns
counted-site w h out ns t n k ms cs counts q low =
    counts q low ∙ sym (ap (λ ts. length (without ts out)) (fired_where-fire (λ (f : Firing). is_branch_where w (λ s. s.branch.queue == q) f.spot) h t (Site n k) ms cs ∙ append-nil (fired_by w (λ s. s.branch.queue == q) h)))

-- what the events make of the counts
by_card : (b : Books) (o : Option Card) (f : Card → Books) → ((c : Card) → (f c).coming ≡ b.coming) → (option_map_or f o b).coming ≡ b.coming
by_card b None f same = refl
by_card b (Some c) f same = same c

same-post : (id : MsgId) (b : Books) → (counted id b).coming ≡ b.coming
same-post (Script actor place) b = refl
same-post (Task task place) b = refl

same-last : (r : TaskId) (b : Books) → (after_last r b).coming ≡ b.coming
same-last r b = by_card b (card_at b.tasks r) _ (λ c. of_test b (record b { tasks = _; admitted = _; alone = _ }) c.admitted refl)
  where
    of_test : (b d : Books) (is : Bool) → d.coming ≡ b.coming → (if is then d else b).coming ≡ b.coming
    of_test b d true same = same
    of_test b d false same = refl

same-end : (t : TaskId) (how : EndHow) (c : Card) (b : Books) → (after_end t how c b).coming ≡ b.coming
same-end t how c b = of_test (is_yield how)
  where
    of_test : (is : Bool) → (if is then after_yield t c b else after_last c.root (after_stop t b)).coming ≡ b.coming
    of_test true = refl
    of_test false = same-last c.root (after_stop t b)

-- cuts, one after the other
counted-cuts : (w : Parts) (h : List Event) (out cs : List TaskId) (b : Books) → IsLegal w h → length b.coming ≡ length w.queues → are_distinct_tasks cs ≡ true → ((t : TaskId) → has_task cs t ≡ true → has_task out t ≡ false)
    → ((t : TaskId) → has_task cs t ≡ true → CardFacts w h t b) → AreCounted w h out b.coming → AreCounted w h (out ++ cs) (after_cuts cs b).coming
counted-cuts w h out [] b legal size once apart cards counts = by_list w h out (out ++ []) b.coming (append-nil out) counts
counted-cuts w h out (t ∷ cs) b legal size once apart cards counts =
    let parts = both (not (has_task cs t)) (are_distinct_tasks cs) once in
    let among = or_left (same_task t t) (has_task cs t) (same_task-self t) in
    let card = cards t among in
    let one : after_cut t b ≡ cut_card t card.card b = ap (λ o. option_map_or (λ c. cut_card t c b) o b) card.is_card in
    by_list w h ((out ++ t ∷ []) ++ cs) (out ++ t ∷ cs) (after_cuts (t ∷ cs) b).coming (sym (append_assoc out (t ∷ []) cs))
    (by_numbers w h ((out ++ t ∷ []) ++ cs) (after_cuts cs (cut_card t card.card b)).coming (after_cuts (t ∷ cs) b).coming (ap (λ d. (after_cuts cs d).coming) one)
    (counted-cuts w h (out ++ t ∷ []) cs (cut_card t card.card b) legal (length-without_coming card.card b.coming ∙ size) parts.1
    (λ u is. not_more out (t ∷ []) u (apart u (or_right (same_task u t) (has_task cs u) is)) (not_one t u cs (not_true (has_task cs t) parts.0) is))
    (λ u is. card_moved w h stages.Cut t b (cut_card t card.card b) u refl (cards u (or_right (same_task u t) (has_task cs u) is)))
    (counted-less w h out b.coming t b legal size card (apart t among) counts)))

length-cuts : (cs : List TaskId) (b : Books) → length (after_cuts cs b).coming ≡ length b.coming
length-cuts [] b = refl
length-cuts (t ∷ cs) b = length-cuts cs (after_cut t b) ∙ of_card (card_at b.tasks t)
  where
    of_card : (o : Option Card) → length (option_map_or (λ c. cut_card t c b) o b).coming ≡ length b.coming
    of_card None = refl
    of_card (Some c) = length-without_coming c b.coming

-- what is counted after the event
abbrev Counts : Parts → List Event → Event → Books → Type 0
Counts w h e b = AreCounted w (h ++ e ∷ []) (gone (h ++ e ∷ [])) (after_event w e b).coming

counted-other : (w : Parts) (h : List Event) (e : Event) (b : Books) → firing_of e ≡ [] → started_by e ≡ [] → dropped_by e ≡ [] → cut (e ∷ []) ≡ [] → (after_event w e b).coming ≡ b.coming → AreCounted w h (gone h) b.coming → Counts w h e b
counted-other w h e b no_fire no_start no_drop no_cut same counts =
    by_numbers w (h ++ e ∷ []) (gone (h ++ e ∷ [])) b.coming (after_event w e b).coming same
    (by_list w (h ++ e ∷ []) (gone h) (gone (h ++ e ∷ [])) b.coming (gone-other h e no_start no_drop no_cut)
    (by_event w h e (gone h) b.coming no_fire counts))

counted-branch : (w : Parts) (h : List Event) (t : TaskId) (n : ℕ) (ms : List MsgId) (cs : List TaskId) (b : Books) → IsLegal w h → IsAllowed w h (Fire t (Branch n) ms cs) → HasSizes w b → KeepsTasks w h b → AreCounted w h (gone h) b.coming → Counts w h (Fire t (Branch n) ms cs) b
counted-branch w h t n ms cs b legal allowed sizes tasks counts =
    let so = FiresSo-allowed w h t (Branch n) ms cs allowed in
    let at = some_of (λ (s : Placement). is_live_in w h n s.domain s.branch.group) (placement w n) so.live in
    let once : are_distinct_tasks cs ≡ true = subst (λ ts. are_distinct_tasks ts ≡ true) (sym so.cuts) (cuts_distinct w h (Branch n) legal) in
    let e : Event = Fire t (Branch n) ms cs in
    let after = counted-cuts w h (gone h) cs b legal sizes.coming once (λ u is. out u (waits u is)) (λ u is. card u (waits u is)) counts in
    let new = refuted (has_task (gone h ++ cs) t) (λ is. no_both (fired_has h t (of_more (gone h) cs t (IsFired h t) is (gone_fired w h legal t) (λ u. waits_fired t (waits t u)))) so.new_name) in
    by_numbers w (h ++ e ∷ []) (gone (h ++ e ∷ [])) (more at.0.branch.queue (after_cuts cs b).coming) (after_event w e b).coming (ap (λ o. (option_map_or (after_taking w t n ms (after_cuts cs b)) o b).coming) at.1)
    (by_list w (h ++ e ∷ []) (gone h ++ cs) (gone (h ++ e ∷ [])) (more at.0.branch.queue (after_cuts cs b).coming) (gone-fire h t (Branch n) ms cs)
    (counted-more w h (gone h ++ cs) (after_cuts cs b).coming t n at.0 ms cs at.1 (length-cuts cs b ∙ sizes.coming) new after))
  where
    Waits : TaskId → Type 0
    Waits u = (i : ℕ) × WaitingFacts w h i u

    waits : (u : TaskId) → has_task cs u ≡ true → Waits u
    waits u is = cut_by w h t (Branch n) ms cs (OneName-legal w h legal) allowed u (subst (λ ts. has_task ts u ≡ true) (sym (append-nil cs)) is)

    waits_fired : (u : TaskId) → Waits u → IsFired h u
    waits_fired u so = (so.1.firing, so.1.is_firing)

    out : (u : TaskId) → Waits u → has_task (gone h) u ≡ false
    out u so = not_gone w h u legal (waits_unput w h so.0 u (CutFacts-legal w h legal) so.1) so.1.not_cut

    card : (u : TaskId) → Waits u → CardFacts w h u b
    card u so = CardFacts-fired w h u b legal tasks (waits_fired u so)

counted-at_site : (w : Parts) (h : List Event) (t : TaskId) (n k : ℕ) (ms : List MsgId) (cs : List TaskId) (b : Books) → IsAllowed w h (Fire t (Site n k) ms cs) → AreCounted w h (gone h) b.coming → Counts w h (Fire t (Site n k) ms cs) b
counted-at_site w h t n k ms cs b allowed counts =
    let e : Event = Fire t (Site n k) ms cs in
    let none : cs ≡ [] = (FiresSo-allowed w h t (Site n k) ms cs allowed).cuts in
    by_numbers w (h ++ e ∷ []) (gone (h ++ e ∷ [])) b.coming (after_event w e b).coming (by_card b (resumed_card b n k) _ (λ c. refl))
    (by_list w (h ++ e ∷ []) (gone h) (gone (h ++ e ∷ [])) b.coming (gone-fire h t (Site n k) ms cs ∙ (ap (λ ts. gone h ++ ts) none ∙ append-nil (gone h)))
    (counted-site w h (gone h) b.coming t n k ms cs counts))

counted-start : (w : Parts) (h : List Event) (t : TaskId) (a : ℕ) (b : Books) → IsLegal w h → IsAllowed w h (Start t a) → HasSizes w b → KeepsTasks w h b → AreCounted w h (gone h) b.coming → Counts w h (Start t a) b
counted-start w h t a b legal allowed sizes tasks counts =
    let e : Event = Start t a in
    let facts = StartFacts-allowed w h t a allowed in
    let queued_so = StartFacts-queued w h t facts in
    let card = CardFacts-fired w h t b legal tasks ((ArePlaced-legal w h legal).all_fired t queued_so.put_so) in
    let ns : List ℕ = without_coming card.card b.coming in
    by_numbers w (h ++ e ∷ []) (gone (h ++ e ∷ [])) ns (after_event w e b).coming (ap (λ o. (option_map_or (λ c. after_start t a c b) o b).coming) card.is_card)
    (by_gone w (h ++ e ∷ []) (gone h ++ t ∷ []) (gone (h ++ e ∷ [])) ns (gone-start h t a)
    (by_event w h e (gone h ++ t ∷ []) ns refl
    (counted-less w h (gone h) b.coming t b legal sizes.coming card (queued_here w h facts.placement.branch.queue t legal queued_so) counts)))

-- a put, of a task that has a card
put-card : (w : Parts) (h : List Event) (t : TaskId) (d : Option TaskId) (b : Books) → IsLegal w h → IsAllowed w h (Put t d) → KeepsTasks w h b → (after_event w (Put t d) b).coming ≡ (after_dropped d b).coming
put-card w h t d b legal allowed tasks =
    let facts = PutFacts-allowed w h t d allowed in
    let card = CardFacts-fired w h t b legal tasks (facts.firing, facts.is_firing) in
    ap (λ o. (option_map_or (λ c. after_enter t c (after_dropped d b)) o b).coming) card.is_card

counted-drop : (w : Parts) (h : List Event) (t x : TaskId) (b : Books) → IsLegal w h → IsAllowed w h (Put t (Some x)) → HasSizes w b → KeepsTasks w h b → AreCounted w h (gone h) b.coming → Counts w h (Put t (Some x)) b
counted-drop w h t x b legal allowed sizes tasks counts =
    let e : Event = Put t (Some x) in
    let queued_so = new_drop w h e x allowed (or_left (same_task x x) false (same_task-self x)) in
    let card = CardFacts-fired w h x b legal tasks ((ArePlaced-legal w h legal).all_fired x queued_so.1.put_so) in
    let ns : List ℕ = without_coming card.card b.coming in
    let same : (after_dropped (Some x) b).coming ≡ ns = ap (λ o. (option_map_or (λ c. after_drop x c b) o b).coming) card.is_card ∙ same-last card.card.root (after_discard x card.card.spot card.card.queue b) in
    by_numbers w (h ++ e ∷ []) (gone (h ++ e ∷ [])) ns (after_event w e b).coming (put-card w h t (Some x) b legal allowed tasks ∙ same)
    (by_gone w (h ++ e ∷ []) (gone h ++ x ∷ []) (gone (h ++ e ∷ [])) ns (gone-drop h t x)
    (by_event w h e (gone h ++ x ∷ []) ns refl
    (counted-less w h (gone h) b.coming x b legal sizes.coming card (queued_here w h queued_so.0 x legal queued_so.1) counts)))

-- each event keeps how many are on their way to each queue
pub coming-event : (w : Parts) (h : List Event) (e : Event) (b : Books) → IsLegal w h → IsAllowed w h e → HasSizes w b → KeepsTasks w h b → ((q : ℕ) → q < length w.queues → number b.coming q ≡ length (coming w h q))
    → (q : ℕ) → q < length w.queues → number (after_event w e b).coming q ≡ length (coming w (h ++ e ∷ []) q)
coming-event w h (Post m) b legal allowed sizes tasks counts = counted-other w h (Post m) b refl refl refl refl (same-post m.id b) counts
coming-event w h (Fire t (Branch n) ms cs) b legal allowed sizes tasks counts = counted-branch w h t n ms cs b legal allowed sizes tasks counts
coming-event w h (Fire t (Site n k) ms cs) b legal allowed sizes tasks counts = counted-at_site w h t n k ms cs b allowed counts
coming-event w h (Admit t) b legal allowed sizes tasks counts = counted-other w h (Admit t) b refl refl refl refl (by_card b (card_at b.tasks t) _ (λ c. refl)) counts
coming-event w h (Put t None) b legal allowed sizes tasks counts = counted-other w h (Put t None) b refl refl refl refl (put-card w h t None b legal allowed tasks) counts
coming-event w h (Put t (Some x)) b legal allowed sizes tasks counts = counted-drop w h t x b legal allowed sizes tasks counts
coming-event w h (Start t a) b legal allowed sizes tasks counts = counted-start w h t a b legal allowed sizes tasks counts
coming-event w h (End t how) b legal allowed sizes tasks counts = counted-other w h (End t how) b refl refl refl refl (by_card b (card_at b.tasks t) _ (λ c. same-end t how c b)) counts

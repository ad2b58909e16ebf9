-- Each event keeps how many roots of each domain are admitted and not over, and how many of those no concurrent branch fired.
use Rattle.std.proofs.Common.{◌≡◌, ℕ, ◌<◌, Bool, true, false, not, ◌&&◌, ◌||◌, List, [], ◌∷◌, ◌++◌, length, filter, Option, Some, None, refl, sym, ap, ◌∙◌, arith}
use Rattle.std.specs.Prelude.{◌==◌, if◌then◌else◌}
use Rattle.std.specs.Option.{option_map_or}
use Rattle.ccr_base.specs.declared.names.TaskId.{TaskId}
use Rattle.ccr_base.specs.declared.names.MsgId.{MsgId}
use Rattle.ccr_base.specs.declared.names.MsgId.TheVariants.{Script, Task}
use Rattle.ccr_base.specs.declared.names.Spot.{Spot}
use Rattle.ccr_base.specs.declared.names.Spot.TheVariants.{Branch, Site}
use Rattle.ccr_base.specs.Names.{same_task, has_task}
use Rattle.ccr_wiring.specs.declared.parts.Parts.{Parts}
use Rattle.ccr_wiring.specs.Wirings.{Placement, placement}
use Rattle.ccr_model.specs.declared.history.Event.{Event}
use Rattle.ccr_model.specs.declared.history.Event.TheVariants.{Post, Fire, Admit, Put, Start, End}
use Rattle.ccr_model.specs.declared.history.EndHow.{EndHow}
use Rattle.ccr_model.specs.declared.history.EndHow.TheVariants as ends
use Rattle.ccr_model.specs.Firings.{ever_admitted, admitted_by, last_by}
use Rattle.ccr_model.specs.Sites.{root_of}
use Rattle.ccr_model.specs.Tasks.{is_concurrent, is_of_domain, is_over}
use Rattle.ccr_model.specs.Rules.{is_concurrent_task}
use Rattle.ccr_model.specs.Legal.{IsAllowed, IsLegal}
use Rattle.ccr_model.proofs.OneMoreEvent.{ever_admitted-push}
use Rattle.ccr_base.proofs.SameNames.{same_task-self, same_task-sym}
use Rattle.ccr_base.proofs.Booleans.{or_left}
use Rattle.ccr_model.proofs.TasksLeft.{filter_on}
use Rattle.ccr_model.proofs.FiredTasks.{IsFired, placement_stays}
use Rattle.ccr_model.proofs.WhoWasPut.{ArePlaced-legal, PutFacts-allowed, new_drop}
use Rattle.ccr_model.proofs.Ending.{RunningFacts-allowed}
use Rattle.ccr_model.proofs.ExclusiveRootsAreAlone.{ever_admitted_fired}
use Rattle.ccr_model.proofs.Roots.{AreRooted-legal}
use Rattle.ccr_ledger.specs.declared.cards.Card.{Card}
use Rattle.ccr_ledger.specs.declared.cards.TaskStage.{TaskStage}
use Rattle.ccr_ledger.specs.declared.cards.TaskStage.TheVariants as stages
use Rattle.ccr_ledger.specs.Books.{Books, card_at, number, more, less, changed, moved}
use Rattle.ccr_ledger.specs.Posting.{counted}
use Rattle.ccr_ledger.specs.Firing.{after_cut, after_cuts, after_taking, after_fire, resumed_card}
use Rattle.ccr_ledger.specs.Events.{after_admit, after_over, after_last, after_discard, after_drop, after_dropped, after_enter, after_stop, after_end, after_event, not_admitted}
use Rattle.ccr_ledger.specs.Kept.{HasSizes, KeepsTasks}
use Rattle.ccr_ledger.proofs.Counting.{more_if, less_if, number-more, number-less, length-more, length-less}
use Rattle.ccr_ledger.proofs.TaskCards.{CardFacts, CardFacts-fired, card_moved}
use Rattle.ccr_ledger.proofs.Admissions.{over-other, over-last, ever_admitted-other}
use Rattle.ccr_ledger.proofs.NewRoots.{NewRoot, NewRoot-allowed, ever_admitted_once}

-- whether the root counts: all do, or those alone that no concurrent branch fired
abbrev pub counts_as : Bool → Parts → List Event → ℕ → TaskId → Bool
counts_as all w h i t = (is_of_domain w h i t && not (is_over h t)) && (all || not (is_concurrent_task w h t))

-- the two tables
pub record Roots : Type 0 where
  pub admitted : List ℕ
  pub alone : List ℕ

abbrev pub roots_of : Books → Roots
roots_of b = record { admitted = b.admitted; alone = b.alone }

abbrev pub table : Bool → Roots → List ℕ
table true roots = roots.admitted
table false roots = roots.alone

-- the numbers count those roots in each domain
abbrev pub AreCounted : Bool → Parts → List Event → List ℕ → Type 0
AreCounted all w h numbers = (i : ℕ) → i < length w.arbiters → number numbers i ≡ length (filter (counts_as all w h i) (ever_admitted h))

by_numbers : (all : Bool) (w : Parts) (h : List Event) (ns ms : List ℕ) → ms ≡ ns → AreCounted all w h ns → AreCounted all w h ms
by_numbers all w h ns ms same counts i low = ap (λ numbers. number numbers i) same ∙ counts i low

table-size : (all : Bool) (w : Parts) (b : Books) → HasSizes w b → length (table all (roots_of b)) ≡ length w.arbiters
table-size true w b sizes = sizes.admitted
table-size false w b sizes = sizes.alone

-- what is said of a task that fired stays but for who is over
counts-by : (all : Bool) (w : Parts) (h : List Event) (e : Event) (i : ℕ) (t : TaskId) (over : Bool) → IsFired h t → is_over (h ++ e ∷ []) t ≡ over → counts_as all w (h ++ e ∷ []) i t ≡ (is_of_domain w h i t && not over) && (all || not (is_concurrent_task w h t))
counts-by all w h e i t over fired is =
    ap (λ o. (option_map_or (λ (s : Placement). s.domain == i) o false && not (is_over (h ++ e ∷ []) t)) && (all || not (option_map_or (λ (s : Placement). is_concurrent s.branch.group) o false))) (placement_stays w h (e ∷ []) t fired)
    ∙ ap (λ b. (is_of_domain w h i t && not b) && (all || not (is_concurrent_task w h t))) is

-- and by its card
counts-card : (all : Bool) (w : Parts) (h : List Event) (i : ℕ) (t : TaskId) (b : Books) → (facts : CardFacts w h t b) → counts_as all w h i t ≡ ((facts.card.domain == i) && not (is_over h t)) && (all || not facts.card.concurrent)
counts-card all w h i t b facts =
    ap (λ o. (option_map_or (λ (s : Placement). s.domain == i) o false && not (is_over h t)) && (all || not (option_map_or (λ (s : Placement). is_concurrent s.branch.group) o false))) facts.is_placement
    ∙ rw (facts.domain, facts.concurrent) refl

-- those that were let in count as they did
same_count : (all : Bool) (w : Parts) (h : List Event) (e : Event) (i : ℕ) → IsLegal w h → last_by e ≡ [] → filter (counts_as all w (h ++ e ∷ []) i) (ever_admitted h) ≡ filter (counts_as all w h i) (ever_admitted h)
same_count all w h e i legal none = filter_on (counts_as all w (h ++ e ∷ []) i) (counts_as all w h i) (ever_admitted h) (λ u among. counts-by all w h e i u (is_over h u) (ever_admitted_fired w h legal u among) (over-other w h legal e u none))

-- an event that neither admits a root nor ends one
counted-other : (all : Bool) (w : Parts) (h : List Event) (e : Event) (ns : List ℕ) → IsLegal w h → admitted_by e ≡ [] → last_by e ≡ [] → AreCounted all w h ns → AreCounted all w (h ++ e ∷ []) ns
counted-other all w h e ns legal no_admit no_last counts i low =
    counts i low ∙ ap length (sym (ap (λ ts. filter (counts_as all w (h ++ e ∷ []) i) ts) (ever_admitted-other w h legal e no_admit) ∙ same_count all w h e i legal no_last))

-- one more is admitted
counted-more : (all : Bool) (w : Parts) (h : List Event) (t : TaskId) (b : Books) (ns : List ℕ) → IsLegal w h → NewRoot h t → (facts : CardFacts w h t b) → length ns ≡ length w.arbiters → AreCounted all w h ns → AreCounted all w (h ++ Admit t ∷ []) (if all || not facts.card.concurrent then more facts.card.domain ns else ns)
counted-more all w h t b ns legal new facts size counts i low =
    number-more (all || not facts.card.concurrent) ns facts.card.domain i (omega (arith, low, size))
    ∙ (ap (λ n. more_if ((all || not facts.card.concurrent) && (facts.card.domain == i)) n) (counts i low)
    ∙ (ap (λ is. more_if is (length (filter (counts_as all w h i) (ever_admitted h)))) same
    ∙ sym (ap (λ ts. length (filter (counts_as all w g i) ts)) (ever_admitted-push h (Admit t))
    ∙ (length-more (counts_as all w g i) (ever_admitted h) t
    ∙ ap (λ ts. more_if (counts_as all w g i t) (length ts)) (same_count all w h (Admit t) i legal refl)))))
  where
    g : List Event
    g = h ++ Admit t ∷ []

    turn : (k d : Bool) → k && d ≡ (d && true) && k
    turn true true = refl
    turn true false = refl
    turn false true = refl
    turn false false = refl

    same : (all || not facts.card.concurrent) && (facts.card.domain == i) ≡ counts_as all w g i t
    same =
        turn (all || not facts.card.concurrent) (facts.card.domain == i)
        ∙ sym (counts-by all w h (Admit t) i t (is_over h t) new.is_fired (over-other w h legal (Admit t) t refl)
        ∙ (counts-card all w h i t b facts ∙ ap (λ over. ((facts.card.domain == i) && not over) && (all || not facts.card.concurrent)) new.not_over))

-- the root of the card is over
over-table : (all : Bool) (r : TaskId) (c : Card) (b : Books) → table all (roots_of (after_over r c b)) ≡ (if c.admitted && (all || not c.concurrent) then less c.domain (table all (roots_of b)) else table all (roots_of b))
over-table all r c b = of_test c.admitted all c.concurrent
  where
    of_test : (is every conc : Bool) → table every (roots_of (if is then record b { tasks = changed not_admitted r b.tasks; admitted = less c.domain b.admitted; alone = if conc then b.alone else less c.domain b.alone } else b)) ≡ (if is && (every || not conc) then less c.domain (table every (roots_of b)) else table every (roots_of b))
    of_test false every conc = refl
    of_test true true conc = refl
    of_test true false true = refl
    of_test true false false = refl

admit-table : (all : Bool) (t : TaskId) (c : Card) (b : Books) → table all (roots_of (after_admit t c b)) ≡ (if all || not c.concurrent then more c.domain (table all (roots_of b)) else table all (roots_of b))
admit-table all t c b = of_test all c.concurrent
  where
    of_test : (every conc : Bool) → table every (record { admitted = more c.domain b.admitted; alone = if conc then b.alone else more c.domain b.alone }) ≡ (if every || not conc then more c.domain (table every (roots_of b)) else table every (roots_of b))
    of_test true conc = refl
    of_test false true = refl
    of_test false false = refl

-- one less is admitted, if it was
counted-less : (all : Bool) (w : Parts) (h : List Event) (e : Event) (x : TaskId) (b : Books) (ns : List ℕ) → IsLegal w h → admitted_by e ≡ [] → last_by e ≡ x ∷ [] → IsFired h x → (facts : CardFacts w h (root_of h x) b) → length ns ≡ length w.arbiters → AreCounted all w h ns
    → AreCounted all w (h ++ e ∷ []) (if facts.card.admitted && (all || not facts.card.concurrent) then less facts.card.domain ns else ns)
counted-less all w h e x b ns legal no_admit last fired facts size counts i low =
    number-less (facts.card.admitted && (all || not facts.card.concurrent)) ns facts.card.domain i (omega (arith, low, size))
    ∙ (ap (λ n. less_if ((facts.card.admitted && (all || not facts.card.concurrent)) && (facts.card.domain == i)) n) (counts i low)
    ∙ (ap (λ is. less_if is (length (filter (counts_as all w h i) (ever_admitted h)))) same
    ∙ sym (ap (λ ts. length (filter (counts_as all w (h ++ e ∷ []) i) ts)) (ever_admitted-other w h legal e no_admit)
    ∙ length-less (counts_as all w h i) (counts_as all w (h ++ e ∷ []) i) (ever_admitted h) r (ever_admitted_once w h legal) narrower)))
  where
    r : TaskId
    r = root_of h x

    drops_out : (a o s k : Bool) → (a && not (o || s)) && k ≡ ((a && not o) && k) && not s
    drops_out false o s k = refl
    drops_out true true s k = refl
    drops_out true false true true = refl
    drops_out true false true false = refl
    drops_out true false false true = refl
    drops_out true false false false = refl

    narrower : (u : TaskId) → has_task (ever_admitted h) u ≡ true → counts_as all w (h ++ e ∷ []) i u ≡ counts_as all w h i u && not (same_task u r)
    narrower u among =
        counts-by all w h e i u (is_over h u || same_task r u) (ever_admitted_fired w h legal u among) (over-last w h legal e x u last fired)
        ∙ (drops_out (is_of_domain w h i u) (is_over h u) (same_task r u) (all || not (is_concurrent_task w h u))
        ∙ ap (λ is. counts_as all w h i u && not is) (same_task-sym r u))

    turn : (l o k d : Bool) → ((l && o) && k) && d ≡ l && ((d && o) && k)
    turn false o k d = refl
    turn true false k true = refl
    turn true false k false = refl
    turn true true true true = refl
    turn true true true false = refl
    turn true true false true = refl
    turn true true false false = refl

    same : (facts.card.admitted && (all || not facts.card.concurrent)) && (facts.card.domain == i) ≡ has_task (ever_admitted h) r && counts_as all w h i r
    same =
        ap (λ is. (is && (all || not facts.card.concurrent)) && (facts.card.domain == i)) facts.admitted
        ∙ (turn (has_task (ever_admitted h) r) (not (is_over h r)) (all || not facts.card.concurrent) (facts.card.domain == i)
        ∙ ap (λ is. has_task (ever_admitted h) r && is) (sym (counts-card all w h i r b facts)))

-- the last segment of a root, in books where its task's stage alone was moved
counted-last : (all : Bool) (w : Parts) (h : List Event) (e : Event) (x r : TaskId) (stage : TaskStage) (b d : Books) → IsLegal w h → admitted_by e ≡ [] → last_by e ≡ x ∷ [] → IsFired h x → r ≡ root_of h x → KeepsTasks w h b → HasSizes w b
    → d.tasks ≡ moved stage x b.tasks → roots_of d ≡ roots_of b → AreCounted all w h (table all (roots_of b)) → AreCounted all w (h ++ e ∷ []) (table all (roots_of (after_last r d)))
counted-last all w h e x r stage b d legal no_admit last fired is tasks sizes cards roots counts =
    let root = AreRooted-legal w h legal x fired.0 fired.1 in
    let card = card_moved w h stage x b d (root_of h x) cards (CardFacts-fired w h (root_of h x) b legal tasks (root.0, root.1)) in
    let at : card_at d.tasks r ≡ Some card.card = ap (card_at d.tasks) is ∙ card.is_card in
    by_numbers all w (h ++ e ∷ []) (if card.card.admitted && (all || not card.card.concurrent) then less card.card.domain (table all (roots_of b)) else table all (roots_of b)) (table all (roots_of (after_last r d)))
    (ap (λ o. table all (roots_of (option_map_or (λ c. after_over r c d) o d))) at
    ∙ (over-table all r card.card d
    ∙ ap (λ q. if card.card.admitted && (all || not card.card.concurrent) then less card.card.domain (table all q) else table all q) roots))
    (counted-less all w h e x d (table all (roots_of b)) legal no_admit last fired card (table-size all w b sizes) counts)

-- events that leave the tables
by_card : (b : Books) (o : Option Card) (f : Card → Books) → ((c : Card) → roots_of (f c) ≡ roots_of b) → roots_of (option_map_or f o b) ≡ roots_of b
by_card b None f same = refl
by_card b (Some c) f same = same c

same-post : (id : MsgId) (b : Books) → roots_of (counted id b) ≡ roots_of b
same-post (Script actor index) b = refl
same-post (Task task index) b = refl

same-cuts : (ts : List TaskId) (b : Books) → roots_of (after_cuts ts b) ≡ roots_of b
same-cuts [] b = refl
same-cuts (t ∷ ts) b = same-cuts ts (after_cut t b) ∙ by_card b (card_at b.tasks t) _ (λ c. refl)

same-fire : (w : Parts) (t : TaskId) (s : Spot) (ms : List MsgId) (cs : List TaskId) (b : Books) → roots_of (after_fire w t s ms cs b) ≡ roots_of b
same-fire w t (Branch n) ms cs b = of_placement (placement w n)
  where
    of_placement : (o : Option Placement) → roots_of (option_map_or (after_taking w t n ms (after_cuts cs b)) o b) ≡ roots_of b
    of_placement None = refl
    of_placement (Some s) = same-cuts cs b
same-fire w t (Site n k) ms cs b = by_card b (resumed_card b n k) _ (λ c. refl)

-- what is counted after the event
abbrev Counts : Bool → Parts → List Event → Event → Books → Type 0
Counts all w h e b = AreCounted all w (h ++ e ∷ []) (table all (roots_of (after_event w e b)))

counted-still : (all : Bool) (w : Parts) (h : List Event) (e : Event) (b : Books) → IsLegal w h → admitted_by e ≡ [] → last_by e ≡ [] → roots_of (after_event w e b) ≡ roots_of b → AreCounted all w h (table all (roots_of b)) → Counts all w h e b
counted-still all w h e b legal no_admit no_last same counts =
    by_numbers all w (h ++ e ∷ []) (table all (roots_of b)) (table all (roots_of (after_event w e b))) (ap (table all) same) (counted-other all w h e (table all (roots_of b)) legal no_admit no_last counts)

counted-admit : (all : Bool) (w : Parts) (h : List Event) (t : TaskId) (b : Books) → IsLegal w h → IsAllowed w h (Admit t) → HasSizes w b → KeepsTasks w h b → AreCounted all w h (table all (roots_of b)) → Counts all w h (Admit t) b
counted-admit all w h t b legal allowed sizes tasks counts =
    let new = NewRoot-allowed w h t legal allowed in
    let card = CardFacts-fired w h t b legal tasks new.is_fired in
    by_numbers all w (h ++ Admit t ∷ []) (if all || not card.card.concurrent then more card.card.domain (table all (roots_of b)) else table all (roots_of b)) (table all (roots_of (after_event w (Admit t) b)))
    (ap (λ o. table all (roots_of (option_map_or (λ c. after_admit t c b) o b))) card.is_card ∙ admit-table all t card.card b)
    (counted-more all w h t b (table all (roots_of b)) legal new card (table-size all w b sizes) counts)

put-card : (w : Parts) (h : List Event) (t : TaskId) (d : Option TaskId) (b : Books) → IsLegal w h → IsAllowed w h (Put t d) → KeepsTasks w h b → roots_of (after_event w (Put t d) b) ≡ roots_of (after_dropped d b)
put-card w h t d b legal allowed tasks =
    let facts = PutFacts-allowed w h t d allowed in
    let card = CardFacts-fired w h t b legal tasks (facts.firing, facts.is_firing) in
    ap (λ o. roots_of (option_map_or (λ c. after_enter t c (after_dropped d b)) o b)) card.is_card

counted-drop : (all : Bool) (w : Parts) (h : List Event) (t x : TaskId) (b : Books) → IsLegal w h → IsAllowed w h (Put t (Some x)) → HasSizes w b → KeepsTasks w h b → AreCounted all w h (table all (roots_of b)) → Counts all w h (Put t (Some x)) b
counted-drop all w h t x b legal allowed sizes tasks counts =
    let e : Event = Put t (Some x) in
    let queued_so = new_drop w h e x allowed (or_left (same_task x x) false (same_task-self x)) in
    let fired = (ArePlaced-legal w h legal).all_fired x queued_so.1.put_so in
    let card = CardFacts-fired w h x b legal tasks fired in
    let d : Books = after_discard x card.card.spot card.card.queue b in
    by_numbers all w (h ++ e ∷ []) (table all (roots_of (after_last card.card.root d))) (table all (roots_of (after_event w e b)))
    (ap (table all) (put-card w h t (Some x) b legal allowed tasks ∙ ap (λ o. roots_of (option_map_or (λ c. after_drop x c b) o b)) card.is_card))
    (counted-last all w h e x card.card.root stages.Dropped b d legal refl refl fired card.root tasks sizes refl refl counts)

ended-card : (w : Parts) (h : List Event) (t : TaskId) (how : EndHow) (b : Books) → IsLegal w h → IsAllowed w h (End t how) → KeepsTasks w h b → CardFacts w h t b
ended-card w h t how b legal allowed tasks =
    let placed = ArePlaced-legal w h legal in
    CardFacts-fired w h t b legal tasks (placed.all_fired t (placed.lists.put_started t (RunningFacts-allowed w h t how allowed).started_so))

counted-end : (all : Bool) (w : Parts) (h : List Event) (t : TaskId) (how : EndHow) (b : Books) → last_by (End t how) ≡ t ∷ [] → ((c : Card) → after_end t how c b ≡ after_last c.root (after_stop t b)) → IsLegal w h → IsAllowed w h (End t how) → HasSizes w b → KeepsTasks w h b → AreCounted all w h (table all (roots_of b)) → Counts all w h (End t how) b
counted-end all w h t how b last lasts legal allowed sizes tasks counts =
    let e : Event = End t how in
    let card = ended-card w h t how b legal allowed tasks in
    let fired : IsFired h t = (card.firing, card.is_firing) in
    by_numbers all w (h ++ e ∷ []) (table all (roots_of (after_last card.card.root (after_stop t b)))) (table all (roots_of (after_event w e b)))
    (ap (λ o. table all (roots_of (option_map_or (λ c. after_end t how c b) o b))) card.is_card ∙ ap (λ c. table all (roots_of c)) (lasts card.card))
    (counted-last all w h e t card.card.root stages.Ended b (after_stop t b) legal refl last fired card.root tasks sizes refl refl counts)

-- each event keeps how many roots are admitted and not over, all of them or those alone that are not concurrent
pub counted-event : (all : Bool) (w : Parts) (h : List Event) (e : Event) (b : Books) → IsLegal w h → IsAllowed w h e → HasSizes w b → KeepsTasks w h b → AreCounted all w h (table all (roots_of b)) → Counts all w h e b
counted-event all w h (Post m) b legal allowed sizes tasks counts = counted-still all w h (Post m) b legal refl refl (same-post m.id b) counts
counted-event all w h (Fire t s ms cs) b legal allowed sizes tasks counts = counted-still all w h (Fire t s ms cs) b legal refl refl (same-fire w t s ms cs b) counts
counted-event all w h (Admit t) b legal allowed sizes tasks counts = counted-admit all w h t b legal allowed sizes tasks counts
counted-event all w h (Put t None) b legal allowed sizes tasks counts = counted-still all w h (Put t None) b legal refl refl (put-card w h t None b legal allowed tasks) counts
counted-event all w h (Put t (Some x)) b legal allowed sizes tasks counts = counted-drop all w h t x b legal allowed sizes tasks counts
counted-event all w h (Start t a) b legal allowed sizes tasks counts = counted-still all w h (Start t a) b legal refl refl (by_card b (card_at b.tasks t) _ (λ c. refl)) counts
counted-event all w h (End t ends.Yield) b legal allowed sizes tasks counts = counted-still all w h (End t ends.Yield) b legal refl refl (by_card b (card_at b.tasks t) _ (λ c. refl)) counts
counted-event all w h (End t ends.Done) b legal allowed sizes tasks counts = counted-end all w h t ends.Done b refl (λ c. refl) legal allowed sizes tasks counts
counted-event all w h (End t (ends.Failed v)) b legal allowed sizes tasks counts = counted-end all w h t (ends.Failed v) b refl (λ c. refl) legal allowed sizes tasks counts
counted-event all w h (End t ends.Shed) b legal allowed sizes tasks counts = counted-end all w h t ends.Shed b refl (λ c. refl) legal allowed sizes tasks counts

-- Each event keeps who runs, and which actor started whom.
use Rattle.std.proofs.Common.{◌≡◌, ℕ, Bool, true, false, not, ◌||◌, List, [], ◌∷◌, ◌++◌, Option, Some, None, refl, sym, ap, ◌∙◌}
use Rattle.std.specs.Prelude.{if◌then◌else◌, option_map}
use Rattle.std.specs.Option.{option_map_or}
use Rattle.std.proofs.lemmas.List.{map-append}
use Rattle.ccr_base.specs.declared.names.TaskId.{TaskId}
use Rattle.ccr_base.specs.declared.names.MsgId.{MsgId}
use Rattle.ccr_base.specs.declared.names.MsgId.TheVariants.{Script, Task}
use Rattle.ccr_base.specs.declared.names.Spot.{Spot}
use Rattle.ccr_base.specs.declared.names.Spot.TheVariants.{Branch, Site}
use Rattle.ccr_base.specs.Names.{same_task, has_task, without}
use Rattle.ccr_wiring.specs.declared.parts.Parts.{Parts}
use Rattle.ccr_wiring.specs.Wirings.{Placement, placement}
use Rattle.ccr_model.specs.declared.history.Event.{Event}
use Rattle.ccr_model.specs.declared.history.Event.TheVariants.{Post, Fire, Admit, Put, Start, End}
use Rattle.ccr_model.specs.declared.history.EndHow.{EndHow}
use Rattle.ccr_model.specs.Firings.{ended}
use Rattle.ccr_model.specs.Tasks.{running}
use Rattle.ccr_model.specs.Legal.{IsAllowed, IsLegal}
use Rattle.ccr_model.proofs.TaskSteps.{running-start, running-end, running-post, running-fire, running-put, running-admit}
use Rattle.ccr_model.proofs.WhoWasPut.{StartFacts-allowed, StartFacts-queued, ArePlaced-legal}
use Rattle.ccr_model.proofs.Ending.{RunningFacts-allowed, AreEnded-legal}
use Rattle.ccr_model.proofs.FiredTasks.{IsFired, placement_fired}
use Rattle.ccr_base.proofs.Booleans.{refuted, no_both}
use Rattle.ccr_ledger.specs.declared.cards.Card.{Card}
use Rattle.ccr_ledger.specs.declared.cards.Runner.{Runner}
use Rattle.ccr_ledger.specs.Books.{Books, card_at, runners}
use Rattle.ccr_ledger.specs.Posting.{counted}
use Rattle.ccr_ledger.specs.Firing.{after_cut, after_cuts, after_taking, after_fire, resumed_card}
use Rattle.ccr_ledger.specs.Events.{after_last, after_discard, after_dropped, after_stop, after_yield, after_end, after_event, is_yield, stopped}
use Rattle.ccr_ledger.specs.Kept.{KeepsTasks, card_of}

by_card : (b : Books) (o : Option Card) (f : Card → Books) → ((c : Card) → (f c).running ≡ b.running) → (option_map_or f o b).running ≡ b.running
by_card b None f same = refl
by_card b (Some c) f same = same c

same-post : (id : MsgId) (b : Books) → (counted id b).running ≡ b.running
same-post (Script actor index) b = refl
same-post (Task task index) b = refl

same-cuts : (ts : List TaskId) (b : Books) → (after_cuts ts b).running ≡ b.running
same-cuts [] b = refl
same-cuts (t ∷ ts) b = same-cuts ts (after_cut t b) ∙ by_card b (card_at b.tasks t) _ (λ c. refl)

same-last : (r : TaskId) (b : Books) → (after_last r b).running ≡ b.running
same-last r b = by_card b (card_at b.tasks r) _ (λ c. of_test b (record b { tasks = _; admitted = _; alone = _ }) c.admitted refl)
  where
    of_test : (b d : Books) (is : Bool) → d.running ≡ b.running → (if is then d else b).running ≡ b.running
    of_test b d true same = same
    of_test b d false same = refl

same-dropped : (d : Option TaskId) (b : Books) → (after_dropped d b).running ≡ b.running
same-dropped None b = refl
same-dropped (Some t) b = by_card b (card_at b.tasks t) _ (λ c. same-last c.root (after_discard t c.spot c.queue b))

same-fire : (w : Parts) (t : TaskId) (s : Spot) (ms : List MsgId) (cs : List TaskId) (b : Books) → (after_fire w t s ms cs b).running ≡ b.running
same-fire w t (Branch n) ms cs b = of_placement (placement w n)
  where
    of_placement : (o : Option Placement) → (option_map_or (after_taking w t n ms (after_cuts cs b)) o b).running ≡ b.running
    of_placement None = refl
    of_placement (Some s) = same-cuts cs b
same-fire w t (Site n k) ms cs b = by_card b (resumed_card b n k) _ (λ c. refl)

pub after-end : (t : TaskId) (how : EndHow) (c : Card) (b : Books) → (after_end t how c b).running ≡ stopped t b.running
after-end t how c b = of_test (is_yield how)
  where
    of_test : (is : Bool) → (if is then after_yield t c b else after_last c.root (after_stop t b)).running ≡ stopped t b.running
    of_test true = refl
    of_test false = same-last c.root (after_stop t b)

-- who runs without the task that ended
pub runners-stopped : (t : TaskId) (rs : List Runner) → runners (stopped t rs) ≡ without (runners rs) (t ∷ [])
runners-stopped t [] = refl
runners-stopped t (r ∷ rs) = of_test (same_task r.task t) (runners-stopped t rs)
  where
    of_test : (b : Bool) → runners (stopped t rs) ≡ without (runners rs) (t ∷ [])
        → runners (if not b then r ∷ stopped t rs else stopped t rs) ≡ (if not (b || false) then r.task ∷ without (runners rs) (t ∷ []) else without (runners rs) (t ∷ []))
    of_test true rest = rest
    of_test false rest = ap (λ (ts : List TaskId). r.task ∷ ts) rest

-- the card of a task that fired
pub has_card : (w : Parts) (h : List Event) (t : TaskId) (b : Books) → KeepsTasks w h b → IsFired h t → (c : Card) × (card_at b.tasks t ≡ Some c)
has_card w h t b keeps fired = (card_of w h t fired.0, keeps.cards t ∙ ap (option_map (card_of w h t)) fired.1)

-- who is to start has not ended
pub unended : (w : Parts) (h : List Event) (t : TaskId) (a : ℕ) → IsLegal w h → IsAllowed w h (Start t a) → has_task (ended h) t ≡ false
unended w h t a legal allowed =
    let queued = StartFacts-queued w h t (StartFacts-allowed w h t a allowed) in
    refuted (has_task (ended h) t) (λ is. no_both ((AreEnded-legal w h legal).started_ended t is) queued.not_started)

-- after each allowed event those that run are the running tasks, by their starts
pub running-event : (w : Parts) (h : List Event) (e : Event) (b : Books) → IsLegal w h → IsAllowed w h e → KeepsTasks w h b → runners b.running ≡ running h → runners (after_event w e b).running ≡ running (h ++ e ∷ [])
running-event w h (Post m) b legal allowed tasks keeps = ap runners (same-post m.id b) ∙ (keeps ∙ sym (running-post h m))
running-event w h (Fire t s ms cs) b legal allowed tasks keeps = ap runners (same-fire w t s ms cs b) ∙ (keeps ∙ sym (running-fire h t s ms cs))
running-event w h (Admit t) b legal allowed tasks keeps = ap runners (by_card b (card_at b.tasks t) _ (λ c. refl)) ∙ (keeps ∙ sym (running-admit h t))
running-event w h (Put t d) b legal allowed tasks keeps = ap runners (by_card b (card_at b.tasks t) _ (λ c. same-dropped d b)) ∙ (keeps ∙ sym (running-put h t d))
running-event w h (Start t a) b legal allowed tasks keeps =
    let facts = StartFacts-allowed w h t a allowed in
    let card = has_card w h t b tasks (placement_fired w h t facts.placement facts.is_placement) in
    rw card.1 (map-append (λ (r : Runner). r.task) b.running _ ∙ (ap (λ ts. ts ++ t ∷ []) keeps ∙ sym (running-start h t a (unended w h t a legal allowed))))
running-event w h (End t how) b legal allowed tasks keeps =
    let placed = ArePlaced-legal w h legal in
    let began = RunningFacts-allowed w h t how allowed in
    let card = has_card w h t b tasks (placed.all_fired t (placed.lists.put_started t began.started_so)) in
    rw card.1 (ap runners (after-end t how card.0 b) ∙ (runners-stopped t b.running ∙ (ap (λ ts. without ts (t ∷ [])) keeps ∙ sym (running-end h t how))))

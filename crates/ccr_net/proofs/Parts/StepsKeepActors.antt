-- The actors' part of the invariant, one lemma a kind of step.
use Rattle.std.proofs.Common.{◌⊎◌, inl, inr, ◌≡◌, ◌≢◌, ◌≤◌, ◌<◌, ℕ, ◌+◌, Bool, true, false, ◌||◌, List, [], ◌∷◌, ◌++◌, length, map, reverse, Option, Some, None, refl, sym, arith, ap, ◌∙◌, subst, append-nil, length-append}
use Rattle.std.specs.Prelude.{◌==◌, flat_map}
use Rattle.std.proofs.lemmas.Grind.{common_steps}
use Rattle.ccr_base.specs.declared.names.Place.{Place}
use Rattle.ccr_base.specs.declared.names.Place.TheVariants as places
use Rattle.ccr_base.specs.declared.names.TaskId.{TaskId}
use Rattle.ccr_base.specs.declared.names.MsgId.{MsgId}
use Rattle.ccr_base.specs.declared.names.Spot.{Spot}
use Rattle.ccr_base.specs.declared.patterns.Slot.{Slot}
use Rattle.ccr_base.specs.declared.tasks.Cut.{Cut}
use Rattle.ccr_base.specs.declared.tasks.How.{How}
use Rattle.ccr_base.specs.declared.tasks.How.TheVariants as hows
use Rattle.ccr_base.specs.declared.tasks.Task.{Task}
use Rattle.ccr_base.specs.Names.{has_task}
use Rattle.ccr_wiring.specs.declared.parts.Parts.{Parts}
use Rattle.ccr_model.specs.declared.history.Event.{Event}
use Rattle.ccr_model.specs.declared.history.Event.TheVariants as events
use Rattle.ccr_model.specs.Firings.{Firing, firings, firing_of, fired, put, cut, ever_admitted, admitted_by}
use Rattle.ccr_model.specs.Legal.{IsLegal, IsAllowed}
use Rattle.ccr_model.specs.Rules.{needs_no_admission}
use Rattle.ccr_model.specs.Tasks.{is_over}
use Rattle.ccr_model.proofs.Allowing.{OneName-legal}
use Rattle.ccr_model.proofs.ExclusiveRootsAreAlone.{over_stays, lasts_fired}
use Rattle.ccr_model.proofs.Cutting.{cut_by, cut_fired}
use Rattle.ccr_model.proofs.AllowedFirings.{firing_named-new, waits_outside}
use Rattle.ccr_model.proofs.Stable.{firing_named-append}
use Rattle.ccr_model.proofs.TaskLists.{among_left, among_right, not_more, not_within, of_more, of_one}
use Rattle.ccr_base.proofs.Booleans.{same_number, eq-self, refuted, no_both}
use Rattle.ccr_base.proofs.Options.{some_is}
use Rattle.ccr_model.proofs.FiredTasks.{IsFired, fired_has, placement_stays}
use Rattle.ccr_model.proofs.Members.{Among, Among-left, Among-right, Among-either, both_among}
use Rattle.ccr_model.proofs.OneMoreEvent.{firings-push, fired-fire, put-push, cut-push, ever_admitted-push}
use Rattle.ccr_base.proofs.SameNames.{same_task-is, same_task-self, has_task-append, has_task-last}
use Rattle.ccr_places.specs.declared.claims.StandingClaim.{StandingClaim}
use Rattle.ccr_places.specs.declared.notes.ClaimNote.TheVariants.{Got}
use Rattle.ccr_places.specs.declared.notes.Note.TheVariants as notes
use Rattle.ccr_places.specs.Ports.{PortState, first_fitting}
use Rattle.ccr_claim.specs.declared.asks.Ask.{Ask}
use Rattle.ccr_claim.specs.declared.asks.Ask.TheVariants as asks
use Rattle.ccr_claim.specs.declared.plan.ClaimPlan.{ClaimPlan}
use Rattle.ccr_claim.specs.declared.plan.Had.{Had}
use Rattle.ccr_claim.specs.declared.asks.Asked.{Asked}
use Rattle.ccr_claim.specs.Attempts.{Phase, booking, claiming, had_in, release, free_ask, unbook_ask, consume_ask, cut_ask, put_ask, put_asks, firing_hand, over_dropped}
use Rattle.ccr_actor.specs.Plans.{plan_of}
use Rattle.ccr_actor.specs.Actors.{State, name_at, end_attempt, shorten, in_attempt, fire, give_up}
use Rattle.ccr_runs.specs.Views.{queue_of}
use Rattle.ccr_net.proofs.Parts.PortsAndHandsMatch.{IsOwed, IsOwedOver, IsToPut, ActorMatches, put_in, puts_in, claim_for}
use Rattle.ccr_net.proofs.Parts.EventsChangeDomains.{cuts_fired}
use Rattle.ccr_net.proofs.Parts.StepsKeepPorts.{Changes}

pub Among-last : {X : Type 0} (xs : List X) (x : X) → Among x (xs ++ x ∷ [])
Among-last xs x = Among-right x xs (x ∷ []) (inl refl)

-- ---- what is owed

module _ (w : Parts) (h : List Event) (a bound : ℕ) where
  abbrev pub Owed : Asked → Type 0
  Owed x = IsOwed w h a bound x.place x.ask

  -- a list all of whose asks are owed
  pub owed_all : {X : Type 0} (f : X → Asked) → ((y : X) → Owed (f y)) → (ys : List X) (x : Asked) → Among x (map f ys) → Owed x
  owed_all f each [] x is = absurd is
  owed_all f each (y ∷ ys) x (inl e) = subst (λ (z : Asked). IsOwed w h a bound z.place z.ask) (sym e) (each y)
  owed_all f each (y ∷ ys) x (inr is) = owed_all f each ys x is

  pub owed_both : (xs ys : List Asked) → ((x : Asked) → Among x xs → Owed x) → ((x : Asked) → Among x ys → Owed x) → (x : Asked) → Among x (xs ++ ys) → Owed x
  owed_both = both_among Owed

-- ---- how many puts are in hand

pub puts-append : (xs ys : List Asked) → puts_in (xs ++ ys) ≡ puts_in xs ++ puts_in ys
puts-append xs ys = grind (arith, common_steps)

pub puts-none : {X : Type 0} (f : X → Asked) → ((y : X) → put_in (f y).ask ≡ []) → (ys : List X) → puts_in (map f ys) ≡ []
puts-none f none [] = refl
puts-none f none (y ∷ ys) = rw (none y, puts-none f none ys) refl

pub puts-release : (plan : ClaimPlan) (name : TaskId) (ph : Phase) → puts_in (release plan name ph) ≡ []
puts-release plan name booking = refl
puts-release plan name (claiming slots had) = puts-append (map (free_ask name) (reverse had)) (unbook_ask plan.queue name ∷ []) ∙ rw (puts-none (free_ask name) (λ y. refl) (reverse had)) refl

puts-attempt : (w : Parts) (a : ℕ) (st : State) (spots : List Spot) → puts_in (in_attempt w a st spots) ≡ []
puts-attempt w a st [] = refl
puts-attempt w a st (spot ∷ more) = puts-release (plan_of w spot) (name_at a st) st.phase

pub puts-short : (w : Parts) (a : ℕ) (st : State) → puts_in (shorten w a st).hand ≡ puts_in st.hand
puts-short w a st = puts-append st.hand (in_attempt w a st st.spots) ∙ ap (λ ts. puts_in st.hand ++ ts) (puts-attempt w a st st.spots) ∙ append-nil (puts_in st.hand)

-- who is put by an ask in hand is among those who are put
pub put_within : (hand : List Asked) (x : Asked) → Among x hand → (u : TaskId) → has_task (put_in x.ask) u ≡ true → has_task (puts_in hand) u ≡ true
put_within [] x is u there = absurd is
put_within (y ∷ hand) x (inl e) u there = among_left (put_in y.ask) (puts_in hand) u (subst (λ (z : Asked). has_task (put_in z.ask) u ≡ true) e there)
put_within (y ∷ hand) x (inr is) u there = among_right (put_in y.ask) (puts_in hand) u (put_within hand x is u there)

pub puts-fire : (name : TaskId) (had : List Had) (task : Option Task) (cuts : List Cut) → length (puts_in (firing_hand name had task cuts)) ≤ 1
puts-fire name had task cuts = rw (puts-append, puts-append, puts-none (consume_ask name) (λ y. refl) had, puts-none cut_ask (λ y. refl) cuts) (of_task task)
  where
    of_task : (o : Option Task) → length (puts_in (put_asks o)) ≤ 1
    of_task None = omega arith
    of_task (Some t) = omega arith

-- ---- the actor's own steps

-- the current name hasn't fired
pub unfired : (w : Parts) (h : List Event) (port : ℕ → PortState) (a : ℕ) (st : State) → ActorMatches w h port a st → has_task (fired h) (name_at a st) ≡ false
unfired w h port a st match = of_test (has_task (fired h) (name_at a st)) refl
  where
    of_test : (b : Bool) → has_task (fired h) (name_at a st) ≡ b → has_task (fired h) (name_at a st) ≡ false
    of_test false e = e
    of_test true e = let below = match.fired_below (name_at a st) refl e in absurd (omega (arith, below))

-- a state with the same hand, claims and attempt
pub ActorMatches-same : (w : Parts) (h : List Event) (port : ℕ → PortState) (a : ℕ) (st st' : State) → st'.hand ≡ st.hand → had_in st'.phase ≡ had_in st.phase → st'.attempt ≡ st.attempt → ActorMatches w h port a st → ActorMatches w h port a st'
ActorMatches-same w h port a st st' hand phase attempt match = record {
  fired_below = λ t is f. rw attempt (match.fired_below t is f);
  claims_below = λ p c is own. rw attempt (match.claims_below p c is own);
  claims_had = λ p c is own. rw phase (match.claims_had p c is (own ∙ same));
  had_claimed = λ d is. match.had_claimed d (rw phase at is) ∙ ap (λ t. Some (claim_for t d)) (sym same);
  had_marked = λ d is. match.had_marked d (rw phase at is);
  had_enough = λ d is. match.had_enough d (rw phase at is);
  owed = λ x is. rw attempt (match.owed x (rw hand at is));
  one_put = rw hand match.one_put;
}
  where
    same : name_at a st' ≡ name_at a st
    same = ap (λ n. record { actor = a; attempt = n }) attempt

-- the attempt has ended: all its claims are old
pub ActorMatches-ended : (w : Parts) (h : List Event) (port : ℕ → PortState) (a : ℕ) (st : State) (hand : List Asked) (spots : List Spot) → ActorMatches w h port a st → ((x : Asked) → Among x hand → IsOwed w h a (st.attempt + 1) x.place x.ask) → length (puts_in hand) ≤ 1 → ActorMatches w h port a (end_attempt st hand spots)
ActorMatches-ended w h port a st hand spots match owed one = record {
  fired_below = λ t is f. (let below = match.fired_below t is f in omega arith);
  claims_below = λ p c is own. (let below = match.claims_below p c is own in omega arith);
  claims_had = λ p c is own. (let below = match.claims_below p c is (ap (λ (t : TaskId). t.actor) own) in let same = ap (λ (t : TaskId). t.attempt) own in absurd (omega (arith, below, same)));
  had_claimed = λ d is. absurd is;
  had_marked = λ d is. absurd is;
  had_enough = λ d is. absurd is;
  owed = owed;
  one_put = one;
}

-- what a booked attempt hands back is owed
pub release_owed : (w : Parts) (h : List Event) (port : ℕ → PortState) (a : ℕ) (st : State) (plan : ClaimPlan) → ActorMatches w h port a st → (x : Asked) → Among x (release plan (name_at a st) st.phase) → IsOwed w h a (st.attempt + 1) x.place x.ask
release_owed w h port a st plan match = of_phase st.phase
  where
    of_phase : (ph : Phase) (x : Asked) → Among x (release plan (name_at a st) ph) → IsOwed w h a (st.attempt + 1) x.place x.ask
    of_phase booking x is = absurd is
    of_phase (claiming slots had) x is = owed_both w h a (st.attempt + 1) (map (free_ask (name_at a st)) (reverse had)) (unbook_ask plan.queue (name_at a st) ∷ []) (owed_all w h a (st.attempt + 1) (free_ask (name_at a st)) (λ d. (refl, omega arith, unfired w h port a st match)) (reverse had)) (λ y one. last y one) x is
      where
        last : (y : Asked) → Among y (unbook_ask plan.queue (name_at a st) ∷ []) → IsOwed w h a (st.attempt + 1) y.place y.ask
        last y (inl e) = subst (λ (z : Asked). IsOwed w h a (st.attempt + 1) z.place z.ask) (sym e) (inl (refl, omega arith, unfired w h port a st match))
        last y (inr is) = absurd is

-- Busy, Short, Full and Dead
pub ActorMatches-give_up : (w : Parts) (h : List Event) (port : ℕ → PortState) (a : ℕ) (st : State) (spot : Spot) (more : List Spot) → ActorMatches w h port a st → ActorMatches w h port a (give_up w a st spot more)
ActorMatches-give_up w h port a st spot more match = ActorMatches-ended w h port a st (release (plan_of w spot) (name_at a st) st.phase) more match (release_owed w h port a st (plan_of w spot) match) (rw puts-release (omega arith))

owed_more : (w : Parts) (h : List Event) (a b c : ℕ) → b ≤ c → (place : Place) (ask : Ask) → IsOwed w h a b place ask → IsOwed w h a c place ask
owed_more w h a b c le place (asks.Consume t) is = is
owed_more w h a b c le place (asks.Free t) is = (is.0, (let below = is.1 in omega arith), is.2)
owed_more w h a b c le place (asks.Unbook t) (inl is) = inl (is.0, (let below = is.1 in omega arith), is.2)
owed_more w h a b c le place (asks.Unbook t) (inr is) = inr is
owed_more w h a b c le place (asks.Put t) is = is
owed_more w h a b c le place (asks.Post m) is = absurd is
owed_more w h a b c le place (asks.Claim t s) is = absurd is
owed_more w h a b c le place (asks.Commit t ms) is = absurd is
owed_more w h a b c le place asks.Admit is = absurd is
owed_more w h a b c le place (asks.Over t r how) is = is
owed_more w h a b c le place (asks.Suspend t) is = absurd is
owed_more w h a b c le place (asks.Book t r) is = absurd is
owed_more w h a b c le place asks.Take is = absurd is
owed_more w h a b c le place asks.Draw is = absurd is
owed_more w h a b c le place asks.Leave is = absurd is
owed_more w h a b c le place asks.Left is = absurd is

-- running out of memory
pub ActorMatches-short : (w : Parts) (h : List Event) (port : ℕ → PortState) (a : ℕ) (st : State) → ActorMatches w h port a st → ActorMatches w h port a (shorten w a st)
ActorMatches-short w h port a st match =
    ActorMatches-same w h port a (end_attempt st (st.hand ++ in_attempt w a st st.spots) []) (shorten w a st) refl refl refl
    (ActorMatches-ended w h port a st (st.hand ++ in_attempt w a st st.spots) [] match
    (owed_both w h a (st.attempt + 1) st.hand (in_attempt w a st st.spots) (λ x is. owed_more w h a st.attempt (st.attempt + 1) (omega arith) x.place x.ask (match.owed x is)) (of_spots st.spots))
    (rw (puts-append, puts-attempt w a st st.spots, append-nil (puts_in st.hand)) match.one_put))
  where
    of_spots : (spots : List Spot) (x : Asked) → Among x (in_attempt w a st spots) → IsOwed w h a (st.attempt + 1) x.place x.ask
    of_spots [] x is = absurd is
    of_spots (spot ∷ more) x is = release_owed w h port a st (plan_of w spot) match x is

-- an ask in hand was made: fewer are owed
pub ActorMatches-settled : (w : Parts) (h : List Event) (port : ℕ → PortState) (a : ℕ) (st : State) (x : Asked) (more : List Asked) → st.hand ≡ x ∷ more → ActorMatches w h port a st → ActorMatches w h port a (record st { hand = more })
ActorMatches-settled w h port a st x more is match = record {
  fired_below = match.fired_below;
  claims_below = match.claims_below;
  claims_had = match.claims_had;
  had_claimed = match.had_claimed;
  had_marked = match.had_marked;
  had_enough = match.had_enough;
  owed = λ y among. match.owed y (rw is (inr among));
  one_put = fewer (rw is at match.one_put);
}
  where
    fewer : length (puts_in (x ∷ more)) ≤ 1 → length (puts_in more) ≤ 1
    fewer le = let all = length-append {A = TaskId} (put_in x.ask) (puts_in more) in omega (arith, le, all)

-- a dropped task is to be noted over
pub ActorMatches-over : (w : Parts) (h : List Event) (port : ℕ → PortState) (a : ℕ) (st : State) (task : Task) (domains : List ℕ) → is_over h task.root ≡ true → ActorMatches w h port a st → ActorMatches w h port a (record st { hand = over_dropped task ∷ st.hand; domains = domains })
ActorMatches-over w h port a st task domains over match = record {
  fired_below = match.fired_below;
  claims_below = match.claims_below;
  claims_had = match.claims_had;
  had_claimed = match.had_claimed;
  had_marked = match.had_marked;
  had_enough = match.had_enough;
  owed = λ y is. of_member y is;
  one_put = match.one_put;
}
  where
    of_member : (y : Asked) → Among y (over_dropped task ∷ st.hand) → IsOwed w h a st.attempt y.place y.ask
    of_member y (inl e) = subst (λ (z : Asked). IsOwed w h a st.attempt z.place z.ask) (sym e) over
    of_member y (inr more) = match.owed y more

-- ---- the steps of others

-- claims of other tasks come and go, and messages come behind the marked ones
pub ActorMatches-ports : (w : Parts) (h : List Event) (port port' : ℕ → PortState) (a : ℕ) (st : State) → ((q : ℕ) (c : StandingClaim) → (port' q).claim ≡ Some c → ((port q).claim ≡ Some c) ⊎ (c.task.actor ≢ a)) → ((q : ℕ) (c : StandingClaim) → (port q).claim ≡ Some c → c.task ≡ name_at a st → ((port' q).claim ≡ Some c) × (first_fitting c.count c.pred (port' q).items ≡ first_fitting c.count c.pred (port q).items)) → ActorMatches w h port a st → ActorMatches w h port' a st
ActorMatches-ports w h port port' a st came stays match = record {
  fired_below = match.fired_below;
  claims_below = λ p c is own. below p c own (came p c is);
  claims_had = λ p c is own. had p c own (came p c is);
  had_claimed = λ d is. (stays d.slot.port (claim_for (name_at a st) d) (match.had_claimed d is) refl).0;
  had_marked = λ d is. (stays d.slot.port (claim_for (name_at a st) d) (match.had_claimed d is) refl).1 ∙ match.had_marked d is;
  had_enough = match.had_enough;
  owed = match.owed;
  one_put = match.one_put;
}
  where
    below : (p : ℕ) (c : StandingClaim) → c.task.actor ≡ a → ((port p).claim ≡ Some c) ⊎ (c.task.actor ≢ a) → c.task.attempt ≤ st.attempt
    below p c own (inl is) = match.claims_below p c is own
    below p c own (inr other) = absurd (other own)

    had : (p : ℕ) (c : StandingClaim) → c.task ≡ name_at a st → ((port p).claim ≡ Some c) ⊎ (c.task.actor ≢ a) → (d : Had) × Among d (had_in st.phase) × (d.slot.port ≡ p)
    had p c own (inl is) = match.claims_had p c is own
    had p c own (inr other) = absurd (other (ap (λ (t : TaskId). t.actor) own))

pub queue_stays : (w : Parts) (h es : List Event) (t : TaskId) → IsFired h t → queue_of w (h ++ es) t ≡ queue_of w h t
queue_stays w h es t fires = rw (placement_stays w h es t fires) refl

put-fire : (h : List Event) (t : TaskId) (s : Spot) (ms : List MsgId) (cs : List TaskId) → put (h ++ events.Fire t s ms cs ∷ []) ≡ put h
put-fire h t s ms cs = rw (put-push, append-nil) refl

-- what an event says of a put that is owed
abbrev pub StaysToPut : Parts → List Event → Event → TaskId → Type 0
StaysToPut w h e u = IsToPut w h u → (has_task (put (h ++ e ∷ [])) u ≡ false) × (has_task (cut (h ++ e ∷ [])) u ≡ false)

entered_later : (a b c : Bool) → (b ≡ true → c ≡ true) → a || b ≡ true → a || c ≡ true
entered_later true b c grows is = refl
entered_later false b c grows is = grows is

IsToPut-later : (w : Parts) (h : List Event) (e : Event) (u : TaskId) → StaysToPut w h e u → IsToPut w h u → IsToPut w (h ++ e ∷ []) u
IsToPut-later w h e u stays is = record {
  fires = (is.fires.0, firing_named-append h (e ∷ []) u is.fires.0 is.fires.1);
  unput = (stays is).0;
  uncut = (stays is).1;
  entered = entered_later (needs_no_admission w (is.fires.0).spot) (has_task (ever_admitted h) u) (has_task (ever_admitted (h ++ e ∷ [])) u) (λ there. rw (ever_admitted-push h e) (among_left (ever_admitted h) (admitted_by e) u there)) is.entered;
}

-- one more event, which says the same of the actor's own firings and of what it owes to put
pub owed_later : (w : Parts) (h : List Event) (e : Event) (a bound : ℕ) → IsLegal w h → ((t : TaskId) → t.actor ≡ a → has_task (fired (h ++ e ∷ [])) t ≡ has_task (fired h) t) → (place : Place) (ask : Ask) → ((u : TaskId) → has_task (put_in ask) u ≡ true → StaysToPut w h e u) → IsOwed w h a bound place ask → IsOwed w (h ++ e ∷ []) a bound place ask
owed_later w h e a bound legal fires place (asks.Consume t) puts is = (is.0, fires t is.0 ∙ is.1)
owed_later w h e a bound legal fires place (asks.Free t) puts is = (is.0, is.1, fires t is.0 ∙ is.2)
owed_later w h e a bound legal fires place (asks.Unbook t) puts (inl is) = inl (is.0, is.1, fires t is.0 ∙ is.2)
owed_later w h e a bound legal fires place (asks.Unbook t) puts (inr is) = inr (rw (cut-push h e) (among_left (cut h) (cut (e ∷ [])) t is))
owed_later w h e a bound legal fires place (asks.Put t) puts is = (IsToPut-later w h e t.id (puts t.id (ap (λ b. b || false) (same_task-self t.id))) is.0, is.1 ∙ ap places.Queue (sym (queue_stays w h (e ∷ []) t.id is.0.fires)))
owed_later w h e a bound legal fires place (asks.Post m) puts is = absurd is
owed_later w h e a bound legal fires place (asks.Claim t s) puts is = absurd is
owed_later w h e a bound legal fires place (asks.Commit t ms) puts is = absurd is
owed_later w h e a bound legal fires place asks.Admit puts is = absurd is
owed_later w h e a bound legal fires place (asks.Over t r how) puts is = by how is
  where
    by : (k : How) → IsOwedOver h r k → IsOwedOver (h ++ e ∷ []) r k
    by hows.Dropped over = over_stays h e r (lasts_fired w h legal) over
    by hows.Done none = absurd none
    by (hows.Failed v) none = absurd none
    by hows.Shed none = absurd none
owed_later w h e a bound legal fires place (asks.Suspend t) puts is = absurd is
owed_later w h e a bound legal fires place (asks.Book t r) puts is = absurd is
owed_later w h e a bound legal fires place asks.Take puts is = absurd is
owed_later w h e a bound legal fires place asks.Draw puts is = absurd is
owed_later w h e a bound legal fires place asks.Leave puts is = absurd is
owed_later w h e a bound legal fires place asks.Left puts is = absurd is

-- an event that puts and fires nothing
pub stays_quiet : (w : Parts) (h : List Event) (e : Event) (u : TaskId) → put (h ++ e ∷ []) ≡ put h → firing_of e ≡ [] → StaysToPut w h e u
stays_quiet w h e u puts none is = (rw puts is.unput, (let same : cut (h ++ e ∷ []) ≡ cut h = ap (λ (fs : List Firing). flat_map (λ (f : Firing). f.cuts) fs) (firings-push h e ∙ ap (λ fs. firings h ++ fs) none ∙ append-nil (firings h)) in rw same is.uncut))

-- whom a firing cuts wasn't admitted, so nobody owes its put
pub stays_fire : (w : Parts) (h : List Event) (t : TaskId) (s : Spot) (ms : List MsgId) (cs : List TaskId) (u : TaskId) → IsLegal w h → IsAllowed w h (events.Fire t s ms cs) → StaysToPut w h (events.Fire t s ms cs) u
stays_fire w h t s ms cs u legal allowed is = (rw (put-fire h t s ms cs) is.unput, rw (cut-push h (events.Fire t s ms cs)) (not_more (cut h) (cs ++ []) u is.uncut (refuted (has_task (cs ++ []) u) spared)))
  where
    spared : has_task (cs ++ []) u ≡ true → ⊥
    spared there =
        let waits = cut_by w h t s ms cs (OneName-legal w h legal) allowed u there in
        let same : waits.1.firing ≡ is.fires.0 = some_is (sym waits.1.is_firing ∙ is.fires.1) in
        no_both (subst (λ (f : Firing). needs_no_admission w f.spot || has_task (ever_admitted h) u ≡ true) (sym same) is.entered) (waits_outside w h waits.0 u waits.1)

pub ActorMatches-history : (w : Parts) (h : List Event) (e : Event) (port : ℕ → PortState) (a : ℕ) (st : State) → IsLegal w h → ((t : TaskId) → t.actor ≡ a → has_task (fired (h ++ e ∷ [])) t ≡ has_task (fired h) t) → ((u : TaskId) → has_task (puts_in st.hand) u ≡ true → StaysToPut w h e u) → ActorMatches w h port a st → ActorMatches w (h ++ e ∷ []) port a st
ActorMatches-history w h e port a st legal fires puts match = record {
  fired_below = λ t is f. match.fired_below t is (sym (fires t is) ∙ f);
  claims_below = match.claims_below;
  claims_had = match.claims_had;
  had_claimed = match.had_claimed;
  had_marked = match.had_marked;
  had_enough = match.had_enough;
  owed = λ x is. owed_later w h e a st.attempt legal fires x.place x.ask (λ u there. puts u (put_within st.hand x is u there)) (match.owed x is);
  one_put = match.one_put;
}

-- ---- the actor's own claim got its messages

pub ActorMatches-got : (w : Parts) (h : List Event) (port port' : ℕ → PortState) (a : ℕ) (st : State) (slots : List Slot) (d : Had) → (port d.slot.port).claim ≡ None → first_fitting (length d.messages) d.slot.pred (port d.slot.port).items ≡ d.messages → (d.slot.least ≤ length d.messages) × (length d.messages ≤ d.slot.most) → Changes port port' d.slot.port (notes.Claim (name_at a st) d.slot (Got (length d.messages))) → ActorMatches w h port a st → ActorMatches w h port' a (record st { phase = claiming slots (had_in st.phase ++ d ∷ []) })
ActorMatches-got w h port port' a st slots d none marked enough changes match = record {
  fired_below = match.fired_below;
  claims_below = λ q c is own. below q c (d.slot.port == q) refl is own;
  claims_had = λ q c is own. had q c (d.slot.port == q) refl is own;
  had_claimed = λ x is. claimed x (Among-either x (had_in st.phase) (d ∷ []) is);
  had_marked = λ x is. fits x (Among-either x (had_in st.phase) (d ∷ []) is);
  had_enough = λ x is. enough_for x (Among-either x (had_in st.phase) (d ∷ []) is);
  owed = match.owed;
  one_put = match.one_put;
}
  where
    below : (q : ℕ) (c : StandingClaim) (b : Bool) → (d.slot.port == q) ≡ b → (port' q).claim ≡ Some c → c.task.actor ≡ a → c.task.attempt ≤ st.attempt
    below q c true e is own = let now : Some (claim_for (name_at a st) d) ≡ Some c = rw (changes q, e) at is in let same : name_at a st ≡ c.task = cc in subst (λ (t : TaskId). t.attempt ≤ st.attempt) same (omega arith)
    below q c false e is own = match.claims_below q c (rw (changes q, e) at is) own

    had : (q : ℕ) (c : StandingClaim) (b : Bool) → (d.slot.port == q) ≡ b → (port' q).claim ≡ Some c → c.task ≡ name_at a st → (x : Had) × Among x (had_in st.phase ++ d ∷ []) × (x.slot.port ≡ q)
    had q c true e is own = (d, Among-last (had_in st.phase) d, same_number d.slot.port q e)
    had q c false e is own = more (match.claims_had q c (rw (changes q, e) at is) own)
      where
        more : (x : Had) × Among x (had_in st.phase) × (x.slot.port ≡ q) → (x : Had) × Among x (had_in st.phase ++ d ∷ []) × (x.slot.port ≡ q)
        more found = (found.0, Among-left found.0 (had_in st.phase) (d ∷ []) found.1, found.2)

    -- an older claim stands at another port
    apart : (x : Had) → Among x (had_in st.phase) → (d.slot.port == x.slot.port) ≡ false
    apart x among = of_test (d.slot.port == x.slot.port) refl
      where
        of_test : (b : Bool) → (d.slot.port == x.slot.port) ≡ b → (d.slot.port == x.slot.port) ≡ false
        of_test false e = e
        of_test true e = let was : (port x.slot.port).claim ≡ None = subst (λ k. (port k).claim ≡ None) (same_number d.slot.port x.slot.port e) none in let stands = match.had_claimed x among in absurd (cc)

    claimed : (x : Had) → Among x (had_in st.phase) ⊎ Among x (d ∷ []) → (port' x.slot.port).claim ≡ Some (claim_for (name_at a st) x)
    claimed x (inl among) = rw (changes x.slot.port, apart x among) (match.had_claimed x among)
    claimed x (inr (inl e)) = subst (λ (y : Had). (port' y.slot.port).claim ≡ Some (claim_for (name_at a st) y)) (sym e) (rw (changes d.slot.port, eq-self d.slot.port) refl)
    claimed x (inr (inr none)) = absurd none

    fits : (x : Had) → Among x (had_in st.phase) ⊎ Among x (d ∷ []) → first_fitting (length x.messages) x.slot.pred (port' x.slot.port).items ≡ x.messages
    fits x (inl among) = rw (changes x.slot.port, apart x among) (match.had_marked x among)
    fits x (inr (inl e)) = subst (λ (y : Had). first_fitting (length y.messages) y.slot.pred (port' y.slot.port).items ≡ y.messages) (sym e) (rw (changes d.slot.port, eq-self d.slot.port) marked)
    fits x (inr (inr none)) = absurd none

    enough_for : (x : Had) → Among x (had_in st.phase) ⊎ Among x (d ∷ []) → (x.slot.least ≤ length x.messages) × (length x.messages ≤ x.slot.most)
    enough_for x (inl among) = match.had_enough x among
    enough_for x (inr (inl e)) = subst (λ (y : Had). (y.slot.least ≤ length y.messages) × (length y.messages ≤ y.slot.most)) (sym e) enough
    enough_for x (inr (inr none)) = absurd none

-- ---- the actor's own firing

-- a state like the fired one in what the invariant reads
pub ActorMatches-fire : (w : Parts) (h : List Event) (port : ℕ → PortState) (a : ℕ) (st : State) (spot s : Spot) (more : List Spot) (names : List MsgId) (task : Option Task) (cuts : List Cut) (cs : List TaskId) → IsLegal w h → ((c : Cut) → Among c cuts → has_task cs c.task ≡ true) → ((t : Task) → task ≡ Some t → (t.id ≡ name_at a st) × (t.queue ≡ queue_of w (h ++ events.Fire (name_at a st) s names cs ∷ []) (name_at a st)) × (needs_no_admission w s ≡ true)) → IsAllowed w h (events.Fire (name_at a st) s names cs) → has_task (put h) (name_at a st) ≡ false → ActorMatches w h port a st → ActorMatches w (h ++ events.Fire (name_at a st) s names cs ∷ []) port a (fire w a st spot more task cuts)
ActorMatches-fire w h port a st spot s more names task cuts cs legal within whole allowed fresh match = record {
  fired_below = λ t is f. below t is (has_task (fired h) t) refl (sym (has_task-append (fired h) (name_at a st ∷ []) t) ∙ (rw (fired-fire h (name_at a st) s names cs) at f));
  claims_below = λ p c is own. (let old = match.claims_below p c is own in omega arith);
  claims_had = λ p c is own. (let old = match.claims_below p c is (ap (λ (t : TaskId). t.actor) own) in let same = ap (λ (t : TaskId). t.attempt) own in absurd (omega (arith, old, same)));
  had_claimed = λ d is. absurd is;
  had_marked = λ d is. absurd is;
  had_enough = λ d is. absurd is;
  owed = owed_both w after a (st.attempt + 1) (map (consume_ask (name_at a st)) (had_in st.phase)) (map cut_ask cuts ++ put_asks task) (owed_all w after a (st.attempt + 1) (consume_ask (name_at a st)) (λ d. (refl, now)) (had_in st.phase)) (owed_both w after a (st.attempt + 1) (map cut_ask cuts) (put_asks task) (cuts_owed cuts within) (put_owed task whole));
  one_put = puts-fire (name_at a st) (had_in st.phase) task cuts;
}
  where
    after : List Event
    after = h ++ events.Fire (name_at a st) s names cs ∷ []

    unfired_now : has_task (fired h) (name_at a st) ≡ false
    unfired_now = unfired w h port a st match

    now : has_task (fired (h ++ events.Fire (name_at a st) s names cs ∷ [])) (name_at a st) ≡ true
    now = rw (fired-fire h (name_at a st) s names cs) (has_task-last (fired h) (name_at a st))

    cut_so : cut after ≡ cut h ++ cs
    cut_so = cut-push h (events.Fire (name_at a st) s names cs) ∙ ap (λ ts. cut h ++ ts) (append-nil cs)

    below : (t : TaskId) → t.actor ≡ a → (b : Bool) → has_task (fired h) t ≡ b → b || has_task (name_at a st ∷ []) t ≡ true → t.attempt < st.attempt + 1
    below t is true e f = let old = match.fired_below t is e in omega arith
    below t is false e f = let same : t ≡ name_at a st = same_task-is t (name_at a st) (grind (arith, common_steps, f)) in let n = ap (λ (x : TaskId). x.attempt) same in omega (arith, n)

    cuts_owed : (ks : List Cut) → ((c : Cut) → Among c ks → has_task cs c.task ≡ true) → (x : Asked) → Among x (map cut_ask ks) → IsOwed w after a (st.attempt + 1) x.place x.ask
    cuts_owed [] known x is = absurd is
    cuts_owed (c ∷ ks) known x (inl e) = subst (λ (z : Asked). IsOwed w after a (st.attempt + 1) z.place z.ask) (sym e) (inr (rw cut_so (among_right (cut h) cs c.task (known c (inl refl)))))
    cuts_owed (c ∷ ks) known x (inr is) = cuts_owed ks (λ d there. known d (inr there)) x is

    to_put : needs_no_admission w s ≡ true → IsToPut w after (name_at a st)
    to_put free = record {
      fires = (record { task = name_at a st; spot = s; messages = names; cuts = cs }, firing_named-new h (name_at a st) s names cs unfired_now);
      unput = rw (put-fire h (name_at a st) s names cs) fresh;
      uncut = rw cut_so (not_more (cut h) cs (name_at a st) (not_within (cut h) (fired h) (name_at a st) (λ is. fired_has h (name_at a st) (cut_fired w h legal (name_at a st) is)) unfired_now) (not_within cs (fired h) (name_at a st) (λ is. fired_has h (name_at a st) (cuts_fired w h (name_at a st) s names cs legal allowed (name_at a st) is)) unfired_now));
      entered = rw free refl;
    }

    put_owed : (o : Option Task) → ((t : Task) → o ≡ Some t → (t.id ≡ name_at a st) × (t.queue ≡ queue_of w after (name_at a st)) × (needs_no_admission w s ≡ true)) → (x : Asked) → Among x (put_asks o) → IsOwed w after a (st.attempt + 1) x.place x.ask
    put_owed None is x none = absurd none
    put_owed (Some t) is x (inl e) = let id = (is t refl).0 in subst (λ (z : Asked). IsOwed w after a (st.attempt + 1) z.place z.ask) (sym e) (subst (IsToPut w after) (sym id) (to_put (is t refl).2), ap places.Queue ((is t refl).1 ∙ ap (queue_of w after) (sym id)))
    put_owed (Some t) is x (inr none) = absurd none

-- ---- the actor admitted a task

pub ActorMatches-admit : (w : Parts) (h : List Event) (port : ℕ → PortState) (a : ℕ) (st st' : State) (task : Task) → st'.hand ≡ put_ask task ∷ [] → had_in st'.phase ≡ had_in st.phase → st'.attempt ≡ st.attempt → IsToPut w h task.id → task.queue ≡ queue_of w h task.id → ActorMatches w h port a (record st { hand = [] }) → ActorMatches w h port a st'
ActorMatches-admit w h port a st st' task hand phase attempt is queue match = ActorMatches-same w h port a given st' hand phase attempt (record {
  fired_below = match.fired_below;
  claims_below = match.claims_below;
  claims_had = match.claims_had;
  had_claimed = match.had_claimed;
  had_marked = match.had_marked;
  had_enough = match.had_enough;
  owed = λ x there. one x there;
  one_put = omega arith;
})
  where
    given : State
    given = record st { hand = put_ask task ∷ [] }

    one : (x : Asked) → Among x (put_ask task ∷ []) → IsOwed w h a st.attempt x.place x.ask
    one x (inl e) = subst (λ (z : Asked). IsOwed w h a st.attempt z.place z.ask) (sym e) (is, ap places.Queue queue)
    one x (inr none) = absurd none

-- ---- who is to be put by what is in hand may be put

put_owes : (w : Parts) (h : List Event) (a bound : ℕ) (place : Place) (ask : Ask) (u : TaskId) → IsOwed w h a bound place ask → has_task (put_in ask) u ≡ true → IsToPut w h u
put_owes w h a bound place (asks.Put t) u is there = subst (IsToPut w h) (sym (of_one t.id u there)) is.0
put_owes w h a bound place (asks.Consume t) u is there = absurd (cc)
put_owes w h a bound place (asks.Free t) u is there = absurd (cc)
put_owes w h a bound place (asks.Unbook t) u is there = absurd (cc)
put_owes w h a bound place (asks.Post m) u is there = absurd is
put_owes w h a bound place (asks.Claim t s) u is there = absurd is
put_owes w h a bound place (asks.Commit t ms) u is there = absurd is
put_owes w h a bound place asks.Admit u is there = absurd is
put_owes w h a bound place (asks.Over t r how) u is there = absurd (cc)
put_owes w h a bound place (asks.Suspend t) u is there = absurd is
put_owes w h a bound place (asks.Book t r) u is there = absurd is
put_owes w h a bound place asks.Take u is there = absurd is
put_owes w h a bound place asks.Draw u is there = absurd is
put_owes w h a bound place asks.Leave u is there = absurd is
put_owes w h a bound place asks.Left u is there = absurd is

hand_owes : (w : Parts) (h : List Event) (a bound : ℕ) (hand : List Asked) (u : TaskId) → ((x : Asked) → Among x hand → IsOwed w h a bound x.place x.ask) → has_task (puts_in hand) u ≡ true → IsToPut w h u
hand_owes w h a bound [] u owed there = absurd (cc)
hand_owes w h a bound (x ∷ hand) u owed there = of_more (put_in x.ask) (puts_in hand) u (IsToPut w h u) there (put_owes w h a bound x.place x.ask u (owed x (inl refl))) (hand_owes w h a bound hand u (λ y is. owed y (inr is)))

pub puts_owed : (w : Parts) (h : List Event) (port : ℕ → PortState) (a : ℕ) (st : State) (u : TaskId) → ActorMatches w h port a st → has_task (puts_in st.hand) u ≡ true → IsToPut w h u
puts_owed w h port a st u match there = hand_owes w h a st.attempt st.hand u match.owed there

-- those that a firing has in hand
pub puts_fired : (name : TaskId) (had : List Had) (task : Option Task) (cuts : List Cut) → puts_in (firing_hand name had task cuts) ≡ puts_in (put_asks task)
puts_fired name had task cuts = rw (puts-append, puts-append, puts-none (consume_ask name) (λ y. refl) had, puts-none cut_ask (λ y. refl) cuts) refl

-- The whole invariant, and how a step of one actor keeps it.
use Rattle.std.proofs.Common.{◌≡◌, ◌≢◌, ◌⊎◌, inl, inr, ℕ, zero, suc, Bool, true, false, List, [], ◌∷◌, ◌++◌, Option, Some, None, refl, sym, arith, ap, ◌∙◌, subst}
use Rattle.std.specs.Prelude.{◌==◌, if◌then◌else◌, nat_le}
use Rattle.std.proofs.lemmas.Bool.Decides.{nat_tests}
use Rattle.std.proofs.lemmas.Grind.{common_steps}
use Rattle.ccr_base.specs.declared.names.Place.{Place}
use Rattle.ccr_base.specs.declared.names.Place.TheVariants as places
use Rattle.ccr_base.specs.declared.names.Spot.{Spot}
use Rattle.ccr_base.specs.declared.names.TaskId.{TaskId}
use Rattle.ccr_base.specs.Names.{has_task}
use Rattle.ccr_wiring.specs.declared.parts.Parts.{Parts}
use Rattle.ccr_model.specs.declared.history.Event.{Event}
use Rattle.ccr_model.specs.Legal.{IsLegal}
use Rattle.ccr_base.proofs.Booleans.{same_number, eq-self, refuted, no_both, differ}
use Rattle.ccr_places.specs.Ports.{PortState}
use Rattle.ccr_places.specs.Queues.{QueueState}
use Rattle.ccr_places.specs.Meters.{MeterState}
use Rattle.ccr_places.specs.Meters as meters
use Rattle.ccr_claim.specs.declared.asks.Reply.{Reply}
use Rattle.ccr_claim.specs.declared.asks.Asked.{Asked}
use Rattle.ccr_actor.specs.Actors.{State, Work, name_at, settle, admit, drive, go_on, turn, turn_of, after_in, shorten, start, state_after, work_of}
use Rattle.ccr_runs.specs.declared.entries.Entry.{Entry}
use Rattle.ccr_runs.specs.Places.{meter_after}
use Rattle.ccr_runs.specs.EntryRuns.{Lacks, state_of, port_at, notes_at, reply_of, same_place, queue_at}
use Rattle.ccr_runs.specs.Visible.{visible}
use Rattle.ccr_net.proofs.Parts.OneMoreEntry.{port_at-push, queue_at-push, IsNextState, state_of-own, state_of-other}
use Rattle.ccr_net.proofs.Parts.PortsAndHandsMatch.{PortsMatch, ActorMatches, puts_in}
use Rattle.ccr_net.proofs.Parts.StepsKeepPorts.{Changes}
use Rattle.ccr_net.proofs.Parts.StepsKeepActors.{ActorMatches-same, ActorMatches-short, puts-short}
use Rattle.ccr_net.proofs.Parts.DomainsMatch.{DomainsMatch}
use Rattle.ccr_net.proofs.Parts.ArbitersMatch.{ArbitersMatch}
use Rattle.ccr_net.proofs.Parts.SitesMatch.{SitesMatch}
use Rattle.ccr_net.proofs.Parts.QueuesMatch.{QueueChanges}
use Rattle.ccr_net.proofs.Parts.BookedHasRoom.{QueuesHold, IsBooked, IsBookedAt-stays, Stays}
use Rattle.ccr_net.proofs.Parts.WorkMatches.{WorkMatches}
use Rattle.ccr_net.proofs.Parts.MeterMatches.{MeterMatches, OneWorks}
use Rattle.ccr_net.proofs.Parts.PhasesFitPlans.{StateFits}

-- what is known of one actor
pub record ActorHolds (w : Parts) (h : List Event) (port : ℕ → PortState) (a : ℕ) (st : State) : Type 0 where
  pub claims : ActorMatches w h port a st
  pub work : WorkMatches w h a st.work
  pub fits : StateFits w st

pub ActorHolds-short : (w : Parts) (h : List Event) (port : ℕ → PortState) (a : ℕ) (st : State) → ActorHolds w h port a st → ActorHolds w h port a (shorten w a st)
ActorHolds-short w h port a st holds = record {
  claims = ActorMatches-short w h port a st holds.claims;
  work = holds.work;
  fits = record { spots_so = λ s is. absurd is; phase_so = tt };
}

-- an actor before its first step, which may find no memory then
abbrev pub IsBegun : Parts → ℕ → State → Type 0
IsBegun w a st = (st ≡ start w a) ⊎ (st ≡ shorten w a (start w a))

pub begins : (w : Parts) (lacks : Lacks) (a : ℕ) → IsBegun w a (state_of w lacks [] a)
begins w lacks a = by (lacks a)
  where
    by : (lack : Option ℕ) → IsBegun w a (state_after w a lack [])
    by None = inl refl
    by (Some zero) = inr refl
    by (Some (suc n)) = inl (rw later refl)
      where
        later : nat_le (suc n) 0 ≡ false
        later = grind (arith, nat_tests)

pub ActorHolds-begun : (w : Parts) (h : List Event) (port : ℕ → PortState) (a : ℕ) (st : State) → IsBegun w a st → ActorHolds w h port a (start w a) → ActorHolds w h port a st
ActorHolds-begun w h port a st (inl is) holds = subst (ActorHolds w h port a) (sym is) holds
ActorHolds-begun w h port a st (inr is) holds = subst (ActorHolds w h port a) (sym is) (ActorHolds-short w h port a (start w a) holds)

pub begun_work : (w : Parts) (a : ℕ) (st : State) → IsBegun w a st → st.work ≡ work_of w a
begun_work w a st (inl is) = ap (λ (s : State). s.work) is
begun_work w a st (inr is) = ap (λ (s : State). s.work) is

after_kept : (w : Parts) (h : List Event) (port : ℕ → PortState) (a : ℕ) (st next new : State) (r : Reply) → after_in w a st (turn st) r ≡ next → IsNextState w a st r new → ActorHolds w h port a next → ActorHolds w h port a new
after_kept w h port a st next new r is (inl one) holds = subst (ActorHolds w h port a) (sym is ∙ sym one) holds
after_kept w h port a st next new r is (inr one) holds = subst (ActorHolds w h port a) (ap (shorten w a) (sym is) ∙ sym one) (ActorHolds-short w h port a next holds)

pub next_work : (w : Parts) (a : ℕ) (st new : State) (r : Reply) → IsNextState w a st r new → new.work ≡ (after_in w a st (turn st) r).work
next_work w a st new r (inl is) = ap (λ (s : State). s.work) is
next_work w a st new r (inr is) = ap (λ (s : State). s.work) is

puts_next : (w : Parts) (a : ℕ) (st next new : State) (r : Reply) → after_in w a st (turn st) r ≡ next → IsNextState w a st r new → puts_in new.hand ≡ puts_in next.hand
puts_next w a st next new r is (inl one) = ap (λ (s : State). puts_in s.hand) (one ∙ is)
puts_next w a st next new r is (inr one) = ap (λ (s : State). puts_in s.hand) (one ∙ ap (shorten w a) is) ∙ puts-short w a next

-- the meter after these entries
abbrev pub meter_at : Parts → List Entry → MeterState
meter_at w es = meter_after w.budget (notes_at es places.Meter)

abbrev pub works_of : Parts → Lacks → List Entry → ℕ → Work
works_of w lacks es a = (state_of w lacks es a).work

-- attempts stay booked: those of others, and that of the entry's actor, whose state then is `next`
pub record UnderWay (w : Parts) (lacks : Lacks) (es : List Entry) (e : Entry) (next : State) : Type 0 where
  pub own : IsBooked w (queue_at w (es ++ e ∷ [])) e.actor next
  pub others : (a : ℕ) → e.actor ≢ a → Stays (queue_at w es) (queue_at w (es ++ e ∷ [])) (name_at a (state_of w lacks es a))

pub IsBooked-begun : (w : Parts) (queue : ℕ → QueueState) (a : ℕ) (st : State) → IsBegun w a st → IsBooked w queue a st
IsBooked-begun w queue a st (inl is) = subst (IsBooked w queue a) (sym is) tt
IsBooked-begun w queue a st (inr is) = subst (IsBooked w queue a) (sym is) tt

booked_next : (w : Parts) (queue : ℕ → QueueState) (a : ℕ) (st next new : State) (r : Reply) → after_in w a st (turn st) r ≡ next → IsNextState w a st r new → IsBooked w queue a next → IsBooked w queue a new
booked_next w queue a st next new r is (inl one) booked = subst (IsBooked w queue a) (sym is ∙ sym one) booked
booked_next w queue a st next new r is (inr one) booked = subst (IsBooked w queue a) (ap (shorten w a) (sym is) ∙ sym one) tt

-- the invariant over the entries, of this number of actors
pub record Holds (w : Parts) (n : ℕ) (lacks : Lacks) (es : List Entry) : Type 0 where
  pub legal : IsLegal w (visible es)
  pub ports : PortsMatch (visible es) (port_at es)
  pub queues : QueuesHold w (visible es) (queue_at w es)
  pub under_way : (a : ℕ) → IsBooked w (queue_at w es) a (state_of w lacks es a)
  pub actors : (a : ℕ) → ActorHolds w (visible es) (port_at es) a (state_of w lacks es a)
  pub meter : MeterMatches w n (visible es) (meter_at w es).drawn (works_of w lacks es)
  pub budget : (meter_at w es).budget ≡ w.budget
  pub arbiters : ArbitersMatch w (visible es) es
  pub sites : SitesMatch (visible es) es
  pub domains : DomainsMatch w (visible es) es
  pub apart : (a b : ℕ) → a ≢ b → (t : TaskId) → has_task (puts_in (state_of w lacks es a).hand) t ≡ true → has_task (puts_in (state_of w lacks es b).hand) t ≡ false

-- what the entry must be shown to keep, where the actor's state then is `next` and the history `h`
pub record Keeps (w : Parts) (n : ℕ) (lacks : Lacks) (es : List Entry) (e : Entry) (next : State) (h : List Event) : Type 0 where
  pub shows : visible (es ++ e ∷ []) ≡ h
  pub goes : after_in w e.actor (state_of w lacks es e.actor) (turn (state_of w lacks es e.actor)) (reply_of w es e) ≡ next
  pub legal : IsLegal w h
  pub ports : PortsMatch h (port_at (es ++ e ∷ []))
  pub queues : QueuesHold w h (queue_at w (es ++ e ∷ []))
  pub under_way : UnderWay w lacks es e next
  pub own : ActorHolds w h (port_at (es ++ e ∷ [])) e.actor next
  pub others : (a : ℕ) → e.actor ≢ a → ActorHolds w h (port_at (es ++ e ∷ [])) a (state_of w lacks es a)
  pub meter : (works' : ℕ → Work) → OneWorks (works_of w lacks es) works' e.actor next.work → MeterMatches w n h (meter_at w (es ++ e ∷ [])).drawn works'
  pub budget : (meter_at w (es ++ e ∷ [])).budget ≡ w.budget
  pub arbiters : ArbitersMatch w h (es ++ e ∷ [])
  pub sites : SitesMatch h (es ++ e ∷ [])
  pub domains : DomainsMatch w h (es ++ e ∷ [])
  pub apart : (a : ℕ) → e.actor ≢ a → (t : TaskId) → has_task (puts_in next.hand) t ≡ true → has_task (puts_in (state_of w lacks es a).hand) t ≡ false

pub Holds-kept : (w : Parts) (n : ℕ) (lacks : Lacks) (es : List Entry) (e : Entry) (next : State) (h : List Event) → Holds w n lacks es → Keeps w n lacks es e next h → Holds w n lacks (es ++ e ∷ [])
Holds-kept w n lacks es e next h holds keeps = record {
  legal = rw keeps.shows keeps.legal;
  ports = rw keeps.shows keeps.ports;
  queues = rw keeps.shows keeps.queues;
  under_way = λ a. booked_of a (e.actor == a) refl;
  actors = λ a. rw keeps.shows (of_actor a (e.actor == a) refl);
  meter = rw keeps.shows (keeps.meter (works_of w lacks (es ++ e ∷ [])) (record { own = own_work; others = λ b other. other_work b other }));
  budget = keeps.budget;
  arbiters = rw keeps.shows keeps.arbiters;
  sites = rw keeps.shows keeps.sites;
  domains = rw keeps.shows keeps.domains;
  apart = λ a b other t is. put_apart a b other t is (e.actor == a) refl (e.actor == b) refl;
}
  where
    moved : IsNextState w e.actor (state_of w lacks es e.actor) (reply_of w es e) (state_of w lacks (es ++ e ∷ []) e.actor)
    moved = state_of-own w lacks es e e.actor (eq-self e.actor)

    unmoved : (b : ℕ) → e.actor ≢ b → state_of w lacks (es ++ e ∷ []) b ≡ state_of w lacks es b
    unmoved b other = by (e.actor == b) refl
      where
        by : (c : Bool) → (e.actor == b) ≡ c → state_of w lacks (es ++ e ∷ []) b ≡ state_of w lacks es b
        by true is = absurd (other (same_number e.actor b is))
        by false is = state_of-other w lacks es e b is

    own_work : works_of w lacks (es ++ e ∷ []) e.actor ≡ next.work
    own_work = next_work w e.actor (state_of w lacks es e.actor) (state_of w lacks (es ++ e ∷ []) e.actor) (reply_of w es e) moved ∙ ap (λ (s : State). s.work) keeps.goes

    other_work : (b : ℕ) → e.actor ≢ b → works_of w lacks (es ++ e ∷ []) b ≡ works_of w lacks es b
    other_work b other = ap (λ (s : State). s.work) (unmoved b other)

    own : ActorHolds w h (port_at (es ++ e ∷ [])) e.actor (state_of w lacks (es ++ e ∷ []) e.actor)
    own = after_kept w h (port_at (es ++ e ∷ [])) e.actor (state_of w lacks es e.actor) next (state_of w lacks (es ++ e ∷ []) e.actor) (reply_of w es e) keeps.goes moved keeps.own

    of_actor : (a : ℕ) (c : Bool) → (e.actor == a) ≡ c → ActorHolds w h (port_at (es ++ e ∷ [])) a (state_of w lacks (es ++ e ∷ []) a)
    of_actor a true is = subst (λ b. ActorHolds w h (port_at (es ++ e ∷ [])) b (state_of w lacks (es ++ e ∷ []) b)) (same_number e.actor a is) own
    of_actor a false is = subst (λ (x : State). ActorHolds w h (port_at (es ++ e ∷ [])) a x) (sym (state_of-other w lacks es e a is)) (keeps.others a (differ e.actor a is))

    booked_of : (a : ℕ) (c : Bool) → (e.actor == a) ≡ c → IsBooked w (queue_at w (es ++ e ∷ [])) a (state_of w lacks (es ++ e ∷ []) a)
    booked_of a true is = subst (λ b. IsBooked w (queue_at w (es ++ e ∷ [])) b (state_of w lacks (es ++ e ∷ []) b)) (same_number e.actor a is) (booked_next w (queue_at w (es ++ e ∷ [])) e.actor (state_of w lacks es e.actor) next (state_of w lacks (es ++ e ∷ []) e.actor) (reply_of w es e) keeps.goes moved keeps.under_way.own)
    booked_of a false is = subst (IsBooked w (queue_at w (es ++ e ∷ [])) a) (sym (state_of-other w lacks es e a is)) (IsBookedAt-stays w (queue_at w es) (queue_at w (es ++ e ∷ [])) (name_at a (state_of w lacks es a)) (state_of w lacks es a).phase (state_of w lacks es a).spots (keeps.under_way.others a (differ e.actor a is)) (holds.under_way a))

    puts_own : (a : ℕ) → (e.actor == a) ≡ true → puts_in (state_of w lacks (es ++ e ∷ []) a).hand ≡ puts_in next.hand
    puts_own a is = ap (λ b. puts_in (state_of w lacks (es ++ e ∷ []) b).hand) (sym (same_number e.actor a is)) ∙ puts_next w e.actor (state_of w lacks es e.actor) next (state_of w lacks (es ++ e ∷ []) e.actor) (reply_of w es e) keeps.goes moved

    puts_other : (a : ℕ) → (e.actor == a) ≡ false → puts_in (state_of w lacks (es ++ e ∷ []) a).hand ≡ puts_in (state_of w lacks es a).hand
    puts_other a is = ap (λ (s : State). puts_in s.hand) (state_of-other w lacks es e a is)

    put_apart : (a b : ℕ) → a ≢ b → (t : TaskId) → has_task (puts_in (state_of w lacks (es ++ e ∷ []) a).hand) t ≡ true → (c : Bool) → (e.actor == a) ≡ c → (d : Bool) → (e.actor == b) ≡ d → has_task (puts_in (state_of w lacks (es ++ e ∷ []) b).hand) t ≡ false
    put_apart a b other t is true at_a true at_b = absurd (other (sym (same_number e.actor a at_a) ∙ same_number e.actor b at_b))
    put_apart a b other t is true at_a false at_b = ap (λ ts. has_task ts t) (puts_other b at_b) ∙ keeps.apart b (differ e.actor b at_b) t (ap (λ ts. has_task ts t) (sym (puts_own a at_a)) ∙ is)
    put_apart a b other t is false at_a true at_b = refuted (has_task (puts_in (state_of w lacks (es ++ e ∷ []) b).hand) t) (λ also. no_both (ap (λ ts. has_task ts t) (sym (puts_other a at_a)) ∙ is) (keeps.apart a (differ e.actor a at_a) t (ap (λ ts. has_task ts t) (sym (puts_own b at_b)) ∙ also)))
    put_apart a b other t is false at_a false at_b = ap (λ ts. has_task ts t) (puts_other b at_b) ∙ holds.apart a b other t (ap (λ ts. has_task ts t) (sym (puts_other a at_a)) ∙ is)

-- ---- which place changes

pub port_changes : (es : List Entry) (e : Entry) (p : ℕ) → e.place ≡ places.Port p → Changes (port_at es) (port_at (es ++ e ∷ [])) p e.note
port_changes es e p is q = rw (port_at-push es e q, is) refl

pub queue_changes : (w : Parts) (es : List Entry) (e : Entry) (q : ℕ) → e.place ≡ places.Queue q → QueueChanges (queue_at w es) (queue_at w (es ++ e ∷ [])) q e.note
queue_changes w es e q is k = rw (queue_at-push w es e k, is) refl

pub meter_at-push : (w : Parts) (es : List Entry) (e : Entry) → meter_at w (es ++ e ∷ []) ≡ (if same_place e.place places.Meter then meters.after (meter_at w es) e.note else meter_at w es)
meter_at-push w es e = grind (arith, common_steps)

-- the place isn't a port, not a queue, not the meter
abbrev pub is_port_place : Place → Bool
is_port_place (places.Port p) = true
is_port_place _ = false

abbrev pub is_queue_place : Place → Bool
is_queue_place (places.Queue q) = true
is_queue_place _ = false

abbrev pub is_meter_place : Place → Bool
is_meter_place places.Meter = true
is_meter_place _ = false

pub same_ports : (es : List Entry) (e : Entry) (place : Place) → e.place ≡ place → is_port_place place ≡ false → port_at (es ++ e ∷ []) ≡ port_at es
same_ports es e place is other = λ j q. (one q) j
  where
    elsewhere : (q : ℕ) (p : Place) → is_port_place p ≡ false → same_place p (places.Port q) ≡ false
    elsewhere q (places.Port p) out = absurd (cc)
    elsewhere q (places.Arbiter i) out = refl
    elsewhere q (places.Site b k) out = refl
    elsewhere q (places.Queue k) out = refl
    elsewhere q places.Meter out = refl

    one : (q : ℕ) → port_at (es ++ e ∷ []) q ≡ port_at es q
    one q = rw (port_at-push es e q, is, elsewhere q place other) refl

pub same_queues : (w : Parts) (es : List Entry) (e : Entry) (place : Place) → e.place ≡ place → is_queue_place place ≡ false → queue_at w (es ++ e ∷ []) ≡ queue_at w es
same_queues w es e place is other = λ j q. (one q) j
  where
    elsewhere : (q : ℕ) (p : Place) → is_queue_place p ≡ false → same_place p (places.Queue q) ≡ false
    elsewhere q (places.Port p) out = refl
    elsewhere q (places.Arbiter i) out = refl
    elsewhere q (places.Site b k) out = refl
    elsewhere q (places.Queue k) out = absurd (cc)
    elsewhere q places.Meter out = refl

    one : (q : ℕ) → queue_at w (es ++ e ∷ []) q ≡ queue_at w es q
    one q = rw (queue_at-push w es e q, is, elsewhere q place other) refl

pub same_meter : (w : Parts) (es : List Entry) (e : Entry) (place : Place) → e.place ≡ place → is_meter_place place ≡ false → meter_at w (es ++ e ∷ []) ≡ meter_at w es
same_meter w es e place is other = rw (meter_at-push w es e, is, elsewhere place other) refl
  where
    elsewhere : (p : Place) → is_meter_place p ≡ false → same_place p places.Meter ≡ false
    elsewhere (places.Port p) out = refl
    elsewhere (places.Arbiter i) out = refl
    elsewhere (places.Site b k) out = refl
    elsewhere (places.Queue k) out = refl
    elsewhere places.Meter out = absurd (cc)

-- where the place is no queue
pub same_stays : (w : Parts) (es : List Entry) (e : Entry) (place : Place) → e.place ≡ place → is_queue_place place ≡ false → (name : ℕ → TaskId) (a : ℕ) → Stays (queue_at w es) (queue_at w (es ++ e ∷ [])) (name a)
same_stays w es e place there other name a = subst (λ (queue : ℕ → QueueState). Stays (queue_at w es) queue (name a)) (sym (same_queues w es e place there other)) (λ q is. is)

pub same_under_way : (w : Parts) (lacks : Lacks) (es : List Entry) (e : Entry) (place : Place) (next : State) → e.place ≡ place → is_queue_place place ≡ false → IsBooked w (queue_at w es) e.actor next → UnderWay w lacks es e next
same_under_way w lacks es e place next there other booked = record {
  own = subst (λ (queue : ℕ → QueueState). IsBooked w queue e.actor next) (sym same) booked;
  others = λ a differs. same_stays w es e place there other (λ b. name_at b (state_of w lacks es b)) a;
}
  where
    same : queue_at w (es ++ e ∷ []) ≡ queue_at w es
    same = same_queues w es e place there other

-- ---- what a turn says of the state

pub hand_settles : (short : Bool) (hand : List Asked) (domains : List ℕ) (spots : List Spot) (x : Asked) (more : List Asked) → turn_of short hand domains spots ≡ settle x more → hand ≡ x ∷ more
hand_settles short (y ∷ hand) domains spots x more is = cc
hand_settles true [] domains spots x more is = absurd (cc)
hand_settles false [] (i ∷ domains) spots x more is = absurd (cc)
hand_settles false [] [] (s ∷ spots) x more is = absurd (cc)
hand_settles false [] [] [] x more is = absurd (cc)

pub domains_admit : (short : Bool) (hand : List Asked) (domains : List ℕ) (spots : List Spot) (i : ℕ) (more : List ℕ) → turn_of short hand domains spots ≡ admit i more → domains ≡ i ∷ more
domains_admit short (y ∷ hand) domains spots i more is = absurd (cc)
domains_admit true [] domains spots i more is = absurd (cc)
domains_admit false [] (j ∷ domains) spots i more is = cc
domains_admit false [] [] (s ∷ spots) i more is = absurd (cc)
domains_admit false [] [] [] i more is = absurd (cc)

pub spots_drive : (short : Bool) (hand : List Asked) (domains : List ℕ) (spots : List Spot) (s : Spot) (more : List Spot) → turn_of short hand domains spots ≡ drive s more → (hand ≡ []) × (spots ≡ s ∷ more)
spots_drive short (y ∷ hand) domains spots s more is = absurd (cc)
spots_drive true [] domains spots s more is = absurd (cc)
spots_drive false [] (j ∷ domains) spots s more is = absurd (cc)
spots_drive false [] [] (x ∷ spots) s more is = (refl, cc)
spots_drive false [] [] [] s more is = absurd (cc)

pub none_go_on : (short : Bool) (hand : List Asked) (domains : List ℕ) (spots : List Spot) → turn_of short hand domains spots ≡ go_on → (hand ≡ []) × (spots ≡ [])
none_go_on short (y ∷ hand) domains spots is = absurd (cc)
none_go_on true [] domains spots is = absurd (cc)
none_go_on false [] (j ∷ domains) spots is = absurd (cc)
none_go_on false [] [] (x ∷ spots) is = absurd (cc)
none_go_on false [] [] [] is = (refl, refl)

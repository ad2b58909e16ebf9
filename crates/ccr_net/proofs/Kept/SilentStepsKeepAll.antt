-- Steps that show nothing: what is settled, bookings, claims, refusals, rounds and the meter.
use Rattle.std.proofs.Common.{◌⊎◌, inl, inr, ◌≡◌, ◌≢◌, ◌≤◌, ◌<◌, ℕ, ◌^◌, min, Bool, true, false, List, [], ◌∷◌, ◌++◌, length, Option, Some, None, refl, sym, arith, ap, ◌∙◌, subst, append-nil, length-take, length-take-le}
use Rattle.std.specs.Prelude.{◌==◌, if◌then◌else◌, nat_lt, nat_le}
use Rattle.std.specs.Option.{option_map_or}
use Rattle.std.proofs.lemmas.Bool.Decides.{nat_tests}
use Rattle.ccr_base.specs.declared.names.Place.{Place}
use Rattle.ccr_base.specs.declared.names.Place.TheVariants as places
use Rattle.ccr_base.specs.declared.names.Spot.{Spot}
use Rattle.ccr_base.specs.declared.names.Spot.TheVariants.{Site}
use Rattle.ccr_base.specs.declared.names.TaskId.{TaskId}
use Rattle.ccr_base.specs.declared.messages.Msg.{Msg}
use Rattle.ccr_base.specs.declared.tasks.By.{By}
use Rattle.ccr_base.specs.declared.tasks.How.TheVariants as hows
use Rattle.ccr_base.specs.declared.patterns.Slot.{Slot}
use Rattle.ccr_base.specs.Selection.{fitting, is_choosable}
use Rattle.ccr_base.specs.Names.{same_task, has_task}
use Rattle.ccr_wiring.specs.declared.parts.Parts.{Parts}
use Rattle.ccr_model.specs.declared.history.Event.{Event}
use Rattle.ccr_model.specs.Firings.{fired, cut}
use Rattle.ccr_model.specs.Tasks.{is_over}
use Rattle.ccr_model.proofs.FiredTasks.{fired_has}
use Rattle.ccr_model.proofs.TaskLists.{among_right}
use Rattle.ccr_base.proofs.Booleans.{same_number, no_both}
use Rattle.ccr_base.proofs.Options.{some_is}
use Rattle.ccr_model.proofs.Members.{Among}
use Rattle.ccr_model.proofs.Cutting.{cut_fired}
use Rattle.ccr_base.proofs.SameNames.{same_task-is}
use Rattle.ccr_places.specs.declared.claims.StandingClaim.{StandingClaim}
use Rattle.ccr_places.specs.declared.notes.ClaimNote.TheVariants.{Got}
use Rattle.ccr_places.specs.declared.notes.Note.{Note}
use Rattle.ccr_places.specs.declared.notes.Note.TheVariants as notes
use Rattle.ccr_places.specs.Ports.{PortState, is_claimed_by, first_fitting}
use Rattle.ccr_places.specs.Ports as ports
use Rattle.ccr_places.specs.Queues as queues
use Rattle.ccr_claim.specs.declared.asks.Reply.TheVariants as replies
use Rattle.ccr_claim.specs.declared.plan.Had.{Had}
use Rattle.ccr_claim.specs.Plans.{narrowed, slots_in, resumes}
use Rattle.ccr_claim.specs.declared.asks.Asked.{Asked}
use Rattle.ccr_claim.specs.Attempts.{booking, claiming, had_in}
use Rattle.ccr_actor.specs.Plans.{pattern_at, plan_of}
use Rattle.ccr_wiring.specs.Wirings.{queue_of_spot as queue_number}
use Rattle.ccr_actor.specs.Actors.{State, Work, settle, drive, turn, name_at, after_in, spots_left, give_up}
use Rattle.ccr_runs.specs.declared.entries.Entry.{Entry}
use Rattle.ccr_runs.specs.EntryRuns.{Lacks, state_of, port_at, reply_of, queue_at}
use Rattle.ccr_runs.specs.Visible.{visible, event_of}
use Rattle.ccr_net.proofs.Parts.OneMoreEntry.{visible-push}
use Rattle.ccr_net.proofs.Parts.PortsAndHandsMatch.{PortsMatch, claim_for, put_in, puts_in}
use Rattle.ccr_net.proofs.Parts.DomainsMatch.{DomainsMatch, DomainsMatch-elsewhere, DomainsMatch-over, DomainsMatch-still}
use Rattle.ccr_net.proofs.Parts.StepsKeepPorts.{Changes, PortsMatch-consume, PortsMatch-free, PortsMatch-got}
use Rattle.ccr_net.proofs.Parts.StepsKeepActors.{ActorMatches-same, ActorMatches-ports, ActorMatches-settled, ActorMatches-give_up, ActorMatches-got, unfired, puts-release}
use Rattle.ccr_net.proofs.Parts.SitesMatch.{SitesMatch-silent}
use Rattle.ccr_net.proofs.Parts.ArbitersMatch.{ArbitersMatch-push, FiresAlike-silent}
use Rattle.ccr_net.proofs.Parts.QueuesMatch.{QueueChanges, QueuesMatch-note}
use Rattle.ccr_net.proofs.Parts.BookedHasRoom.{QueuesHold, BookingsMatch, BookingsMatch-booked, BookingsMatch-full, BookingsMatch-unbook, IsBooked, IsBookedAt, IsBookedAt-booked, IsBookedAt-claimed, IsBookedAt-stays, Stays-book, Stays-unbook}
use Rattle.ccr_net.proofs.Parts.MeterMatches.{MeterMatches, MeterMatches-quiet, OneWorks, is_posting, is_shedding}
use Rattle.ccr_net.proofs.Parts.PhasesFitPlans.{Fits, Fits-begins, Fits-claimed}
use Rattle.ccr_net.proofs.Kept.WholeInvariant.{ActorHolds, Holds, Holds-kept, UnderWay, same_under_way, meter_at, works_of, port_changes, queue_changes, same_ports, same_queues, same_meter, is_port_place, is_meter_place, hand_settles, spots_drive}

-- ---- an entry that shows nothing

module _ (w : Parts) (n : ℕ) (lacks : Lacks) (es : List Entry) (e : Entry) (low : e.actor < n) (holds : Holds w n lacks es) where
  abbrev pub before : State
  before = state_of w lacks es e.actor

  abbrev pub h : List Event
  h = visible es

  -- no more puts in hand
  abbrev pub Fewer : State → Type 0
  Fewer next = (t : TaskId) → has_task (puts_in next.hand) t ≡ true → has_task (puts_in before.hand) t ≡ true

  -- and so those of other actors stay apart
  pub still_apart : (next : State) → Fewer next → (a : ℕ) → e.actor ≢ a → (t : TaskId) → has_task (puts_in next.hand) t ≡ true → has_task (puts_in (state_of w lacks es a).hand) t ≡ false
  still_apart next fewer a other t is = holds.apart e.actor a other t (fewer t is)

  -- with what the meter keeps
  pub silent_metered : (next : State) → Fewer next → DomainsMatch w h (es ++ e ∷ []) → event_of e ≡ [] → after_in w e.actor before (turn before) (reply_of w es e) ≡ next
      → PortsMatch h (port_at (es ++ e ∷ [])) → QueuesHold w h (queue_at w (es ++ e ∷ []))
      → ActorHolds w h (port_at (es ++ e ∷ [])) e.actor next
      → ((a : ℕ) → e.actor ≢ a → ActorHolds w h (port_at (es ++ e ∷ [])) a (state_of w lacks es a))
      → UnderWay w lacks es e next
      → ((works' : ℕ → Work) → OneWorks (works_of w lacks es) works' e.actor next.work → MeterMatches w n h (meter_at w (es ++ e ∷ [])).drawn works')
      → (meter_at w (es ++ e ∷ [])).budget ≡ (meter_at w es).budget
      → Holds w n lacks (es ++ e ∷ [])
  silent_metered next fewer domains none goes ports queues own others under meter budget = Holds-kept w n lacks es e next h holds (record {
    shows = rw (visible-push es e, none, append-nil (visible es)) refl;
    goes = goes;
    legal = holds.legal;
    ports = ports;
    queues = queues;
    own = own;
    others = others;
    under_way = under;
    meter = meter;
    budget = budget ∙ holds.budget;
    arbiters = ArbitersMatch-push w es e h (rw (visible-push es e, none, append-nil (visible es)) refl) (FiresAlike-silent w e none) holds.arbiters;
    sites = SitesMatch-silent es e none holds.sites;
    domains = domains;
    apart = still_apart next fewer;
  })

  -- the meter says the same of the budget
  abbrev pub Metered : Type 0
  Metered = ((meter_at w (es ++ e ∷ [])).drawn ≡ (meter_at w es).drawn) × ((meter_at w (es ++ e ∷ [])).budget ≡ (meter_at w es).budget)

  pub unmetered : (place : Place) → e.place ≡ place → is_meter_place place ≡ false → Metered
  unmetered place there other = rw (same_meter w es e place there other) (refl, refl)

  pub silent : (next : State) → Fewer next → DomainsMatch w h (es ++ e ∷ []) → event_of e ≡ [] → after_in w e.actor before (turn before) (reply_of w es e) ≡ next
      → PortsMatch h (port_at (es ++ e ∷ [])) → QueuesHold w h (queue_at w (es ++ e ∷ []))
      → ActorHolds w h (port_at (es ++ e ∷ [])) e.actor next
      → ((a : ℕ) → e.actor ≢ a → ActorHolds w h (port_at (es ++ e ∷ [])) a (state_of w lacks es a))
      → UnderWay w lacks es e next
      → Metered
      → is_posting next.work ≡ is_posting before.work → (is_shedding next.work ≡ true → is_shedding before.work ≡ true)
      → Holds w n lacks (es ++ e ∷ [])
  silent next fewer domains none goes ports queues own others under same posts shed = silent_metered next fewer domains none goes ports queues own others under (λ works' one. rw same.0 (MeterMatches-quiet w n h h (meter_at w es).drawn e.actor (works_of w lacks es) works' next.work low refl posts shed one holds.meter)) same.1

  -- at a port
  pub silent_port : (p : ℕ) (next : State) → Fewer next → e.place ≡ places.Port p → event_of e ≡ [] → after_in w e.actor before (turn before) (reply_of w es e) ≡ next
      → PortsMatch h (port_at (es ++ e ∷ []))
      → ActorHolds w h (port_at (es ++ e ∷ [])) e.actor next
      → ((a : ℕ) → e.actor ≢ a → ActorHolds w h (port_at (es ++ e ∷ [])) a (state_of w lacks es a))
      → IsBooked w (queue_at w es) e.actor next
      → is_posting next.work ≡ is_posting before.work → (is_shedding next.work ≡ true → is_shedding before.work ≡ true)
      → Holds w n lacks (es ++ e ∷ [])
  silent_port p next fewer place none goes ports own others booked posts shed = silent next fewer (DomainsMatch-elsewhere w h es e (places.Port p) place refl holds.domains) none goes ports (rw (same_queues w es e (places.Port p) place refl) holds.queues) own others (same_under_way w lacks es e (places.Port p) next place refl booked) (unmetered (places.Port p) place refl) posts shed

  -- where no port changes
  pub silent_else : (place : Place) (next : State) → Fewer next → DomainsMatch w h (es ++ e ∷ []) → e.place ≡ place → is_port_place place ≡ false → event_of e ≡ [] → after_in w e.actor before (turn before) (reply_of w es e) ≡ next
      → QueuesHold w h (queue_at w (es ++ e ∷ []))
      → ActorHolds w h (port_at es) e.actor next
      → UnderWay w lacks es e next
      → Metered
      → is_posting next.work ≡ is_posting before.work → (is_shedding next.work ≡ true → is_shedding before.work ≡ true)
      → Holds w n lacks (es ++ e ∷ [])
  silent_else place next fewer domains there other none goes queues own under same posts shed =
      let ports = same_ports es e place there other in
      silent next fewer domains none goes (rw ports holds.ports) queues (rw ports own) (λ a differs. rw ports (holds.actors a)) under same posts shed

  -- at a queue, where nobody comes or goes
  pub silent_queue : (q : ℕ) (next : State) → Fewer next → e.place ≡ places.Queue q → event_of e ≡ [] → after_in w e.actor before (turn before) (reply_of w es e) ≡ next
      → ((k : ℕ) → (queues.after (queue_at w es k) e.note).queued ≡ (queue_at w es k).queued) → ((k : ℕ) → (queues.after (queue_at w es k) e.note).policy ≡ (queue_at w es k).policy)
      → BookingsMatch w h (queue_at w (es ++ e ∷ []))
      → ActorHolds w h (port_at es) e.actor next
      → UnderWay w lacks es e next
      → is_posting next.work ≡ is_posting before.work → (is_shedding next.work ≡ true → is_shedding before.work ≡ true)
      → Holds w n lacks (es ++ e ∷ [])
  silent_queue q next fewer place none goes queued rule booked own under posts shed = silent_else (places.Queue q) next fewer (DomainsMatch-elsewhere w h es e (places.Queue q) place refl holds.domains) place refl none goes (record { listed = QueuesMatch-note w h (queue_at w es) (queue_at w (es ++ e ∷ [])) q e.note (queue_changes w es e q place) queued rule holds.queues.listed; booked = booked }) own under (unmetered (places.Queue q) place refl) posts shed

  -- the queue takes this note
  taken_by : (q : ℕ) (note : Note) → e.place ≡ places.Queue q → e.note ≡ note → QueueChanges (queue_at w es) (queue_at w (es ++ e ∷ [])) q note
  taken_by q note place is = subst (QueueChanges (queue_at w es) (queue_at w (es ++ e ∷ [])) q) is (queue_changes w es e q place)

  -- ---- what is settled

  pub ActorHolds-settled : (port : ℕ → PortState) (a : ℕ) (st : State) (x : Asked) (more : List Asked) → st.hand ≡ x ∷ more → ActorHolds w h port a st → ActorHolds w h port a (record st { hand = more })
  ActorHolds-settled port a st x more hand known = record {
    claims = ActorMatches-settled w h port a st x more hand known.claims;
    work = known.work;
    fits = record { spots_so = known.fits.spots_so; phase_so = known.fits.phase_so };
  }

  settled_fewer : (x : Asked) (more : List Asked) → turn before ≡ settle x more → Fewer (record before { hand = more })
  settled_fewer x more turns t is = rw (hand_settles before.is_short before.hand before.domains (spots_left before) x more turns) (among_right (put_in x.ask) (puts_in more) t is)

  -- the claim that stands at the port is the task's
  pub record Claims (port : PortState) (t : TaskId) : Type 0 where
    pub claim : StandingClaim
    pub stands : port.claim ≡ Some claim
    pub own : t ≡ claim.task

  pub claims_by : (port : PortState) (t : TaskId) → is_claimed_by port t ≡ true → Claims port t
  claims_by port t is = of_claim port.claim refl is
    where
      of_claim : (o : Option StandingClaim) → port.claim ≡ o → option_map_or (λ (c : StandingClaim). same_task t c.task) o false ≡ true → Claims port t
      of_claim None e is = absurd (cc)
      of_claim (Some c) e is = record { claim = c; stands = e; own = same_task-is t c.task is }

  -- the claim of a task that isn't anybody's current attempt ends
  pub claim_ends : (p : ℕ) (t : TaskId) → e.place ≡ places.Port p → Claims (port_at es p) t → ((k : ℕ) → (ports.after (port_at es k) e.note).claim ≡ None) → (a : ℕ) → t ≢ name_at a (state_of w lacks es a) → ActorHolds w h (port_at (es ++ e ∷ [])) a (state_of w lacks es a)
  claim_ends p t place found none a other = record {
    claims = ActorMatches-ports w h (port_at es) (port_at (es ++ e ∷ [])) a (state_of w lacks es a) (λ q c is. came q c (p == q) refl is) (λ q c is own. stays q c (p == q) refl is own) (holds.actors a).claims;
    work = (holds.actors a).work;
    fits = (holds.actors a).fits;
  }
    where
      changes : Changes (port_at es) (port_at (es ++ e ∷ [])) p e.note
      changes = port_changes es e p place

      came : (q : ℕ) (c : StandingClaim) (b : Bool) → (p == q) ≡ b → (port_at (es ++ e ∷ []) q).claim ≡ Some c → ((port_at es q).claim ≡ Some c) ⊎ (c.task.actor ≢ a)
      came q c true at_q is = let was : (ports.after (port_at es q) e.note).claim ≡ Some c = rw (changes q, at_q) at is in let gone = none q in absurd (cc)
      came q c false at_q is = inl (rw (changes q, at_q) at is)

      stays : (q : ℕ) (c : StandingClaim) (b : Bool) → (p == q) ≡ b → (port_at es q).claim ≡ Some c → c.task ≡ name_at a (state_of w lacks es a) → ((port_at (es ++ e ∷ []) q).claim ≡ Some c) × (first_fitting c.count c.pred (port_at (es ++ e ∷ []) q).items ≡ first_fitting c.count c.pred (port_at es q).items)
      stays q c true at_q is own =
          let same : p ≡ q = same_number p q at_q in
          let stood : (port_at es q).claim ≡ Some found.claim = subst (λ k. (port_at es k).claim ≡ Some found.claim) same found.stands in
          let one : found.claim ≡ c = some_is (sym stood ∙ is) in
          absurd (other (found.own ∙ ap (λ (d : StandingClaim). d.task) one ∙ own))
      stays q c false at_q is own = rw (changes q, at_q) (is, refl)

  pub step_consume : (p : ℕ) (t : TaskId) (x : Asked) (more : List Asked) → e.place ≡ places.Port p → e.note ≡ notes.Consume t → turn before ≡ settle x more → (t.actor ≡ e.actor) × (has_task (fired h) t ≡ true) → Claims (port_at es p) t → Holds w n lacks (es ++ e ∷ [])
  step_consume p t x more place note turns owed found =
      silent_port p (record before { hand = more }) (settled_fewer x more turns) place (rw note refl) (rw (turns, note) refl)
      (PortsMatch-consume h (port_at es) (port_at (es ++ e ∷ [])) p found.claim t found.stands (subst (λ u. has_task (fired h) u ≡ true) found.own owed.1) (subst (Changes (port_at es) (port_at (es ++ e ∷ [])) p) note (port_changes es e p place)) holds.ports)
      (ActorHolds-settled (port_at (es ++ e ∷ [])) e.actor before x more (hand_settles before.is_short before.hand before.domains (spots_left before) x more turns) (all e.actor))
      (λ a other. all a) (holds.under_way e.actor) refl (λ is. is)
    where
      all : (a : ℕ) → ActorHolds w h (port_at (es ++ e ∷ [])) a (state_of w lacks es a)
      all a = claim_ends p t place found (λ k. rw note refl) a (λ same. apart (unfired w h (port_at es) a (state_of w lacks es a) (holds.actors a).claims) same)
        where
          apart : has_task (fired h) (name_at a (state_of w lacks es a)) ≡ false → t ≡ name_at a (state_of w lacks es a) → ⊥
          apart out same = let so : has_task (fired h) (name_at a (state_of w lacks es a)) ≡ true = subst (λ u. has_task (fired h) u ≡ true) same owed.1 in absurd (cc)

  pub step_free : (p : ℕ) (t : TaskId) (x : Asked) (more : List Asked) → e.place ≡ places.Port p → e.note ≡ notes.Free t → turn before ≡ settle x more → (t.actor ≡ e.actor) × (t.attempt < before.attempt) × (has_task (fired h) t ≡ false) → Claims (port_at es p) t → Holds w n lacks (es ++ e ∷ [])
  step_free p t x more place note turns owed found =
      silent_port p (record before { hand = more }) (settled_fewer x more turns) place (rw note refl) (rw (turns, note) refl)
      (PortsMatch-free h (port_at es) (port_at (es ++ e ∷ [])) p found.claim t found.stands (subst (λ u. has_task (fired h) u ≡ false) found.own owed.2) (subst (Changes (port_at es) (port_at (es ++ e ∷ [])) p) note (port_changes es e p place)) holds.ports)
      (ActorHolds-settled (port_at (es ++ e ∷ [])) e.actor before x more (hand_settles before.is_short before.hand before.domains (spots_left before) x more turns) (all e.actor))
      (λ a other. all a) (holds.under_way e.actor) refl (λ is. is)
    where
      old : (a : ℕ) → t.actor ≡ a → t.attempt ≡ (state_of w lacks es a).attempt → ⊥
      old a actor attempt =
          let same : a ≡ e.actor = sym actor ∙ owed.0 in
          let k : t.attempt ≡ before.attempt = subst (λ b. t.attempt ≡ (state_of w lacks es b).attempt) same attempt in
          let below = owed.1 in
          absurd (omega (arith, k, below))

      all : (a : ℕ) → ActorHolds w h (port_at (es ++ e ∷ [])) a (state_of w lacks es a)
      all a = claim_ends p t place found (λ k. rw note refl) a (λ same. old a (ap (λ (u : TaskId). u.actor) same) (ap (λ (u : TaskId). u.attempt) same))

  pub step_unbook : (q : ℕ) (t : TaskId) (x : Asked) (more : List Asked) → e.place ≡ places.Queue q → e.note ≡ notes.Unbook t → turn before ≡ settle x more → ((t.actor ≡ e.actor) × (t.attempt < before.attempt) × (has_task (fired h) t ≡ false)) ⊎ (has_task (cut h) t ≡ true) → Holds w n lacks (es ++ e ∷ [])
  step_unbook q t x more place note turns owed =
      silent_queue q (record before { hand = more }) (settled_fewer x more turns) place (rw note refl) (rw (turns, note) refl) (λ k. rw note refl) (λ k. rw note refl)
      (BookingsMatch-unbook w h (queue_at w es) (queue_at w (es ++ e ∷ [])) q t (gone owed) changes holds.queues.booked)
      (ActorHolds-settled (port_at es) e.actor before x more (hand_settles before.is_short before.hand before.domains (spots_left before) x more turns) (holds.actors e.actor))
      (record {
        own = IsBookedAt-stays w (queue_at w es) (queue_at w (es ++ e ∷ [])) (name_at e.actor before) before.phase before.spots (Stays-unbook (queue_at w es) (queue_at w (es ++ e ∷ [])) q t (name_at e.actor before) changes (old owed)) (holds.under_way e.actor);
        others = λ a other. Stays-unbook (queue_at w es) (queue_at w (es ++ e ∷ [])) q t (name_at a (state_of w lacks es a)) changes (of_other a other owed);
      }) refl (λ is. is)
    where
      changes : QueueChanges (queue_at w es) (queue_at w (es ++ e ∷ [])) q (notes.Unbook t)
      changes = taken_by q (notes.Unbook t) place note

      gone : ((t.actor ≡ e.actor) × (t.attempt < before.attempt) × (has_task (fired h) t ≡ false)) ⊎ (has_task (cut h) t ≡ true) → (has_task (fired h) t ≡ false) ⊎ (has_task (cut h) t ≡ true)
      gone (inl is) = inl is.2
      gone (inr is) = inr is

      -- who was cut fired, so is nobody's attempt now
      fired_once : (a : ℕ) → has_task (cut h) t ≡ true → t ≢ name_at a (state_of w lacks es a)
      fired_once a is same = no_both (subst (λ u. has_task (fired h) u ≡ true) same (fired_has h t (cut_fired w h holds.legal t is))) (unfired w h (port_at es) a (state_of w lacks es a) (holds.actors a).claims)

      old : ((t.actor ≡ e.actor) × (t.attempt < before.attempt) × (has_task (fired h) t ≡ false)) ⊎ (has_task (cut h) t ≡ true) → t ≢ name_at e.actor before
      old (inl is) same = let k : t.attempt ≡ before.attempt = ap (λ (u : TaskId). u.attempt) same in let below = is.1 in absurd (omega (arith, k, below))
      old (inr is) same = fired_once e.actor is same

      of_other : (a : ℕ) → e.actor ≢ a → ((t.actor ≡ e.actor) × (t.attempt < before.attempt) × (has_task (fired h) t ≡ false)) ⊎ (has_task (cut h) t ≡ true) → t ≢ name_at a (state_of w lacks es a)
      of_other a other (inl is) same = other (sym is.0 ∙ ap (λ (u : TaskId). u.actor) same)
      of_other a other (inr is) same = fired_once a is same

  pub step_over : (i : ℕ) (t r : TaskId) (x : Asked) (more : List Asked) → e.place ≡ places.Arbiter i → e.note ≡ notes.Over t r hows.Dropped → turn before ≡ settle x more → is_over h r ≡ true → Holds w n lacks (es ++ e ∷ [])
  step_over i t r x more place note turns over =
      silent_else (places.Arbiter i) (record before { hand = more }) (settled_fewer x more turns) (DomainsMatch-over w h es e i t r hows.Dropped place note over holds.domains) place refl (rw note refl) (rw (turns, note) refl) (rw (same_queues w es e (places.Arbiter i) place refl) holds.queues)
      (ActorHolds-settled (port_at es) e.actor before x more (hand_settles before.is_short before.hand before.domains (spots_left before) x more turns) (holds.actors e.actor)) (same_under_way w lacks es e (places.Arbiter i) (record before { hand = more }) place refl (holds.under_way e.actor)) (unmetered (places.Arbiter i) place refl) refl (λ is. is)

  -- ---- the attempt

  pub record Drives (spot : Spot) (more : List Spot) : Type 0 where
    pub spots_so : before.spots ≡ spot ∷ more
    pub numbered : nat_lt before.attempt (2 ^ 32) ≡ true

  pub drives : (spot : Spot) (more : List Spot) → turn before ≡ drive spot more → Drives spot more
  drives spot more turns = of_test (nat_lt before.attempt (2 ^ 32)) refl (spots_drive before.is_short before.hand before.domains (spots_left before) spot more turns).1
    where
      of_test : (b : Bool) → nat_lt before.attempt (2 ^ 32) ≡ b → (if b then before.spots else []) ≡ spot ∷ more → Drives spot more
      of_test true numbered is = record { spots_so = is; numbered = numbered }
      of_test false numbered is = absurd (cc)

  pub ActorHolds-give_up : (port : ℕ → PortState) (spot : Spot) (more : List Spot) → Drives spot more → ActorHolds w h port e.actor before → ActorHolds w h port e.actor (give_up w e.actor before spot more)
  ActorHolds-give_up port spot more drives known = record {
    claims = ActorMatches-give_up w h port e.actor before spot more known.claims;
    work = known.work;
    fits = record { spots_so = λ s is. known.fits.spots_so s (subst (Among s) (sym drives.spots_so) (inr is)); phase_so = tt };
  }

  gave_up_fewer : (spot : Spot) (more : List Spot) → Fewer (give_up w e.actor before spot more)
  gave_up_fewer spot more t is = absurd (let none : has_task (puts_in (give_up w e.actor before spot more).hand) t ≡ false = ap (λ ts. has_task ts t) (puts-release (plan_of w spot) (name_at e.actor before) before.phase) in cc)

  pub step_full : (q k : ℕ) (t : TaskId) (resumes : Bool) (spot : Spot) (more : List Spot) → e.place ≡ places.Queue q → e.note ≡ notes.Book t resumes (Some k) → turn before ≡ drive spot more → Holds w n lacks (es ++ e ∷ [])
  step_full q k t resumes spot more place note turns =
      silent_queue q (give_up w e.actor before spot more) (gave_up_fewer spot more) place (rw note refl) (rw (turns, note) refl) (λ j. rw note (by_full resumes j)) (λ j. rw note (by_rule resumes j))
      (BookingsMatch-full w h (queue_at w es) (queue_at w (es ++ e ∷ [])) q k t resumes changes holds.queues.booked)
      (ActorHolds-give_up (port_at es) spot more (drives spot more turns) (holds.actors e.actor))
      (record { own = tt; others = λ a other. Stays-book (queue_at w es) (queue_at w (es ++ e ∷ [])) q t (name_at a (state_of w lacks es a)) resumes (Some k) changes }) refl (λ is. is)
    where
      changes : QueueChanges (queue_at w es) (queue_at w (es ++ e ∷ [])) q (notes.Book t resumes (Some k))
      changes = taken_by q (notes.Book t resumes (Some k)) place note

      by_full : (r : Bool) (j : ℕ) → (queues.after_book (queue_at w es j) t r (Some k)).queued ≡ (queue_at w es j).queued
      by_full true j = refl
      by_full false j = refl

      by_rule : (r : Bool) (j : ℕ) → (queues.after_book (queue_at w es j) t r (Some k)).policy ≡ (queue_at w es j).policy
      by_rule true j = refl
      by_rule false j = refl

  pub step_booked : (spot : Spot) (more : List Spot) → e.place ≡ places.Queue (queue_number w spot) → queues.may_book (queue_at w es (queue_number w spot)) (name_at e.actor before) ≡ true → queues.book_note (queue_at w es (queue_number w spot)) (resumes spot) ≡ None → e.note ≡ notes.Book (name_at e.actor before) (resumes spot) None → turn before ≡ drive spot more → before.phase ≡ booking → Holds w n lacks (es ++ e ∷ [])
  step_booked spot more place may room note turns phase =
      silent_queue (queue_number w spot) next (λ u is. is) place (rw note refl) (rw (turns, note) refl) (λ j. rw note (by_full (resumes spot) j)) (λ j. rw note (by_rule (resumes spot) j))
      (BookingsMatch-booked w h (queue_at w es) (queue_at w (es ++ e ∷ [])) (queue_number w spot) t (resumes spot) may room changes holds.queues.booked)
      (record {
        claims = ActorMatches-same w h (port_at es) e.actor before next refl (rw phase refl) refl (holds.actors e.actor).claims;
        work = (holds.actors e.actor).work;
        fits = record {
          spots_so = (holds.actors e.actor).fits.spots_so;
          phase_so = rw drive_so.spots_so (drive_so.numbered, Fits-begins (pattern_at w spot));
        };
      })
      (record {
        own = rw drive_so.spots_so (IsBookedAt-booked w (queue_at w es) (queue_at w (es ++ e ∷ [])) t (slots_in (pattern_at w spot)) [] spot more changes);
        others = λ a other. Stays-book (queue_at w es) (queue_at w (es ++ e ∷ [])) (queue_number w spot) t (name_at a (state_of w lacks es a)) (resumes spot) None changes;
      }) refl (λ is. is)
    where
      t : TaskId
      t = name_at e.actor before

      changes : QueueChanges (queue_at w es) (queue_at w (es ++ e ∷ [])) (queue_number w spot) (notes.Book t (resumes spot) None)
      changes = taken_by (queue_number w spot) (notes.Book t (resumes spot) None) place note

      next : State
      next = record before { phase = claiming (slots_in (pattern_at w spot)) [] }

      drive_so : Drives spot more
      drive_so = drives spot more turns

      by_full : (r : Bool) (j : ℕ) → (queues.after_book (queue_at w es j) t r None).queued ≡ (queue_at w es j).queued
      by_full true j = refl
      by_full false j = refl

      by_rule : (r : Bool) (j : ℕ) → (queues.after_book (queue_at w es j) t r None).policy ≡ (queue_at w es j).policy
      by_rule true j = refl
      by_rule false j = refl

  -- a claim that got nothing changes no port
  pub step_refused : (p : ℕ) (spot : Spot) (more : List Spot) → e.place ≡ places.Port p → event_of e ≡ [] → ((k : ℕ) → ports.after (port_at es k) e.note ≡ port_at es k) → turn before ≡ drive spot more → after_in w e.actor before (turn before) (reply_of w es e) ≡ give_up w e.actor before spot more → Holds w n lacks (es ++ e ∷ [])
  step_refused p spot more place none keeps turns goes =
      silent_port p (give_up w e.actor before spot more) (gave_up_fewer spot more) place none goes (rw same holds.ports) (rw same (ActorHolds-give_up (port_at es) spot more (drives spot more turns) (holds.actors e.actor))) (λ a other. rw same (holds.actors a)) tt refl (λ is. is)
    where
      same : port_at (es ++ e ∷ []) ≡ port_at es
      same = λ j q. (one q) j
        where
          one : (q : ℕ) → port_at (es ++ e ∷ []) q ≡ port_at es q
          one q = rw (port_changes es e p place q) (of_test (p == q))
            where
              of_test : (b : Bool) → (if b then ports.after (port_at es q) e.note else port_at es q) ≡ port_at es q
              of_test true = keeps q
              of_test false = refl

  -- a dead commit
  pub step_dead : (i : ℕ) (spot : Spot) (more : List Spot) (t : TaskId) (s : Spot) (by : By) → e.place ≡ places.Arbiter i → e.note ≡ notes.Dead t s by → turn before ≡ drive spot more → after_in w e.actor before (turn before) (reply_of w es e) ≡ give_up w e.actor before spot more → Holds w n lacks (es ++ e ∷ [])
  step_dead i spot more t s by place note turns goes =
      silent_else (places.Arbiter i) (give_up w e.actor before spot more) (gave_up_fewer spot more) (DomainsMatch-still w h es e i (notes.Dead t s by) place note refl holds.domains) place refl (rw note refl) goes (rw (same_queues w es e (places.Arbiter i) place refl) holds.queues) (ActorHolds-give_up (port_at es) spot more (drives spot more turns) (holds.actors e.actor)) (same_under_way w lacks es e (places.Arbiter i) (give_up w e.actor before spot more) place refl tt) (unmetered (places.Arbiter i) place refl) refl (λ is. is)

  pub step_dead_site : (b k : ℕ) (more : List Spot) → e.place ≡ places.Site b k → event_of e ≡ [] → turn before ≡ drive (Site b k) more → after_in w e.actor before (turn before) (reply_of w es e) ≡ give_up w e.actor before (Site b k) more → Holds w n lacks (es ++ e ∷ [])
  step_dead_site b k more place none turns goes =
      silent_else (places.Site b k) (give_up w e.actor before (Site b k) more) (gave_up_fewer (Site b k) more) (DomainsMatch-elsewhere w h es e (places.Site b k) place refl holds.domains) place refl none goes (rw (same_queues w es e (places.Site b k) place refl) holds.queues) (ActorHolds-give_up (port_at es) (Site b k) more (drives (Site b k) more turns) (holds.actors e.actor)) (same_under_way w lacks es e (places.Site b k) (give_up w e.actor before (Site b k) more) place refl tt) (unmetered (places.Site b k) place refl) refl (λ is. is)

  -- ---- a claim that got its messages

  pub step_got : (d : Had) (spot : Spot) (more : List Spot) (slots : List Slot) (had : List Had) → e.place ≡ places.Port d.slot.port → e.note ≡ notes.Claim (name_at e.actor before) d.slot (Got (length d.messages)) → turn before ≡ drive spot more → before.phase ≡ claiming (d.slot ∷ slots) had → (port_at es d.slot.port).claim ≡ None → first_fitting (length d.messages) d.slot.pred (port_at es d.slot.port).items ≡ d.messages → length d.messages ≤ length (fitting d.slot.pred (port_at es d.slot.port).items) → (d.slot.least ≤ length d.messages) × (length d.messages ≤ d.slot.most) → Holds w n lacks (es ++ e ∷ [])
  step_got d spot more slots had place note turns phase none marked fits enough =
      silent_port d.slot.port next (λ u is. is) place (rw note refl) goes
      (PortsMatch-got h (port_at es) (port_at (es ++ e ∷ [])) d.slot.port t d.slot (length d.messages) none fresh fits changes holds.ports)
      own others (IsBookedAt-claimed w (queue_at w es) t (d.slot ∷ slots) left had (had_in before.phase ++ d ∷ []) before.spots (subst (λ ph. IsBookedAt w (queue_at w es) t ph before.spots) phase (holds.under_way e.actor))) refl (λ is. is)
    where
      t : TaskId
      t = name_at e.actor before

      fresh : has_task (fired h) t ≡ false
      fresh = unfired w h (port_at es) e.actor before (holds.actors e.actor).claims

      changes : Changes (port_at es) (port_at (es ++ e ∷ [])) d.slot.port (notes.Claim t d.slot (Got (length d.messages)))
      changes = subst (Changes (port_at es) (port_at (es ++ e ∷ [])) d.slot.port) note (port_changes es e d.slot.port place)

      left : List Slot
      left = narrowed (pattern_at w spot) (length d.messages) slots

      next : State
      next = record before { phase = claiming left (had_in before.phase ++ d ∷ []) }

      replied : reply_of w es e ≡ replies.Got d.messages
      replied = rw (note, place) (ap replies.Got marked)

      goes : after_in w e.actor before (turn before) (reply_of w es e) ≡ next
      goes = rw (turns, replied, phase) refl

      drive_so : Drives spot more
      drive_so = drives spot more turns

      own : ActorHolds w h (port_at (es ++ e ∷ [])) e.actor next
      own = record {
        claims = ActorMatches-got w h (port_at es) (port_at (es ++ e ∷ [])) e.actor before left d none marked enough changes (holds.actors e.actor).claims;
        work = (holds.actors e.actor).work;
        fits = record {
          spots_so = (holds.actors e.actor).fits.spots_so;
          phase_so = rw (drive_so.spots_so, phase) (drive_so.numbered, Fits-claimed (pattern_at w spot) d.slot slots had d.messages (fits_so (rw (phase, drive_so.spots_so) at ((holds.actors e.actor).fits.phase_so))));
        };
      }
        where
          fits_so : (nat_lt before.attempt (2 ^ 32) ≡ true) × Fits (pattern_at w spot) (d.slot ∷ slots) had → Fits (pattern_at w spot) (d.slot ∷ slots) had
          fits_so both = both.1

      others : (a : ℕ) → e.actor ≢ a → ActorHolds w h (port_at (es ++ e ∷ [])) a (state_of w lacks es a)
      others a other = record {
        claims = ActorMatches-ports w h (port_at es) (port_at (es ++ e ∷ [])) a (state_of w lacks es a) (λ q c is. came q c (d.slot.port == q) refl is) (λ q c is own. stays q c (d.slot.port == q) refl is) (holds.actors a).claims;
        work = (holds.actors a).work;
        fits = (holds.actors a).fits;
      }
        where
          came : (q : ℕ) (c : StandingClaim) (b : Bool) → (d.slot.port == q) ≡ b → (port_at (es ++ e ∷ []) q).claim ≡ Some c → ((port_at es q).claim ≡ Some c) ⊎ (c.task.actor ≢ a)
          came q c true at_q is = let now : Some (claim_for t d) ≡ Some c = rw (changes q, at_q) at is in inr (λ same. other (actor_of c now ∙ same))
            where
              actor_of : (c : StandingClaim) → Some (claim_for t d) ≡ Some c → e.actor ≡ c.task.actor
              actor_of c now = let one : claim_for t d ≡ c = cc in ap (λ (u : StandingClaim). u.task.actor) one
          came q c false at_q is = inl (rw (changes q, at_q) at is)

          stays : (q : ℕ) (c : StandingClaim) (b : Bool) → (d.slot.port == q) ≡ b → (port_at es q).claim ≡ Some c → ((port_at (es ++ e ∷ []) q).claim ≡ Some c) × (first_fitting c.count c.pred (port_at (es ++ e ∷ []) q).items ≡ first_fitting c.count c.pred (port_at es q).items)
          stays q c true at_q is = let was : (port_at es q).claim ≡ None = subst (λ k. (port_at es k).claim ≡ None) (same_number d.slot.port q at_q) none in absurd (cc)
          stays q c false at_q is = rw (changes q, at_q) (is, refl)

-- ---- what a claim of a free port gets

pub record GotFacts (slot : Slot) (items : List Msg) (k : ℕ) : Type 0 where
  pub whole : length (first_fitting k slot.pred items) ≡ k
  pub least : slot.least ≤ k
  pub most : k ≤ slot.most
  pub fits : k ≤ length (fitting slot.pred items)

pub got_facts : (slot : Slot) (items : List Msg) → is_choosable slot items ≡ true → nat_le slot.least slot.most ≡ true → GotFacts slot items (length (first_fitting slot.most slot.pred items))
got_facts slot items choosable even =
    let low : slot.least ≤ length (fitting slot.pred items) = grind (arith, nat_tests, choosable) in
    let order : slot.least ≤ slot.most = grind (arith, nat_tests, even) in
    let count : length (first_fitting slot.most slot.pred items) ≡ min slot.most (length (fitting slot.pred items)) = length-take slot.most (fitting slot.pred items) in
    record {
      whole = length-take-le (length (first_fitting slot.most slot.pred items)) (fitting slot.pred items) (omega (arith, count));
      least = omega (arith, count, low, order);
      most = omega (arith, count);
      fits = omega (arith, count);
    }

-- What is settled, and the steps of an attempt.
use Rattle.std.proofs.Common.{inl, inr, ◌≡◌, ◌≤◌, ◌<◌, ℕ, ◌+◌, ◌^◌, Bool, true, false, ◌&&◌, List, [], ◌∷◌, ◌++◌, length, Option, Some, None, refl, sym, arith, ap, ◌∙◌, subst}
use Rattle.std.specs.Prelude.{◌==◌, if◌then◌else◌, nat_lt, nat_le}
use Rattle.std.specs.List.{slice_get}
use Rattle.std.specs.Option.{option_map_or}
use Rattle.std.specs.FinSet as set
use Rattle.ccr_base.specs.declared.names.Place.{Place}
use Rattle.ccr_base.specs.declared.names.Place.TheVariants as places
use Rattle.ccr_base.specs.declared.names.Spot.{Spot}
use Rattle.ccr_base.specs.declared.names.TaskId.{TaskId}
use Rattle.ccr_base.specs.declared.names.Spot.TheVariants.{Branch, Site}
use Rattle.ccr_base.specs.declared.patterns.Slot.{Slot}
use Rattle.ccr_base.specs.declared.tasks.By.{By}
use Rattle.ccr_base.specs.declared.tasks.How.TheVariants as hows
use Rattle.ccr_base.specs.declared.tasks.Task.{Task}
use Rattle.ccr_base.specs.Selection.{fitting, is_choosable}
use Rattle.ccr_base.specs.Names.{has_task}
use Rattle.ccr_wiring.specs.declared.parts.ArbiterPart.{ArbiterPart}
use Rattle.ccr_wiring.specs.declared.parts.Kind.{Kind}
use Rattle.ccr_wiring.specs.declared.parts.Kind.TheVariants as kinds
use Rattle.ccr_wiring.specs.declared.parts.Parts.{Parts}
use Rattle.ccr_wiring.specs.Wirings.{Placement, placement, site_port, queue_of_spot as queue_number, domain_of_spot}
use Rattle.ccr_model.specs.declared.history.Event.{Event}
use Rattle.ccr_model.specs.declared.history.Event.TheVariants as events
use Rattle.ccr_model.specs.Selection.{is_selection_of, are_oldest}
use Rattle.ccr_model.specs.Firings.{fired}
use Rattle.ccr_model.specs.Legal.{IsAllowed}
use Rattle.ccr_model.specs.Posts.{held}
use Rattle.ccr_model.specs.Sites.{suspended}
use Rattle.ccr_model.specs.Live.{is_live, is_live_in, is_none_of}
use Rattle.ccr_model.specs.Interleaves.{is_placement_in}
use Rattle.ccr_model.specs.Rules.{cuts_at}
use Rattle.ccr_model.specs.Tasks.{is_interleave, fired_by}
use Rattle.ccr_wiring.specs.Groups.{may_have}
use Rattle.ccr_base.specs.declared.policies.Group.{Group}
use Rattle.ccr_base.specs.declared.policies.Group.TheVariants as groups
use Rattle.ccr_base.specs.declared.tasks.By.TheVariants.{Fired as ByFired}
use Rattle.ccr_places.specs.Interleaves.{InterleaveState}
use Rattle.ccr_places.specs.Interleaves as interleaves
use Rattle.ccr_base.proofs.Booleans.{both, same_number, eq-self, not_false}
use Rattle.ccr_base.proofs.Options.{none_map, no_some}
use Rattle.ccr_model.proofs.Members.{Among}
use Rattle.ccr_model.proofs.Cutting.{no_teardown_outside}
use Rattle.ccr_places.specs.declared.claims.StandingClaim.{StandingClaim}
use Rattle.ccr_places.specs.declared.notes.ClaimNote.TheVariants.{Got, Busy, Short}
use Rattle.ccr_places.specs.declared.notes.Note.{Note}
use Rattle.ccr_places.specs.declared.notes.Note.TheVariants as notes
use Rattle.ccr_places.specs.Arbiters.{ArbiterState}
use Rattle.ccr_places.specs.Arbiters as arbiters
use Rattle.ccr_places.specs.Sites.{SiteState}
use Rattle.ccr_places.specs.Sites as sites
use Rattle.ccr_places.specs.Ports.{is_claimed_by, first_fitting}
use Rattle.ccr_places.specs.Ports as ports
use Rattle.ccr_places.specs.Queues as queues
use Rattle.ccr_claim.specs.declared.asks.Ask.{Ask}
use Rattle.ccr_claim.specs.declared.asks.Ask.TheVariants as asks
use Rattle.ccr_claim.specs.declared.plan.Had.{Had}
use Rattle.ccr_claim.specs.Plans.{any_slot, in_pattern, names_of, firing_task, resumes}
use Rattle.ccr_base.specs.declared.names.MsgId.{MsgId}
use Rattle.ccr_claim.specs.declared.asks.Asked.{Asked}
use Rattle.ccr_claim.specs.Attempts.{at_place, Phase, booking, claiming, had_in, attempt_ask}
use Rattle.ccr_actor.specs.Plans.{one_of, no_pattern, plan_of, pattern_at, is_interleave_number}
use Rattle.ccr_actor.specs.Actors.{State, settle, drive, turn, name_at, spots_left}
use Rattle.ccr_runs.specs.declared.entries.Entry.{Entry}
use Rattle.ccr_runs.specs.Places.{note_of, note_at_arbiter, note_by_kind, arbiter_note, interleave_note, first_branch, arbiter_after, commit_note}
use Rattle.ccr_runs.specs.EntryRuns.{Lacks, state_of, port_at, notes_at, queue_at, site_at, domain_at}
use Rattle.ccr_runs.specs.Views.{queue_of}
use Rattle.ccr_runs.specs.Visible.{visible}
use Rattle.ccr_net.proofs.Parts.OneMoreEntry.{Step}
use Rattle.ccr_net.proofs.Parts.PortsAndHandsMatch.{IsOwed, put_in}
use Rattle.ccr_net.proofs.Parts.StepsKeepActors.{unfired}
use Rattle.ccr_net.proofs.Parts.SitesMatch.{SitesMatch-branch, SitesMatch-resume, someone_waits}
use Rattle.ccr_net.proofs.Parts.ArbitersMatch.{FiresAlike-fire, FiresAlike-resume, KeepsShape, kept_shape, fired_there, is_of, none_fired, none_at_branch, none_at_first}
use Rattle.ccr_net.proofs.Parts.BookedHasRoom.{IsBookedAt, has_room-left}
use Rattle.ccr_net.proofs.Parts.DomainsMatch.{DomainMatches, DomainsMatch, tears, cuts_so, DomainsMatch-branch, DomainsMatch-fire, DomainsMatch-resume}
use Rattle.ccr_net.proofs.Parts.PhasesFitPlans.{SpotFits, Fits}
use Rattle.ccr_net.proofs.Kept.WholeInvariant.{ActorHolds, Holds, hand_settles}
use Rattle.ccr_net.proofs.Kept.SilentStepsKeepAll.{step_consume, step_free, step_unbook, step_over, step_full, step_booked, step_refused, step_dead, step_dead_site, step_got, claims_by, drives, got_facts, GotFacts}
use Rattle.ccr_net.proofs.Kept.WhatWiringsHave.{PlainFacts, Retires, IsEven}
use Rattle.ccr_net.proofs.Kept.EventsAreAllowed.{fire_allowed, resume_allowed}
use Rattle.ccr_net.proofs.Kept.FiringsKeepAll.{chosen_now, oldest_now, step_fire, step_put}
use Rattle.ccr_net.proofs.Parts.NotesAnswerAsks.{given_some, none_at, over_note, Given, given_to}

module _ (w : Parts) (n : ℕ) (first : PlainFacts w) (few : n ≤ 33) (lacks : Lacks) (es : List Entry) (e : Entry) (low : e.actor < n) (holds : Holds w n lacks es) (step : Step w lacks es e) where
  abbrev before : State
  before = state_of w lacks es e.actor

  abbrev h : List Event
  h = visible es

  abbrev Done : Type 0
  Done = Holds w n lacks (es ++ e ∷ [])

  own : ActorHolds w h (port_at es) e.actor before
  own = holds.actors e.actor

  -- ---- settling

  settle_by : (x : Asked) (more : List Asked) → turn before ≡ settle x more → (place : Place) (ask : Ask) → e.place ≡ place → note_of w place (notes_at es place) ask ≡ Some e.note → IsOwed w h e.actor before.attempt place ask → put_in x.ask ≡ put_in ask → Done
  settle_by x more turns (places.Port p) (asks.Consume t) there gives owed same =
      let found = given_some (is_claimed_by (port_at es p) t) (notes.Consume t) e.note gives in
      step_consume w n lacks es e low holds p t x more there found.1 turns owed (claims_by w n lacks es e low holds (port_at es p) t found.0)
  settle_by x more turns (places.Arbiter i) (asks.Consume t) there gives owed same = absurd (no_some _ e.note (none_at w (asks.Consume t) (λ a. refl) (λ a. refl) i (slice_get w.arbiters i) (notes_at es (places.Arbiter i))) gives)
  settle_by x more turns (places.Site b k) (asks.Consume t) there gives owed same = absurd (cc)
  settle_by x more turns (places.Queue q) (asks.Consume t) there gives owed same = absurd (cc)
  settle_by x more turns places.Meter (asks.Consume t) there gives owed same = absurd (cc)
  settle_by x more turns (places.Port p) (asks.Free t) there gives owed same =
      let found = given_some (is_claimed_by (port_at es p) t) (notes.Free t) e.note gives in
      step_free w n lacks es e low holds p t x more there found.1 turns owed (claims_by w n lacks es e low holds (port_at es p) t found.0)
  settle_by x more turns (places.Arbiter i) (asks.Free t) there gives owed same = absurd (no_some _ e.note (none_at w (asks.Free t) (λ a. refl) (λ a. refl) i (slice_get w.arbiters i) (notes_at es (places.Arbiter i))) gives)
  settle_by x more turns (places.Site b k) (asks.Free t) there gives owed same = absurd (cc)
  settle_by x more turns (places.Queue q) (asks.Free t) there gives owed same = absurd (cc)
  settle_by x more turns places.Meter (asks.Free t) there gives owed same = absurd (cc)
  settle_by x more turns (places.Queue q) (asks.Unbook t) there gives owed same = step_unbook w n lacks es e low holds q t x more there (given_some _ (notes.Unbook t) e.note gives).1 turns owed
  settle_by x more turns (places.Port p) (asks.Unbook t) there gives owed same = absurd (cc)
  settle_by x more turns (places.Arbiter i) (asks.Unbook t) there gives owed same = absurd (no_some _ e.note (none_at w (asks.Unbook t) (λ a. refl) (λ a. refl) i (slice_get w.arbiters i) (notes_at es (places.Arbiter i))) gives)
  settle_by x more turns (places.Site b k) (asks.Unbook t) there gives owed same = absurd (cc)
  settle_by x more turns places.Meter (asks.Unbook t) there gives owed same = absurd (cc)
  settle_by x more turns (places.Queue q) (asks.Put t) there gives owed same = step_put w n first few lacks es e low holds q t.id x more there (given_some (queues.may_put (queue_at w es q) t.id) _ e.note gives).0 (given_some _ (notes.Put t.id (queues.put_note (queue_at w es q))) e.note gives).1 turns same owed.0 (at_queue owed.1)
    where
      at_queue : places.Queue q ≡ places.Queue (queue_of w h t.id) → q ≡ queue_of w h t.id
      at_queue is = cc
  settle_by x more turns (places.Port p) (asks.Put t) there gives owed same = absurd (cc)
  settle_by x more turns (places.Arbiter i) (asks.Put t) there gives owed same = absurd (no_some _ e.note (none_at w (asks.Put t) (λ a. refl) (λ a. refl) i (slice_get w.arbiters i) (notes_at es (places.Arbiter i))) gives)
  settle_by x more turns (places.Site b k) (asks.Put t) there gives owed same = absurd (cc)
  settle_by x more turns places.Meter (asks.Put t) there gives owed same = absurd (cc)
  settle_by x more turns place (asks.Post m) there gives owed same = absurd owed
  settle_by x more turns place (asks.Claim t s) there gives owed same = absurd owed
  settle_by x more turns place (asks.Commit t ms) there gives owed same = absurd owed
  settle_by x more turns place asks.Admit there gives owed same = absurd owed
  settle_by x more turns (places.Port p) (asks.Over t r how) there gives owed same = absurd (cc)
  settle_by x more turns (places.Arbiter i) (asks.Over t r hows.Dropped) there gives owed same = step_over w n lacks es e low holds i t r x more there (over_note w t r hows.Dropped i (slice_get w.arbiters i) (notes_at es (places.Arbiter i)) e.note gives) turns owed
  settle_by x more turns (places.Arbiter i) (asks.Over t r hows.Done) there gives owed same = absurd owed
  settle_by x more turns (places.Arbiter i) (asks.Over t r (hows.Failed v)) there gives owed same = absurd owed
  settle_by x more turns (places.Arbiter i) (asks.Over t r hows.Shed) there gives owed same = absurd owed
  settle_by x more turns (places.Site b k) (asks.Over t r how) there gives owed same = absurd (cc)
  settle_by x more turns (places.Queue q) (asks.Over t r how) there gives owed same = absurd (cc)
  settle_by x more turns places.Meter (asks.Over t r how) there gives owed same = absurd (cc)
  settle_by x more turns place (asks.Suspend t) there gives owed same = absurd owed
  settle_by x more turns place (asks.Book t r) there gives owed same = absurd owed
  settle_by x more turns place asks.Take there gives owed same = absurd owed
  settle_by x more turns place asks.Draw there gives owed same = absurd owed
  settle_by x more turns place asks.Leave there gives owed same = absurd owed
  settle_by x more turns place asks.Left there gives owed same = absurd owed

  pub settle_kept : (x : Asked) (more : List Asked) → turn before ≡ settle x more → Done
  settle_kept x more turns =
      let got = given_to w lacks es e step (settle x more) x turns refl in
      let hand = hand_settles before.is_short before.hand before.domains (spots_left before) x more turns in
      settle_by x more turns x.place x.ask got.there got.gives (own.claims.owed x (rw hand (inl refl))) refl

  -- ---- an attempt

  claim_by : (slot : Slot) (slots : List Slot) (had : List Had) (spot : Spot) (more : List Spot) → turn before ≡ drive spot more → before.phase ≡ claiming (slot ∷ slots) had → Given w es e (at_place (places.Port slot.port) (asks.Claim (name_at e.actor before) slot)) → Done
  claim_by slot slots had spot more turns phase got = by_claim (port_at es slot.port).claim refl (is_choosable slot (port_at es slot.port).items) refl found.1
    where
      found : (ports.may_claim (port_at es slot.port) (name_at e.actor before) slot ≡ true) × (e.note ≡ notes.Claim (name_at e.actor before) slot (ports.claim_note (port_at es slot.port) slot))
      found = given_some (ports.may_claim (port_at es slot.port) (name_at e.actor before) slot) _ e.note got.gives

      even : nat_le slot.least slot.most ≡ true
      even = (both (slot.port == (port_at es slot.port).number) (nat_le slot.least slot.most) (both ((slot.port == (port_at es slot.port).number) && nat_le slot.least slot.most) _ found.0).0).1

      by_claim : (o : Option StandingClaim) → (port_at es slot.port).claim ≡ o → (b : Bool) → is_choosable slot (port_at es slot.port).items ≡ b → e.note ≡ notes.Claim (name_at e.actor before) slot (option_map_or (λ (c : StandingClaim). Busy c.task) (port_at es slot.port).claim (if is_choosable slot (port_at es slot.port).items then Got (length (first_fitting slot.most slot.pred (port_at es slot.port).items)) else Short (length (fitting slot.pred (port_at es slot.port).items)))) → Done
      by_claim (Some c) is b choosable note_so = step_refused w n lacks es e low holds slot.port spot more got.there (rw note refl) (λ k. rw note refl) turns (rw (turns, note) refl)
        where
          note : e.note ≡ notes.Claim (name_at e.actor before) slot (Busy c.task)
          note = rw is at note_so
      by_claim None is false choosable note_so = step_refused w n lacks es e low holds slot.port spot more got.there (rw note refl) (λ k. rw note refl) turns (rw (turns, note) refl)
        where
          note : e.note ≡ notes.Claim (name_at e.actor before) slot (Short (length (fitting slot.pred (port_at es slot.port).items)))
          note = rw (is, choosable) at note_so
      by_claim None is true choosable note_so = step_got w n lacks es e low holds d spot more slots had got.there note turns phase is marked (rw facts.whole facts.fits) (rw facts.whole (facts.least, facts.most))
        where
          k : ℕ
          k = length (first_fitting slot.most slot.pred (port_at es slot.port).items)

          d : Had
          d = record { slot = slot; messages = first_fitting k slot.pred (port_at es slot.port).items }

          facts : GotFacts slot (port_at es slot.port).items k
          facts = got_facts slot (port_at es slot.port).items choosable even

          marked : first_fitting (length d.messages) slot.pred (port_at es slot.port).items ≡ d.messages
          marked = ap (λ j. first_fitting j slot.pred (port_at es slot.port).items) facts.whole

          note : e.note ≡ notes.Claim (name_at e.actor before) slot (Got (length d.messages))
          note = (rw (is, choosable) at note_so) ∙ ap (λ j. notes.Claim (name_at e.actor before) slot (Got j)) (sym facts.whole)

  -- a firing at a branch, with these cuts
  fires_branch : (b : ℕ) (s : Placement) (more : List Spot) (had : List Had) (i : ℕ) (cs : List TaskId) → placement w b ≡ Some s → s.domain ≡ i → turn before ≡ drive (Branch b) more → before.phase ≡ claiming [] had → Fits s.branch.pattern [] had → e.place ≡ places.Arbiter i → is_live w h (Branch b) ≡ true → cs ≡ cuts_at w h (Branch b) → e.note ≡ notes.Fired (name_at e.actor before) (Branch b) (names_of (in_pattern s.branch.pattern had)) cs → ((ms : List MsgId) → IsAllowed w h (events.Fire (name_at e.actor before) (Branch b) ms cs) → e.note ≡ notes.Fired (name_at e.actor before) (Branch b) ms cs → DomainsMatch w (h ++ events.Fire (name_at e.actor before) (Branch b) ms cs ∷ []) (es ++ e ∷ [])) → Done
  fires_branch b s more had i cs sits at_its turns phase fits there live cut_so had_note domains = step_fire w n first few lacks es e low holds (Branch b) more (record {
    place = places.Arbiter i;
    there = there;
    no_port = refl;
    no_queue = refl;
    no_meter = refl;
    cuts = cs;
    free = λ is. rw sits (not_false (is_interleave s.kind) (rw sits at is));
    note = note;
    turns = turns;
    even = even;
    fits = fits_now;
    allowed = allowed;
    booked = λ q is. subst (λ k. set.contains (queue_at w es k).fresh (name_at e.actor before) ≡ true) (same_number s.branch.queue q (rw sits at is)) booked;
    arbiters = FiresAlike-fire w e i b s (name_at e.actor before) _ cs sits at_its there note;
    sites = SitesMatch-branch w es e i b (name_at e.actor before) _ cs holds.legal there holds.sites;
    domains = domains names allowed note;
  })
    where
      pattern : pattern_at w (Branch b) ≡ s.branch.pattern
      pattern = rw sits refl

      names : List MsgId
      names = names_of (in_pattern (pattern_at w (Branch b)) (had_in before.phase))

      even : IsEven (pattern_at w (Branch b))
      even = subst IsEven (sym pattern) (first.even b s sits)

      fits_now : Fits (pattern_at w (Branch b)) [] (had_in before.phase)
      fits_now = subst (λ p. Fits p [] (had_in before.phase)) (sym pattern) (subst (λ hs. Fits s.branch.pattern [] hs) (sym (ap had_in phase)) fits)

      booked : set.contains (queue_at w es s.branch.queue).fresh (name_at e.actor before) ≡ true
      booked = subst (λ o. set.contains (queue_at w es (option_map_or (λ (r : Placement). r.branch.queue) o 0)).fresh (name_at e.actor before) ≡ true) sits (subst (λ ss. IsBookedAt w (queue_at w es) (name_at e.actor before) (claiming [] had) ss) (drives w n lacks es e low holds (Branch b) more turns).spots_so (subst (λ ph. IsBookedAt w (queue_at w es) (name_at e.actor before) ph before.spots) phase (holds.under_way e.actor)))

      fresh_name : has_task (fired h) (name_at e.actor before) ≡ false
      fresh_name = unfired w h (port_at es) e.actor before own.claims

      allowed : IsAllowed w h (events.Fire (name_at e.actor before) (Branch b) names cs)
      allowed = fire_allowed w h (name_at e.actor before) b s names cs sits fresh_name (omega (arith, low, few)) live (has_room-left w h (queue_at w es) s.branch.queue (name_at e.actor before) holds.legal holds.queues.listed holds.queues.booked booked fresh_name) (subst (λ p. is_selection_of (held h) p names ≡ true) pattern (chosen_now w n first few lacks es e low holds (pattern_at w (Branch b)) even fits_now)) cut_so

      note : e.note ≡ notes.Fired (name_at e.actor before) (Branch b) names cs
      note = had_note ∙ ap (λ ms. notes.Fired (name_at e.actor before) (Branch b) (names_of ms) cs) ((λ q. in_pattern (sym pattern q) had) ∙ ap (in_pattern (pattern_at w (Branch b))) (sym (ap had_in phase)))

  -- the commit at a receiver or a choice
  commit_arbiter : (b : ℕ) (s : Placement) (more : List Spot) (had : List Had) (i : ℕ) (part : ArbiterPart) → placement w b ≡ Some s → s.domain ≡ i → slice_get w.arbiters i ≡ Some part → is_interleave s.kind ≡ false → is_interleave_number w i ≡ false → turn before ≡ drive (Branch b) more → before.phase ≡ claiming [] had → Fits s.branch.pattern [] had → e.place ≡ places.Arbiter i → arbiter_note (arbiter_after (first_branch w i) part (notes_at es (places.Arbiter i))) (asks.Commit (firing_task (plan_of w (Branch b)) (name_at e.actor before) (in_pattern s.branch.pattern had)) (names_of (in_pattern s.branch.pattern had))) ≡ Some e.note → Done
  commit_arbiter b s more had i part sits at_its there_part outside plain turns phase fits there gives = by_dead (arbiters.dead_by arbiter) refl
    where
      task : Task
      task = firing_task (plan_of w (Branch b)) (name_at e.actor before) (in_pattern s.branch.pattern had)

      fresh : ArbiterState
      fresh = arbiter_after (first_branch w i) part []

      arbiter : ArbiterState
      arbiter = arbiters.kept fresh (notes_at es (places.Arbiter i))

      shape : KeepsShape fresh arbiter (fired_there (notes_at es (places.Arbiter i)))
      shape = kept_shape fresh (notes_at es (places.Arbiter i))

      given_so : (arbiters.may_commit arbiter task ≡ true) × (e.note ≡ commit_note task (names_of (in_pattern s.branch.pattern had)) (arbiters.dead_by arbiter) (notes.Fired task.id task.spot (names_of (in_pattern s.branch.pattern had)) []))
      given_so = given_some (arbiters.may_commit arbiter task) _ e.note gives

      here : arbiters.has_spot (arbiter_after (first_branch w s.domain) part []) (Branch b) ≡ true
      here = ap (λ k. arbiters.has_spot (arbiter_after (first_branch w k) part []) (Branch b)) at_its ∙ (λ j. nat_le (sym shape.first j) b && nat_lt b (sym shape.first j + sym shape.count j)) ∙ (both (arbiters.has_spot arbiter (Branch b)) _ given_so.0).0

      live : arbiters.dead_by arbiter ≡ None → is_live w h (Branch b) ≡ true
      live alive = rw sits (by (first.retires b s part sits (ap (slice_get w.arbiters) at_its ∙ there_part) outside here))
        where
          none_there : (arbiter_after (first_branch w s.domain) part []).once ≡ true → fired_by w (is_of i) h ≡ []
          none_there once = sym (holds.arbiters i) ∙ (sym (ap (λ ts. ts ++ fired_there (notes_at es (places.Arbiter i))) (none_at_first (first_branch w i) part)) ∙ sym shape.fired ∙ none_fired arbiter (shape.once ∙ ap (λ k. (arbiter_after (first_branch w k) part []).once) (sym at_its) ∙ once) alive)

          by : Retires w s part → is_live_in w h b s.domain s.branch.group ≡ true
          by (inl always) = rw always refl
          by (inr (once, inl group)) = rw (group, none_at_branch w h b i s sits at_its (none_there once)) refl
          by (inr (once, inr group)) = rw (group, at_its, none_there once) refl

      noted : (o : Option By) → arbiters.dead_by arbiter ≡ o → e.note ≡ commit_note task (names_of (in_pattern s.branch.pattern had)) o (notes.Fired task.id task.spot (names_of (in_pattern s.branch.pattern had)) [])
      noted o is = given_so.1 ∙ ap (λ x. commit_note task (names_of (in_pattern s.branch.pattern had)) x (notes.Fired task.id task.spot (names_of (in_pattern s.branch.pattern had)) [])) is

      by_dead : (o : Option By) → arbiters.dead_by arbiter ≡ o → Done
      by_dead None is = fires_branch b s more had i [] sits at_its turns phase fits there (live is) (sym (rw (sits, no_teardown_outside s.kind s.branch.group (first.groups_so b s sits) outside) refl)) (noted None is) (λ ms allowed note. DomainsMatch-branch w h es e (name_at e.actor before) b i s ms holds.legal allowed sits at_its plain there note holds.domains)
      by_dead (Some by) is = step_dead w n lacks es e low holds i (Branch b) more (name_at e.actor before) (Branch b) by there (noted (Some by) is) turns (rw (turns, noted (Some by) is) refl)

  -- the commit at an Interleave
  commit_interleave : (b : ℕ) (s : Placement) (more : List Spot) (had : List Had) (i : ℕ) → placement w b ≡ Some s → s.domain ≡ i → s.kind ≡ kinds.Interleave → is_interleave_number w i ≡ true → turn before ≡ drive (Branch b) more → before.phase ≡ claiming [] had → Fits s.branch.pattern [] had → e.place ≡ places.Arbiter i → interleave_note (domain_at w es i) (asks.Commit (firing_task (plan_of w (Branch b)) (name_at e.actor before) (in_pattern s.branch.pattern had)) (names_of (in_pattern s.branch.pattern had))) ≡ Some e.note → Done
  commit_interleave b s more had i sits at_its kind number turns phase fits there gives = by_dead (interleaves.dead_by state) refl
    where
      state : InterleaveState
      state = domain_at w es i

      task : Task
      task = firing_task (plan_of w (Branch b)) (name_at e.actor before) (in_pattern s.branch.pattern had)

      fires_note : Note
      fires_note = notes.Fired task.id task.spot (names_of (in_pattern s.branch.pattern had)) (interleaves.cut_note state task.spot)

      noted : (o : Option By) → interleaves.dead_by state ≡ o → e.note ≡ commit_note task (names_of (in_pattern s.branch.pattern had)) o fires_note
      noted o is = (given_some (interleaves.may_commit state task) _ e.note gives).1 ∙ ap (λ x. commit_note task (names_of (in_pattern s.branch.pattern had)) x fires_note) is

      match : DomainMatches w h i state
      match = holds.domains i number

      within : is_placement_in i s ≡ true
      within = rw (kind, at_its) (eq-self i)

      live_in : (g : Group) → may_have kinds.Interleave g ≡ true → is_none_of (fired_by w (tears s.domain) h) ≡ true → is_live_in w h b s.domain g ≡ true
      live_in groups.Teardown may none = none
      live_in groups.Exclusive may none = none
      live_in groups.Concurrent may none = none
      live_in groups.Once may none = absurd (cc)
      live_in groups.Always may none = absurd (cc)
      live_in groups.Choice may none = absurd (cc)

      live : interleaves.dead_by state ≡ None → is_live w h (Branch b) ≡ true
      live alive = rw sits (live_in s.branch.group (subst (λ k. may_have k s.branch.group ≡ true) kind (first.groups_so b s sits)) (ap is_none_of (ap (λ k. fired_by w (tears k) h) at_its ∙ match.torn_so (none_map ByFired state.teardown alive))))

      by_dead : (o : Option By) → interleaves.dead_by state ≡ o → Done
      by_dead None is = fires_branch b s more had i (interleaves.cut_note state (Branch b)) sits at_its turns phase fits there (live is) (cuts_so w h i b state s sits at_its within match) (noted None is) (λ ms allowed note. DomainsMatch-fire w h es e (name_at e.actor before) b i s ms holds.legal allowed sits within number there note holds.domains)
      by_dead (Some by) is = step_dead w n lacks es e low holds i (Branch b) more (name_at e.actor before) (Branch b) by there (noted (Some by) is) turns (rw (turns, noted (Some by) is) refl)

  commit_by : (b : ℕ) (s : Placement) (more : List Spot) (had : List Had) → placement w b ≡ Some s → turn before ≡ drive (Branch b) more → before.phase ≡ claiming [] had → Fits s.branch.pattern [] had → Given w es e (at_place (places.Arbiter (domain_of_spot w (Branch b))) (asks.Commit (firing_task (plan_of w (Branch b)) (name_at e.actor before) (in_pattern s.branch.pattern had)) (names_of (in_pattern s.branch.pattern had)))) → Done
  commit_by b s more had sits turns phase fits got = by_part (slice_get w.arbiters i) refl got.gives
    where
      i : ℕ
      i = domain_of_spot w (Branch b)

      at_its : s.domain ≡ i
      at_its = rw sits refl

      earlier : List Note
      earlier = notes_at es (places.Arbiter i)

      ask : Ask
      ask = asks.Commit (firing_task (plan_of w (Branch b)) (name_at e.actor before) (in_pattern s.branch.pattern had)) (names_of (in_pattern s.branch.pattern had))

      by_part : (o : Option ArbiterPart) → slice_get w.arbiters i ≡ o → note_at_arbiter w i o earlier ask ≡ Some e.note → Done
      by_part None is gives = absurd (cc)
      by_part (Some part) is gives = by_kind part.kind refl gives
        where
          its_kind : part.kind ≡ s.kind
          its_kind = first.kinds_so b s part sits (ap (slice_get w.arbiters) at_its ∙ is)

          by_kind : (kind : Kind) → part.kind ≡ kind → note_by_kind w i kind part earlier ask ≡ Some e.note → Done
          by_kind kinds.Receive k now = commit_arbiter b s more had i part sits at_its is (rw (sym its_kind, k) refl) (rw (is, k) refl) turns phase fits got.there now
          by_kind kinds.Choice k now = commit_arbiter b s more had i part sits at_its is (rw (sym its_kind, k) refl) (rw (is, k) refl) turns phase fits got.there now
          by_kind kinds.Interleave k now = commit_interleave b s more had i sits at_its (sym its_kind ∙ k) (rw (is, k) refl) turns phase fits got.there now

  -- the commit at a site
  commit_site : (b k port : ℕ) (more : List Spot) (had : List Had) → site_port w b k ≡ Some port → turn before ≡ drive (Site b k) more → before.phase ≡ claiming [] had → Fits (pattern_at w (Site b k)) [] had → Given w es e (at_place (places.Site b k) (asks.Commit (firing_task (plan_of w (Site b k)) (name_at e.actor before) (in_pattern (pattern_at w (Site b k)) had)) (names_of (in_pattern (pattern_at w (Site b k)) had)))) → Done
  commit_site b k port more had awaits turns phase fits got = by_dead (sites.dead_by state) refl
    where
      state : SiteState
      state = site_at es b k

      task : Task
      task = firing_task (plan_of w (Site b k)) (name_at e.actor before) (in_pattern (pattern_at w (Site b k)) had)

      given_so : (sites.may_commit state task ≡ true) × (e.note ≡ commit_note task (names_of (in_pattern (pattern_at w (Site b k)) had)) (sites.dead_by state) (notes.Fired task.id task.spot (names_of (in_pattern (pattern_at w (Site b k)) had)) []))
      given_so = given_some (sites.may_commit state task) _ e.note got.gives

      noted : (o : Option By) → sites.dead_by state ≡ o → e.note ≡ commit_note task (names_of (in_pattern (pattern_at w (Site b k)) had)) o (notes.Fired task.id task.spot (names_of (in_pattern (pattern_at w (Site b k)) had)) [])
      noted o is = given_so.1 ∙ ap (λ x. commit_note task (names_of (in_pattern (pattern_at w (Site b k)) had)) x (notes.Fired task.id task.spot (names_of (in_pattern (pattern_at w (Site b k)) had)) [])) is

      by_dead : (o : Option By) → sites.dead_by state ≡ o → Done
      by_dead (Some by) is = step_dead_site w n lacks es e low holds b k more got.there (rw note refl) turns (rw (turns, note) refl)
        where
          note : e.note ≡ notes.Dead (name_at e.actor before) (Site b k) by
          note = noted (Some by) is
      by_dead None is = step_fire w n first few lacks es e low holds (Site b k) more (record {
        place = places.Site b k;
        there = got.there;
        no_port = refl;
        no_queue = refl;
        no_meter = refl;
        cuts = [];
        free = λ is. refl;
        note = note;
        turns = turns;
        even = even;
        fits = fits_now;
        allowed = allowed;
        booked = λ q is. absurd (cc);
        arbiters = FiresAlike-resume w e b k (name_at e.actor before) names [] got.there note;
        sites = SitesMatch-resume w es e b k (name_at e.actor before) names holds.legal allowed got.there note holds.sites;
        domains = DomainsMatch-resume w h es e (name_at e.actor before) b k names holds.legal allowed got.there holds.domains;
      })
        where
          pattern : pattern_at w (Site b k) ≡ one_of port
          pattern = ap (λ o. option_map_or one_of o no_pattern) awaits

          names : List MsgId
          names = names_of (in_pattern (pattern_at w (Site b k)) (had_in before.phase))

          even : IsEven (pattern_at w (Site b k))
          even = subst IsEven (sym pattern) (λ slot among. by_slot slot among)
            where
              by_slot : (slot : Slot) → Among slot (any_slot port 1 1 ∷ []) → slot.least ≡ slot.most
              by_slot slot (inl e') = ap (λ (x : Slot). x.least) e' ∙ sym (ap (λ (x : Slot). x.most) e')
              by_slot slot (inr none) = absurd none

          fits_now : Fits (pattern_at w (Site b k)) [] (had_in before.phase)
          fits_now = subst (λ hs. Fits (pattern_at w (Site b k)) [] hs) (sym (ap had_in phase)) fits

          oldest : are_oldest (held h port) names ≡ true
          oldest = subst (λ p. are_oldest (held h port) (names_of (in_pattern p (had_in before.phase))) ≡ true) (sym pattern) (oldest_now w n first few lacks es e low holds port (subst (λ p. Fits p [] (had_in before.phase)) pattern fits_now))

          live : is_live w h (Site b k) ≡ true
          live = someone_waits state (suspended h (Site b k)) (holds.sites b k) is

          allowed : IsAllowed w h (events.Fire (name_at e.actor before) (Site b k) names [])
          allowed = resume_allowed w h (name_at e.actor before) b k port names awaits (unfired w h (port_at es) e.actor before own.claims) (omega (arith, low, few)) live oldest

          note : e.note ≡ notes.Fired (name_at e.actor before) (Site b k) names []
          note = noted None is ∙ ap (λ hs. notes.Fired (name_at e.actor before) (Site b k) (names_of (in_pattern (pattern_at w (Site b k)) hs)) []) (sym (ap had_in phase))

  book_by : (spot : Spot) (more : List Spot) → turn before ≡ drive spot more → before.phase ≡ booking → Given w es e (at_place (places.Queue (queue_number w spot)) (asks.Book (name_at e.actor before) (resumes spot))) → Done
  book_by spot more turns phase got = by_full (queues.book_note (queue_at w es (queue_number w spot)) (resumes spot)) refl given_so.1
    where
      given_so : (queues.may_book (queue_at w es (queue_number w spot)) (name_at e.actor before) ≡ true) × (e.note ≡ notes.Book (name_at e.actor before) (resumes spot) (queues.book_note (queue_at w es (queue_number w spot)) (resumes spot)))
      given_so = given_some (queues.may_book (queue_at w es (queue_number w spot)) (name_at e.actor before)) _ e.note got.gives

      by_full : (o : Option ℕ) → queues.book_note (queue_at w es (queue_number w spot)) (resumes spot) ≡ o → e.note ≡ notes.Book (name_at e.actor before) (resumes spot) o → Done
      by_full None room note = step_booked w n lacks es e low holds spot more got.there given_so.0 room note turns phase
      by_full (Some k) room note = step_full w n lacks es e low holds (queue_number w spot) k (name_at e.actor before) (resumes spot) spot more got.there note turns

  pub drive_kept : (spot : Spot) (more : List Spot) → turn before ≡ drive spot more → Done
  drive_kept spot more turns = by_spot spot refl (own.fits.spots_so spot (rw spots_are (inl refl)))
    where
      spots_are : before.spots ≡ spot ∷ more
      spots_are = (drives w n lacks es e low holds spot more turns).spots_so

      asked_in : (ph : Phase) → before.phase ≡ ph → Given w es e (attempt_ask (plan_of w spot) (name_at e.actor before) ph)
      asked_in ph phase = given_to w lacks es e step (drive spot more) _ turns (ap (λ p. Some (attempt_ask (plan_of w spot) (name_at e.actor before) p)) phase)

      whole : (had : List Had) → before.phase ≡ claiming [] had → Fits (pattern_at w spot) [] had
      whole had phase = both_of (rw (phase, spots_are) at own.fits.phase_so)
        where
          both_of : (nat_lt before.attempt (2 ^ 32) ≡ true) × Fits (pattern_at w spot) [] had → Fits (pattern_at w spot) [] had
          both_of is = is.1

      by_phase : ((had : List Had) → before.phase ≡ claiming [] had → Done) → (ph : Phase) → before.phase ≡ ph → Done
      by_phase commits booking phase = book_by spot more turns phase (asked_in booking phase)
      by_phase commits (claiming (slot ∷ slots) had) phase = claim_by slot slots had spot more turns phase (asked_in (claiming (slot ∷ slots) had) phase)
      by_phase commits (claiming [] had) phase = commits had phase

      by_spot : (x : Spot) → spot ≡ x → SpotFits w spot → Done
      by_spot (Branch b) is fits = by_phase (λ had phase. commit_by b found.0 more had found.1 branch_turns phase (fits_so had phase) (given_now had phase)) before.phase refl
        where
          found : (s : Placement) × (placement w b ≡ Some s)
          found = subst (SpotFits w) is fits

          branch_turns : turn before ≡ drive (Branch b) more
          branch_turns = turns ∙ ap (λ x. drive x more) is

          pattern : pattern_at w (Branch b) ≡ found.0.branch.pattern
          pattern = rw found.1 refl

          fits_so : (had : List Had) → before.phase ≡ claiming [] had → Fits found.0.branch.pattern [] had
          fits_so had phase = subst (λ p. Fits p [] had) (ap (pattern_at w) is ∙ pattern) (whole had phase)

          given_now : (had : List Had) → before.phase ≡ claiming [] had → Given w es e (at_place (places.Arbiter (domain_of_spot w (Branch b))) (asks.Commit (firing_task (plan_of w (Branch b)) (name_at e.actor before) (in_pattern found.0.branch.pattern had)) (names_of (in_pattern found.0.branch.pattern had))))
          given_now had phase = subst (λ p. Given w es e (at_place (places.Arbiter (domain_of_spot w (Branch b))) (asks.Commit (firing_task (plan_of w (Branch b)) (name_at e.actor before) (in_pattern p had)) (names_of (in_pattern p had))))) pattern (subst (λ x. Given w es e (attempt_ask (plan_of w x) (name_at e.actor before) (claiming [] had))) is (asked_in (claiming [] had) phase))
      by_spot (Site b k) is fits = by_phase (λ had phase. commit_site b k found.0 more had found.1 (turns ∙ ap (λ x. drive x more) is) phase (subst (λ x. Fits (pattern_at w x) [] had) is (whole had phase)) (subst (λ x. Given w es e (attempt_ask (plan_of w x) (name_at e.actor before) (claiming [] had))) is (asked_in (claiming [] had) phase))) before.phase refl
        where
          found : (port : ℕ) × (site_port w b k ≡ Some port)
          found = subst (SpotFits w) is fits

-- An admission, as a whole step.
use Rattle.std.proofs.Common.{◌≡◌, ◌<◌, ℕ, Bool, true, false, ◌||◌, List, [], ◌∷◌, ◌++◌, Option, option_map, Some, None, refl, sym, arith, ap, ◌∙◌, subst, append-nil}
use Rattle.std.specs.Prelude.{if◌then◌else◌, slice_get, option_and_then}
use Rattle.std.proofs.lemmas.Grind.{common_steps}
use Rattle.ccr_base.specs.declared.names.Place.TheVariants as places
use Rattle.ccr_base.specs.declared.names.Spot.{Spot}
use Rattle.ccr_base.specs.declared.names.TaskId.{TaskId}
use Rattle.ccr_base.specs.declared.tasks.Task.{Task}
use Rattle.ccr_base.specs.Names.{has_task}
use Rattle.ccr_wiring.specs.declared.parts.ArbiterPart.{ArbiterPart}
use Rattle.ccr_wiring.specs.declared.parts.Kind.{Kind}
use Rattle.ccr_wiring.specs.declared.parts.Kind.TheVariants as kinds
use Rattle.ccr_wiring.specs.declared.parts.Parts.{Parts}
use Rattle.ccr_model.specs.declared.history.Event.{Event}
use Rattle.ccr_model.specs.declared.history.Event.TheVariants as events
use Rattle.ccr_model.specs.Firings.{Firing, fired, put, cut, ever_admitted}
use Rattle.ccr_model.specs.Posts.{taken}
use Rattle.ccr_model.specs.Rules.{needs_no_admission}
use Rattle.ccr_base.proofs.Booleans.{refuted, no_both, or_right}
use Rattle.ccr_base.proofs.Options.{some_is}
use Rattle.ccr_model.proofs.Cutting.{CutFacts-legal, waits_unput}
use Rattle.ccr_model.proofs.AllowedFirings.{waits_outside}
use Rattle.ccr_model.proofs.LegalParts.{legal_push}
use Rattle.ccr_model.proofs.OneMoreEvent.{posts-push, put-push, cut-push, ever_admitted-push}
use Rattle.ccr_base.proofs.SameNames.{same_task-self}
use Rattle.ccr_model.proofs.Stable.{firing_named-append}
use Rattle.ccr_model.proofs.TaskLists.{of_one, among_right}
use Rattle.ccr_model.proofs.Queued.{queued-other}
use Rattle.ccr_places.specs.declared.notes.Note.TheVariants as notes
use Rattle.ccr_places.specs.Interleaves.{InterleaveState, Waiting}
use Rattle.ccr_places.specs.Interleaves as interleaves
use Rattle.ccr_claim.specs.declared.asks.Ask.TheVariants as asks
use Rattle.ccr_claim.specs.declared.asks.Asked.{Asked}
use Rattle.ccr_claim.specs.Attempts.{at_place}
use Rattle.ccr_actor.specs.Plans.{is_interleave_number}
use Rattle.ccr_actor.specs.Actors.{State, turn, turn_of, admit, strike, put_admitted, spots_left}
use Rattle.ccr_runs.specs.declared.entries.Entry.{Entry}
use Rattle.ccr_runs.specs.Places.{note_at_arbiter, note_by_kind}
use Rattle.ccr_runs.specs.EntryRuns.{Lacks, state_of, port_at, notes_at, queue_at, domain_at}
use Rattle.ccr_runs.specs.Views.{view}
use Rattle.ccr_runs.specs.Visible.{visible}
use Rattle.ccr_net.proofs.Parts.OneMoreEntry.{visible-push, Step}
use Rattle.ccr_net.proofs.Parts.PortsAndHandsMatch.{IsToPut, puts_in}
use Rattle.ccr_net.proofs.Parts.StepsKeepPorts.{PortsMatch-event}
use Rattle.ccr_net.proofs.Parts.StepsKeepActors.{ActorMatches-same, ActorMatches-history, ActorMatches-admit, puts_owed, stays_quiet}
use Rattle.ccr_net.proofs.Parts.SitesMatch.{SitesMatch-other}
use Rattle.ccr_net.proofs.Parts.ArbitersMatch.{ArbitersMatch-push, FiresAlike-other}
use Rattle.ccr_net.proofs.Parts.BookedHasRoom.{QueuesHold-event}
use Rattle.ccr_net.proofs.Parts.WorkMatches.{WorkMatches-same, SaysSame, quiet_says}
use Rattle.ccr_net.proofs.Parts.MeterMatches.{MeterMatches-quiet}
use Rattle.ccr_net.proofs.Parts.DomainsMatch.{Oldest, oldest, admit_allowed, DomainsMatch-admit, DomainsMatch-still}
use Rattle.ccr_net.proofs.Kept.WholeInvariant.{ActorHolds, Holds, Holds-kept, meter_at, works_of, same_under_way, same_ports, same_queues, same_meter}
use Rattle.ccr_net.proofs.Kept.SilentStepsKeepAll.{silent_else, unmetered}
use Rattle.ccr_net.proofs.Kept.ShownStepsKeepAll.{ActorHolds-event}
use Rattle.ccr_net.proofs.Parts.NotesAnswerAsks.{Given, given_to}

pub hand_admits : (short : Bool) (hand : List Asked) (domains : List ℕ) (spots : List Spot) (i : ℕ) (more : List ℕ) → turn_of short hand domains spots ≡ admit i more → hand ≡ []
hand_admits short (y ∷ hand) domains spots i more is = absurd (cc)
hand_admits short [] domains spots i more is = refl

module _ (w : Parts) (n : ℕ) (lacks : Lacks) (es : List Entry) (e : Entry) (low : e.actor < n) (holds : Holds w n lacks es) (step : Step w lacks es e) where
  abbrev before : State
  before = state_of w lacks es e.actor

  abbrev h : List Event
  h = visible es

  abbrev Done : Type 0
  Done = Holds w n lacks (es ++ e ∷ [])

  own : ActorHolds w h (port_at es) e.actor before
  own = holds.actors e.actor

  -- nobody may be admitted
  step_strike : (i : ℕ) (more : List ℕ) → turn before ≡ admit i more → e.place ≡ places.Arbiter i → e.note ≡ notes.Admit None → Done
  step_strike i more turns there note =
      silent_else w n lacks es e low holds (places.Arbiter i) (strike before more) (λ t is. is) (DomainsMatch-still w h es e i (notes.Admit None) there note refl holds.domains) there refl (rw note refl) (rw (turns, note) refl)
      (rw (same_queues w es e (places.Arbiter i) there refl) holds.queues)
      (record { claims = ActorMatches-same w h (port_at es) e.actor before (strike before more) refl refl refl own.claims; work = own.work; fits = record { spots_so = own.fits.spots_so; phase_so = own.fits.phase_so } })
      (same_under_way w lacks es e (places.Arbiter i) (strike before more) there refl (holds.under_way e.actor)) (unmetered w n lacks es e low holds (places.Arbiter i) there refl) refl (λ is. is)

  -- the oldest waiting task is admitted, and is in hand then
  step_admit : (i : ℕ) (more : List ℕ) (found : Oldest w h i (domain_at w es i)) → turn before ≡ admit i more → is_interleave_number w i ≡ true → interleaves.may_admit (domain_at w es i) found.first.spot ≡ true → e.place ≡ places.Arbiter i → e.note ≡ notes.Admit (Some found.first.task) → Done
  step_admit i more found turns number may there note = Holds-kept w n lacks es e next (h ++ event ∷ []) holds (record {
    shows = shows_so;
    goes = rw (shows_so, turns, note) refl;
    legal = legal_push w [] h event holds.legal (admit_allowed w h i (domain_at w es i) found (holds.domains i number) may);
    ports = rw same (PortsMatch-event h event (port_at es) (rw (posts-push, append-nil) refl) taken_so fired_so holds.ports);
    queues = rw (same_queues w es e (places.Arbiter i) there refl) (QueuesHold-event w h event (queue_at w es) refl (λ q. queued-other w h q event refl refl refl refl) holds.queues);
    under_way = same_under_way w lacks es e (places.Arbiter i) next there refl (holds.under_way e.actor);
    own = rw same (record {
      claims = ActorMatches-admit w (h ++ event ∷ []) (port_at es) e.actor before next task refl refl refl to_put refl (ActorMatches-history w h event (port_at es) e.actor (record before { hand = [] }) holds.legal (λ u is. ap (λ ts. has_task ts u) fired_so) (λ u is. absurd (cc)) (ActorMatches-same w h (port_at es) e.actor before (record before { hand = [] }) (sym (hand_admits before.is_short before.hand before.domains (spots_left before) i more turns)) refl refl own.claims));
      work = WorkMatches-same w h event e.actor before.work (says e.actor) own.work;
      fits = record { spots_so = own.fits.spots_so; phase_so = own.fits.phase_so };
    });
    others = λ a other. rw same (ActorHolds-event w n lacks es e low holds event (port_at es) a (state_of w lacks es a) (λ u is. ap (λ ts. has_task ts u) fired_so) (λ u is. stays_quiet w h event u (put-push h event ∙ append-nil (put h)) refl) (says a) (holds.actors a));
    meter = λ works' one. rw (same_meter w es e (places.Arbiter i) there refl) (MeterMatches-quiet w n h (h ++ event ∷ []) (meter_at w es).drawn e.actor (works_of w lacks es) works' before.work low (rw (posts-push, append-nil) refl) refl (λ is. is) one holds.meter);
    budget = rw (same_meter w es e (places.Arbiter i) there refl) holds.budget;
    arbiters = ArbitersMatch-push w es e (h ++ event ∷ []) shows_so (FiresAlike-other w e event (rw note refl) refl) holds.arbiters;
    sites = SitesMatch-other w es e event holds.legal (rw note refl) refl refl holds.sites;
    domains = DomainsMatch-admit w h es e i found holds.legal number there note holds.domains;
    apart = λ a other u is. refuted (has_task (puts_in (state_of w lacks es a).hand) u) (λ also. waited (subst (IsToPut w h) (of_one t u is) (puts_owed w h (port_at es) a (state_of w lacks es a) u (holds.actors a).claims also)));
  })
    where
      t : TaskId
      t = found.first.task

      event : Event
      event = events.Admit t

      task : Task
      task = view w (h ++ event ∷ []) t

      next : State
      next = put_admitted before more task

      shows_so : visible (es ++ e ∷ []) ≡ h ++ event ∷ []
      shows_so = rw (visible-push es e, note) refl

      same : port_at (es ++ e ∷ []) ≡ port_at es
      same = same_ports es e (places.Arbiter i) there refl

      fired_so : fired (h ++ event ∷ []) ≡ fired h
      fired_so = grind (arith, common_steps)

      taken_so : taken (h ++ event ∷ []) ≡ taken h
      taken_so = grind (arith, common_steps)

      says : (a : ℕ) → SaysSame h event a
      says a = quiet_says h event a (rw (posts-push, append-nil) refl) (λ c. refl) refl

      to_put : IsToPut w (h ++ event ∷ []) t
      to_put = record {
        fires = (found.facts.firing, firing_named-append h (event ∷ []) t found.facts.firing found.facts.is_firing);
        unput = ap (λ ts. has_task ts t) (put-push h event ∙ append-nil (put h)) ∙ waits_unput w h i t (CutFacts-legal w h holds.legal) found.facts;
        uncut = ap (λ ts. has_task ts t) (cut-push h event ∙ append-nil (cut h)) ∙ found.facts.not_cut;
        entered = or_right (needs_no_admission w found.facts.firing.spot) (has_task (ever_admitted (h ++ event ∷ [])) t) (ap (λ ts. has_task ts t) (ever_admitted-push h event) ∙ among_right (ever_admitted h) (t ∷ []) t (ap (λ b. b || false) (same_task-self t)));
      }

      -- who waits is in nobody's hand
      waited : IsToPut w h t → ⊥
      waited is = no_both (subst (λ (f : Firing). needs_no_admission w f.spot || has_task (ever_admitted h) t ≡ true) (some_is (sym is.fires.1 ∙ found.facts.is_firing)) is.entered) (waits_outside w h i t found.facts)

  pub admit_kept : (i : ℕ) (more : List ℕ) → turn before ≡ admit i more → Done
  admit_kept i more turns = by_part (slice_get w.arbiters i) refl got.gives
    where
      got : Given w es e (at_place (places.Arbiter i) asks.Admit)
      got = given_to w lacks es e step (admit i more) (at_place (places.Arbiter i) asks.Admit) turns refl

      state : InterleaveState
      state = domain_at w es i

      admitted_so : is_interleave_number w i ≡ true → e.note ≡ notes.Admit (interleaves.admit_note state) → Done
      admitted_so number note = by_list state.waiting refl (note ∙ refl)
        where
          by_may : (x : Waiting) (others : List Waiting) → state.waiting ≡ x ∷ others → (c : Bool) → interleaves.may_admit state x.spot ≡ c → e.note ≡ notes.Admit (option_map (λ (y : Waiting). y.task) (if c then Some x else None)) → Done
          by_may x others list false may now = step_strike i more turns got.there now
          by_may x others list true may now = step_admit i more (oldest w h i state x others holds.legal list (holds.domains i number)) turns number may got.there now

          by_list : (xs : List Waiting) → state.waiting ≡ xs → e.note ≡ notes.Admit (option_map (λ (y : Waiting). y.task) (option_and_then (λ (y : Waiting). if interleaves.may_admit state y.spot then Some y else None) (slice_get state.waiting 0))) → Done
          by_list [] is now = step_strike i more turns got.there (now ∙ ap (λ (ys : List Waiting). notes.Admit (option_map (λ (y : Waiting). y.task) (option_and_then (λ (y : Waiting). if interleaves.may_admit state y.spot then Some y else None) (slice_get ys 0)))) is)
          by_list (x ∷ others) is now = by_may x others is (interleaves.may_admit state x.spot) refl (now ∙ ap (λ (ys : List Waiting). notes.Admit (option_map (λ (y : Waiting). y.task) (option_and_then (λ (y : Waiting). if interleaves.may_admit state y.spot then Some y else None) (slice_get ys 0)))) is)

      by_part : (o : Option ArbiterPart) → slice_get w.arbiters i ≡ o → note_at_arbiter w i o (notes_at es (places.Arbiter i)) asks.Admit ≡ Some e.note → Done
      by_part None is gives = absurd (cc)
      by_part (Some part) is gives = by_kind part.kind refl gives
        where
          by_kind : (kind : Kind) → part.kind ≡ kind → note_by_kind w i kind part (notes_at es (places.Arbiter i)) asks.Admit ≡ Some e.note → Done
          by_kind kinds.Receive k now = absurd (cc)
          by_kind kinds.Choice k now = absurd (cc)
          by_kind kinds.Interleave k now = admitted_so (rw (is, k) refl) (sym (some_is now))

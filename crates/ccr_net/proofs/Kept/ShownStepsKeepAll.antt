-- Steps that show an event: posts, firings, puts, starts and ends.
use Rattle.std.proofs.Common.{inl, ◌≡◌, ◌≢◌, ◌<◌, ℕ, ◌^◌, Bool, true, false, List, [], ◌∷◌, ◌++◌, Some, refl, sym, arith, ap, ◌∙◌, subst, append-nil}
use Rattle.std.specs.Prelude.{◌==◌, if◌then◌else◌, nat_lt}
use Rattle.ccr_base.specs.declared.messages.Msg.{Msg}
use Rattle.ccr_base.specs.declared.names.Place.{Place}
use Rattle.ccr_base.specs.declared.names.Place.TheVariants as places
use Rattle.ccr_base.specs.declared.names.Spot.{Spot}
use Rattle.ccr_base.specs.declared.names.TaskId.{TaskId}
use Rattle.ccr_base.specs.Names.{has_task}
use Rattle.ccr_wiring.specs.declared.parts.Parts.{Parts}
use Rattle.ccr_model.specs.declared.history.Event.{Event}
use Rattle.ccr_model.specs.declared.history.Event.TheVariants as events
use Rattle.ccr_model.specs.Firings.{fired, put, firing_of}
use Rattle.ccr_model.specs.Legal.{IsAllowed, IsLegal}
use Rattle.ccr_model.specs.Posts.{posts, taken}
use Rattle.ccr_model.proofs.LegalParts.{legal_push}
use Rattle.ccr_model.proofs.Members.{Among}
use Rattle.ccr_model.proofs.PostNames.{AreNamed, named_kept, along, place_of, sent_by}
use Rattle.ccr_model.proofs.OneMoreEvent.{put-push}
use Rattle.ccr_model.proofs.Queued.{queued-other}
use Rattle.ccr_places.specs.declared.claims.StandingClaim.{StandingClaim}
use Rattle.ccr_places.specs.declared.notes.Note.TheVariants as notes
use Rattle.ccr_places.specs.Ports.{PortState, first_fitting}
use Rattle.ccr_places.specs.Ports as ports
use Rattle.ccr_places.specs.Queues.{QueueState}
use Rattle.ccr_claim.specs.Attempts.{Phase, had_in, booking, claiming}
use Rattle.ccr_actor.specs.Actors.{State, Work, name_at, turn, go_on, after_in, spots_left}
use Rattle.ccr_runs.specs.declared.entries.Entry.{Entry}
use Rattle.ccr_runs.specs.EntryRuns.{Lacks, state_of, port_at, reply_of, queue_at}
use Rattle.ccr_runs.specs.Visible.{visible, event_of}
use Rattle.ccr_net.proofs.Parts.OneMoreEntry.{visible-push}
use Rattle.ccr_net.proofs.Parts.PostsKeepMarks.{first_fitting-post}
use Rattle.ccr_net.proofs.Parts.PortsAndHandsMatch.{ActorMatches, puts_in}
use Rattle.ccr_net.proofs.Parts.DomainsMatch.{DomainsMatch, DomainsMatch-event, DomainsMatch-elsewhere}
use Rattle.ccr_net.proofs.Kept.SilentStepsKeepAll.{still_apart}
use Rattle.ccr_net.proofs.Parts.StepsKeepPorts.{Changes, PortsMatch-post, PortsMatch-event, fired-post}
use Rattle.ccr_net.proofs.Parts.StepsKeepActors.{ActorMatches-same, ActorMatches-ports, ActorMatches-history, StaysToPut, stays_quiet}
use Rattle.ccr_net.proofs.Parts.NamesStandAtOnePort.{post_fresh}
use Rattle.ccr_net.proofs.Parts.SitesMatch.{SitesMatch, SitesMatch-other}
use Rattle.ccr_net.proofs.Parts.ArbitersMatch.{ArbitersMatch-push, FiresAlike-other}
use Rattle.ccr_net.proofs.Parts.BookedHasRoom.{QueuesHold, QueuesHold-event, IsBooked, Stays}
use Rattle.ccr_net.proofs.Parts.WorkMatches.{WorkMatches, WorkMatches-same, SaysSame}
use Rattle.ccr_net.proofs.Parts.MeterMatches.{MeterMatches, OneWorks}
use Rattle.ccr_net.proofs.Parts.PhasesFitPlans.{StateFits, PhaseFits, SpotFits}
use Rattle.ccr_net.proofs.Kept.WholeInvariant.{ActorHolds, Holds, Holds-kept, UnderWay, same_under_way, meter_at, works_of, port_changes, is_queue_place, same_queues, same_meter, none_go_on}

-- names stand once in a legal history
pub named_legal : (w : Parts) (h : List Event) → IsLegal w h → AreNamed (posts h)
named_legal w h legal = along w (λ g. AreNamed (posts g)) (named_kept w) (record { below = λ name. λ some. omega arith; once = λ name. omega arith }) h legal

module _ (w : Parts) (n : ℕ) (lacks : Lacks) (es : List Entry) (e : Entry) (low : e.actor < n) (holds : Holds w n lacks es) where
  abbrev before : State
  before = state_of w lacks es e.actor

  abbrev h : List Event
  h = visible es

  -- ---- going on with the work: no attempt is under way

  pub idle_phase : turn before ≡ go_on → before.phase ≡ booking
  idle_phase turns = by before.phase before.spots refl refl (holds.actors e.actor).fits.phase_so (none_go_on before.is_short before.hand before.domains (spots_left before) turns).1
    where
      by : (ph : Phase) (ss : List Spot) → before.phase ≡ ph → before.spots ≡ ss → PhaseFits w before.attempt before.phase before.spots → spots_left before ≡ [] → before.phase ≡ booking
      by booking ss is so fits none = is
      by (claiming slots had) [] is so fits none = absurd (rw (is, so) at fits)
      by (claiming slots had) (s ∷ more) is so fits none = absurd (of_both (rw (is, so) at fits) (rw so at none))
        where
          of_both : {P : Type 0} → (nat_lt before.attempt (2 ^ 32) ≡ true) × P → (if nat_lt before.attempt (2 ^ 32) then s ∷ more else []) ≡ [] → ⊥
          of_both both none = let now : s ∷ more ≡ [] = rw both.0 at none in cc

  -- what a state that goes on has
  pub record GoesOn (next : State) : Type 0 where
    pub hand : next.hand ≡ before.hand
    pub phase : next.phase ≡ before.phase
    pub attempt : next.attempt ≡ before.attempt
    pub spots_so : (s : Spot) → Among s next.spots → SpotFits w s

  pub goes_fits : (next : State) → turn before ≡ go_on → GoesOn next → StateFits w next
  goes_fits next turns on = record {
    spots_so = on.spots_so;
    phase_so = rw (on.phase, idle_phase turns) tt;
  }

  -- so none is booked
  pub goes_booked : (next : State) → turn before ≡ go_on → GoesOn next → (queue : ℕ → QueueState) → IsBooked w queue e.actor next
  goes_booked next turns on queue = rw (on.phase, idle_phase turns) tt

  pub goes_under_way : (place : Place) (next : State) → e.place ≡ place → is_queue_place place ≡ false → turn before ≡ go_on → GoesOn next → UnderWay w lacks es e next
  goes_under_way place next there other turns on = same_under_way w lacks es e place next there other (goes_booked next turns on (queue_at w es))

  -- ---- an event of another actor

  pub ActorHolds-event : (ev : Event) (port : ℕ → PortState) (a : ℕ) (st : State) → ((t : TaskId) → t.actor ≡ a → has_task (fired (h ++ ev ∷ [])) t ≡ has_task (fired h) t) → ((u : TaskId) → has_task (puts_in st.hand) u ≡ true → StaysToPut w h ev u) → SaysSame h ev a → ActorHolds w h port a st → ActorHolds w (h ++ ev ∷ []) port a st
  ActorHolds-event ev port a st fires puts says known = record {
    claims = ActorMatches-history w h ev port a st holds.legal fires puts known.claims;
    work = WorkMatches-same w h ev a st.work says known.work;
    fits = known.fits;
  }

  pub shows : (ev : Event) → event_of e ≡ ev ∷ [] → visible (es ++ e ∷ []) ≡ h ++ ev ∷ []
  shows ev is = rw (visible-push es e, is) refl

  -- ---- a post

  -- claims stay, and messages come behind the marked ones
  post_ports : (m : Msg) → e.place ≡ places.Port m.port → e.note ≡ notes.Post m → (a : ℕ) (h' : List Event) (st : State) → ActorMatches w h' (port_at es) a st → ActorMatches w h' (port_at (es ++ e ∷ [])) a st
  post_ports m place note a h' st match = ActorMatches-ports w h' (port_at es) (port_at (es ++ e ∷ [])) a st (λ q c is. inl (sym (same q) ∙ is)) (λ q c is own. (same q ∙ is, marks q c (m.port == q) refl is)) match
    where
      changes : Changes (port_at es) (port_at (es ++ e ∷ [])) m.port (notes.Post m)
      changes = subst (Changes (port_at es) (port_at (es ++ e ∷ [])) m.port) note (port_changes es e m.port place)

      same : (q : ℕ) → (port_at (es ++ e ∷ []) q).claim ≡ (port_at es q).claim
      same q = rw (changes q) (of_test (m.port == q))
        where
          of_test : (b : Bool) → (if b then ports.after_post (port_at es q) m else port_at es q).claim ≡ (port_at es q).claim
          of_test true = refl
          of_test false = refl

      marks : (q : ℕ) (c : StandingClaim) (b : Bool) → (m.port == q) ≡ b → (port_at es q).claim ≡ Some c → first_fitting c.count c.pred (port_at (es ++ e ∷ []) q).items ≡ first_fitting c.count c.pred (port_at es q).items
      marks q c true at_q is = rw (changes q, at_q) (first_fitting-post c.count c.pred (port_at es q).items m (holds.ports.enough q c is))
      marks q c false at_q is = rw (changes q, at_q) refl

  pub step_post : (m : Msg) (next : State) → e.place ≡ places.Port m.port → e.note ≡ notes.Post m → turn before ≡ go_on → after_in w e.actor before (turn before) (reply_of w es e) ≡ next → GoesOn next
      → IsAllowed w h (events.Post m) → place_of m.id ≡ sent_by m.id (posts h)
      → WorkMatches w (h ++ events.Post m ∷ []) e.actor next.work
      → ((a : ℕ) → e.actor ≢ a → SaysSame h (events.Post m) a)
      → ((works' : ℕ → Work) → OneWorks (works_of w lacks es) works' e.actor next.work → MeterMatches w n (h ++ events.Post m ∷ []) (meter_at w es).drawn works')
      → Holds w n lacks (es ++ e ∷ [])
  step_post m next place note turns goes on allowed named work says meter = Holds-kept w n lacks es e next (h ++ events.Post m ∷ []) holds (record {
    shows = shows (events.Post m) (rw note refl);
    goes = goes;
    legal = legal_push w [] h (events.Post m) holds.legal allowed;
    ports = PortsMatch-post h (port_at es) (port_at (es ++ e ∷ [])) m (post_fresh (posts h) m.id (named_legal w h holds.legal) named) (subst (Changes (port_at es) (port_at (es ++ e ∷ [])) m.port) note (port_changes es e m.port place)) holds.ports;
    queues = rw (same_queues w es e (places.Port m.port) place refl) (QueuesHold-event w h (events.Post m) (queue_at w es) refl (λ q. queued-other w h q (events.Post m) refl refl refl refl) holds.queues);
    own = record {
      claims = post_ports m place note e.actor (h ++ events.Post m ∷ []) next (ActorMatches-same w (h ++ events.Post m ∷ []) (port_at es) e.actor before next on.hand (ap had_in on.phase) on.attempt (ActorMatches-history w h (events.Post m) (port_at es) e.actor before holds.legal (λ t own. rw (fired-post h m) refl) (λ u there. stays_quiet w h (events.Post m) u (put-push h (events.Post m) ∙ append-nil (put h)) refl) (holds.actors e.actor).claims));
      work = work;
      fits = goes_fits next turns on;
    };
    under_way = same_under_way w lacks es e (places.Port m.port) next place refl (goes_booked next turns on (queue_at w es));
    others = λ a other. (let known = ActorHolds-event (events.Post m) (port_at es) a (state_of w lacks es a) (λ t own. rw (fired-post h m) refl) (λ u there. stays_quiet w h (events.Post m) u (put-push h (events.Post m) ∙ append-nil (put h)) refl) (says a other) (holds.actors a) in record { claims = post_ports m place note a (h ++ events.Post m ∷ []) (state_of w lacks es a) known.claims; work = known.work; fits = known.fits });
    meter = λ works' one. rw (same_meter w es e (places.Port m.port) place refl) (meter works' one);
    budget = rw (same_meter w es e (places.Port m.port) place refl) holds.budget;
    arbiters = ArbitersMatch-push w es e (h ++ events.Post m ∷ []) (shows (events.Post m) (rw note refl)) (FiresAlike-other w e (events.Post m) (rw note refl) refl) holds.arbiters;
    sites = SitesMatch-other w es e (events.Post m) holds.legal (rw note refl) refl refl holds.sites;
    domains = DomainsMatch-elsewhere w (h ++ events.Post m ∷ []) es e (places.Port m.port) place refl (DomainsMatch-event w h (events.Post m) es holds.legal refl refl holds.domains);
    apart = still_apart w n lacks es e low holds next (λ u is. subst (λ hand. has_task (puts_in hand) u ≡ true) on.hand is);
  })

  -- ---- an event that posts, takes, fires and puts nothing: a start and an end

  pub step_other : (ev : Event) (place : Place) (next : State) → e.place ≡ place → event_of e ≡ ev ∷ [] → firing_of ev ≡ [] → port_at (es ++ e ∷ []) ≡ port_at es → turn before ≡ go_on → after_in w e.actor before (turn before) (reply_of w es e) ≡ next → GoesOn next
      → posts (h ++ ev ∷ []) ≡ posts h → taken (h ++ ev ∷ []) ≡ taken h → fired (h ++ ev ∷ []) ≡ fired h → put (h ++ ev ∷ []) ≡ put h
      → IsAllowed w h ev
      → QueuesHold w (h ++ ev ∷ []) (queue_at w (es ++ e ∷ []))
      → ((a : ℕ) → Stays (queue_at w es) (queue_at w (es ++ e ∷ [])) (name_at a (state_of w lacks es a)))
      → WorkMatches w (h ++ ev ∷ []) e.actor next.work
      → ((a : ℕ) → e.actor ≢ a → SaysSame h ev a)
      → meter_at w (es ++ e ∷ []) ≡ meter_at w es
      → ((works' : ℕ → Work) → OneWorks (works_of w lacks es) works' e.actor next.work → MeterMatches w n (h ++ ev ∷ []) (meter_at w es).drawn works')
      → SitesMatch (h ++ ev ∷ []) (es ++ e ∷ [])
      → DomainsMatch w (h ++ ev ∷ []) (es ++ e ∷ [])
      → Holds w n lacks (es ++ e ∷ [])
  step_other ev place next there is unfired same turns goes on p t f u allowed queues stays work says drawn meter sited domains = Holds-kept w n lacks es e next (h ++ ev ∷ []) holds (record {
    shows = shows ev is;
    goes = goes;
    legal = legal_push w [] h ev holds.legal allowed;
    ports = rw same (PortsMatch-event h ev (port_at es) p t f holds.ports);
    queues = queues;
    under_way = record { own = goes_booked next turns on (queue_at w (es ++ e ∷ [])); others = λ a other. stays a };
    own = rw same (record {
      claims = ActorMatches-same w (h ++ ev ∷ []) (port_at es) e.actor before next on.hand (ap had_in on.phase) on.attempt (ActorMatches-history w h ev (port_at es) e.actor before holds.legal (λ x own. rw f refl) (λ x there. stays_quiet w h ev x u unfired) (holds.actors e.actor).claims);
      work = work;
      fits = goes_fits next turns on;
    });
    others = λ a other. rw same (ActorHolds-event ev (port_at es) a (state_of w lacks es a) (λ x own. rw f refl) (λ x there. stays_quiet w h ev x u unfired) (says a other) (holds.actors a));
    meter = λ works' one. rw drawn (meter works' one);
    budget = rw drawn holds.budget;
    arbiters = ArbitersMatch-push w es e (h ++ ev ∷ []) (shows ev is) (FiresAlike-other w e ev is unfired) holds.arbiters;
    sites = sited;
    domains = domains;
    apart = still_apart w n lacks es e low holds next (λ x is'. subst (λ hand. has_task (puts_in hand) x ≡ true) on.hand is');
  })

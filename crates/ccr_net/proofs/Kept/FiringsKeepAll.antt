-- Firings, puts, takes, ends and posts, each as a whole step.
use Rattle.std.proofs.Common.{inl, inr, ◌≢◌, ◌||◌, ◌≡◌, ◌≤◌, ◌<◌, ℕ, suc, ◌+◌, Bool, true, false, List, [], ◌∷◌, ◌++◌, length, map, flat_map, take, Option, option_map, Some, None, refl, sym, arith, ap, ◌∙◌, subst, append-nil}
use Rattle.std.specs.Prelude.{◌==◌, if◌then◌else◌, nat_lt, option_to_list}
use Rattle.std.specs.FinSet as set
use Rattle.std.proofs.lemmas.Grind.{common_steps}
use Rattle.std.proofs.lemmas.List.{length-map}
use Rattle.std.proofs.lemmas.Bool.Decides.{nat_tests}
use Rattle.ccr_base.specs.declared.messages.Msg.{Msg}
use Rattle.ccr_base.specs.declared.messages.Sent.{Sent}
use Rattle.ccr_base.specs.declared.names.MsgId.{MsgId}
use Rattle.ccr_base.specs.declared.names.Place.{Place}
use Rattle.ccr_base.specs.declared.names.Place.TheVariants as places
use Rattle.ccr_base.specs.declared.names.Spot.{Spot}
use Rattle.ccr_base.specs.declared.names.TaskId.{TaskId}
use Rattle.ccr_base.specs.declared.patterns.Pattern.{Pattern}
use Rattle.ccr_base.specs.declared.patterns.Pred.TheVariants.{Any}
use Rattle.ccr_base.specs.declared.patterns.Slot.{Slot}
use Rattle.ccr_base.specs.declared.policies.Policy.{Policy}
use Rattle.ccr_base.specs.declared.policies.Policy.TheVariants.{Unbounded, Discard, Throttle}
use Rattle.ccr_base.specs.declared.tasks.Task.{Task}
use Rattle.ccr_base.specs.Names.{same_task, has_task, has_message}
use Rattle.ccr_wiring.specs.declared.parts.Parts.{Parts}
use Rattle.ccr_wiring.specs.Wirings.{Placement, placement, spots, policy_of, branch_of, segment_of, next_site}
use Rattle.ccr_model.specs.declared.history.Event.{Event}
use Rattle.ccr_model.specs.declared.history.Event.TheVariants as events
use Rattle.ccr_model.specs.declared.history.EndHow.{EndHow}
use Rattle.ccr_model.specs.declared.history.EndHow.TheVariants as ends
use Rattle.ccr_model.specs.Selection.{is_selection_of, are_first, are_oldest}
use Rattle.ccr_model.specs.Firings.{Firing, fired, firings, put, cut, ended, yielded_by, last_by}
use Rattle.ccr_model.specs.Legal.{IsAllowed}
use Rattle.ccr_model.specs.Posts.{posts, posts_of_task, held, taken}
use Rattle.ccr_model.specs.TaskData.{placement_of}
use Rattle.ccr_model.specs.Tasks.{queued, is_for_queue, is_branch_where, running_by}
use Rattle.ccr_base.proofs.Booleans.{same_number, eq-self, refuted, no_both}
use Rattle.ccr_model.proofs.FiredTasks.{IsFired, IsFired-append, fired_has}
use Rattle.ccr_model.proofs.LegalParts.{legal_push}
use Rattle.ccr_model.proofs.Members.{Among, Among-kept}
use Rattle.ccr_base.proofs.Options.{some_of, some_so}
use Rattle.ccr_model.proofs.PostNames.{AreNamed}
use Rattle.ccr_model.proofs.OneMoreEvent.{posts-push, put-push, cut-push}
use Rattle.ccr_base.proofs.SameNames.{same_task-self}
use Rattle.ccr_model.proofs.TaskSteps.{queued-fire}
use Rattle.ccr_model.proofs.FiringPlacements.{firing_with_placement}
use Rattle.ccr_model.proofs.TaskLists.{without-append, has_oldest, among_left, among_right, not_more, of_one, made_names}
use Rattle.ccr_model.proofs.WhoWasPut.{ArePlaced-legal, QueuedFacts, QueuedFacts-queued}
use Rattle.ccr_places.specs.declared.notes.Note.TheVariants as notes
use Rattle.ccr_places.specs.Queues as queues
use Rattle.ccr_places.specs.Queues.{queued_task}
use Rattle.ccr_claim.specs.declared.asks.Reply.TheVariants as replies
use Rattle.ccr_claim.specs.declared.plan.Had.{Had}
use Rattle.ccr_claim.specs.Plans.{any_slot, had_at, ports_in, in_pattern, names_of}
use Rattle.ccr_claim.specs.declared.asks.Asked.{Asked}
use Rattle.ccr_claim.specs.Attempts.{had_in}
use Rattle.ccr_wiring.specs.Takers.{is_for as is_branch_for}
use Rattle.ccr_actor.specs.Plans.{pattern_at, one_of, throttled}
use Rattle.ccr_actor.specs.Actors.{State, round, playing, resting, turn, settle, drive, go_on, after_in, name_at, spots_left, fire, begin_play, play_in, after_over, next_round, driving, settled, admit_too}
use Rattle.ccr_runs.specs.declared.entries.Entry.{Entry}
use Rattle.ccr_runs.specs.EntryRuns.{Lacks, state_of, port_at, notes_at, reply_of, reply_to, waits, queue_at}
use Rattle.ccr_runs.specs.Views.{view, cut_view, queue_of}
use Rattle.ccr_runs.specs.Visible.{visible, event_of, shown}
use Rattle.ccr_net.proofs.Parts.OneMoreEntry.{visible-push}
use Rattle.ccr_net.proofs.Parts.PortsAndHandsMatch.{ActorMatches, IsToPut, put_in, puts_in}
use Rattle.ccr_net.proofs.Parts.PostsKeepMarks.{has_name}
use Rattle.ccr_net.proofs.Parts.StepsKeepPorts.{PortsMatch-fire, PortsMatch-event, IsTouched}
use Rattle.ccr_net.proofs.Parts.StepsKeepActors.{ActorMatches-fire, ActorMatches-over, unfired, owed_later, stays_fire, puts_owed, puts_fired}
use Rattle.ccr_net.proofs.Parts.GotNamesStandAlone.{touched, taken_there, found_member, had_at-is, held_had}
use Rattle.ccr_net.proofs.Parts.SitesMatch.{SitesMatch, SitesMatch-other, SitesMatch-suspend}
use Rattle.ccr_net.proofs.Parts.ArbitersMatch.{ArbitersMatch-push, FiresAlike, FiresAlike-other}
use Rattle.ccr_net.proofs.Parts.QueuesMatch.{QueuesMatch-event, QueuesMatch-put, QueuesMatch-take, QueueChanges, drop_at-note, Takes}
use Rattle.ccr_net.proofs.Parts.BookedHasRoom.{QueuesHold-event, BookingsMatch-event, BookingsMatch-fire, BookingsMatch-put, BookingsMatch-take, IsBooked, IsBookedAt-stays, Stays, Stays-note, Stays-put, is_for}
use Rattle.ccr_net.proofs.Parts.TasksStartOnce.{AreStartedOnce-legal}
use Rattle.ccr_net.proofs.Parts.WorkMatches.{WorkMatches, WorkMatches-same, SaysSame, RunsTask, Idle, quiet_says, start_says, end_says}
use Rattle.ccr_net.proofs.Parts.MeterMatches.{MeterMatches-quiet, is_posting, is_shedding}
use Rattle.ccr_net.proofs.Parts.PhasesFitPlans.{SpotFits, Fits, slot_had}
use Rattle.ccr_net.proofs.Kept.WholeInvariant.{ActorHolds, Holds, Holds-kept, is_port_place, is_queue_place, is_meter_place, meter_at, works_of, queue_changes, same_under_way, same_stays, same_ports, same_queues, same_meter, hand_settles}
use Rattle.ccr_net.proofs.Kept.SilentStepsKeepAll.{drives}
use Rattle.ccr_net.proofs.Kept.WhatWiringsHave.{PlainFacts, IsEven}
use Rattle.ccr_net.proofs.Kept.EventsAreAllowed.{put_allowed, start_allowed}
use Rattle.ccr_net.proofs.Kept.ShownStepsKeepAll.{named_legal, ActorHolds-event, step_other}
use Rattle.ccr_net.proofs.Parts.GotIsASelection.{all_fit, in_ports, chosen, whole_ports, fired_other, none_put}
use Rattle.ccr_net.proofs.Kept.SilentStepsKeepAll.{still_apart}
use Rattle.ccr_net.proofs.Parts.EventsChangeDomains.{over_now}
use Rattle.ccr_net.proofs.Parts.DomainsMatch.{DomainsMatch, DomainsMatch-elsewhere, DomainsMatch-event, DomainsMatch-over}
use Rattle.ccr_claim.specs.Attempts.{put_asks}
use Rattle.ccr_base.specs.declared.tasks.Cut.{Cut}
use Rattle.ccr_base.specs.declared.tasks.How.{How}
use Rattle.ccr_model.specs.Rules.{needs_no_admission}
use Rattle.ccr_model.specs.Tasks.{is_over}
use Rattle.ccr_model.proofs.FiredTasks.{root_stays}
use Rattle.ccr_model.proofs.Queued.{queued-other, new_unput}
use Rattle.ccr_model.proofs.Allowing.{first-self}
use Rattle.ccr_model.proofs.RunningTasks.{starts, running_by-push, running_by-end}
use Rattle.ccr_model.proofs.NoPosts.{no_posts}

module _ (w : Parts) (n : ℕ) (first : PlainFacts w) (few : n ≤ 33) (lacks : Lacks) (es : List Entry) (e : Entry) (low : e.actor < n) (holds : Holds w n lacks es) where
  abbrev before : State
  before = state_of w lacks es e.actor

  abbrev h : List Event
  h = visible es

  -- ---- a firing

  -- the names of what the attempt got, where they are a selection of its pattern
  pub chosen_now : (pattern : Pattern) → IsEven pattern → Fits pattern [] (had_in before.phase) → is_selection_of (held h) pattern (names_of (in_pattern pattern (had_in before.phase))) ≡ true
  chosen_now pattern even fits = chosen w h (port_at es) e.actor before (named_legal w h holds.legal) holds.ports (holds.actors e.actor).claims (unfired w h (port_at es) e.actor before (holds.actors e.actor).claims) pattern even fits

  -- of a site, the oldest message
  pub oldest_now : (port : ℕ) → Fits (one_of port) [] (had_in before.phase) → are_oldest (held h port) (names_of (in_pattern (one_of port) (had_in before.phase))) ≡ true
  oldest_now port fits = of_had (had_in before.phase) refl fits
    where
      own : ActorMatches w h (port_at es) e.actor before
      own = (holds.actors e.actor).claims

      fresh : has_task (fired h) (name_at e.actor before) ≡ false
      fresh = unfired w h (port_at es) e.actor before own

      one_had : (d : Had) → Among d (had_in before.phase) → d.slot ≡ any_slot port 1 1 → are_oldest (held h port) (names_of (in_pattern (one_of port) (had_in before.phase))) ≡ true
      one_had d is slot =
          let at_port : d.slot.port ≡ port = ap (λ (x : Slot). x.port) slot in
          let any : d.slot.pred ≡ Any = ap (λ (x : Slot). x.pred) slot in
          let enough = own.had_enough d is in
          let least : d.slot.least ≡ 1 = ap (λ (x : Slot). x.least) slot in
          let most : d.slot.most ≡ 1 = ap (λ (x : Slot). x.most) slot in
          let one : length d.messages ≡ 1 = omega (arith, enough.0, enough.1, least, most) in
          let got : had_at (had_in before.phase) port ≡ d.messages = ap (had_at (had_in before.phase)) (sym at_port) ∙ had_at-is w h (port_at es) e.actor before (named_legal w h holds.legal) holds.ports own fresh d is in
          let whole : in_pattern (one_of port) (had_in before.phase) ≡ d.messages = in_ports (one_of port) (had_in before.phase) ∙ append-nil (had_at (had_in before.phase) port) ∙ got in
          let taken_so : take (length d.messages) (held h port) ≡ d.messages = ap (λ q. take (length d.messages) (held h q)) (sym at_port) ∙ ap (take (length d.messages)) (held_had w h (port_at es) e.actor before (named_legal w h holds.legal) holds.ports own fresh d is ∙ sym (all_fit d.slot.pred (port_at es d.slot.port).items any)) ∙ own.had_marked d is in
          let count : (length (names_of d.messages) == 1) ≡ true = (let m = length-map d.messages (λ (x : Msg). x.id) in grind (arith, nat_tests, one, m)) in
          let firsts : are_first (held h port) (names_of d.messages) ≡ true = subst (λ ms. are_first (held h port) (names_of ms) ≡ true) taken_so (first-self (held h port) (length d.messages)) in
          rw (whole, count) firsts

      of_had : (had : List Had) → had_in before.phase ≡ had → Fits (one_of port) [] (had_in before.phase) → are_oldest (held h port) (names_of (in_pattern (one_of port) (had_in before.phase))) ≡ true
      of_had [] is so = absurd (let none : map slot_had [] ++ [] ≡ any_slot port 1 1 ∷ [] = subst (λ xs. map slot_had xs ++ [] ≡ any_slot port 1 1 ∷ []) is so in cc)
      of_had (d ∷ []) is so = one_had d (subst (Among d) (sym is) (inl refl)) (inside (subst (λ xs. map slot_had xs ++ [] ≡ any_slot port 1 1 ∷ []) is so))
        where
          inside : d.slot ∷ [] ≡ any_slot port 1 1 ∷ [] → d.slot ≡ any_slot port 1 1
          inside e' = cc
      of_had (d ∷ x ∷ more) is so = absurd (longer (subst (λ xs. map slot_had xs ++ [] ≡ any_slot port 1 1 ∷ []) is so))
        where
          longer : d.slot ∷ x.slot ∷ (map slot_had more ++ []) ≡ any_slot port 1 1 ∷ [] → ⊥
          longer e' = absurd (let counts : length (d.slot ∷ x.slot ∷ (map slot_had more ++ [])) ≡ 1 = ap length e' in omega (arith, counts))

  -- what a firing at the spot shows at its place
  pub record FiresAt (spot : Spot) (more : List Spot) : Type 0 where
    pub place : Place
    pub there : e.place ≡ place
    pub no_port : is_port_place place ≡ false
    pub no_queue : is_queue_place place ≡ false
    pub no_meter : is_meter_place place ≡ false
    pub cuts : List TaskId
    pub free : waits w spot ≡ false → needs_no_admission w spot ≡ true
    pub note : e.note ≡ notes.Fired (name_at e.actor before) spot (names_of (in_pattern (pattern_at w spot) (had_in before.phase))) cuts
    pub turns : turn before ≡ drive spot more
    pub even : IsEven (pattern_at w spot)
    pub fits : Fits (pattern_at w spot) [] (had_in before.phase)
    pub allowed : IsAllowed w h (events.Fire (name_at e.actor before) spot (names_of (in_pattern (pattern_at w spot) (had_in before.phase))) cuts)
    pub booked : (q : ℕ) → is_branch_where w (is_for q) spot ≡ true → set.contains (queue_at w es q).fresh (name_at e.actor before) ≡ true
    pub arbiters : FiresAlike w e (event_of e)
    pub sites : SitesMatch (h ++ events.Fire (name_at e.actor before) spot (names_of (in_pattern (pattern_at w spot) (had_in before.phase))) cuts ∷ []) (es ++ e ∷ [])
    pub domains : DomainsMatch w (h ++ events.Fire (name_at e.actor before) spot (names_of (in_pattern (pattern_at w spot) (had_in before.phase))) cuts ∷ []) (es ++ e ∷ [])

  pub step_fire : (spot : Spot) (more : List Spot) → FiresAt spot more → Holds w n lacks (es ++ e ∷ [])
  step_fire spot more at_spot = Holds-kept w n lacks es e next (h ++ event ∷ []) holds (record {
    shows = shows_so;
    goes = rw (at_spot.turns, replied) refl;
    legal = legal_push w [] h event holds.legal at_spot.allowed;
    ports = rw same (PortsMatch-fire h (port_at es) t spot ms cs named fresh (subst (λ xs. (q : ℕ) → IsTouched h (port_at es) t (names_of xs) q) (sym in_order) (touched w h (port_at es) e.actor before named holds.ports own fresh (ports_in (pattern_at w spot)) (whole_ports (pattern_at w spot) at_spot.even (had_in before.phase) at_spot.fits))) (subst (λ xs. (name : MsgId) → has_message (names_of xs) name ≡ true → has_name (posts h) name ≡ true) (sym in_order) (taken_there w h (port_at es) e.actor before named holds.ports own fresh (ports_in (pattern_at w spot)))) holds.ports);
    queues = rw (same_queues w es e at_spot.place at_spot.there at_spot.no_queue) (record { listed = QueuesMatch-event w h event (queue_at w es) (λ q. queued-fire w h q t spot ms cs unput) holds.queues.listed; booked = BookingsMatch-fire w h t spot ms cs (queue_at w es) unput at_spot.booked holds.queues.listed holds.queues.booked });
    under_way = same_under_way w lacks es e at_spot.place next at_spot.there at_spot.no_queue tt;
    own = rw same (record {
      claims = ActorMatches-fire w h (port_at es) e.actor before spot spot more ms handed cut_now cs holds.legal (made_names (cut_view w (h ++ event ∷ [])) (λ (c : Cut). c.task) (λ u. refl) cs) (whole (waits w spot) refl) at_spot.allowed unput own;
      work = WorkMatches-same w h event e.actor before.work (says e.actor) (holds.actors e.actor).work;
      fits = record { spots_so = λ x is. driven x (nat_lt (before.fired + 1) 32768) is; phase_so = tt };
    });
    others = λ a other. rw same (ActorHolds-event w n lacks es e low holds event (port_at es) a (state_of w lacks es a) (λ u own_u. fired_other h t u spot ms cs (λ is. other (is ∙ own_u))) (λ u there. stays_fire w h t spot ms cs u holds.legal at_spot.allowed) (says a) (holds.actors a));
    meter = λ works' one. rw (same_meter w es e at_spot.place at_spot.there at_spot.no_meter) (MeterMatches-quiet w n h (h ++ event ∷ []) (meter_at w es).drawn e.actor (works_of w lacks es) works' before.work low (rw (posts-push, append-nil) refl) refl (λ is. is) one holds.meter);
    budget = rw (same_meter w es e at_spot.place at_spot.there at_spot.no_meter) holds.budget;
    arbiters = ArbitersMatch-push w es e (h ++ event ∷ []) shows_so at_spot.arbiters holds.arbiters;
    sites = at_spot.sites;
    domains = at_spot.domains;
    apart = λ a other u is. refuted (has_task (puts_in (state_of w lacks es a).hand) u) (λ also. new_put (waits w spot) u (sym (ap (λ ts. has_task ts u) (puts_fired t (had_in before.phase) handed cut_now)) ∙ is) (puts_owed w h (port_at es) a (state_of w lacks es a) u (holds.actors a).claims also).fires);
  })
    where
      t : TaskId
      t = name_at e.actor before

      cs : List TaskId
      cs = at_spot.cuts

      ms : List MsgId
      ms = names_of (in_pattern (pattern_at w spot) (had_in before.phase))

      in_order : in_pattern (pattern_at w spot) (had_in before.phase) ≡ flat_map (had_at (had_in before.phase)) (ports_in (pattern_at w spot))
      in_order = in_ports (pattern_at w spot) (had_in before.phase)

      event : Event
      event = events.Fire t spot ms cs

      task : Task
      task = view w (h ++ event ∷ []) t

      own : ActorMatches w h (port_at es) e.actor before
      own = (holds.actors e.actor).claims

      named : AreNamed (posts h)
      named = named_legal w h holds.legal

      fresh : has_task (fired h) t ≡ false
      fresh = unfired w h (port_at es) e.actor before own

      unput : has_task (put h) t ≡ false
      unput = new_unput w h t holds.legal fresh

      shows_so : visible (es ++ e ∷ []) ≡ h ++ event ∷ []
      shows_so = visible-push es e ∙ ap (λ m. visible es ++ shown e.actor m) at_spot.note

      same : port_at (es ++ e ∷ []) ≡ port_at es
      same = same_ports es e at_spot.place at_spot.there at_spot.no_port

      handed : Option Task
      handed = if waits w spot then None else Some task

      cut_now : List Cut
      cut_now = map (cut_view w (h ++ event ∷ [])) cs

      next : State
      next = fire w e.actor before spot more handed cut_now

      replied : reply_of w es e ≡ replies.Fired handed cut_now
      replied = ap (λ g. reply_to w g (notes_at es e.place) e.note) shows_so ∙ ap (reply_to w (h ++ event ∷ []) (notes_at es e.place)) at_spot.note

      whole : (c : Bool) → waits w spot ≡ c → (x : Task) → (if c then None else Some task) ≡ Some x → (x.id ≡ t) × (x.queue ≡ queue_of w (h ++ event ∷ []) t) × (needs_no_admission w spot ≡ true)
      whole true waits_so x is = absurd (cc)
      whole false waits_so x is = let one : task ≡ x = cc in subst (λ (y : Task). (y.id ≡ t) × (y.queue ≡ queue_of w (h ++ event ∷ []) t) × (needs_no_admission w spot ≡ true)) one (refl, refl, at_spot.free waits_so)

      -- who is handed out is new
      new_put : (c : Bool) (u : TaskId) → has_task (puts_in (put_asks (if c then None else Some task))) u ≡ true → IsFired h u → ⊥
      new_put true u there old = absurd (cc)
      new_put false u there old = no_both (subst (λ v. has_task (fired h) v ≡ true) (of_one t u there) (fired_has h u old)) fresh

      says : (a : ℕ) → SaysSame h event a
      says a = quiet_says h event a (rw (posts-push, append-nil) refl) (λ c. refl) refl

      driven : (x : Spot) (c : Bool) → Among x (if c then spot ∷ more else []) → SpotFits w x
      driven x true is = (holds.actors e.actor).fits.spots_so x (subst (Among x) (sym (drives w n lacks es e low holds spot more at_spot.turns).spots_so) is)
      driven x false is = absurd is

  -- ---- a put

  pub step_put : (q : ℕ) (t : TaskId) (x : Asked) (more : List Asked) → e.place ≡ places.Queue q → queues.may_put (queue_at w es q) t ≡ true → e.note ≡ notes.Put t (queues.put_note (queue_at w es q)) → turn before ≡ settle x more → put_in x.ask ≡ t ∷ [] → IsToPut w h t → q ≡ queue_of w h t → Holds w n lacks (es ++ e ∷ [])
  step_put q t x more place may note turns is_put to_put at_queue = Holds-kept w n lacks es e (next dropped) (h ++ event ∷ []) holds (record {
    shows = shows_so;
    goes = rw (shows_so, turns, note) refl;
    legal = legal_push w [] h event holds.legal (put_allowed w h t d to_put (drop_at-note w h (queue_at w es) q t with_placement.0 holds.queues.listed (rw fires.1 with_placement.1) at_its));
    ports = rw same (PortsMatch-event h event (port_at es) (rw (posts-push, append-nil) refl) taken_so fired_so holds.ports);
    queues = record { listed = QueuesMatch-put w h (queue_at w es) (queue_at w (es ++ e ∷ [])) q t holds.legal unput at_own changes holds.queues.listed; booked = BookingsMatch-put w h (queue_at w es) (queue_at w (es ++ e ∷ [])) q t d may unput to_put.uncut changes holds.queues.booked };
    under_way = record { own = booked_of dropped; others = λ a other. Stays-put (queue_at w es) (queue_at w (es ++ e ∷ [])) q t (name_at a (state_of w lacks es a)) d changes (new a) };
    own = rw same (of_dropped dropped (over d refl));
    others = λ a other. rw same (ActorHolds-event w n lacks es e low holds event (port_at es) a (state_of w lacks es a) (λ u own_u. ap (λ ts. has_task ts u) fired_so) (λ u there is. (subst (λ ts. has_task ts u ≡ false) (sym (put-push h event)) (not_more (put h) (t ∷ []) u is.unput (refuted (has_task (t ∷ []) u) (λ one. no_both (subst (λ v. has_task (puts_in (state_of w lacks es a).hand) v ≡ true) (of_one t u one) there) (holds.apart e.actor a other t mine)))), subst (λ ts. has_task ts u ≡ false) (sym (cut-push h event ∙ append-nil (cut h))) is.uncut)) (says a) (holds.actors a));
    meter = λ works' one. rw (same_meter w es e (places.Queue q) place refl) (MeterMatches-quiet w n h (h ++ event ∷ []) (meter_at w es).drawn e.actor (works_of w lacks es) works' (next dropped).work low (rw (posts-push, append-nil) refl) (ap is_posting (same_work dropped)) (λ is. sym (ap is_shedding (same_work dropped)) ∙ is) one holds.meter);
    budget = rw (same_meter w es e (places.Queue q) place refl) holds.budget;
    arbiters = ArbitersMatch-push w es e (h ++ event ∷ []) shows_so (FiresAlike-other w e event (rw note refl) refl) holds.arbiters;
    sites = SitesMatch-other w es e event holds.legal (rw note refl) refl refl holds.sites;
    domains = DomainsMatch-elsewhere w (h ++ event ∷ []) es e (places.Queue q) place refl (DomainsMatch-event w h event es holds.legal refl refl holds.domains);
    apart = still_apart w n lacks es e low holds (next dropped) (fewer dropped);
  })
    where
      fires : IsFired h t
      fires = to_put.fires

      unput : has_task (put h) t ≡ false
      unput = to_put.unput

      d : Option TaskId
      d = queues.put_note (queue_at w es q)

      event : Event
      event = events.Put t d

      changes : QueueChanges (queue_at w es) (queue_at w (es ++ e ∷ [])) q (notes.Put t d)
      changes = subst (QueueChanges (queue_at w es) (queue_at w (es ++ e ∷ [])) q) note (queue_changes w es e q place)

      -- it fired, so is nobody's attempt now
      new : (a : ℕ) → t ≢ name_at a (state_of w lacks es a)
      new a is = no_both (subst (λ u. has_task (fired h) u ≡ true) is (fired_has h t fires)) (unfired w h (port_at es) a (state_of w lacks es a) (holds.actors a).claims)

      stays : Stays (queue_at w es) (queue_at w (es ++ e ∷ [])) (name_at e.actor before)
      stays = Stays-put (queue_at w es) (queue_at w (es ++ e ∷ [])) q t (name_at e.actor before) d changes (new e.actor)

      dropped : Option Task
      dropped = option_map (view w (h ++ event ∷ [])) d

      next : Option Task → State
      next o = settled w before more (replies.Dropped o)

      shows_so : visible (es ++ e ∷ []) ≡ h ++ event ∷ []
      shows_so = rw (visible-push es e, note) refl

      own : ActorMatches w h (port_at es) e.actor before
      own = (holds.actors e.actor).claims

      same_work : (o : Option Task) → (next o).work ≡ before.work
      same_work None = refl
      same_work (Some task) = refl

      booked_of : (o : Option Task) → IsBooked w (queue_at w (es ++ e ∷ [])) e.actor (next o)
      booked_of None = IsBookedAt-stays w (queue_at w es) (queue_at w (es ++ e ∷ [])) (name_at e.actor before) before.phase before.spots stays (holds.under_way e.actor)
      booked_of (Some task) = IsBookedAt-stays w (queue_at w es) (queue_at w (es ++ e ∷ [])) (name_at e.actor before) before.phase before.spots stays (holds.under_way e.actor)

      -- the root of the task that is dropped is over
      over : (o : Option TaskId) → d ≡ o → (task : Task) → option_map (view w (h ++ event ∷ [])) d ≡ Some task → is_over (h ++ event ∷ []) task.root ≡ true
      over None none task is = absurd (let nothing : option_map (view w (h ++ event ∷ [])) None ≡ Some task = subst (λ p. option_map (view w (h ++ event ∷ [])) p ≡ Some task) none is in cc)
      over (Some y) some task is = some_so (λ (z : Task). is_over (h ++ event ∷ []) z.root ≡ true) (subst (λ p. option_map (view w (h ++ event ∷ [])) p ≡ Some task) some is) (over_now h event y (subst (λ p. has_task (option_to_list p) y ≡ true) (sym some) (ap (λ b. b || false) (same_task-self y))))

      same : port_at (es ++ e ∷ []) ≡ port_at es
      same = same_ports es e (places.Queue q) place refl

      hand : before.hand ≡ x ∷ more
      hand = hand_settles before.is_short before.hand before.domains (spots_left before) x more turns

      mine : has_task (puts_in before.hand) t ≡ true
      mine = rw hand (among_left (put_in x.ask) (puts_in more) t (subst (λ ts. has_task ts t ≡ true) (sym is_put) (ap (λ b. b || false) (same_task-self t))))

      fewer : (o : Option Task) (u : TaskId) → has_task (puts_in (next o).hand) u ≡ true → has_task (puts_in before.hand) u ≡ true
      fewer None u is = rw hand (among_right (put_in x.ask) (puts_in more) u is)
      fewer (Some y) u is = rw hand (among_right (put_in x.ask) (puts_in more) u is)

      left : length (puts_in more) ≤ 0
      left = fewer (put_in x.ask) is_put (rw hand at own.one_put)
        where
          fewer : (ts : List TaskId) → ts ≡ t ∷ [] → length (ts ++ puts_in more) ≤ 1 → length (puts_in more) ≤ 0
          fewer ts is le = less (subst (λ us. length (us ++ puts_in more) ≤ 1) is le)
            where
              less : suc (length (puts_in more)) ≤ 1 → length (puts_in more) ≤ 0
              less le = omega (arith, le)

      fired_so : fired (h ++ event ∷ []) ≡ fired h
      fired_so = grind (arith, common_steps)

      taken_so : taken (h ++ event ∷ []) ≡ taken h
      taken_so = grind (arith, common_steps)

      says : (a : ℕ) → SaysSame h event a
      says a = quiet_says h event a (rw (posts-push, append-nil) refl) (λ c. refl) refl

      with_placement : (s : Placement) × (placement w (branch_of (fires.0).spot) ≡ Some s)
      with_placement = firing_with_placement w h holds.legal fires.0 (found_member (λ (f : Firing). same_task f.task t) (firings h) fires.0 fires.1).0

      at_its : with_placement.0.branch.queue ≡ q
      at_its = sym (at_queue ∙ rw (fires.1, with_placement.1) refl)

      at_own : (k : ℕ) → is_for_queue w h k t ≡ (q == k)
      at_own k = rw (at_queue, fires.1, with_placement.1) refl

      base : ActorMatches w (h ++ event ∷ []) (port_at es) e.actor (record before { hand = more })
      base = record {
        fired_below = λ u is f. own.fired_below u is (sym (ap (λ ts. has_task ts u) fired_so) ∙ f);
        claims_below = own.claims_below;
        claims_had = own.claims_had;
        had_claimed = own.had_claimed;
        had_marked = own.had_marked;
        had_enough = own.had_enough;
        owed = λ y is. owed_later w h event e.actor before.attempt holds.legal (λ u own_u. ap (λ ts. has_task ts u) fired_so) y.place y.ask (λ u there. absurd (let nobody : has_task (put_in y.ask) u ≡ false = ap (λ ts. has_task ts u) (none_put more left y is) in cc)) (own.owed y (rw hand (inr is)));
        one_put = omega (arith, left);
      }

      of_dropped : (o : Option Task) → ((task : Task) → o ≡ Some task → is_over (h ++ event ∷ []) task.root ≡ true) → ActorHolds w (h ++ event ∷ []) (port_at es) e.actor (next o)
      of_dropped None known = record {
        claims = base;
        work = WorkMatches-same w h event e.actor before.work (says e.actor) (holds.actors e.actor).work;
        fits = record { spots_so = (holds.actors e.actor).fits.spots_so; phase_so = (holds.actors e.actor).fits.phase_so };
      }
      of_dropped (Some task) known = record {
        claims = ActorMatches-over w (h ++ event ∷ []) (port_at es) e.actor (record before { hand = more }) task (admit_too w before task) (known task refl) base;
        work = WorkMatches-same w h event e.actor before.work (says e.actor) (holds.actors e.actor).work;
        fits = record { spots_so = (holds.actors e.actor).fits.spots_so; phase_so = (holds.actors e.actor).fits.phase_so };
      }

  -- ---- a take that gives a task

  pub step_start : (q : ℕ) (t : TaskId) → e.place ≡ places.Queue q → e.note ≡ notes.Take (Some t) → Takes (queue_at w es q) t → turn before ≡ go_on → Idle w h e.actor → is_posting before.work ≡ false → is_shedding before.work ≡ false → after_in w e.actor before (turn before) (reply_of w es e) ≡ begin_play w before q (view w (h ++ events.Start t e.actor ∷ []) t) → Holds w n lacks (es ++ e ∷ [])
  step_start q t place note found turns idle unposting unshedding goes =
      step_other w n lacks es e low holds event (places.Queue q) (begin_play w before q task) place (rw note refl) refl (same_ports es e (places.Queue q) place refl) turns goes
      (record { hand = refl; phase = refl; attempt = refl; spots_so = λ x is. throttled_fit (policy_of w q) x is })
      (rw (posts-push, append-nil) refl) taken_so fired_so (rw (put-push, append-nil) refl)
      (start_allowed w h t e.actor its.0 (map queued_task found.others) its.1 (ap (queued w h) (same_number its.0.branch.queue q its.2) ∙ list) idle.worker (omega (arith, low, few)) idle.none)
      (record {
        listed = QueuesMatch-take w h (queue_at w es) (queue_at w (es ++ e ∷ [])) q e.actor t holds.legal found changes holds.queues.listed;
        booked = BookingsMatch-event w h event (queue_at w (es ++ e ∷ [])) refl (BookingsMatch-take w h (queue_at w es) (queue_at w (es ++ e ∷ [])) q (Some t) changes holds.queues.booked);
      })
      (λ a. Stays-note (queue_at w es) (queue_at w (es ++ e ∷ [])) q (notes.Take (Some t)) (name_at a (state_of w lacks es a)) changes (λ k is. is))
      (record { worker = idle.worker; alone = alone; fires = IsFired-more; as_seen = refl; index_so = sym none_posted; left_so = refl }, refl)
      (λ a other. start_says h t a e.actor other)
      (same_meter w es e (places.Queue q) place refl)
      (λ works' one. MeterMatches-quiet w n h (h ++ event ∷ []) (meter_at w es).drawn e.actor (works_of w lacks es) works' (playing task 0 (play_in w task)) low (rw (posts-push, append-nil) refl) (sym unposting) (λ is. absurd (cc)) one holds.meter)
      (SitesMatch-other w es e event holds.legal (rw note refl) refl refl holds.sites)
      (DomainsMatch-elsewhere w (h ++ event ∷ []) es e (places.Queue q) place refl (DomainsMatch-event w h event es holds.legal refl refl holds.domains))
    where
      event : Event
      event = events.Start t e.actor

      task : Task
      task = view w (h ++ event ∷ []) t

      changes : QueueChanges (queue_at w es) (queue_at w (es ++ e ∷ [])) q (notes.Take (Some t))
      changes = subst (QueueChanges (queue_at w es) (queue_at w (es ++ e ∷ [])) q) note (queue_changes w es e q place)

      -- the branches of a throttle queue are spots of the wiring
      throttled_fit : (p : Policy) (x : Spot) → Among x (throttled w q p) → SpotFits w x
      throttled_fit Unbounded x is = absurd is
      throttled_fit (Discard k) x is = absurd is
      throttled_fit (Throttle k) x is = first.places_so x (Among-kept (is_branch_for w q) (spots w) x is)

      list : queued w h q ≡ t ∷ map queued_task found.others
      list = sym (holds.queues.listed.queued_so q) ∙ rw found.queued_so (ap (λ x. x ∷ map queued_task found.others) found.is_first)

      facts : QueuedFacts w h q t
      facts = QueuedFacts-queued w h q t (has_oldest (queued w h q) (map queued_task found.others) t list)

      its : (s : Placement) × (placement_of w h t ≡ Some s) × ((s.branch.queue == q) ≡ true)
      its = some_of (λ (s : Placement). s.branch.queue == q) (placement_of w h t) facts.for_queue

      fires : IsFired h t
      fires = (ArePlaced-legal w h holds.legal).all_fired t facts.put_so

      IsFired-more : IsFired (h ++ event ∷ []) t
      IsFired-more = IsFired-append h (event ∷ []) t fires

      fired_so : fired (h ++ event ∷ []) ≡ fired h
      fired_so = grind (arith, common_steps)

      taken_so : taken (h ++ event ∷ []) ≡ taken h
      taken_so = grind (arith, common_steps)

      not_ended : has_task (ended h) t ≡ false
      not_ended = refuted (has_task (ended h) t) (λ is. no_both ((AreStartedOnce-legal w h holds.legal).ended_so t is) facts.not_started)

      alone : running_by (h ++ event ∷ []) e.actor ≡ t ∷ []
      alone = running_by-push h event e.actor ∙ rw (eq-self e.actor, append-nil (ended h), without-append (starts h e.actor) (t ∷ []) (ended h), not_ended) (ap (λ ts. ts ++ t ∷ []) idle.none)

      none_posted : posts_of_task (h ++ event ∷ []) t ≡ 0
      none_posted = rw (posts-push, append-nil) (no_posts w h t holds.legal facts.not_started)

  -- ---- an end

  pub step_end : (i : ℕ) (task : Task) (index : ℕ) (left : List Sent) (how : EndHow) (said : How) → e.note ≡ notes.Over task.id task.root said → e.place ≡ places.Arbiter i → event_of e ≡ events.End task.id how ∷ [] → yielded_by (events.End task.id how) ≡ [] → turn before ≡ go_on → RunsTask w h e.actor task index left → is_posting before.work ≡ false → after_in w e.actor before (turn before) (reply_of w es e) ≡ after_over w before task → IsAllowed w h (events.End task.id how) → Holds w n lacks (es ++ e ∷ [])
  step_end i task index left how said note there is last turns run unposting goes allowed =
      step_other w n lacks es e low holds event (places.Arbiter i) (after_over w before task) there is refl (same_ports es e (places.Arbiter i) there refl) turns goes
      (record { hand = refl; phase = refl; attempt = refl; spots_so = (holds.actors e.actor).fits.spots_so })
      (rw (posts-push, append-nil) refl) taken_so fired_so (rw (put-push, append-nil) refl) allowed
      (rw (same_queues w es e (places.Arbiter i) there refl) (QueuesHold-event w h event (queue_at w es) refl (λ q. queued-other w h q event refl refl refl refl) holds.queues))
      (same_stays w es e (places.Arbiter i) there refl (λ a. name_at a (state_of w lacks es a)))
      (rests (nat_lt before.taken 32768))
      (λ a other. end_says h task.id how a e.actor (AreStartedOnce-legal w h holds.legal) run.alone other)
      (same_meter w es e (places.Arbiter i) there refl)
      (λ works' one. MeterMatches-quiet w n h (h ++ event ∷ []) (meter_at w es).drawn e.actor (works_of w lacks es) works' (next_round before.taken) low (rw (posts-push, append-nil) refl) (unposted (nat_lt before.taken 32768) ∙ sym unposting) (λ shed. absurd (unshed (nat_lt before.taken 32768) shed)) one holds.meter)
      (SitesMatch-other w es e event holds.legal is refl last holds.sites)
      (DomainsMatch-over w (h ++ event ∷ []) es e i task.id task.root said there note over (DomainsMatch-event w h event es holds.legal refl refl holds.domains))
    where
      event : Event
      event = events.End task.id how

      ends_root : (k : EndHow) → yielded_by (events.End task.id k) ≡ [] → has_task (last_by (events.End task.id k)) task.id ≡ true
      ends_root ends.Done now = ap (λ b. b || false) (same_task-self task.id)
      ends_root (ends.Failed v) now = ap (λ b. b || false) (same_task-self task.id)
      ends_root ends.Shed now = ap (λ b. b || false) (same_task-self task.id)
      ends_root ends.Yield now = absurd (cc)

      over : is_over (h ++ event ∷ []) task.root ≡ true
      over = subst (λ r. is_over (h ++ event ∷ []) r ≡ true) (root_stays h (event ∷ []) task.id run.fires ∙ sym (ap (λ (t : Task). t.root) run.as_seen)) (over_now h event task.id (ends_root how last))

      fired_so : fired (h ++ event ∷ []) ≡ fired h
      fired_so = grind (arith, common_steps)

      taken_so : taken (h ++ event ∷ []) ≡ taken h
      taken_so = grind (arith, common_steps)

      idle : Idle w (h ++ event ∷ []) e.actor
      idle = record { worker = run.worker; none = running_by-end h task.id how e.actor ∙ rw (run.alone, same_task-self task.id) refl }

      rests : (c : Bool) → WorkMatches w (h ++ event ∷ []) e.actor (if c then round else resting)
      rests true = idle
      rests false = tt

      unposted : (c : Bool) → is_posting (if c then round else resting) ≡ false
      unposted true = refl
      unposted false = refl

      unshed : (c : Bool) → is_shedding (if c then round else resting) ≡ true → ⊥
      unshed true is = absurd (cc)
      unshed false is = absurd (cc)

  -- ---- a suspension

  pub step_suspend : (task : Task) (index : ℕ) (left : List Sent) → e.place ≡ places.Site (branch_of task.spot) (segment_of task.spot) → e.note ≡ notes.Suspend task.id → turn before ≡ go_on → RunsTask w h e.actor task index left → is_posting before.work ≡ false → after_in w e.actor before (turn before) (reply_of w es e) ≡ record (driving before (next_site task.spot ∷ [])) { work = next_round before.taken } → IsAllowed w h (events.End task.id ends.Yield) → SpotFits w (next_site task.spot) → Holds w n lacks (es ++ e ∷ [])
  step_suspend task index left there note turns run unposting goes allowed there_is =
      step_other w n lacks es e low holds event here next there (rw note refl) refl (same_ports es e here there refl) turns goes
      (record { hand = refl; phase = refl; attempt = refl; spots_so = λ x is. one_spot x is })
      (rw (posts-push, append-nil) refl) taken_so fired_so (rw (put-push, append-nil) refl) allowed
      (rw (same_queues w es e here there refl) (QueuesHold-event w h event (queue_at w es) refl (λ q. queued-other w h q event refl refl refl refl) holds.queues))
      (same_stays w es e here there refl (λ a. name_at a (state_of w lacks es a)))
      (rests (nat_lt before.taken 32768))
      (λ a other. end_says h task.id ends.Yield a e.actor (AreStartedOnce-legal w h holds.legal) run.alone other)
      (same_meter w es e here there refl)
      (λ works' one. MeterMatches-quiet w n h (h ++ event ∷ []) (meter_at w es).drawn e.actor (works_of w lacks es) works' (next_round before.taken) low (rw (posts-push, append-nil) refl) (unposted (nat_lt before.taken 32768) ∙ sym unposting) (λ shed. absurd (unshed (nat_lt before.taken 32768) shed)) one holds.meter)
      (SitesMatch-suspend w es e (branch_of task.spot) (segment_of task.spot) task.id run.fires holds.legal allowed (ap branch_of spot_so) (ap segment_of spot_so) there note holds.sites)
      (DomainsMatch-elsewhere w (h ++ event ∷ []) es e here there refl (DomainsMatch-event w h event es holds.legal refl refl holds.domains))
    where
      event : Event
      event = events.End task.id ends.Yield

      here : Place
      here = places.Site (branch_of task.spot) (segment_of task.spot)

      next : State
      next = record (driving before (next_site task.spot ∷ [])) { work = next_round before.taken }

      spot_so : run.fires.0.spot ≡ task.spot
      spot_so = sym (ap (λ (t : Task). t.spot) run.as_seen ∙ rw run.fires.1 refl)

      one_spot : (x : Spot) → Among x (next_site task.spot ∷ []) → SpotFits w x
      one_spot x (inl e') = subst (SpotFits w) (sym e') there_is
      one_spot x (inr none) = absurd none

      fired_so : fired (h ++ event ∷ []) ≡ fired h
      fired_so = grind (arith, common_steps)

      taken_so : taken (h ++ event ∷ []) ≡ taken h
      taken_so = grind (arith, common_steps)

      idle : Idle w (h ++ event ∷ []) e.actor
      idle = record { worker = run.worker; none = running_by-end h task.id ends.Yield e.actor ∙ rw (run.alone, same_task-self task.id) refl }

      rests : (c : Bool) → WorkMatches w (h ++ event ∷ []) e.actor (if c then round else resting)
      rests true = idle
      rests false = tt

      unposted : (c : Bool) → is_posting (if c then round else resting) ≡ false
      unposted true = refl
      unposted false = refl

      unshed : (c : Bool) → is_shedding (if c then round else resting) ≡ true → ⊥
      unshed true is = absurd (cc)
      unshed false is = absurd (cc)

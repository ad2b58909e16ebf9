-- Each ask of a run meets the condition of its place.
use Rattle.std.proofs.Common.{inl, inr, ◌≡◌, ◌≢◌, ◌≤◌, ◌<◌, ℕ, ◌+◌, ◌^◌, true, false, List, [], ◌∷◌, length, Option, Some, None, refl, sym, arith, ap, ◌∙◌, subst}
use Rattle.std.specs.Prelude.{is_some, ◌==◌, nat_lt, nat_le}
use Rattle.std.specs.List.{slice_get}
use Rattle.std.specs.Option.{option_map_or}
use Rattle.std.proofs.lemmas.Bool.Decides.{nat_tests}
use Rattle.ccr_base.specs.declared.messages.Msg.{Msg}
use Rattle.ccr_base.specs.declared.messages.Sent.{Sent}
use Rattle.ccr_base.specs.declared.names.Place.{Place}
use Rattle.ccr_base.specs.declared.names.Place.TheVariants as places
use Rattle.ccr_base.specs.declared.names.Spot.{Spot}
use Rattle.ccr_base.specs.declared.names.TaskId.{TaskId}
use Rattle.ccr_base.specs.declared.patterns.Slot.{Slot}
use Rattle.ccr_base.specs.declared.tasks.How.{How}
use Rattle.ccr_base.specs.declared.tasks.How.TheVariants as hows
use Rattle.ccr_base.specs.declared.tasks.Task.{Task}
use Rattle.ccr_base.specs.Names.{same_task, has_task}
use Rattle.ccr_handler.specs.declared.segments.Play.{Play}
use Rattle.ccr_handler.specs.declared.segments.PlayEnd.{PlayEnd}
use Rattle.ccr_handler.specs.declared.segments.PlayEnd.TheVariants as plays
use Rattle.ccr_wiring.specs.declared.parts.ArbiterPart.{ArbiterPart}
use Rattle.ccr_wiring.specs.declared.parts.Kind.{Kind}
use Rattle.ccr_wiring.specs.declared.parts.Kind.TheVariants as kinds
use Rattle.ccr_wiring.specs.declared.parts.Parts.{Parts}
use Rattle.ccr_wiring.specs.Valid.{IsValid, IsSound}
use Rattle.ccr_wiring.proofs.Soundness.{sound}
use Rattle.ccr_model.specs.Firings.{fired}
use Rattle.ccr_base.proofs.Booleans.{eq-self, refuted}
use Rattle.ccr_model.proofs.Members.{Among, Among-left}
use Rattle.ccr_model.proofs.Roots.{running_works}
use Rattle.ccr_base.proofs.SameNames.{same_task-is, has_task-last}
use Rattle.ccr_base.proofs.Options.{some-below, some_so}
use Rattle.ccr_places.specs.declared.claims.StandingClaim.{StandingClaim}
use Rattle.ccr_places.specs.declared.notes.Note.{Note}
use Rattle.ccr_places.specs.Ports.{is_claimed_by}
use Rattle.ccr_places.specs.Ports as ports
use Rattle.ccr_places.specs.Queues as queues
use Rattle.ccr_claim.specs.declared.asks.Ask.{Ask}
use Rattle.ccr_claim.specs.declared.asks.Ask.TheVariants as asks
use Rattle.ccr_claim.specs.declared.asks.Asked.{Asked}
use Rattle.ccr_claim.specs.declared.plan.Had.{Had}
use Rattle.ccr_claim.specs.Plans.{in_pattern, resumes}
use Rattle.ccr_claim.specs.Attempts.{at_place, Phase, booking, claiming, had_in, attempt_ask}
use Rattle.ccr_actor.specs.Plans.{plan_of, pattern_at}
use Rattle.ccr_wiring.specs.Groups.{is_interleave}
use Rattle.ccr_wiring.specs.Openness.{is_closed}
use Rattle.ccr_actor.specs.Actors.{State, Turn, settle, admit, drive, go_on, stop, Work, lines, round, taking, playing, posting, shedding, resting, turn, ask_in, spots_left, name_at, work_ask, play_ask, end_ask, next}
use Rattle.ccr_runs.specs.declared.entries.Entry.{Entry}
use Rattle.ccr_runs.specs.Places.{note_of, note_at_arbiter, note_by_kind, port_after}
use Rattle.ccr_runs.specs.EntryRuns.{IsRunAfter, Lacks, notes_at, replies_of, state_of, port_at, queue_at}
use Rattle.ccr_runs.specs.Visible.{visible}
use Rattle.ccr_net.proofs.Parts.StepsKeepActors.{unfired}
use Rattle.ccr_net.proofs.Kept.WholeInvariant.{meter_at, hand_settles, domains_admit, spots_drive}
use Rattle.ccr_net.proofs.Parts.MeterMatches.{bit, count-some}
use Rattle.ccr_net.proofs.Parts.PhasesFitPlans.{PhaseFits, Fits, SpotFits}
use Rattle.ccr_net.proofs.Kept.WhatWiringsHave.{PlainFacts}
use Rattle.ccr_net.proofs.Kept.ValidWiringsArePlain.{plain_facts}
use Rattle.ccr_net.proofs.Parts.TasksStartOnce.{runs}
use Rattle.ccr_net.proofs.Parts.WorkMatches.{WorkMatches, RunsTask}
use Rattle.ccr_net.proofs.Owed.EntriesAreMoves.{spots_of_left}
use Rattle.ccr_net.proofs.Owed.PostersAreCounted.{scripted}
use Rattle.ccr_net.proofs.Owed.PutTasksAreBooked as bookings
use Rattle.ccr_net.proofs.Owed.OwedClaimsStand as claims
use Rattle.ccr_net.proofs.Owed.OwedByOneOnce.{owed_by}
use Rattle.ccr_net.proofs.Owed.OwedByOneOnce as owed
use Rattle.ccr_net.proofs.Owed.OversMayBeNoted.{may_over_at, over_of, over_in, at_work_may}
use Rattle.ccr_net.proofs.Owed.OversMayBeNoted as overs
use Rattle.ccr_net.proofs.Owed.OwedAtOwnPlaces.{is_placed_at}
use Rattle.ccr_net.proofs.Owed.PostsAreBounded.{posts_bounded}
use Rattle.ccr_net.proofs.Owed.AttemptNamesAreNew.{is_known, ReachedIn}
use Rattle.ccr_net.proofs.Conditions.SlotPortsDiffer.{next_slot}
use Rattle.ccr_net.proofs.Conditions.CommitsMeetConditions.{commit_met, is_given}
use Rattle.ccr_net.proofs.Conditions.RunsStayReady.{Ready, ready}
use Rattle.ccr_net.proofs.Played.PortsAnswer.{kept_number}

-- a port keeps its number
number_so : (p : ℕ) (earlier : List Note) → (port_after p earlier).number ≡ p
number_so p earlier = kept_number (ports.start p) earlier

-- an end may be noted where the condition holds
over_met : (w : Parts) (i : ℕ) (o : Option ArbiterPart) (earlier : List Note) (t r : TaskId) (how : How) → over_of w i o earlier r ≡ true → is_some (note_at_arbiter w i o earlier (asks.Over t r how)) ≡ true
over_met w i None earlier t r how is = absurd (cc)
over_met w i (Some part) earlier t r how is = by part.kind is
  where
    by : (kind : Kind) → over_in w i kind part earlier r ≡ true → is_some (note_by_kind w i kind part earlier (asks.Over t r how)) ≡ true
    by kinds.Receive now = is_given _ _ now
    by kinds.Choice now = is_given _ _ now
    by kinds.Interleave now = is_given _ _ now

admit_met : (w : Parts) (i : ℕ) (o : Option ArbiterPart) (earlier : List Note) → option_map_or (λ (part : ArbiterPart). is_interleave part.kind) o false ≡ true → is_some (note_at_arbiter w i o earlier asks.Admit) ≡ true
admit_met w i None earlier is = absurd (cc)
admit_met w i (Some part) earlier is = by part.kind is
  where
    by : (kind : Kind) → is_interleave kind ≡ true → is_some (note_by_kind w i kind part earlier asks.Admit) ≡ true
    by kinds.Receive now = absurd (cc)
    by kinds.Choice now = absurd (cc)
    by kinds.Interleave now = refl

module _ (w : Parts) (valid : IsValid w) (closed : is_closed w ≡ true) (n : ℕ) (lacks : Lacks) (es : List Entry) (ready : Ready w n lacks es) (a : ℕ) where
  abbrev st : State
  st = state_of w lacks es a

  abbrev name : TaskId
  name = name_at a st

  abbrev Met : Asked → Type 0
  Met x = is_some (note_of w x.place (notes_at es x.place) x.ask) ≡ true

  all : IsSound w
  all = sound w valid

  first : PlainFacts w
  first = plain_facts w valid

  -- ---- what is settled

  here : (t : TaskId) → has_task (t ∷ []) t ≡ true
  here t = has_task-last [] t

  settle_met : (x : Asked) (more : List Asked) → st.hand ≡ x ∷ more → Met x
  settle_met x more hand = by x.place x.ask (ready.placed a x owes) refl refl
    where
      owes : Among x (owed_by w lacks es a)
      owes = Among-left x st.hand _ (subst (Among x) (sym hand) (inl refl))

      counted : (pl : ℕ → Place) (gone : Ask → List TaskId) (p : ℕ) (t : TaskId) → owed.is_about pl gone p t x ≡ true → 1 ≤ owed.many pl gone p t (owed_by w lacks es a)
      counted pl gone p t about = some (owed_by w lacks es a) owes
        where
          some : (xs : List Asked) → Among x xs → 1 ≤ owed.many pl gone p t xs
          some [] none = absurd none
          some (y ∷ xs) (inl e) = let one : bit (owed.is_about pl gone p t y) ≡ 1 = ap bit (ap (owed.is_about pl gone p t) (sym e) ∙ about) in omega (arith, one)
          some (y ∷ xs) (inr rest) = let later = some xs rest in omega (arith, later)

      claimed : (p : ℕ) (t : TaskId) (ask : Ask) → x.place ≡ places.Port p → x.ask ≡ ask → has_task (claims.unclaims ask) t ≡ true → is_claimed_by (port_at es p) t ≡ true
      claimed p t ask place is about = ready.claims.met a p t (counted places.Port claims.unclaims p t (rw (place, is, about, eq-self p) refl))

      booked : (q : ℕ) (t : TaskId) (ask : Ask) → x.place ≡ places.Queue q → x.ask ≡ ask → has_task (bookings.unbooks ask) t ≡ true → queues.is_booked (queue_at w es q) t ≡ true
      booked q t ask place is about = ready.bookings.met a q t (counted places.Queue bookings.unbooks q t (rw (place, is, about, eq-self q) refl))

      over : (i : ℕ) (r : TaskId) (ask : Ask) → x.place ≡ places.Arbiter i → x.ask ≡ ask → has_task (overs.ends_root ask) r ≡ true → may_over_at w es i r ≡ true
      over i r ask place is about = ready.overs.met a i r (counted places.Arbiter overs.ends_root i r (rw (place, is, about, eq-self i) refl))

      by : (place : Place) (ask : Ask) → is_placed_at place ask ≡ true → x.place ≡ place → x.ask ≡ ask → is_some (note_of w place (notes_at es place) ask) ≡ true
      by (places.Port p) (asks.Consume t) placed at is = is_given _ _ (claimed p t (asks.Consume t) at is (here t))
      by (places.Port p) (asks.Free t) placed at is = is_given _ _ (claimed p t (asks.Free t) at is (here t))
      by (places.Queue q) (asks.Unbook t) placed at is = is_given _ _ (booked q t (asks.Unbook t) at is (here t))
      by (places.Queue q) (asks.Put task) placed at is = is_given _ _ (booked q task.id (asks.Put task) at is (here task.id))
      by (places.Arbiter i) (asks.Over t r how) placed at is = over_met w i (slice_get w.arbiters i) (notes_at es (places.Arbiter i)) t r how (over i r (asks.Over t r how) at is (here r))
      by (places.Port p) (asks.Post m) placed at is = absurd (cc)
      by (places.Port p) (asks.Claim t s) placed at is = absurd (cc)
      by (places.Port p) (asks.Commit t ms) placed at is = absurd (cc)
      by (places.Port p) asks.Admit placed at is = absurd (cc)
      by (places.Port p) (asks.Over t r how) placed at is = absurd (cc)
      by (places.Port p) (asks.Suspend t) placed at is = absurd (cc)
      by (places.Port p) (asks.Book t r) placed at is = absurd (cc)
      by (places.Port p) (asks.Unbook t) placed at is = absurd (cc)
      by (places.Port p) (asks.Put t) placed at is = absurd (cc)
      by (places.Port p) asks.Take placed at is = absurd (cc)
      by (places.Port p) asks.Draw placed at is = absurd (cc)
      by (places.Port p) asks.Leave placed at is = absurd (cc)
      by (places.Port p) asks.Left placed at is = absurd (cc)
      by (places.Queue q) (asks.Post m) placed at is = absurd (cc)
      by (places.Queue q) (asks.Claim t s) placed at is = absurd (cc)
      by (places.Queue q) (asks.Consume t) placed at is = absurd (cc)
      by (places.Queue q) (asks.Free t) placed at is = absurd (cc)
      by (places.Queue q) (asks.Commit t ms) placed at is = absurd (cc)
      by (places.Queue q) asks.Admit placed at is = absurd (cc)
      by (places.Queue q) (asks.Over t r how) placed at is = absurd (cc)
      by (places.Queue q) (asks.Suspend t) placed at is = absurd (cc)
      by (places.Queue q) (asks.Book t r) placed at is = absurd (cc)
      by (places.Queue q) asks.Take placed at is = absurd (cc)
      by (places.Queue q) asks.Draw placed at is = absurd (cc)
      by (places.Queue q) asks.Leave placed at is = absurd (cc)
      by (places.Queue q) asks.Left placed at is = absurd (cc)
      by (places.Arbiter i) (asks.Post m) placed at is = absurd (cc)
      by (places.Arbiter i) (asks.Claim t s) placed at is = absurd (cc)
      by (places.Arbiter i) (asks.Consume t) placed at is = absurd (cc)
      by (places.Arbiter i) (asks.Free t) placed at is = absurd (cc)
      by (places.Arbiter i) (asks.Commit t ms) placed at is = absurd (cc)
      by (places.Arbiter i) asks.Admit placed at is = absurd (cc)
      by (places.Arbiter i) (asks.Suspend t) placed at is = absurd (cc)
      by (places.Arbiter i) (asks.Book t r) placed at is = absurd (cc)
      by (places.Arbiter i) (asks.Unbook t) placed at is = absurd (cc)
      by (places.Arbiter i) (asks.Put t) placed at is = absurd (cc)
      by (places.Arbiter i) asks.Take placed at is = absurd (cc)
      by (places.Arbiter i) asks.Draw placed at is = absurd (cc)
      by (places.Arbiter i) asks.Leave placed at is = absurd (cc)
      by (places.Arbiter i) asks.Left placed at is = absurd (cc)
      by (places.Site b k) (asks.Post m) placed at is = absurd (cc)
      by (places.Site b k) (asks.Claim t s) placed at is = absurd (cc)
      by (places.Site b k) (asks.Consume t) placed at is = absurd (cc)
      by (places.Site b k) (asks.Free t) placed at is = absurd (cc)
      by (places.Site b k) (asks.Commit t ms) placed at is = absurd (cc)
      by (places.Site b k) asks.Admit placed at is = absurd (cc)
      by (places.Site b k) (asks.Over t r how) placed at is = absurd (cc)
      by (places.Site b k) (asks.Suspend t) placed at is = absurd (cc)
      by (places.Site b k) (asks.Book t r) placed at is = absurd (cc)
      by (places.Site b k) (asks.Unbook t) placed at is = absurd (cc)
      by (places.Site b k) (asks.Put t) placed at is = absurd (cc)
      by (places.Site b k) asks.Take placed at is = absurd (cc)
      by (places.Site b k) asks.Draw placed at is = absurd (cc)
      by (places.Site b k) asks.Leave placed at is = absurd (cc)
      by (places.Site b k) asks.Left placed at is = absurd (cc)
      by places.Meter (asks.Post m) placed at is = absurd (cc)
      by places.Meter (asks.Claim t s) placed at is = absurd (cc)
      by places.Meter (asks.Consume t) placed at is = absurd (cc)
      by places.Meter (asks.Free t) placed at is = absurd (cc)
      by places.Meter (asks.Commit t ms) placed at is = absurd (cc)
      by places.Meter asks.Admit placed at is = absurd (cc)
      by places.Meter (asks.Over t r how) placed at is = absurd (cc)
      by places.Meter (asks.Suspend t) placed at is = absurd (cc)
      by places.Meter (asks.Book t r) placed at is = absurd (cc)
      by places.Meter (asks.Unbook t) placed at is = absurd (cc)
      by places.Meter (asks.Put t) placed at is = absurd (cc)
      by places.Meter asks.Take placed at is = absurd (cc)
      by places.Meter asks.Draw placed at is = absurd (cc)
      by places.Meter asks.Leave placed at is = absurd (cc)
      by places.Meter asks.Left placed at is = absurd (cc)

  -- ---- an attempt

  post_met : (p : ℕ) (m : Msg) → m.port ≡ p → Met (at_place (places.Port p) (asks.Post m))
  post_met p m port = is_given _ _ (rw (number, room) refl)
    where
      number : (m.port == (port_at es p).number) ≡ true
      number = (λ i. port i == (number_so p (notes_at es (places.Port p)) i)) ∙ eq-self p

      few : length (port_at es p).items + 1 < 2 ^ 32
      few =
          let items = ready.items p in
          let bound = posts_bounded w closed (visible es) ready.holds.legal in
          let scripts = all.small.posts in
          let budget = all.small.budget closed in
          let drawn = ready.holds.meter.drawn_so in
          let low = ready.holds.meter.low in
          omega (arith, items, bound, scripts, budget, drawn, low)

      room : nat_lt (length (port_at es p).items + 1) (2 ^ 32) ≡ true
      room = grind (arith, nat_tests, few)

  claim_met : (spot : Spot) → SpotFits w spot → (slot : Slot) (slots : List Slot) (had : List Had) → st.phase ≡ claiming (slot ∷ slots) had → Fits (pattern_at w spot) (slot ∷ slots) had → Met (at_place (places.Port slot.port) (asks.Claim name slot))
  claim_met spot fits slot slots had phase is = is_given _ _ (rw (number, order, free) refl)
    where
      facts : ((d : Had) → Among d had → d.slot.port ≢ slot.port) × (slot.least ≤ slot.most)
      facts = next_slot w all.apart first spot fits slot slots had is

      number : (slot.port == (port_at es slot.port).number) ≡ true
      number = ap (λ k. slot.port == k) (number_so slot.port (notes_at es (places.Port slot.port))) ∙ eq-self slot.port

      order : nat_le slot.least slot.most ≡ true
      order = let le = facts.1 in grind (arith, nat_tests, le)

      free : is_claimed_by (port_at es slot.port) name ≡ false
      free = refuted (is_claimed_by (port_at es slot.port) name) (λ stands. of_claim (port_at es slot.port).claim refl stands)
        where
          of_claim : (o : Option StandingClaim) → (port_at es slot.port).claim ≡ o → option_map_or (λ (c : StandingClaim). same_task name c.task) o false ≡ true → ⊥
          of_claim None at stands = absurd (cc)
          of_claim (Some c) at stands = let found = (ready.holds.actors a).claims.claims_had slot.port c at (sym (same_task-is name c.task stands)) in facts.0 found.0 (subst (Among found.0) (ap had_in phase) found.1) found.2

  book_met : (spot : Spot) → st.phase ≡ booking → Met (at_place (places.Queue (plan_of w spot).queue) (asks.Book name (resumes spot)))
  book_met spot phase = is_given _ _ (rw new refl)
    where
      new : is_known (queue_at w es (plan_of w spot).queue) name ≡ false
      new = refuted (is_known (queue_at w es (plan_of w spot).queue) name) (λ known. below (subst (λ ph. ReachedIn ph st.attempt st.attempt) phase (ready.names (plan_of w spot).queue name known)))
        where
          below : st.attempt < st.attempt → ⊥
          below less = omega (arith, less)

  fresh : has_task (fired (visible es)) name ≡ false
  fresh = unfired w (visible es) (port_at es) a st (ready.holds.actors a).claims

  drive_met : (spot : Spot) (more : List Spot) → st.spots ≡ spot ∷ more → Met (attempt_ask (plan_of w spot) name st.phase)
  drive_met spot more spots = by st.phase refl (subst (PhaseFits w st.attempt st.phase) spots (ready.holds.actors a).fits.phase_so)
    where
      fits : SpotFits w spot
      fits = (ready.holds.actors a).fits.spots_so spot (subst (Among spot) (sym spots) (inl refl))

      by : (ph : Phase) → st.phase ≡ ph → PhaseFits w st.attempt ph (spot ∷ more) → Met (attempt_ask (plan_of w spot) name ph)
      by booking phase is = book_met spot phase
      by (claiming (slot ∷ slots) had) phase is = claim_met spot fits slot slots had phase is.1
      by (claiming [] had) phase is = commit_met w valid all.domains n lacks es ready.holds name fresh spot (in_pattern (plan_of w spot).pattern had) fits

  -- ---- work

  run_met : (task : Task) (how : How) (index : ℕ) (left : List Sent) → RunsTask w (visible es) a task index left → Met (at_place (places.Arbiter task.arbiter) (asks.Over task.id task.root how))
  run_met task how index left run = over_met w task.arbiter (slice_get w.arbiters task.arbiter) (notes_at es (places.Arbiter task.arbiter)) task.id task.root how (ap (λ (t : Task). may_over_at w es t.arbiter t.root) run.as_seen ∙ at_work_may w all.domains n lacks es ready.holds ready.noted task.id (running_works w (visible es) ready.holds.legal task.id (runs (visible es) a task.id run.alone)))

  leave_met : (index : ℕ) → st.work ≡ lines index [] → WorkMatches w (visible es) a (lines index []) → Met (at_place places.Meter asks.Leave)
  leave_met index work match = is_given _ _ (let few = below in grind (arith, nat_tests, few))
    where
      below : (meter_at w es).left < 16
      below =
          let some = count-some (length w.posters) a (scripted w lacks es) (some-below w.posters a match.poster match.is_poster) (rw work refl) in
          let left = ready.left in
          let posters = all.small.posters in
          omega (arith, some, left, posters)

  work_met : (x : Asked) (wk : Work) → st.work ≡ wk → WorkMatches w (visible es) a wk → work_ask a wk ≡ Some x → Met x
  work_met x wk work match is = by wk work match is
    where
      by_end : (task : Task) (index : ℕ) (play : Play) (left : List Sent) → RunsTask w (visible es) a task index left → (end : PlayEnd) → Met (end_ask task play end)
      by_end task index play left run plays.Done = run_met task hows.Done index left run
      by_end task index play left run (plays.Failed value) = run_met task (hows.Failed value) index left run
      by_end task index play left run (plays.Yield site) = refl

      by_posts : (task : Task) (index : ℕ) (play : Play) → RunsTask w (visible es) a task index play.posts → (ps : List Sent) → Met (play_ask task play ps)
      by_posts task index play run [] = by_end task index play play.posts run play.end
      by_posts task index play run (sent ∷ ps) = refl

      by : (wk : Work) → st.work ≡ wk → WorkMatches w (visible es) a wk → work_ask a wk ≡ Some x → Met x
      by (lines index []) at match now = some_so Met now (leave_met index at match)
      by (lines index (sent ∷ sents)) at match now = some_so Met now (post_met sent.port _ refl)
      by round at match now = some_so Met now refl
      by (taking left queue more) at match now = some_so Met now refl
      by (playing task index play) at match now = some_so Met now (by_posts task index play match.0 play.posts)
      by (posting task index play sent) at match now = some_so Met now (post_met sent.port _ refl)
      by (shedding task) at match now = some_so Met now (run_met task hows.Shed match.0 (match.1 ∷ match.2) match.3)
      by resting at match now = absurd (cc)

  -- ---- all turns

  pub turn_met : (x : Asked) → ask_in w a st (turn st) ≡ Some x → Met x
  turn_met x asks_so = by (turn st) refl asks_so
    where
      by : (tu : Turn) → turn st ≡ tu → ask_in w a st tu ≡ Some x → Met x
      by (settle y more) turns now = some_so Met now (settle_met y more (hand_settles st.is_short st.hand st.domains (spots_left st) y more turns))
      by (admit i more) turns now = some_so Met now (admit_met w i (slice_get w.arbiters i) (notes_at es (places.Arbiter i)) (ready.numbers a i (subst (Among i) (sym (domains_admit st.is_short st.hand st.domains (spots_left st) i more turns)) (inl refl))))
      by (drive spot more) turns now = some_so Met now (drive_met spot more (spots_of_left (nat_lt st.attempt (2 ^ 32)) st.spots spot more (spots_drive st.is_short st.hand st.domains (spots_left st) spot more turns).1))
      by go_on turns now = work_met x st.work refl (ready.holds.actors a).work now
      by stop turns now = absurd (cc)

pub asks_met : (w : Parts) (workers : ℕ) (lacks : Lacks) (es : List Entry) (a : ℕ) (x : Asked) → IsValid w → is_closed w ≡ true → workers ≤ 16 → IsRunAfter w workers lacks [] es → a < length w.posters + workers → next w a (lacks a) (replies_of w es a) ≡ Some x → is_some (note_of w x.place (notes_at es x.place) x.ask) ≡ true
asks_met w workers lacks es a x valid closed few steps low asks = turn_met w valid closed (length w.posters + workers) lacks es (ready w workers (plain_facts w valid) (sound w valid).domains (let posters = (sound w valid).small.posters in omega (arith, posters, few)) lacks es steps) a x asks

-- The work between drives: lines, rounds, takes, plays and ends.
use Rattle.std.proofs.Common.{◌≡◌, ◌≢◌, ◌≤◌, ◌<◌, ℕ, suc, ◌+◌, ◌-◌, Bool, true, false, ◌||◌, List, [], ◌∷◌, ◌++◌, length, map, drop, Option, Some, None, refl, sym, arith, ap, ◌∙◌, subst, append-nil}
use Rattle.std.specs.Prelude.{◌==◌, if◌then◌else◌, nat_lt, nat_le}
use Rattle.std.specs.List.{slice_get}
use Rattle.std.proofs.lemmas.Bool.Decides.{nat_tests}
use Rattle.ccr_base.specs.declared.messages.Msg.{Msg}
use Rattle.ccr_base.specs.declared.messages.Sent.{Sent}
use Rattle.ccr_base.specs.declared.names.Place.TheVariants as places
use Rattle.ccr_base.specs.declared.names.TaskId.{TaskId}
use Rattle.ccr_base.specs.declared.tasks.How.{How}
use Rattle.ccr_base.specs.declared.tasks.How.TheVariants as hows
use Rattle.ccr_base.specs.declared.tasks.Task.{Task}
use Rattle.ccr_base.specs.Names.{has_task}
use Rattle.ccr_handler.specs.declared.segments.Play.{Play}
use Rattle.ccr_handler.specs.declared.segments.PlayEnd.{PlayEnd}
use Rattle.ccr_handler.specs.declared.segments.PlayEnd.TheVariants as plays
use Rattle.ccr_wiring.specs.declared.parts.Parts.{Parts}
use Rattle.ccr_wiring.specs.declared.parts.QueuePart.{QueuePart}
use Rattle.ccr_wiring.specs.Wirings.{spots, branch_of, segment_of}
use Rattle.ccr_model.specs.declared.history.Event.{Event}
use Rattle.ccr_model.specs.declared.history.Event.TheVariants as events
use Rattle.ccr_model.specs.declared.history.EndHow.{EndHow}
use Rattle.ccr_model.specs.declared.history.EndHow.TheVariants as ends
use Rattle.ccr_model.specs.Posts.{posts, posts_of_tasks, posts_of_task}
use Rattle.ccr_model.specs.Rules.{ends_so, is_shed}
use Rattle.ccr_model.specs.TaskData.{play_of}
use Rattle.ccr_model.specs.Firings.{ended, yielded_by}
use Rattle.ccr_model.proofs.FiredTasks.{IsFired, IsFired-append}
use Rattle.ccr_model.specs.Tasks.{running, running_by, has_post_left, unfinished, count_unfinished}
use Rattle.ccr_base.proofs.Booleans.{same_number, eq-self, or_right}
use Rattle.ccr_base.proofs.Options.{no_some, drop-next, drop-end, some_is}
use Rattle.ccr_model.proofs.OneMoreEvent.{posts-push}
use Rattle.ccr_base.proofs.SameNames.{same_value-self}
use Rattle.ccr_model.proofs.TaskLists.{to_filter}
use Rattle.ccr_model.proofs.Members.{Among-kept}
use Rattle.ccr_model.proofs.RunningTasks.{starts, running_by-push}
use Rattle.ccr_places.specs.declared.notes.Note.{Note}
use Rattle.ccr_places.specs.declared.notes.Note.TheVariants as notes
use Rattle.ccr_places.specs.Queues as queues
use Rattle.ccr_places.specs.Meters as meters
use Rattle.ccr_claim.specs.declared.asks.Ask.TheVariants as asks
use Rattle.ccr_claim.specs.Attempts.{at_place, had_in}
use Rattle.ccr_claim.specs.Lines.{script_message}
use Rattle.ccr_wiring.specs.Takers.{spots_at, takes_from}
use Rattle.ccr_actor.specs.Actors.{State, Work, name_at, lines, round, taking, playing, posting, shedding, resting, go_on, turn, ask_in, after_in, play_in, take_from, after_over, driving, work_ask, task_message}
use Rattle.ccr_runs.specs.declared.entries.Entry.{Entry}
use Rattle.ccr_runs.specs.EntryRuns.{Lacks, state_of, port_at, notes_at, reply_of, queue_at}
use Rattle.ccr_runs.specs.Visible.{visible, event_of}
use Rattle.ccr_net.proofs.Parts.OneMoreEntry.{visible-push, Step}
use Rattle.ccr_net.proofs.Parts.StepsKeepActors.{ActorMatches-same}
use Rattle.ccr_net.proofs.Parts.QueuesMatch.{QueueChanges, takes}
use Rattle.ccr_net.proofs.Parts.BookedHasRoom.{BookingsMatch-take, Stays-note}
use Rattle.ccr_net.proofs.Parts.TasksStartOnce.{AreStartedOnce-legal, run_apart, runs}
use Rattle.ccr_net.proofs.Parts.WorkMatches.{WorkMatches, RunsTask, Scripted, Idle, script_says, task_says, script_own, task_own, play-view, view-stays}
use Rattle.ccr_net.proofs.Parts.MeterMatches.{MeterMatches, MeterMatches-quiet, MeterMatches-drawn, MeterMatches-spent, MeterMatches-post, is_posting, is_shedding, count, bit, count-one, count-some, count-within}
use Rattle.ccr_net.proofs.Kept.WholeInvariant.{ActorHolds, Holds, meter_at, meter_at-push, works_of, queue_changes, same_ports, same_queues}
use Rattle.ccr_net.proofs.Parts.PortsAndHandsMatch.{puts_in}
use Rattle.ccr_net.proofs.Parts.DomainsMatch.{DomainsMatch-elsewhere}
use Rattle.ccr_net.proofs.Kept.SilentStepsKeepAll.{silent_metered, silent_else, unmetered}
use Rattle.ccr_net.proofs.Kept.WhatWiringsHave.{PlainFacts}
use Rattle.ccr_net.proofs.Kept.EventsAreAllowed.{script_allowed, play_allowed, end_allowed, shed_allowed}
use Rattle.ccr_net.proofs.Kept.ShownStepsKeepAll.{GoesOn, goes_fits, goes_booked, goes_under_way, step_post}
use Rattle.ccr_net.proofs.Kept.FiringsKeepAll.{step_start, step_end, step_suspend}
use Rattle.ccr_net.proofs.Parts.NotesAnswerAsks.{given_some, over_note, posts_script, posts_task, Given, given_to}

module _ (w : Parts) (n : ℕ) (first : PlainFacts w) (few : n ≤ 33) (lacks : Lacks) (es : List Entry) (e : Entry) (low : e.actor < n) (holds : Holds w n lacks es) (step : Step w lacks es e) where
  abbrev before : State
  before = state_of w lacks es e.actor

  abbrev h : List Event
  h = visible es

  abbrev Done : Type 0
  Done = Holds w n lacks (es ++ e ∷ [])

  own : ActorHolds w h (port_at es) e.actor before
  own = holds.actors e.actor

  -- ---- the work between drives

  go_on_own : (next : State) → turn before ≡ go_on → GoesOn w n lacks es e low holds next → WorkMatches w h e.actor next.work → ActorHolds w h (port_at es) e.actor next
  go_on_own next turns on work = record {
    claims = ActorMatches-same w h (port_at es) e.actor before next on.hand (ap had_in on.phase) on.attempt own.claims;
    work = work;
    fits = goes_fits w n lacks es e low holds next turns on;
  }

  at_meter : (note : Note) → e.place ≡ places.Meter → e.note ≡ note → meter_at w (es ++ e ∷ []) ≡ meters.after (meter_at w es) note
  at_meter note there is = rw (meter_at-push w es e, there) (ap (meters.after (meter_at w es)) is)

  at_meter_quiet : (next : State) (note : Note) → e.place ≡ places.Meter → e.note ≡ note → event_of e ≡ [] → turn before ≡ go_on → after_in w e.actor before (turn before) (reply_of w es e) ≡ next → GoesOn w n lacks es e low holds next → WorkMatches w h e.actor next.work → (meters.after (meter_at w es) note).drawn ≡ (meter_at w es).drawn → (meters.after (meter_at w es) note).budget ≡ (meter_at w es).budget → is_posting next.work ≡ is_posting before.work → (is_shedding next.work ≡ true → is_shedding before.work ≡ true) → Done
  at_meter_quiet next note there is none turns goes on work drawn budget posts shed =
      silent_else w n lacks es e low holds places.Meter next (λ t is. subst (λ hand. has_task (puts_in hand) t ≡ true) on.hand is) (DomainsMatch-elsewhere w h es e places.Meter there refl holds.domains) there refl none goes (rw (same_queues w es e places.Meter there refl) holds.queues) (go_on_own next turns on work) (goes_under_way w n lacks es e low holds places.Meter next there refl turns on) (rw (at_meter note there is) (drawn, budget)) posts shed

  -- a worker goes on to a queue, to a round or to rest
  pub record Looks (next : State) : Type 0 where
    pub on : GoesOn w n lacks es e low holds next
    pub work : Idle w h e.actor → WorkMatches w h e.actor next.work
    pub unposting : is_posting next.work ≡ false
    pub unshedding : is_shedding next.work ≡ false

  looks_on : (left queue : ℕ) (parts : List QueuePart) → Looks (take_from w before left queue parts)
  looks_on left queue (part ∷ parts) = record { on = record { hand = refl; phase = refl; attempt = refl; spots_so = own.fits.spots_so }; work = λ is. is; unposting = refl; unshedding = refl }
  looks_on left queue [] = record { on = record { hand = refl; phase = refl; attempt = refl; spots_so = own.fits.spots_so }; work = rests ((left == length w.posters) || nat_le 10000 (before.empty + 1)); unposting = unposted ((left == length w.posters) || nat_le 10000 (before.empty + 1)); unshedding = unshed ((left == length w.posters) || nat_le 10000 (before.empty + 1)) }
    where
      rests : (c : Bool) → Idle w h e.actor → WorkMatches w h e.actor (if c then resting else round)
      rests true is = tt
      rests false is = is

      unposted : (c : Bool) → is_posting (if c then resting else round) ≡ false
      unposted true = refl
      unposted false = refl

      unshed : (c : Bool) → is_shedding (if c then resting else round) ≡ false
      unshed true = refl
      unshed false = refl

  suc-one : (k : ℕ) → suc k ≡ k + 1
  suc-one k = omega arith

  -- a line of a script
  line_kept : (index : ℕ) (sents : List Sent) → before.work ≡ lines index sents → turn before ≡ go_on → Scripted w h e.actor index sents → Done
  line_kept index [] work turns is = leave (given_to w lacks es e step go_on _ turns (ap (work_ask e.actor) work))
    where
      leave : Given w es e (at_place places.Meter asks.Leave) → Done
      leave got =
          let note = (given_some _ notes.Leave e.note got.gives).1 in
          at_meter_quiet (record before { work = resting }) notes.Leave got.there note (rw note refl) turns (rw (turns, work) refl) (record { hand = refl; phase = refl; attempt = refl; spots_so = own.fits.spots_so }) tt refl refl (rw work refl) (λ shed. absurd (cc))
  line_kept index (sent ∷ sents) work turns is = post (given_to w lacks es e step go_on _ turns (ap (work_ask e.actor) work))
    where
      m : Msg
      m = script_message e.actor index sent

      next : State
      next = record (driving before (spots_at w sent.port)) { work = lines (index + 1) sents }

      rest : (slice_get is.poster.posts index ≡ Some sent) × (sents ≡ drop (suc index) is.poster.posts) × (index < length is.poster.posts)
      rest = drop-next index is.poster.posts sent sents is.left_so

      post : Given w es e (at_place (places.Port sent.port) (asks.Post m)) → Done
      post got =
          let note = (given_some _ (notes.Post m) e.note got.gives).1 in
          step_post w n lacks es e low holds m next got.there note turns (rw (turns, work) refl)
          (record { hand = refl; phase = refl; attempt = refl; spots_so = λ s among. first.places_so s (Among-kept (takes_from w sent.port) (spots w) s among) })
          (script_allowed w h e.actor index is.poster sent is.is_poster rest.0 is.index_so) is.index_so
          (record { poster = is.poster; is_poster = is.is_poster; index_so = ap (λ k. k + 1) is.index_so ∙ sym (script_own h m e.actor index refl); left_so = rest.1 ∙ ap (λ k. drop k is.poster.posts) (suc-one index) })
          (λ a other. script_says h m a e.actor index refl other)
          (λ works' one. MeterMatches-quiet w n h (h ++ events.Post m ∷ []) (meter_at w es).drawn e.actor (works_of w lacks es) works' (lines (index + 1) sents) low (rw (posts-push h (events.Post m)) (posts_script (posts h) m refl)) (rw work refl) (λ shed. absurd (cc)) one holds.meter)

  -- a round
  round_kept : before.work ≡ round → turn before ≡ go_on → Idle w h e.actor → Done
  round_kept work turns idle = left_by (given_to w lacks es e step go_on _ turns (ap (work_ask e.actor) work))
    where
      left_by : Given w es e (at_place places.Meter asks.Left) → Done
      left_by got =
          let note : e.note ≡ notes.Left (meter_at w es).left = sym (some_is got.gives) in
          let looks = looks_on (meter_at w es).left 0 w.queues in
          at_meter_quiet (take_from w before (meter_at w es).left 0 w.queues) (notes.Left (meter_at w es).left) got.there note (rw note refl) turns (rw (turns, work, note) refl) looks.on (looks.work idle) refl refl (looks.unposting ∙ rw work refl) (λ shed. absurd (let out = looks.unshedding in cc))

  -- a take
  take_kept : (left q : ℕ) (parts : List QueuePart) → before.work ≡ taking left q parts → turn before ≡ go_on → Idle w h e.actor → Done
  take_kept left q parts work turns idle = taken_by (given_to w lacks es e step go_on _ turns (ap (work_ask e.actor) work))
    where
      taken_by : Given w es e (at_place (places.Queue q) asks.Take) → Done
      taken_by got = by_note (queues.take_note (queue_at w es q)) refl (sym (some_is got.gives))
        where
          by_note : (o : Option TaskId) → queues.take_note (queue_at w es q) ≡ o → e.note ≡ notes.Take o → Done
          by_note (Some t) is note = step_start w n first few lacks es e low holds q t got.there note (takes (queue_at w es q) t is) turns idle (rw work refl) (rw work refl) (rw (shows_so, turns, work, note) refl)
            where
              shows_so : visible (es ++ e ∷ []) ≡ h ++ events.Start t e.actor ∷ []
              shows_so = rw (visible-push es e, note) refl
          by_note None is note =
              let looks = looks_on left (q + 1) parts in
              silent_else w n lacks es e low holds (places.Queue q) (take_from w before left (q + 1) parts) (λ t is. subst (λ hand. has_task (puts_in hand) t ≡ true) looks.on.hand is) (DomainsMatch-elsewhere w h es e (places.Queue q) got.there refl holds.domains) got.there refl (rw note refl) (rw (turns, work, note) refl)
              (record {
                listed = record { queued_so = λ k. rw (changes k) (by k (q == k) refl) ∙ holds.queues.listed.queued_so k; policy_so = λ k. rw (changes k) (rule k (q == k)) ∙ holds.queues.listed.policy_so k };
                booked = BookingsMatch-take w h (queue_at w es) (queue_at w (es ++ e ∷ [])) q None changes holds.queues.booked;
              })
              (go_on_own (take_from w before left (q + 1) parts) turns looks.on (looks.work idle)) (record { own = goes_booked w n lacks es e low holds (take_from w before left (q + 1) parts) turns looks.on (queue_at w (es ++ e ∷ [])); others = λ a other. Stays-note (queue_at w es) (queue_at w (es ++ e ∷ [])) q (notes.Take None) (name_at a (state_of w lacks es a)) changes (λ k is. is) }) (unmetered w n lacks es e low holds (places.Queue q) got.there refl) (looks.unposting ∙ rw work refl) (λ shed. absurd (let out = looks.unshedding in cc))
            where
              use_changes : QueueChanges (queue_at w es) (queue_at w (es ++ e ∷ [])) q (notes.Take None)
              use_changes = subst (QueueChanges (queue_at w es) (queue_at w (es ++ e ∷ [])) q) note (queue_changes w es e q got.there)

              changes : QueueChanges (queue_at w es) (queue_at w (es ++ e ∷ [])) q (notes.Take None)
              changes = use_changes

              empty : (queues.after_take (queue_at w es q)).queued ≡ (queue_at w es q).queued
              empty = of_list (queue_at w es q).queued refl
                where
                  of_list : (qs : List queues.Queued) → (queue_at w es q).queued ≡ qs → drop 1 (queue_at w es q).queued ≡ (queue_at w es q).queued
                  of_list [] e' = rw e' refl
                  of_list (x ∷ qs) e' = absurd (let some : queues.take_note (queue_at w es q) ≡ Some x.task = rw e' refl in cc)

              by : (k : ℕ) (c : Bool) → (q == k) ≡ c → map (λ (x : queues.Queued). x.task) (if c then queues.after_take (queue_at w es k) else queue_at w es k).queued ≡ map (λ (x : queues.Queued). x.task) (queue_at w es k).queued
              by k true at_k = subst (λ j. map (λ (x : queues.Queued). x.task) (queues.after_take (queue_at w es j)).queued ≡ map (λ (x : queues.Queued). x.task) (queue_at w es j).queued) (same_number q k at_k) (ap (map (λ (x : queues.Queued). x.task)) empty)
              by k false at_k = refl

              rule : (k : ℕ) (c : Bool) → (if c then queues.after_take (queue_at w es k) else queue_at w es k).policy ≡ (queue_at w es k).policy
              rule k true = refl
              rule k false = refl

  -- ---- a play

  -- the play of the task that runs
  play_so : (task : Task) (index : ℕ) (left : List Sent) → RunsTask w h e.actor task index left → play_in w task ≡ play_of w h task.id
  play_so task index left run = ap (play_in w) run.as_seen ∙ play-view w h task.id run.fires

  -- the end that the play asks for
  ends_by : (i : ℕ) (task : Task) (index : ℕ) (play : Play) (how : How) (ending : EndHow) → before.work ≡ playing task index play → play.posts ≡ [] → turn before ≡ go_on → RunsTask w h e.actor task index play.posts → after_in w e.actor before (turn before) (reply_of w es e) ≡ after_over w before task → is_shed ending ≡ false → ends_so ending (play_of w h task.id).end ≡ true → e.place ≡ places.Arbiter i → event_of e ≡ events.End task.id ending ∷ [] → yielded_by (events.End task.id ending) ≡ [] → e.note ≡ notes.Over task.id task.root how → Done
  ends_by i task index play how ending work none turns run goes unshed so there is last note =
      step_end w n first few lacks es e low holds i task index play.posts ending how note there is last turns run (rw work refl) goes
      (end_allowed w h task.id ending (runs h e.actor task.id run.alone) all unshed so)
    where
      all : length (play_of w h task.id).posts ≤ posts_of_task h task.id
      all = subst (λ k. length (play_of w h task.id).posts ≤ k) run.index_so (subst (λ (p : Play). length p.posts ≤ index) (play_so task index play.posts run) (drop-end index (play_in w task).posts (sym none ∙ run.left_so)))

  play_kept : (task : Task) (index : ℕ) (play : Play) → before.work ≡ playing task index play → turn before ≡ go_on → RunsTask w h e.actor task index play.posts × (play.end ≡ (play_in w task).end) → Done
  play_kept task index play work turns is = by_posts play.posts refl
    where
      run : RunsTask w h e.actor task index play.posts
      run = is.0

      end_so : play.end ≡ (play_of w h task.id).end
      end_so = is.1 ∙ ap (λ (p : Play). p.end) (play_so task index play.posts run)

      by_end : play.posts ≡ [] → (pe : PlayEnd) → play.end ≡ pe → Done
      by_end none plays.Done pe = over (given_to w lacks es e step go_on _ turns (ap (work_ask e.actor) work ∙ rw (none, pe) refl))
        where
          over : Given w es e (at_place (places.Arbiter task.arbiter) (asks.Over task.id task.root hows.Done)) → Done
          over got = let note = over_note w task.id task.root hows.Done task.arbiter (slice_get w.arbiters task.arbiter) (notes_at es (places.Arbiter task.arbiter)) e.note got.gives in
              ends_by task.arbiter task index play hows.Done ends.Done work none turns run (rw (turns, work, none, pe) refl) refl (rw (sym end_so ∙ pe) refl) got.there (rw note refl) refl note
      by_end none (plays.Failed v) pe = over (given_to w lacks es e step go_on _ turns (ap (work_ask e.actor) work ∙ rw (none, pe) refl))
        where
          over : Given w es e (at_place (places.Arbiter task.arbiter) (asks.Over task.id task.root (hows.Failed v))) → Done
          over got = let note = over_note w task.id task.root (hows.Failed v) task.arbiter (slice_get w.arbiters task.arbiter) (notes_at es (places.Arbiter task.arbiter)) e.note got.gives in
              ends_by task.arbiter task index play (hows.Failed v) (ends.Failed v) work none turns run (rw (turns, work, none, pe) refl) refl (rw (sym end_so ∙ pe) (same_value-self v)) got.there (rw note refl) refl note
      by_end none (plays.Yield site) pe = suspends (given_to w lacks es e step go_on _ turns (ap (work_ask e.actor) work ∙ rw (none, pe) refl))
        where
          all : length (play_of w h task.id).posts ≤ posts_of_task h task.id
          all = subst (λ k. length (play_of w h task.id).posts ≤ k) run.index_so (subst (λ (p : Play). length p.posts ≤ index) (play_so task index play.posts run) (drop-end index (play_in w task).posts (sym none ∙ run.left_so)))

          suspends : Given w es e (at_place (places.Site (branch_of task.spot) (segment_of task.spot)) (asks.Suspend (record task { causes = play.causes }))) → Done
          suspends got =
              let note : e.note ≡ notes.Suspend task.id = sym (some_is got.gives) in
              step_suspend w n first few lacks es e low holds task index play.posts got.there note turns run (rw work refl) (rw (turns, work, none, pe) refl)
              (end_allowed w h task.id ends.Yield (runs h e.actor task.id run.alone) all refl (rw (sym end_so ∙ pe) refl)) (first.sites_so task site (sym is.1 ∙ pe))

      by_posts : (ps : List Sent) → play.posts ≡ ps → Done
      by_posts [] none = by_end none play.end refl
      by_posts (sent ∷ ps) some = draws (given_to w lacks es e step go_on _ turns (ap (work_ask e.actor) work ∙ rw some refl))
        where
          draws : Given w es e (at_place places.Meter asks.Draw) → Done
          draws got = by_room (nat_lt (meter_at w es).drawn (meter_at w es).budget) refl (sym (some_is got.gives))
            where
              posting_run : RunsTask w h e.actor task index (sent ∷ ps)
              posting_run = subst (RunsTask w h e.actor task index) some run

              by_room : (c : Bool) → nat_lt (meter_at w es).drawn (meter_at w es).budget ≡ c → e.note ≡ notes.Draw (if nat_lt (meter_at w es).drawn (meter_at w es).budget then Some (meter_at w es).drawn else None) → Done
              by_room true room note_so =
                  silent_metered w n lacks es e low holds next (λ t is. is) (DomainsMatch-elsewhere w h es e places.Meter got.there refl holds.domains) (rw note refl) (rw (turns, work, note, some) refl) (rw (same_ports es e places.Meter got.there refl) holds.ports) (rw (same_queues w es e places.Meter got.there refl) holds.queues) (rw (same_ports es e places.Meter got.there refl) (go_on_own next turns (record { hand = refl; phase = refl; attempt = refl; spots_so = own.fits.spots_so }) (posting_run, is.1))) (λ a other. rw (same_ports es e places.Meter got.there refl) (holds.actors a))
                  (goes_under_way w n lacks es e low holds places.Meter next got.there refl turns (record { hand = refl; phase = refl; attempt = refl; spots_so = own.fits.spots_so }))
                  (λ works' one. subst (λ k. MeterMatches w n h k works') (sym (ap (λ (m : meters.MeterState). m.drawn) (at_meter _ got.there note))) (MeterMatches-drawn w n h (meter_at w es).drawn e.actor (works_of w lacks es) works' next.work low below (rw work refl) refl refl one holds.meter))
                  (ap (λ (m : meters.MeterState). m.budget) (at_meter _ got.there note))
                where
                  next : State
                  next = record before { work = posting task index (record play { posts = ps }) sent }

                  note : e.note ≡ notes.Draw (Some (meter_at w es).drawn)
                  note = rw room at note_so

                  below : (meter_at w es).drawn < w.budget
                  below = let same = holds.budget in let less : (meter_at w es).drawn < (meter_at w es).budget = grind (arith, nat_tests, room) in omega (arith, less, same)
              by_room false room note_so =
                  silent_metered w n lacks es e low holds next (λ t is. is) (DomainsMatch-elsewhere w h es e places.Meter got.there refl holds.domains) (rw note refl) (rw (turns, work, note, some) refl) (rw (same_ports es e places.Meter got.there refl) holds.ports) (rw (same_queues w es e places.Meter got.there refl) holds.queues) (rw (same_ports es e places.Meter got.there refl) (go_on_own next turns (record { hand = refl; phase = refl; attempt = refl; spots_so = own.fits.spots_so }) (index, sent, ps, posting_run))) (λ a other. rw (same_ports es e places.Meter got.there refl) (holds.actors a))
                  (goes_under_way w n lacks es e low holds places.Meter next got.there refl turns (record { hand = refl; phase = refl; attempt = refl; spots_so = own.fits.spots_so }))
                  (λ works' one. subst (λ k. MeterMatches w n h k works') (sym (ap (λ (m : meters.MeterState). m.drawn) (at_meter _ got.there note))) (MeterMatches-spent w n h (meter_at w es).drawn e.actor (works_of w lacks es) works' next.work low full (rw work refl) refl one holds.meter))
                  (ap (λ (m : meters.MeterState). m.budget) (at_meter _ got.there note))
                where
                  next : State
                  next = record before { work = shedding task }

                  note : e.note ≡ notes.Draw None
                  note = rw room at note_so

                  full : w.budget ≤ (meter_at w es).drawn
                  full = let same = holds.budget in let le : (meter_at w es).budget ≤ (meter_at w es).drawn = grind (arith, nat_tests, room) in omega (arith, le, same)

  -- a post of a task
  posting_kept : (task : Task) (index : ℕ) (play : Play) (sent : Sent) → before.work ≡ posting task index play sent → turn before ≡ go_on → RunsTask w h e.actor task index (sent ∷ play.posts) × (play.end ≡ (play_in w task).end) → Done
  posting_kept task index play sent work turns is = post (given_to w lacks es e step go_on _ turns (ap (work_ask e.actor) work))
    where
      run : RunsTask w h e.actor task index (sent ∷ play.posts)
      run = is.0

      m : Msg
      m = task_message task.id index sent

      next : State
      next = record (driving before (spots_at w sent.port)) { work = playing task (index + 1) play }

      rest : (slice_get (play_in w task).posts index ≡ Some sent) × (play.posts ≡ drop (suc index) (play_in w task).posts) × (index < length (play_in w task).posts)
      rest = drop-next index (play_in w task).posts sent play.posts run.left_so

      line : slice_get (play_of w h task.id).posts index ≡ Some sent
      line = ap (λ (p : Play). slice_get p.posts index) (sym (play_so task index (sent ∷ play.posts) run)) ∙ rest.0

      posts_now : is_posting before.work ≡ true
      posts_now = rw work refl

      room : posts_of_tasks h < w.budget
      room =
          let one = count-some n e.actor (λ a. is_posting (works_of w lacks es a)) low posts_now in
          let drawn = holds.meter.drawn_so in
          let few' = holds.meter.low in
          omega (arith, one, drawn, few')

      post : Given w es e (at_place (places.Port sent.port) (asks.Post m)) → Done
      post got =
          let note = (given_some _ (notes.Post m) e.note got.gives).1 in
          step_post w n lacks es e low holds m next got.there note turns (rw (turns, work) refl)
          (record { hand = refl; phase = refl; attempt = refl; spots_so = λ s among. first.places_so s (Among-kept (takes_from w sent.port) (spots w) s among) })
          (play_allowed w h task.id index sent (runs h e.actor task.id run.alone) line run.index_so room) run.index_so (
            record {
              worker = run.worker;
              alone = (quiet_post m).0 ∙ run.alone;
              fires = (quiet_post m).1;
              as_seen = run.as_seen ∙ sym (view-stays w h (events.Post m ∷ []) task.id run.fires);
              index_so = ap (λ k. k + 1) run.index_so ∙ sym (task_own h m task.id index refl);
              left_so = rest.1 ∙ ap (λ k. drop k (play_in w task).posts) (suc-one index);
            },
            is.1,
          )
          (λ a other. task_says h m a e.actor index task.id (AreStartedOnce-legal w h holds.legal) refl run.alone other)
          (λ works' one. MeterMatches-post w n h (h ++ events.Post m ∷ []) (meter_at w es).drawn e.actor (works_of w lacks es) works' (playing task (index + 1) play) low (rw (posts-push h (events.Post m)) (posts_task (posts h) m refl)) posts_now refl refl one holds.meter)
        where
          quiet_post : (m : Msg) → (running_by (h ++ events.Post m ∷ []) e.actor ≡ running_by h e.actor) × IsFired (h ++ events.Post m ∷ []) task.id
          quiet_post m = (running_by-push h (events.Post m) e.actor ∙ rw (append-nil (starts h e.actor), append-nil (ended h)) refl, IsFired-append h (events.Post m ∷ []) task.id run.fires)

  -- ---- a task that is shed

  sheds : (task : Task) (index : ℕ) (sent : Sent) (ps : List Sent) → before.work ≡ shedding task → turn before ≡ go_on → RunsTask w h e.actor task index (sent ∷ ps) → Done
  sheds task index sent ps work turns run = over (given_to w lacks es e step go_on _ turns (ap (work_ask e.actor) work))
    where
      works : ℕ → Work
      works = works_of w lacks es

      -- the actors that have a post to make, or shed
      busy : ℕ → Bool
      busy a = is_posting (works a) || (a == e.actor)

      task_of : Work → TaskId
      task_of (posting t place' play sent') = t.id
      task_of (shedding t) = t.id
      task_of _ = task.id

      left_at : (a : ℕ) (t : Task) (k : ℕ) (s : Sent) (rest : List Sent) → RunsTask w h a t k (s ∷ rest) → has_task (unfinished w h) t.id ≡ true
      left_at a t k s rest r = to_filter (has_post_left w h) (running h) t.id (runs h a t.id r.alone) left
        where
          below : k < length (play_in w t).posts
          below = (drop-next k (play_in w t).posts s rest r.left_so).2

          left : has_post_left w h t.id ≡ true
          left =
              let less : k < length (play_of w h t.id).posts = subst (λ (p : Play). k < length p.posts) (ap (play_in w) r.as_seen ∙ play-view w h t.id r.fires) below in
              let count = r.index_so in
              grind (arith, nat_tests, less, count)

      busy_runs : (a : ℕ) → busy a ≡ true → (t : Task) × (task_of (works a) ≡ t.id) × (running_by h a ≡ t.id ∷ []) × (has_task (unfinished w h) t.id ≡ true)
      busy_runs a is = by (works a) refl (holds.actors a).work is
        where
          shed_here : (wk : Work) → works a ≡ wk → is_posting wk ≡ false → a ≡ e.actor → (t : Task) × (task_of (works a) ≡ t.id) × (running_by h a ≡ t.id ∷ []) × (has_task (unfinished w h) t.id ≡ true)
          shed_here wk at_a unposting same = (task, ap task_of (ap works same ∙ work), ap (running_by h) same ∙ run.alone, left_at e.actor task index sent ps run)

          of_or : (wk : Work) → works a ≡ wk → is_posting wk ≡ false → is_posting wk || (a == e.actor) ≡ true → (t : Task) × (task_of (works a) ≡ t.id) × (running_by h a ≡ t.id ∷ []) × (has_task (unfinished w h) t.id ≡ true)
          of_or wk at_a out now = shed_here wk at_a out (same_number a e.actor (rw out at now))

          by : (wk : Work) → works a ≡ wk → WorkMatches w h a (works a) → is_posting (works a) || (a == e.actor) ≡ true → (t : Task) × (task_of (works a) ≡ t.id) × (running_by h a ≡ t.id ∷ []) × (has_task (unfinished w h) t.id ≡ true)
          by (posting t k play s) at_a match now = (t, ap task_of at_a, (rw at_a at match).0.alone, left_at a t k s play.posts (rw at_a at match).0)
          by (lines k ss) at_a match now = of_or (lines k ss) at_a refl (rw at_a at now)
          by round at_a match now = of_or round at_a refl (rw at_a at now)
          by (taking l q qs) at_a match now = of_or (taking l q qs) at_a refl (rw at_a at now)
          by (playing t k play) at_a match now = of_or (playing t k play) at_a refl (rw at_a at now)
          by (shedding t) at_a match now = of_or (shedding t) at_a refl (rw at_a at now)
          by resting at_a match now = of_or resting at_a refl (rw at_a at now)

      within : count n busy ≤ count_unfinished w h
      within = count-within n busy (λ a. task_of (works a)) (unfinished w h)
          (λ a less is. (let r = busy_runs a is in subst (λ t. has_task (unfinished w h) t ≡ true) (sym r.1) r.3))
          (λ a b is also same. (let r = busy_runs a is in let s = busy_runs b also in run_apart h a b r.0.id s.0.id (AreStartedOnce-legal w h holds.legal) r.2 s.2 (sym r.1 ∙ same ∙ s.1)))

      one_more : count n busy ≡ count n (λ a. is_posting (works a)) + 1
      one_more =
          let counts = count-one n e.actor (λ a. is_posting (works a)) busy low (λ b other. others b other) in
          let mine : is_posting (works e.actor) ≡ false = rw work refl in
          let now : busy e.actor ≡ true = or_right (is_posting (works e.actor)) (e.actor == e.actor) (eq-self e.actor) in
          let plain : count n busy + 0 ≡ count n (λ a. is_posting (works a)) + 1 = subst (λ c. count n busy + bit c ≡ count n (λ a. is_posting (works a)) + 1) mine (subst (λ c. count n busy + bit (is_posting (works e.actor)) ≡ count n (λ a. is_posting (works a)) + bit c) now counts) in
          omega (arith, plain)
        where
          others : (b : ℕ) → e.actor ≢ b → is_posting (works b) || (b == e.actor) ≡ is_posting (works b)
          others b other = of_test (b == e.actor) refl (is_posting (works b))
            where
              of_test : (c : Bool) → (b == e.actor) ≡ c → (d : Bool) → d || (b == e.actor) ≡ d
              of_test true at_b d = absurd (other (sym (same_number b e.actor at_b)))
              of_test false at_b true = refl
              of_test false at_b false = at_b

      paid : w.budget ≤ posts_of_tasks h + (count_unfinished w h - 1)
      paid =
          let full = holds.meter.spent e.actor (rw work refl) in
          let drawn = holds.meter.drawn_so in
          omega (arith, full, drawn, within, one_more)

      over : Given w es e (at_place (places.Arbiter task.arbiter) (asks.Over task.id task.root hows.Shed)) → Done
      over got =
          let note = over_note w task.id task.root hows.Shed task.arbiter (slice_get w.arbiters task.arbiter) (notes_at es (places.Arbiter task.arbiter)) e.note got.gives in
          step_end w n first few lacks es e low holds task.arbiter task index (sent ∷ ps) ends.Shed hows.Shed note got.there (rw note refl) refl turns run (rw work refl) (rw (turns, work) refl)
          (shed_allowed w h task.id (runs h e.actor task.id run.alone) some paid)
        where
          some : posts_of_task h task.id < length (play_of w h task.id).posts
          some = subst (λ k. k < length (play_of w h task.id).posts) run.index_so (subst (λ (p : Play). index < length p.posts) (play_so task index (sent ∷ ps) run) (drop-next index (play_in w task).posts sent ps run.left_so).2)

  -- ---- all turns

  pub go_on_kept : turn before ≡ go_on → Done
  go_on_kept turns = by before.work refl own.work
    where
      by : (wk : Work) → before.work ≡ wk → WorkMatches w h e.actor before.work → Done
      by (lines index sents) work match = line_kept index sents work turns (rw work at match)
      by round work match = round_kept work turns (rw work at match)
      by (taking left q parts) work match = take_kept left q parts work turns (rw work at match)
      by (playing task index play) work match = play_kept task index play work turns (rw work at match)
      by (posting task index play sent) work match = posting_kept task index play sent work turns (rw work at match)
      by (shedding task) work match = of_match (rw work at match)
        where
          of_match : (index : ℕ) × (sent : Sent) × (ps : List Sent) × RunsTask w h e.actor task index (sent ∷ ps) → Done
          of_match m = sheds task m.0 m.1 m.2 work turns m.3
      by resting work match = absurd (let asks_so = subst (λ u. ask_in w e.actor before u ≡ Some step.asking) turns step.asks in let none : ask_in w e.actor before go_on ≡ None = ap (work_ask e.actor) work in no_some _ step.asking none asks_so)

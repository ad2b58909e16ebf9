-- The Interleaves at which an actor is to admit are domains of the wiring, and the queues that a worker is to ask are its queues.
use Rattle.std.proofs.Common.{◌⊎◌, inl, inr, ◌≡◌, ◌<◌, ◌≤◌, ◌+◌, ◌^◌, ℕ, Bool, true, false, not, ◌&&◌, ◌||◌, List, [], ◌∷◌, ◌++◌, length, Option, Some, None, refl, sym, arith, ap, ◌∙◌, subst}
use Rattle.std.specs.Prelude.{◌==◌, if◌then◌else◌, nat_le, nat_lt, slice_get}
use Rattle.std.specs.List.{list_any}
use Rattle.std.specs.Option.{option_map_or}
use Rattle.ccr_base.specs.declared.messages.Sent.{Sent}
use Rattle.ccr_base.specs.declared.names.Spot.{Spot}
use Rattle.ccr_base.specs.declared.names.TaskId.{TaskId}
use Rattle.ccr_base.specs.declared.tasks.Task.{Task}
use Rattle.ccr_base.specs.Names.{has_task}
use Rattle.ccr_handler.specs.declared.segments.Play.{Play}
use Rattle.ccr_handler.specs.declared.segments.PlayEnd.{PlayEnd}
use Rattle.ccr_handler.specs.declared.segments.PlayEnd.TheVariants as plays
use Rattle.ccr_wiring.specs.declared.parts.Parts.{Parts}
use Rattle.ccr_wiring.specs.declared.parts.PosterPart.{PosterPart}
use Rattle.ccr_wiring.specs.declared.parts.QueuePart.{QueuePart}
use Rattle.ccr_wiring.specs.Valid.{IsSound}
use Rattle.ccr_model.specs.declared.history.Event.{Event}
use Rattle.ccr_model.specs.declared.history.Event.TheVariants as events
use Rattle.ccr_model.specs.Firings.{dropped}
use Rattle.ccr_model.specs.Legal.{IsLegal}
use Rattle.ccr_model.proofs.Members.{Among, Among-either}
use Rattle.ccr_model.proofs.OneMoreEvent.{dropped-push}
use Rattle.ccr_base.proofs.SameNames.{same_task-self}
use Rattle.ccr_model.proofs.TaskLists.{among_right}
use Rattle.ccr_model.proofs.WhoWasPut.{ArePlaced-legal}
use Rattle.ccr_places.specs.declared.notes.ClaimNote.TheVariants.{Got, Busy, Short}
use Rattle.ccr_places.specs.declared.notes.Note.{Note}
use Rattle.ccr_places.specs.declared.notes.Note.TheVariants as notes
use Rattle.ccr_claim.specs.declared.asks.Reply.{Reply}
use Rattle.ccr_claim.specs.declared.asks.Reply.TheVariants as replies
use Rattle.ccr_actor.specs.Plans.{is_interleave_number}
use Rattle.ccr_actor.specs.Actors.{State, Work, lines, round, taking, playing, posting, shedding, resting, Turn, settle, admit, drive, go_on, stop, turn, spots_left, start, settled, add_domain, admissions_after, after_admit, after_attempt, after_over, give_up, after_work, after_in, take_from, after_end, after_play, next_round, shorten}
use Rattle.ccr_runs.specs.EntryRuns.{reply_to}
use Rattle.ccr_runs.specs.Views.{view}
use Rattle.ccr_net.proofs.Kept.WholeInvariant.{domains_admit, spots_drive}
use Rattle.ccr_net.proofs.Known.TasksAreKnown.{IsDomain, spot_domain, view_domain}
use Rattle.ccr_net.proofs.Parts.PhasesFitPlans.{SpotFits}
use Rattle.ccr_net.proofs.Parts.WorkMatches.{RunsTask, WorkMatches}

-- the queue that is asked, and those behind it, are the wiring's
abbrev pub WorkReaches : Parts → Work → Type 0
WorkReaches w (taking left q more) = q + length more < length w.queues
WorkReaches w _ = Unit {0}

pub record Reaches (w : Parts) (st : State) : Type 0 where
  pub domains : (i : ℕ) → Among i st.domains → IsDomain w i
  pub works : WorkReaches w st.work

-- ---- what a put drops

abbrev pub DropReaches : Parts → Reply → Type 0
DropReaches w (replies.Dropped (Some task)) = IsDomain w task.arbiter
DropReaches w _ = Unit {0}

pub drop_reaches : (w : Parts) (h : List Event) (earlier : List Note) (note : Note) → ((t d : TaskId) → note ≡ notes.Put t (Some d) → IsDomain w (view w h d).arbiter) → DropReaches w (reply_to w h earlier note)
drop_reaches w h earlier (notes.Put t None) drops = tt
drop_reaches w h earlier (notes.Put t (Some d)) drops = drops t d refl
drop_reaches w h earlier (notes.Fired t s ms cs) drops = tt
drop_reaches w h earlier (notes.Admit o) drops = tt
drop_reaches w h earlier (notes.Claim t s (Got k)) drops = tt
drop_reaches w h earlier (notes.Claim t s (Busy u)) drops = tt
drop_reaches w h earlier (notes.Claim t s (Short k)) drops = tt
drop_reaches w h earlier (notes.Book t r None) drops = tt
drop_reaches w h earlier (notes.Book t r (Some k)) drops = tt
drop_reaches w h earlier (notes.Draw None) drops = tt
drop_reaches w h earlier (notes.Draw (Some k)) drops = tt
drop_reaches w h earlier (notes.Post m) drops = tt
drop_reaches w h earlier (notes.Consume t) drops = tt
drop_reaches w h earlier (notes.Free t) drops = tt
drop_reaches w h earlier (notes.Dead t s by) drops = tt
drop_reaches w h earlier (notes.Over t r how) drops = tt
drop_reaches w h earlier (notes.Suspend t) drops = tt
drop_reaches w h earlier (notes.Unbook t) drops = tt
drop_reaches w h earlier (notes.Take t) drops = tt
drop_reaches w h earlier notes.Leave drops = tt
drop_reaches w h earlier (notes.Left k) drops = tt

-- who was dropped fired
pub dropped_domain : (w : Parts) → IsSound w → (h : List Event) (t d : TaskId) → IsLegal w (h ++ events.Put t (Some d) ∷ []) → IsDomain w (view w (h ++ events.Put t (Some d) ∷ []) d).arbiter
dropped_domain w all h t d legal =
    let g : List Event = h ++ events.Put t (Some d) ∷ [] in
    let placed = ArePlaced-legal w g legal in
    let last : has_task (d ∷ []) d ≡ true = ap (λ b. b || false) (same_task-self d) in
    let gone : has_task (dropped g) d ≡ true = ap (λ ts. has_task ts d) (dropped-push h (events.Put t (Some d))) ∙ among_right (dropped h) (d ∷ []) d last in
    view_domain w all g legal d (placed.all_fired d (placed.lists.put_dropped d gone))

-- ---- the state after a reply

add_reaches : (w : Parts) (i : ℕ) (is : List ℕ) → IsDomain w i → ((j : ℕ) → Among j is → IsDomain w j) → (j : ℕ) → Among j (add_domain w i is) → IsDomain w j
add_reaches w i is one known j there = by (is_interleave_number w i && not (list_any (λ other. other == i) is)) there
  where
    more : Among j is ⊎ Among j (i ∷ []) → IsDomain w j
    more (inl old) = known j old
    more (inr (inl e)) = subst (IsDomain w) (sym e) one
    more (inr (inr none)) = absurd none

    by : (b : Bool) → Among j (if b then is ++ i ∷ [] else is) → IsDomain w j
    by true among = more (Among-either j is (i ∷ []) among)
    by false among = known j among

pub short_reaches : (w : Parts) (a : ℕ) (st : State) → Reaches w st → Reaches w (shorten w a st)
short_reaches w a st reach = record { domains = reach.domains; works = reach.works }

module _ (w : Parts) (all : IsSound w) (h : List Event) (legal : IsLegal w h) (a : ℕ) (st : State) (fits : (spot : Spot) → Among spot st.spots → SpotFits w spot) (works : WorkMatches w h a st.work) (reach : Reaches w st) where
  settled_reaches : (reply : Reply) (more : List _) → DropReaches w reply → Reaches w (settled w st more reply)
  settled_reaches reply more drops = by reply drops
    where
      rest : Reaches w (record st { hand = more })
      rest = record { domains = reach.domains; works = reach.works }

      too : (t : Task) → IsDomain w t.arbiter → (b : Bool) → (i : ℕ) → Among i (if b then add_domain w t.arbiter st.domains else st.domains) → IsDomain w i
      too t one true i there = add_reaches w t.arbiter st.domains one reach.domains i there
      too t one false i there = reach.domains i there

      by : (reply : Reply) → DropReaches w reply → Reaches w (settled w st more reply)
      by replies.Done drops = rest
      by (replies.Got ms) drops = rest
      by (replies.Busy t) drops = rest
      by (replies.Short k) drops = rest
      by (replies.Fired o cuts) drops = rest
      by (replies.Dead cause) drops = rest
      by (replies.Admitted o) drops = rest
      by replies.Booked drops = rest
      by (replies.Full k) drops = rest
      by (replies.Dropped None) drops = rest
      by (replies.Dropped (Some t)) drops = record { domains = too t drops (nat_lt st.admitted 32768); works = reach.works }
      by (replies.Taken o) drops = rest
      by (replies.Drawn k) drops = rest
      by replies.Spent drops = rest
      by (replies.Left k) drops = rest

  admit_reaches : (i : ℕ) (more : List ℕ) → st.domains ≡ i ∷ more → (reply : Reply) → Reaches w (after_admit st more reply)
  admit_reaches i more list reply = by reply
    where
      struck : Reaches w (record st { domains = more })
      struck = record { domains = λ j there. reach.domains j (subst (Among j) (sym list) (inr there)); works = reach.works }

      on : (b : Bool) (j : ℕ) → Among j (if b then st.domains else []) → IsDomain w j
      on true j there = reach.domains j there
      on false j none = absurd none

      by : (reply : Reply) → Reaches w (after_admit st more reply)
      by replies.Done = struck
      by (replies.Got ms) = struck
      by (replies.Busy t) = struck
      by (replies.Short k) = struck
      by (replies.Fired o cuts) = struck
      by (replies.Dead cause) = struck
      by (replies.Admitted None) = struck
      by (replies.Admitted (Some t)) = record { domains = on (nat_lt (st.admitted + 1) 32768); works = reach.works }
      by replies.Booked = struck
      by (replies.Full k) = struck
      by (replies.Dropped o) = struck
      by (replies.Taken o) = struck
      by (replies.Drawn k) = struck
      by replies.Spent = struck
      by (replies.Left k) = struck

  drive_reaches : (spot : Spot) (more : List Spot) → SpotFits w spot → (reply : Reply) → Reaches w (after_attempt w a st spot more reply)
  drive_reaches spot more here reply = by reply
    where
      gives_up : Reaches w (give_up w a st spot more)
      gives_up = record { domains = reach.domains; works = reach.works }

      entered : (o : Option Task) (i : ℕ) → Among i (admissions_after w spot o) → IsDomain w i
      entered None i (inl e) = subst (IsDomain w) (sym e) (spot_domain w spot here)
      entered None i (inr none) = absurd none
      entered (Some t) i none = absurd none

      by : (reply : Reply) → Reaches w (after_attempt w a st spot more reply)
      by replies.Done = gives_up
      by (replies.Got ms) = record { domains = reach.domains; works = reach.works }
      by (replies.Busy t) = gives_up
      by (replies.Short k) = gives_up
      by (replies.Fired o cuts) = record { domains = entered o; works = reach.works }
      by (replies.Dead cause) = gives_up
      by (replies.Admitted o) = gives_up
      by replies.Booked = record { domains = reach.domains; works = reach.works }
      by (replies.Full k) = gives_up
      by (replies.Dropped o) = gives_up
      by (replies.Taken o) = gives_up
      by (replies.Drawn k) = gives_up
      by replies.Spent = gives_up
      by (replies.Left k) = gives_up

  take_reaches : (left q : ℕ) (parts : List QueuePart) → q + length parts ≤ length w.queues → Reaches w (take_from w st left q parts)
  take_reaches left q (part ∷ parts) low = record { domains = reach.domains; works = omega (arith, low) }
  take_reaches left q [] low = record { domains = reach.domains; works = rests ((left == length w.posters) || nat_le 10000 (st.empty + 1)) }
    where
      rests : (c : Bool) → WorkReaches w (if c then resting else round)
      rests true = tt
      rests false = tt

  rounds_on : WorkReaches w (next_round st.taken)
  rounds_on = by (nat_lt st.taken 32768)
    where
      by : (c : Bool) → WorkReaches w (if c then round else resting)
      by true = tt
      by false = tt

  task_domain : (task : Task) (index : ℕ) (left : List Sent) → RunsTask w h a task index left → IsDomain w task.arbiter
  task_domain task index left run = subst (λ (t : Task). IsDomain w t.arbiter) (sym run.as_seen) (view_domain w all h legal task.id run.fires)

  over_reaches : (task : Task) → IsDomain w task.arbiter → Reaches w (after_over w st task)
  over_reaches task one = record { domains = add_reaches w task.arbiter st.domains one reach.domains; works = rounds_on }

  end_reaches : (task : Task) → IsDomain w task.arbiter → (end : PlayEnd) → Reaches w (after_end w st task end)
  end_reaches task one plays.Done = over_reaches task one
  end_reaches task one (plays.Failed v) = over_reaches task one
  end_reaches task one (plays.Yield site) = record { domains = reach.domains; works = rounds_on }

  taking_reaches : (left q : ℕ) (more : List QueuePart) → q + length more < length w.queues → (reply : Reply) → Reaches w (after_work w st (taking left q more) reply)
  taking_reaches left q more low reply = by reply
    where
      next : Reaches w (take_from w st left (q + 1) more)
      next = take_reaches left (q + 1) more (omega (arith, low))

      by : (reply : Reply) → Reaches w (after_work w st (taking left q more) reply)
      by replies.Done = next
      by (replies.Got ms) = next
      by (replies.Busy t) = next
      by (replies.Short k) = next
      by (replies.Fired o cuts) = next
      by (replies.Dead cause) = next
      by (replies.Admitted o) = next
      by replies.Booked = next
      by (replies.Full k) = next
      by (replies.Dropped o) = next
      by (replies.Taken None) = next
      by (replies.Taken (Some t)) = record { domains = reach.domains; works = tt }
      by (replies.Drawn k) = next
      by replies.Spent = next
      by (replies.Left k) = next

  post_reaches : (task : Task) (index : ℕ) (play : Play) (sent : Sent) (more : List Sent) (reply : Reply) → Reaches w (after_play w st task index play (sent ∷ more) reply)
  post_reaches task index play sent more reply = by reply
    where
      shed : Reaches w (record st { work = shedding task })
      shed = record { domains = reach.domains; works = tt }

      by : (reply : Reply) → Reaches w (after_play w st task index play (sent ∷ more) reply)
      by replies.Done = shed
      by (replies.Got ms) = shed
      by (replies.Busy t) = shed
      by (replies.Short k) = shed
      by (replies.Fired o cuts) = shed
      by (replies.Dead cause) = shed
      by (replies.Admitted o) = shed
      by replies.Booked = shed
      by (replies.Full k) = shed
      by (replies.Dropped o) = shed
      by (replies.Taken o) = shed
      by (replies.Drawn k) = record { domains = reach.domains; works = tt }
      by replies.Spent = shed
      by (replies.Left k) = shed

  round_reaches : (reply : Reply) → Reaches w st → Reaches w (after_work w st round reply)
  round_reaches (replies.Left k) same = take_reaches k 0 w.queues (omega arith)
  round_reaches replies.Done same = same
  round_reaches (replies.Got ms) same = same
  round_reaches (replies.Busy t) same = same
  round_reaches (replies.Short k) same = same
  round_reaches (replies.Fired o cuts) same = same
  round_reaches (replies.Dead cause) same = same
  round_reaches (replies.Admitted o) same = same
  round_reaches replies.Booked same = same
  round_reaches (replies.Full k) same = same
  round_reaches (replies.Dropped o) same = same
  round_reaches (replies.Taken o) same = same
  round_reaches (replies.Drawn k) same = same
  round_reaches replies.Spent same = same

  work_reaches : (work : Work) → WorkMatches w h a work → WorkReaches w work → (reply : Reply) → Reaches w (after_work w st work reply)
  work_reaches (lines index []) match low reply = record { domains = reach.domains; works = tt }
  work_reaches (lines index (sent ∷ sents)) match low reply = record { domains = reach.domains; works = tt }
  work_reaches round match low reply = round_reaches reply reach
  work_reaches (taking left q more) match low reply = taking_reaches left q more low reply
  work_reaches (playing task index play) match low reply = by play.posts
    where
      by : (ps : List Sent) → Reaches w (after_play w st task index play ps reply)
      by [] = end_reaches task (task_domain task index play.posts match.0) play.end
      by (sent ∷ more) = post_reaches task index play sent more reply
  work_reaches (posting task index play sent) match low reply = record { domains = reach.domains; works = tt }
  work_reaches (shedding task) match low reply = over_reaches task (task_domain task match.0 (match.1 ∷ match.2) match.3)
  work_reaches resting match low reply = reach

  pub after_reaches : (reply : Reply) → DropReaches w reply → Reaches w (after_in w a st (turn st) reply)
  after_reaches reply drops = by (turn st) refl
    where
      spots_so : (spot : Spot) (more : List Spot) → spots_left st ≡ spot ∷ more → SpotFits w spot
      spots_so spot more list = of_test (nat_lt st.attempt (2 ^ 32)) list
        where
          of_test : (b : Bool) → (if b then st.spots else []) ≡ spot ∷ more → SpotFits w spot
          of_test true there = fits spot (subst (Among spot) (sym there) (inl refl))
          of_test false there = absurd (cc)

      by : (tu : Turn) → turn st ≡ tu → Reaches w (after_in w a st tu reply)
      by (settle x more) turns = settled_reaches reply more drops
      by (admit i more) turns = admit_reaches i more (domains_admit st.is_short st.hand st.domains (spots_left st) i more turns) reply
      by (drive spot more) turns = drive_reaches spot more (spots_so spot more (spots_drive st.is_short st.hand st.domains (spots_left st) spot more turns).1) reply
      by go_on turns = work_reaches st.work works reach.works reply
      by stop turns = reach

pub begin_reaches : (w : Parts) (a : ℕ) → Reaches w (start w a)
begin_reaches w a = record { domains = λ i none. absurd none; works = by (slice_get w.posters a) }
  where
    by : (o : Option PosterPart) → WorkReaches w (option_map_or (λ (p : PosterPart). lines 0 p.posts) o round)
    by None = tt
    by (Some p) = tt

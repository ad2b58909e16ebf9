-- The tasks that actors hand in are those that the visible history tells: a put task, and a suspended one.
use Rattle.std.proofs.Common.{◌≡◌, inl, inr, ℕ, ◌+◌, Bool, true, false, List, [], ◌∷◌, ◌++◌, length, map, reverse, Option, Some, None, refl, sym, ap, ◌∙◌, subst}
use Rattle.std.proofs.lemmas.Option.{same_Some}
use Rattle.std.specs.Prelude.{◌==◌, ◌||◌, if◌then◌else◌, nat_lt, nat_le}
use Rattle.std.specs.List.{slice_get}
use Rattle.std.specs.Option.{option_map, option_map_or}
use Rattle.ccr_base.specs.declared.messages.Sent.{Sent}
use Rattle.ccr_base.specs.declared.names.Place.{Place}
use Rattle.ccr_base.specs.declared.names.Spot.{Spot}
use Rattle.ccr_base.specs.declared.names.TaskId.{TaskId}
use Rattle.ccr_base.specs.declared.tasks.Cut.{Cut}
use Rattle.ccr_base.specs.declared.tasks.Task.{Task}
use Rattle.ccr_handler.specs.declared.segments.Play.{Play}
use Rattle.ccr_handler.specs.declared.segments.PlayEnd.{PlayEnd}
use Rattle.ccr_handler.specs.declared.segments.PlayEnd.TheVariants as plays
use Rattle.ccr_wiring.specs.declared.parts.Parts.{Parts}
use Rattle.ccr_wiring.specs.declared.parts.PosterPart.{PosterPart}
use Rattle.ccr_wiring.specs.declared.parts.QueuePart.{QueuePart}
use Rattle.ccr_model.specs.declared.history.Event.{Event}
use Rattle.ccr_model.specs.TaskData.{play_of}
use Rattle.ccr_model.proofs.FiredTasks.{IsFired}
use Rattle.ccr_model.proofs.Members.{Among}
use Rattle.ccr_places.specs.declared.notes.ClaimNote.TheVariants.{Got, Busy, Short}
use Rattle.ccr_places.specs.declared.notes.Note.{Note}
use Rattle.ccr_places.specs.declared.notes.Note.TheVariants as notes
use Rattle.ccr_claim.specs.declared.asks.Ask.{Ask}
use Rattle.ccr_claim.specs.declared.asks.Ask.TheVariants as asks
use Rattle.ccr_claim.specs.declared.asks.Asked.{Asked}
use Rattle.ccr_claim.specs.declared.asks.Reply.{Reply}
use Rattle.ccr_claim.specs.declared.asks.Reply.TheVariants as replies
use Rattle.ccr_claim.specs.declared.plan.ClaimPlan.{ClaimPlan}
use Rattle.ccr_claim.specs.Attempts.{Phase, booking, claiming, had_in, attempt_ask, free_ask, unbook_ask, consume_ask, cut_ask, put_ask, put_asks, release, firing_hand, over_dropped}
use Rattle.ccr_actor.specs.Plans.{plan_of}
use Rattle.ccr_actor.specs.Actors.{State, Work, lines, round, taking, playing, posting, shedding, resting, Turn, settle, admit, drive, go_on, stop, turn, ask_in, work_ask, play_ask, end_ask, name_at, play_in, spots_left, start, settled, after_admit, after_attempt, give_up, after_work, after_in, take_from, after_end, after_play, next_round, in_attempt, shorten}
use Rattle.ccr_runs.specs.declared.entries.Entry.{Entry}
use Rattle.ccr_runs.specs.EntryRuns.{Lacks, state_of, notes_at, reply_of, reply_to, waits}
use Rattle.ccr_runs.specs.Views.{view, cut_view, suspended_view}
use Rattle.ccr_runs.specs.Visible.{visible, event_of}
use Rattle.ccr_net.proofs.Kept.WholeInvariant.{Holds, IsBegun, begins, hand_settles}
use Rattle.ccr_net.proofs.Parts.PortsAndHandsMatch.{IsOwed}
use Rattle.ccr_net.proofs.Parts.OneMoreEntry.{IsNextState, Step, state_of-other, state_of-own, visible-push}
use Rattle.ccr_net.proofs.Parts.WorkMatches.{WorkMatches, RunsTask, play-view, view-stays}

-- the task that the ask puts is what the history tells of it
abbrev pub PutSeen : Parts → List Event → Ask → Type 0
PutSeen w h (asks.Put task) = task ≡ view w h task.id
PutSeen w h _ = Unit {0}

-- and it fired
abbrev pub PutTells : Parts → List Event → Ask → Type 0
PutTells w h (asks.Put task) = IsFired h task.id × (task ≡ view w h task.id)
PutTells w h _ = Unit {0}

-- the causes that are kept with a play are those at its end
abbrev pub CausesTell : Parts → Work → Type 0
CausesTell w (playing task index play) = play.causes ≡ (play_in w task).causes
CausesTell w (posting task index play sent) = play.causes ≡ (play_in w task).causes
CausesTell w _ = Unit {0}

abbrev pub HandSeen : Parts → List Event → List Asked → Type 0
HandSeen w h hand = (x : Asked) → Among x hand → PutSeen w h x.ask

-- what an actor in this state hands in
pub record Seen (w : Parts) (h : List Event) (st : State) : Type 0 where
  pub hands : HandSeen w h st.hand
  pub plays : CausesTell w st.work

-- what all actors hand in
abbrev pub Handed : Parts → Lacks → List Entry → Type 0
Handed w lacks es = (a : ℕ) → Seen w (visible es) (state_of w lacks es a)

-- ---- lists of asks

none_seen : (w : Parts) (h : List Event) → HandSeen w h []
none_seen w h x is = absurd is

more_seen : (w : Parts) (h : List Event) (y : Asked) (hand : List Asked) → PutSeen w h y.ask → HandSeen w h hand → HandSeen w h (y ∷ hand)
more_seen w h y hand one rest x (inl e) = subst (λ (z : Asked). PutSeen w h z.ask) (sym e) one
more_seen w h y hand one rest x (inr is) = rest x is

both_seen : (w : Parts) (h : List Event) (xs ys : List Asked) → HandSeen w h xs → HandSeen w h ys → HandSeen w h (xs ++ ys)
both_seen w h [] ys one other = other
both_seen w h (x ∷ xs) ys one other = more_seen w h x (xs ++ ys) (one x (inl refl)) (both_seen w h xs ys (λ y is. one y (inr is)) other)

all_seen : {X : Type 0} (w : Parts) (h : List Event) (f : X → Asked) (xs : List X) → ((x : X) → PutSeen w h (f x).ask) → HandSeen w h (map f xs)
all_seen w h f [] each = none_seen w h
all_seen w h f (x ∷ xs) each = more_seen w h (f x) (map f xs) (each x) (all_seen w h f xs each)

release_seen : (w : Parts) (h : List Event) (plan : ClaimPlan) (name : TaskId) (ph : Phase) → HandSeen w h (release plan name ph)
release_seen w h plan name booking = none_seen w h
release_seen w h plan name (claiming slots had) = both_seen w h (map (free_ask name) (reverse had)) (unbook_ask plan.queue name ∷ []) (all_seen w h (free_ask name) (reverse had) (λ d. tt)) (more_seen w h (unbook_ask plan.queue name) [] tt (none_seen w h))

attempt_seen : (w : Parts) (h : List Event) (a : ℕ) (st : State) (spots : List Spot) → HandSeen w h (in_attempt w a st spots)
attempt_seen w h a st [] = none_seen w h
attempt_seen w h a st (spot ∷ more) = release_seen w h (plan_of w spot) (name_at a st) st.phase

short_seen : (w : Parts) (h : List Event) (a : ℕ) (st : State) → Seen w h st → Seen w h (shorten w a st)
short_seen w h a st seen = record { hands = both_seen w h st.hand (in_attempt w a st st.spots) seen.hands (attempt_seen w h a st st.spots); plays = seen.plays }

-- ---- replies hand out what the history tells

abbrev pub ReplySeen : Parts → List Event → Reply → Type 0
ReplySeen w h (replies.Fired (Some task) cuts) = task ≡ view w h task.id
ReplySeen w h (replies.Admitted (Some task)) = task ≡ view w h task.id
ReplySeen w h _ = Unit {0}

pub reply_seen : (w : Parts) (h : List Event) (earlier : List Note) (note : Note) → ReplySeen w h (reply_to w h earlier note)
reply_seen w h earlier (notes.Fired t s ms cs) = by (waits w s)
  where
    by : (c : Bool) → ReplySeen w h (replies.Fired (if c then None else Some (view w h t)) (map (cut_view w h) cs))
    by true = tt
    by false = refl
reply_seen w h earlier (notes.Admit None) = tt
reply_seen w h earlier (notes.Admit (Some t)) = refl
reply_seen w h earlier (notes.Claim t s (Got k)) = tt
reply_seen w h earlier (notes.Claim t s (Busy u)) = tt
reply_seen w h earlier (notes.Claim t s (Short k)) = tt
reply_seen w h earlier (notes.Book t r None) = tt
reply_seen w h earlier (notes.Book t r (Some k)) = tt
reply_seen w h earlier (notes.Draw None) = tt
reply_seen w h earlier (notes.Draw (Some k)) = tt
reply_seen w h earlier (notes.Post m) = tt
reply_seen w h earlier (notes.Consume t) = tt
reply_seen w h earlier (notes.Free t) = tt
reply_seen w h earlier (notes.Dead t s by) = tt
reply_seen w h earlier (notes.Over t r how) = tt
reply_seen w h earlier (notes.Suspend t) = tt
reply_seen w h earlier (notes.Unbook t) = tt
reply_seen w h earlier (notes.Put t d) = tt
reply_seen w h earlier (notes.Take t) = tt
reply_seen w h earlier notes.Leave = tt
reply_seen w h earlier (notes.Left k) = tt

-- ---- the state after a reply

module _ (w : Parts) (h : List Event) (a : ℕ) (st : State) (seen : Seen w h st) where
  settled_seen : (more : List Asked) → HandSeen w h more → (reply : Reply) → Seen w h (settled w st more reply)
  settled_seen more known reply = by reply
    where
      rest : Seen w h (record st { hand = more })
      rest = record { hands = known; plays = seen.plays }

      dropped_seen : (t : Task) → HandSeen w h (over_dropped t ∷ more)
      dropped_seen t = more_seen w h (over_dropped t) more tt known

      by : (reply : Reply) → Seen w h (settled w st more reply)
      by replies.Done = rest
      by (replies.Got ms) = rest
      by (replies.Busy t) = rest
      by (replies.Short k) = rest
      by (replies.Fired o cuts) = rest
      by (replies.Dead cause) = rest
      by (replies.Admitted o) = rest
      by replies.Booked = rest
      by (replies.Full k) = rest
      by (replies.Dropped None) = rest
      by (replies.Dropped (Some t)) = record { hands = dropped_seen t; plays = seen.plays }
      by (replies.Taken o) = rest
      by (replies.Drawn k) = rest
      by replies.Spent = rest
      by (replies.Left k) = rest

  admit_seen : (more : List ℕ) (reply : Reply) → ReplySeen w h reply → Seen w h (after_admit st more reply)
  admit_seen more reply given = by reply given
    where
      put_seen : (t : Task) → t ≡ view w h t.id → HandSeen w h (put_ask t ∷ [])
      put_seen t known = more_seen w h (put_ask t) [] known (none_seen w h)

      by : (reply : Reply) → ReplySeen w h reply → Seen w h (after_admit st more reply)
      by replies.Done known = record { hands = seen.hands; plays = seen.plays }
      by (replies.Got ms) known = record { hands = seen.hands; plays = seen.plays }
      by (replies.Busy t) known = record { hands = seen.hands; plays = seen.plays }
      by (replies.Short k) known = record { hands = seen.hands; plays = seen.plays }
      by (replies.Fired o cuts) known = record { hands = seen.hands; plays = seen.plays }
      by (replies.Dead cause) known = record { hands = seen.hands; plays = seen.plays }
      by (replies.Admitted None) known = record { hands = seen.hands; plays = seen.plays }
      by (replies.Admitted (Some t)) known = record { hands = put_seen t known; plays = seen.plays }
      by replies.Booked known = record { hands = seen.hands; plays = seen.plays }
      by (replies.Full k) known = record { hands = seen.hands; plays = seen.plays }
      by (replies.Dropped o) known = record { hands = seen.hands; plays = seen.plays }
      by (replies.Taken o) known = record { hands = seen.hands; plays = seen.plays }
      by (replies.Drawn k) known = record { hands = seen.hands; plays = seen.plays }
      by replies.Spent known = record { hands = seen.hands; plays = seen.plays }
      by (replies.Left k) known = record { hands = seen.hands; plays = seen.plays }

  drive_seen : (spot : Spot) (more : List Spot) (reply : Reply) → ReplySeen w h reply → Seen w h (after_attempt w a st spot more reply)
  drive_seen spot more reply given = by reply given
    where
      gives_up : Seen w h (give_up w a st spot more)
      gives_up = record { hands = release_seen w h (plan_of w spot) (name_at a st) st.phase; plays = seen.plays }

      of_task : (o : Option Task) (cuts : List Cut) → ReplySeen w h (replies.Fired o cuts) → HandSeen w h (put_asks o)
      of_task None cuts known = none_seen w h
      of_task (Some t) cuts known = more_seen w h (put_ask t) [] known (none_seen w h)

      fired_seen : (o : Option Task) (cuts : List Cut) → ReplySeen w h (replies.Fired o cuts) → HandSeen w h (firing_hand (name_at a st) (had_in st.phase) o cuts)
      fired_seen o cuts known = both_seen w h (map (consume_ask (name_at a st)) (had_in st.phase)) (map cut_ask cuts ++ put_asks o) (all_seen w h (consume_ask (name_at a st)) (had_in st.phase) (λ d. tt)) (both_seen w h (map cut_ask cuts) (put_asks o) (all_seen w h cut_ask cuts (λ c. tt)) (of_task o cuts known))

      by : (reply : Reply) → ReplySeen w h reply → Seen w h (after_attempt w a st spot more reply)
      by replies.Done known = gives_up
      by (replies.Got ms) known = record { hands = seen.hands; plays = seen.plays }
      by (replies.Busy t) known = gives_up
      by (replies.Short k) known = gives_up
      by (replies.Fired o cuts) known = record { hands = fired_seen o cuts known; plays = seen.plays }
      by (replies.Dead cause) known = gives_up
      by (replies.Admitted o) known = gives_up
      by replies.Booked known = record { hands = seen.hands; plays = seen.plays }
      by (replies.Full k) known = gives_up
      by (replies.Dropped o) known = gives_up
      by (replies.Taken o) known = gives_up
      by (replies.Drawn k) known = gives_up
      by replies.Spent known = gives_up
      by (replies.Left k) known = gives_up

  take_from_seen : (left q : ℕ) (parts : List QueuePart) → Seen w h (take_from w st left q parts)
  take_from_seen left q (part ∷ parts) = record { hands = seen.hands; plays = tt }
  take_from_seen left q [] = record { hands = seen.hands; plays = rests ((left == length w.posters) || nat_le 10000 (st.empty + 1)) }
    where
      rests : (c : Bool) → CausesTell w (if c then resting else round)
      rests true = tt
      rests false = tt

  rounds_on : CausesTell w (next_round st.taken)
  rounds_on = by (nat_lt st.taken 32768)
    where
      by : (c : Bool) → CausesTell w (if c then round else resting)
      by true = tt
      by false = tt

  end_seen : (task : Task) (end : PlayEnd) → Seen w h (after_end w st task end)
  end_seen task plays.Done = record { hands = seen.hands; plays = rounds_on }
  end_seen task (plays.Failed v) = record { hands = seen.hands; plays = rounds_on }
  end_seen task (plays.Yield site) = record { hands = seen.hands; plays = rounds_on }

  work_seen : (work : Work) → CausesTell w work → (reply : Reply) → Seen w h (after_work w st work reply)
  work_seen (lines index []) known reply = record { hands = seen.hands; plays = tt }
  work_seen (lines index (sent ∷ sents)) known reply = record { hands = seen.hands; plays = tt }
  work_seen round known reply = round_by reply
    where
      round_by : (reply : Reply) → Seen w h (after_work w st round reply)
      round_by replies.Done = record { hands = seen.hands; plays = seen.plays }
      round_by (replies.Got ms) = record { hands = seen.hands; plays = seen.plays }
      round_by (replies.Busy t) = record { hands = seen.hands; plays = seen.plays }
      round_by (replies.Short k) = record { hands = seen.hands; plays = seen.plays }
      round_by (replies.Fired o cuts) = record { hands = seen.hands; plays = seen.plays }
      round_by (replies.Dead cause) = record { hands = seen.hands; plays = seen.plays }
      round_by (replies.Admitted o) = record { hands = seen.hands; plays = seen.plays }
      round_by replies.Booked = record { hands = seen.hands; plays = seen.plays }
      round_by (replies.Full k) = record { hands = seen.hands; plays = seen.plays }
      round_by (replies.Dropped o) = record { hands = seen.hands; plays = seen.plays }
      round_by (replies.Taken o) = record { hands = seen.hands; plays = seen.plays }
      round_by (replies.Drawn k) = record { hands = seen.hands; plays = seen.plays }
      round_by replies.Spent = record { hands = seen.hands; plays = seen.plays }
      round_by (replies.Left k) = take_from_seen k 0 w.queues
  work_seen (taking left q more) known reply = taking_by left q more reply
    where
      taking_by : (left q : ℕ) (more : List QueuePart) (reply : Reply) → Seen w h (after_work w st (taking left q more) reply)
      taking_by left q more replies.Done = take_from_seen left (q + 1) more
      taking_by left q more (replies.Got ms) = take_from_seen left (q + 1) more
      taking_by left q more (replies.Busy t) = take_from_seen left (q + 1) more
      taking_by left q more (replies.Short k) = take_from_seen left (q + 1) more
      taking_by left q more (replies.Fired o cuts) = take_from_seen left (q + 1) more
      taking_by left q more (replies.Dead cause) = take_from_seen left (q + 1) more
      taking_by left q more (replies.Admitted o) = take_from_seen left (q + 1) more
      taking_by left q more replies.Booked = take_from_seen left (q + 1) more
      taking_by left q more (replies.Full k) = take_from_seen left (q + 1) more
      taking_by left q more (replies.Dropped o) = take_from_seen left (q + 1) more
      taking_by left q more (replies.Taken None) = take_from_seen left (q + 1) more
      taking_by left q more (replies.Taken (Some t)) = record { hands = seen.hands; plays = refl }
      taking_by left q more (replies.Drawn k) = take_from_seen left (q + 1) more
      taking_by left q more replies.Spent = take_from_seen left (q + 1) more
      taking_by left q more (replies.Left k) = take_from_seen left (q + 1) more
  work_seen (playing task index play) known reply = by play.posts
    where
      post_by : (task : Task) (index : ℕ) (play : Play) (sent : Sent) (more : List Sent) → play.causes ≡ (play_in w task).causes → (reply : Reply) → Seen w h (after_play w st task index play (sent ∷ more) reply)
      post_by task index play sent more known replies.Done = record { hands = seen.hands; plays = tt }
      post_by task index play sent more known (replies.Got ms) = record { hands = seen.hands; plays = tt }
      post_by task index play sent more known (replies.Busy t) = record { hands = seen.hands; plays = tt }
      post_by task index play sent more known (replies.Short k) = record { hands = seen.hands; plays = tt }
      post_by task index play sent more known (replies.Fired o cuts) = record { hands = seen.hands; plays = tt }
      post_by task index play sent more known (replies.Dead cause) = record { hands = seen.hands; plays = tt }
      post_by task index play sent more known (replies.Admitted o) = record { hands = seen.hands; plays = tt }
      post_by task index play sent more known replies.Booked = record { hands = seen.hands; plays = tt }
      post_by task index play sent more known (replies.Full k) = record { hands = seen.hands; plays = tt }
      post_by task index play sent more known (replies.Dropped o) = record { hands = seen.hands; plays = tt }
      post_by task index play sent more known (replies.Taken o) = record { hands = seen.hands; plays = tt }
      post_by task index play sent more known (replies.Drawn k) = record { hands = seen.hands; plays = known }
      post_by task index play sent more known replies.Spent = record { hands = seen.hands; plays = tt }
      post_by task index play sent more known (replies.Left k) = record { hands = seen.hands; plays = tt }

      by : (ps : List Sent) → Seen w h (after_play w st task index play ps reply)
      by [] = end_seen task play.end
      by (sent ∷ more) = post_by task index play sent more known reply
  work_seen (posting task index play sent) known reply = record { hands = seen.hands; plays = known }
  work_seen (shedding task) known reply = record { hands = seen.hands; plays = rounds_on }
  work_seen resting known reply = seen

  pub after_seen : (reply : Reply) → ReplySeen w h reply → Seen w h (after_in w a st (turn st) reply)
  after_seen reply given = by (turn st) refl
    where
      by : (tu : Turn) → turn st ≡ tu → Seen w h (after_in w a st tu reply)
      by (settle x more) turns = settled_seen more (λ y is. seen.hands y (subst (Among y) (sym (hand_settles st.is_short st.hand st.domains (spots_left st) x more turns)) (inr is))) reply
      by (admit i more) turns = admit_seen more reply given
      by (drive spot more) turns = drive_seen spot more reply given
      by go_on turns = work_seen st.work seen.plays reply
      by stop turns = seen

-- ---- along a run

owed_on : (w : Parts) (h more : List Event) (a bound : ℕ) (place : Place) (ask : Ask) → IsOwed w h a bound place ask → PutSeen w h ask → PutSeen w (h ++ more) ask
owed_on w h more a bound place ask owed known = by ask owed known
  where
    by : (ask : Ask) → IsOwed w h a bound place ask → PutSeen w h ask → PutSeen w (h ++ more) ask
    by (asks.Post m) owed known = tt
    by (asks.Claim t s) owed known = tt
    by (asks.Consume t) owed known = tt
    by (asks.Free t) owed known = tt
    by (asks.Commit t ms) owed known = tt
    by asks.Admit owed known = tt
    by (asks.Over t r how) owed known = tt
    by (asks.Suspend t) owed known = tt
    by (asks.Book t r) owed known = tt
    by (asks.Unbook t) owed known = tt
    by (asks.Put t) owed known = known ∙ sym (view-stays w h more t.id owed.0.fires)
    by asks.Take owed known = tt
    by asks.Draw owed known = tt
    by asks.Leave owed known = tt
    by asks.Left owed known = tt

seen_on : (w : Parts) (n : ℕ) (lacks : Lacks) (es : List Entry) (e : Entry) → Holds w n lacks es → Handed w lacks es → (a : ℕ) → Seen w (visible (es ++ e ∷ [])) (state_of w lacks es a)
seen_on w n lacks es e holds handed a = subst (λ h. Seen w h (state_of w lacks es a)) (sym (visible-push es e)) (record {
  hands = λ x is. owed_on w (visible es) (event_of e) a (state_of w lacks es a).attempt x.place x.ask ((holds.actors a).claims.owed x is) ((handed a).hands x is);
  plays = (handed a).plays;
})

pub Handed-begins : (w : Parts) (lacks : Lacks) → Handed w lacks []
Handed-begins w lacks a = by (state_of w lacks [] a) (begins w lacks a)
  where
    starts : Seen w [] (start w a)
    starts = record { hands = none_seen w []; plays = of_poster (slice_get w.posters a) }
      where
        of_poster : (o : Option PosterPart) → CausesTell w (option_map_or (λ (p : PosterPart). lines 0 p.posts) o round)
        of_poster None = tt
        of_poster (Some p) = tt

    by : (st : State) → IsBegun w a st → Seen w [] st
    by st (inl is) = subst (Seen w []) (sym is) starts
    by st (inr is) = subst (Seen w []) (sym is) (short_seen w [] a (start w a) starts)

pub Handed-kept : (w : Parts) (n : ℕ) (lacks : Lacks) (es : List Entry) (e : Entry) → Holds w n lacks es → Handed w lacks es → Handed w lacks (es ++ e ∷ [])
Handed-kept w n lacks es e holds handed a = of_actor (e.actor == a) refl
  where
    h : List Event
    h = visible (es ++ e ∷ [])

    before : State
    before = state_of w lacks es a

    now : Seen w h before
    now = seen_on w n lacks es e holds handed a

    next : Seen w h (after_in w a before (turn before) (reply_of w es e))
    next = after_seen w h a before now (reply_of w es e) (reply_seen w h (notes_at es e.place) e.note)

    moved : (new : State) → IsNextState w a before (reply_of w es e) new → Seen w h new
    moved new (inl is) = subst (Seen w h) (sym is) next
    moved new (inr is) = subst (Seen w h) (sym is) (short_seen w h a _ next)

    of_actor : (c : Bool) → (e.actor == a) ≡ c → Seen w h (state_of w lacks (es ++ e ∷ []) a)
    of_actor true is = moved (state_of w lacks (es ++ e ∷ []) a) (state_of-own w lacks es e a is)
    of_actor false is = subst (Seen w h) (sym (state_of-other w lacks es e a is)) now

-- ---- what is asked

fired_too : (w : Parts) (h : List Event) (a bound : ℕ) (place : Place) (ask : Ask) → IsOwed w h a bound place ask → PutSeen w h ask → PutTells w h ask
fired_too w h a bound place ask owed known = by ask owed known
  where
    by : (ask : Ask) → IsOwed w h a bound place ask → PutSeen w h ask → PutTells w h ask
    by (asks.Post m) owed known = tt
    by (asks.Claim t s) owed known = tt
    by (asks.Consume t) owed known = tt
    by (asks.Free t) owed known = tt
    by (asks.Commit t ms) owed known = tt
    by asks.Admit owed known = tt
    by (asks.Over t r how) owed known = tt
    by (asks.Suspend t) owed known = tt
    by (asks.Book t r) owed known = tt
    by (asks.Unbook t) owed known = tt
    by (asks.Put t) owed known = (owed.0.fires, known)
    by asks.Take owed known = tt
    by asks.Draw owed known = tt
    by asks.Leave owed known = tt
    by asks.Left owed known = tt

abbrev ask_so : Option Asked → Option Ask
ask_so o = option_map (λ (x : Asked). x.ask) o

-- neither an attempt nor the work between drives puts
attempt_puts : (w : Parts) (h : List Event) (plan : ClaimPlan) (name : TaskId) (ph : Phase) → PutTells w h (attempt_ask plan name ph).ask
attempt_puts w h plan name booking = tt
attempt_puts w h plan name (claiming [] had) = tt
attempt_puts w h plan name (claiming (slot ∷ slots) had) = tt

work_puts : (w : Parts) (h : List Event) (a : ℕ) (work : Work) (x : Asked) → work_ask a work ≡ Some x → PutTells w h x.ask
work_puts w h a work x is = by work is
  where
    one : (y : Asked) → PutTells w h y.ask → Some y ≡ Some x → PutTells w h x.ask
    one y known same = subst (λ (z : Asked). PutTells w h z.ask) (same_Some _ _ same) known

    by : (work : Work) → work_ask a work ≡ Some x → PutTells w h x.ask
    by (lines index []) is = one _ tt is
    by (lines index (sent ∷ sents)) is = one _ tt is
    by round is = one _ tt is
    by (taking left q more) is = one _ tt is
    by (playing task index play) is = of_posts play.posts is
      where
        of_end : (pe : PlayEnd) → Some (end_ask task play pe) ≡ Some x → PutTells w h x.ask
        of_end plays.Done same = one _ tt same
        of_end (plays.Failed v) same = one _ tt same
        of_end (plays.Yield site) same = one _ tt same

        of_posts : (ps : List Sent) → Some (play_ask task play ps) ≡ Some x → PutTells w h x.ask
        of_posts [] same = of_end play.end same
        of_posts (sent ∷ ps) same = one _ tt same
    by (posting task index play sent) is = one _ tt is
    by (shedding task) is = one _ tt is
    by resting is = absurd (cc)

module _ (w : Parts) (n : ℕ) (lacks : Lacks) (es : List Entry) (e : Entry) (holds : Holds w n lacks es) (step : Step w lacks es e) (handed : Handed w lacks es) where
  abbrev before : State
  before = state_of w lacks es e.actor

  abbrev h : List Event
  h = visible es

  -- a task that is put
  pub put_tells : PutTells w h step.asking.ask
  put_tells = by (turn before) refl step.asks
    where
      by : (tu : Turn) → turn before ≡ tu → ask_in w e.actor before tu ≡ Some step.asking → PutTells w h step.asking.ask
      by (settle x more) turns is =
          let among : Among x before.hand = subst (Among x) (sym (hand_settles before.is_short before.hand before.domains (spots_left before) x more turns)) (inl refl) in
          subst (λ (y : Asked). PutTells w h y.ask) (same_Some _ _ is) (fired_too w h e.actor before.attempt x.place x.ask ((holds.actors e.actor).claims.owed x among) ((handed e.actor).hands x among))
      by (admit i more) turns is = subst (λ (y : Asked). PutTells w h y.ask) (same_Some _ _ is) tt
      by (drive spot more) turns is = subst (λ (y : Asked). PutTells w h y.ask) (same_Some _ _ is) (attempt_puts w h (plan_of w spot) (name_at e.actor before) before.phase)
      by go_on turns is = work_puts w h e.actor before.work step.asking is
      by stop turns is = absurd (cc)

  -- a task that is suspended
  pub suspend_tells : (task : Task) → step.asking.ask ≡ asks.Suspend task → IsFired h task.id × (task ≡ suspended_view w h task.id)
  suspend_tells task is = by (turn before) refl (ap ask_so step.asks ∙ ap Some is)
    where
      Done : Type 0
      Done = IsFired h task.id × (task ≡ suspended_view w h task.id)

      owes : (x : Asked) → IsOwed w h e.actor before.attempt x.place x.ask → x.ask ≡ asks.Suspend task → Done
      owes x owed same = absurd (subst (λ ask. IsOwed w h e.actor before.attempt x.place ask) same owed)

      attempts : (spot : Spot) (ph : Phase) → Some (attempt_ask (plan_of w spot) (name_at e.actor before) ph).ask ≡ Some (asks.Suspend task) → Done
      attempts spot booking same = absurd (cc)
      attempts spot (claiming [] had) same = absurd (cc)
      attempts spot (claiming (slot ∷ slots) had) same = absurd (cc)

      runs : (t : Task) (index : ℕ) (play : Play) (left : List Sent) → RunsTask w h e.actor t index left → play.causes ≡ (play_in w t).causes → record t { causes = play.causes } ≡ task → Done
      runs t index play left run causes same = subst (λ (x : Task). IsFired h x.id × (x ≡ suspended_view w h x.id)) same (run.fires, λ j. record (run.as_seen j) { causes = whole j })
        where
          whole : play.causes ≡ (play_of w h t.id).causes
          whole = causes ∙ ap (λ (p : Play). p.causes) (ap (play_in w) run.as_seen ∙ play-view w h t.id run.fires)

      works : (work : Work) → WorkMatches w h e.actor work → CausesTell w work → ask_so (work_ask e.actor work) ≡ Some (asks.Suspend task) → Done
      works (lines index []) match known same = absurd (cc)
      works (lines index (sent ∷ sents)) match known same = absurd (cc)
      works round match known same = absurd (cc)
      works (taking left q more) match known same = absurd (cc)
      works (playing t index play) match known same = of_posts play.posts same
        where
          of_end : (pe : PlayEnd) → Some (end_ask t play pe).ask ≡ Some (asks.Suspend task) → Done
          of_end plays.Done same = absurd (cc)
          of_end (plays.Failed v) same = absurd (cc)
          of_end (plays.Yield site) same = runs t index play play.posts match.0 known (suspends same)
            where
              suspends : {x y : Task} → Some (asks.Suspend x) ≡ Some (asks.Suspend y) → x ≡ y
              suspends eq = cc

          of_posts : (ps : List Sent) → Some (play_ask t play ps).ask ≡ Some (asks.Suspend task) → Done
          of_posts [] same = of_end play.end same
          of_posts (sent ∷ ps) same = absurd (cc)
      works (posting t index play sent) match known same = absurd (cc)
      works (shedding t) match known same = absurd (cc)
      works resting match known same = absurd (cc)

      by : (tu : Turn) → turn before ≡ tu → ask_so (ask_in w e.actor before tu) ≡ Some (asks.Suspend task) → Done
      by (settle x more) turns same = owes x ((holds.actors e.actor).claims.owed x (subst (Among x) (sym (hand_settles before.is_short before.hand before.domains (spots_left before) x more turns)) (inl refl))) (same_Some _ _ same)
      by (admit i more) turns same = absurd (cc)
      by (drive spot more) turns same = attempts spot before.phase same
      by go_on turns same = works before.work (holds.actors e.actor).work (handed e.actor).plays same
      by stop turns same = absurd (cc)

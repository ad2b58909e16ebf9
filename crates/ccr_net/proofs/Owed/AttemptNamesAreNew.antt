-- A name that a queue has booked or queued was reached by its actor, so a new attempt's name is new to each queue.
use Rattle.std.proofs.Common.{inl, inr, ◌⊎◌, ◌≡◌, ◌≤◌, ◌<◌, ℕ, ◌+◌, Bool, true, false, not, ◌||◌, List, [], ◌∷◌, ◌++◌, drop, Option, Some, None, refl, sym, arith, ap, ◌∙◌, subst, take}
use Rattle.std.proofs.lemmas.Bool.{or_cases}
use Rattle.std.specs.Prelude.{◌==◌, if◌then◌else◌}
use Rattle.std.specs.List.{list_any}
use Rattle.std.specs.FinSet as set
use Rattle.std.proofs.lemmas.List.{take-append-drop}
use Rattle.std.proofs.lemmas.List.Folds.{list_any-append}
use Rattle.ccr_base.specs.declared.messages.Sent.{Sent}
use Rattle.ccr_base.specs.declared.names.Place.{Place}
use Rattle.ccr_base.specs.declared.names.Place.TheVariants as places
use Rattle.ccr_base.specs.declared.names.TaskId.{TaskId}
use Rattle.ccr_base.specs.Names.{same_task}
use Rattle.ccr_handler.specs.declared.segments.PlayEnd.{PlayEnd}
use Rattle.ccr_handler.specs.declared.segments.PlayEnd.TheVariants as plays
use Rattle.ccr_wiring.specs.declared.parts.Parts.{Parts}
use Rattle.ccr_base.proofs.Booleans.{same_number, eq-self, no_both, both, or_left, or_right, or_none}
use Rattle.ccr_base.proofs.Options.{some_so}
use Rattle.ccr_model.proofs.Members.{Among}
use Rattle.ccr_base.proofs.SameNames.{same_task-is}
use Rattle.ccr_base.proofs.Lists.{any_right}
use Rattle.ccr_places.specs.declared.notes.Note.{Note}
use Rattle.ccr_places.specs.declared.notes.Note.TheVariants as notes
use Rattle.ccr_places.specs.Queues.{QueueState, Queued}
use Rattle.ccr_places.specs.Queues as queues
use Rattle.ccr_places.specs.TaskSets.{TaskSet}
use Rattle.ccr_claim.specs.declared.asks.Ask.{Ask}
use Rattle.ccr_claim.specs.declared.asks.Ask.TheVariants as asks
use Rattle.ccr_claim.specs.declared.asks.Asked.{Asked}
use Rattle.ccr_claim.specs.Attempts.{Phase, booking, claiming}
use Rattle.ccr_actor.specs.Actors.{State, Work, lines, round, taking, playing, posting, shedding, resting, after, after_work, shorten, name_at, work_ask, play_ask, end_ask}
use Rattle.ccr_runs.specs.declared.entries.Entry.{Entry}
use Rattle.ccr_runs.specs.Places.{queue_note}
use Rattle.ccr_runs.specs.EntryRuns.{Lacks, state_of, same_place, reply_of, queue_at}
use Rattle.ccr_runs.specs.Visible.{visible}
use Rattle.ccr_net.proofs.Parts.OneMoreEntry.{Step, queue_at-push, IsNextState, state_of-own, state_of-other}
use Rattle.ccr_net.proofs.Parts.PortsAndHandsMatch.{IsOwed}
use Rattle.ccr_net.proofs.Kept.WholeInvariant.{Holds}
use Rattle.ccr_net.proofs.Parts.TasksAreBookedOnce.{in-more, in-less}
use Rattle.ccr_net.proofs.Owed.WorkKeepsStates.{worked}
use Rattle.ccr_net.proofs.Owed.EntriesAreMoves.{Move, settles, drops, admits, strikes, books, claims, fires, gives_up, goes, moved, is_booked_by}
use Rattle.ccr_net.proofs.Parts.NotesAnswerAsks.{Given, given_some}

abbrev pub is_known : QueueState → TaskId → Bool
is_known queue t = queues.is_booked queue t || queues.is_queued queue t

-- an attempt of this number has been booked
abbrev pub ReachedIn : Phase → ℕ → ℕ → Type 0
ReachedIn booking n k = k < n
ReachedIn (claiming slots had) n k = k ≤ n

abbrev pub Reached : State → ℕ → Type 0
Reached st k = ReachedIn st.phase st.attempt k

-- each name that a queue knows was reached
abbrev pub NamesReached : Parts → Lacks → List Entry → Type 0
NamesReached w lacks es = (q : ℕ) (t : TaskId) → is_known (queue_at w es q) t ≡ true → Reached (state_of w lacks es t.actor) t.attempt

-- ---- what a note makes known

any_drop : (p : Queued → Bool) (n : ℕ) (xs : List Queued) → list_any p (drop n xs) ≡ true → list_any p xs ≡ true
any_drop p n xs is = subst (λ ys. list_any p ys ≡ true) (take-append-drop n xs) (any_right p (take n xs) (drop n xs) is)

any_last : (p : Queued → Bool) (xs : List Queued) (x : Queued) → list_any p (xs ++ x ∷ []) ≡ true → (list_any p xs ≡ true) ⊎ (p x ≡ true)
any_last p xs x is = of_or (or_cases (list_any p xs) (p x || false) (sym (list_any-append p xs (x ∷ [])) ∙ is))
  where
    of_or : (list_any p xs ≡ true) ⊎ (p x || false ≡ true) → (list_any p xs ≡ true) ⊎ (p x ≡ true)
    of_or (inl old) = inl old
    of_or (inr new) = inr (or_none (p x) new)

pub was_there : (tasks : TaskSet) (u t : TaskId) → set.contains (set.remove tasks u) t ≡ true → set.contains tasks t ≡ true
was_there tasks u t is = (both (not (same_task t u)) (set.contains tasks t) (sym (in-less tasks u t) ∙ is)).1

was_booked : (queue : QueueState) (u t : TaskId) → set.contains (set.remove queue.fresh u) t || set.contains (set.remove queue.resuming u) t ≡ true → queues.is_booked queue t ≡ true
was_booked queue u t is = of_or (or_cases _ _ is)
  where
    of_or : (set.contains (set.remove queue.fresh u) t ≡ true) ⊎ (set.contains (set.remove queue.resuming u) t ≡ true) → queues.is_booked queue t ≡ true
    of_or (inl now) = or_left _ _ (was_there queue.fresh u t now)
    of_or (inr now) = or_right (set.contains queue.fresh t) _ (was_there queue.resuming u t now)

-- what is known then was known before, or is booked now
abbrev KnownBy : QueueState → Ask → Note → TaskId → Type 0
KnownBy queue ask note t = (is_known queue t ≡ true) ⊎ ((r : Bool) × (ask ≡ asks.Book t r) × (note ≡ notes.Book t r None))

booked_back : (queue : QueueState) (u t : TaskId) (r : Bool) (o : Option ℕ) (note : Note) → note ≡ notes.Book u r o → is_known (queues.after_book queue u r o) t ≡ true → KnownBy queue (asks.Book u r) note t
booked_back queue u t true (Some n) note noted is = inl is
booked_back queue u t false (Some n) note noted is = inl is
booked_back queue u t false None note noted is = by (same_task t u) refl (ap (λ b. (b || set.contains queue.resuming t) || queues.is_queued queue t) (sym (in-more queue.fresh u t)) ∙ is)
  where
    by : (b : Bool) → same_task t u ≡ b → ((same_task t u || set.contains queue.fresh t) || set.contains queue.resuming t) || queues.is_queued queue t ≡ true → KnownBy queue (asks.Book u false) note t
    by true e now = inr (false, ap (λ x. asks.Book x false) (sym (same_task-is t u e)), noted ∙ ap (λ x. notes.Book x false None) (sym (same_task-is t u e)))
    by false e now = inl (rw e at now)
booked_back queue u t true None note noted is = by (same_task t u) refl (ap (λ b. (set.contains queue.fresh t || b) || queues.is_queued queue t) (sym (in-more queue.resuming u t)) ∙ is)
  where
    by : (b : Bool) → same_task t u ≡ b → (set.contains queue.fresh t || (same_task t u || set.contains queue.resuming t)) || queues.is_queued queue t ≡ true → KnownBy queue (asks.Book u true) note t
    by true e now = inr (true, ap (λ x. asks.Book x true) (sym (same_task-is t u e)), noted ∙ ap (λ x. notes.Book x true None) (sym (same_task-is t u e)))
    by false e now = inl (rw e at now)

put_back : (queue : QueueState) (u t : TaskId) → queues.may_put queue u ≡ true → is_known (queues.after_put queue u) t ≡ true → is_known queue t ≡ true
put_back queue u t may is = of_or (or_cases _ _ is)
  where
    new : Queued
    new = record { task = u; resumes = set.contains queue.resuming u }

    test : Queued → Bool
    test x = same_task t x.task

    of_last : (list_any test (drop (queues.drop_count queue) queue.queued) ≡ true) ⊎ (same_task t u ≡ true) → is_known queue t ≡ true
    of_last (inl now) = or_right (queues.is_booked queue t) _ (any_drop test (queues.drop_count queue) queue.queued now)
    of_last (inr now) = or_left _ _ (ap (queues.is_booked queue) (same_task-is t u now) ∙ may)

    of_or : (set.contains (set.remove queue.fresh u) t || set.contains (set.remove queue.resuming u) t ≡ true) ⊎ (list_any test (drop (queues.drop_count queue) queue.queued ++ new ∷ []) ≡ true) → is_known queue t ≡ true
    of_or (inl now) = or_left _ _ (was_booked queue u t now)
    of_or (inr now) = of_last (any_last test (drop (queues.drop_count queue) queue.queued) new now)

take_back : (queue : QueueState) (t : TaskId) → is_known (queues.after_take queue) t ≡ true → is_known queue t ≡ true
take_back queue t is = of_or (or_cases (queues.is_booked queue t) _ is)
  where
    of_or : (queues.is_booked queue t ≡ true) ⊎ (list_any (λ (x : Queued). same_task t x.task) (drop 1 queue.queued) ≡ true) → is_known queue t ≡ true
    of_or (inl now) = or_left _ _ now
    of_or (inr now) = or_right (queues.is_booked queue t) _ (any_drop (λ (x : Queued). same_task t x.task) 1 queue.queued now)

known_back : (queue : QueueState) (ask : Ask) (note : Note) (t : TaskId) → queue_note queue ask ≡ Some note → is_known (queues.after queue note) t ≡ true → KnownBy queue ask note t
known_back queue (asks.Book u r) note t gives is = booked_back queue u t r (queues.book_note queue r) note noted (rw noted at is)
  where
    noted : note ≡ notes.Book u r (queues.book_note queue r)
    noted = (given_some (queues.may_book queue u) (notes.Book u r (queues.book_note queue r)) note gives).1
known_back queue (asks.Unbook u) note t gives is = inl (of_or (or_cases _ _ (subst (λ m. is_known (queues.after queue m) t ≡ true) (given_some (queues.may_unbook queue u) (notes.Unbook u) note gives).1 is)))
  where
    of_or : (set.contains (set.remove queue.fresh u) t || set.contains (set.remove queue.resuming u) t ≡ true) ⊎ (queues.is_queued queue t ≡ true) → is_known queue t ≡ true
    of_or (inl now) = or_left _ _ (was_booked queue u t now)
    of_or (inr now) = or_right (queues.is_booked queue t) _ now
known_back queue (asks.Put task) note t gives is = inl (put_back queue task.id t found.0 (subst (λ m. is_known (queues.after queue m) t ≡ true) found.1 is))
  where
    found : (queues.may_put queue task.id ≡ true) × (note ≡ notes.Put task.id (queues.put_note queue))
    found = given_some (queues.may_put queue task.id) (notes.Put task.id (queues.put_note queue)) note gives
known_back queue asks.Take note t gives is = inl (take_back queue t (subst (λ m. is_known (queues.after queue m) t ≡ true) noted is))
  where
    noted : note ≡ notes.Take (queues.take_note queue)
    noted = cc
known_back queue (asks.Post m) note t gives is = absurd (cc)
known_back queue (asks.Claim u s) note t gives is = absurd (cc)
known_back queue (asks.Consume u) note t gives is = absurd (cc)
known_back queue (asks.Free u) note t gives is = absurd (cc)
known_back queue (asks.Commit u ms) note t gives is = absurd (cc)
known_back queue asks.Admit note t gives is = absurd (cc)
known_back queue (asks.Over u r how) note t gives is = absurd (cc)
known_back queue (asks.Suspend u) note t gives is = absurd (cc)
known_back queue asks.Draw note t gives is = absurd (cc)
known_back queue asks.Leave note t gives is = absurd (cc)
known_back queue asks.Left note t gives is = absurd (cc)

-- ---- what an actor has reached

weaker : (ph : Phase) (n k : ℕ) → ReachedIn ph n k → k < n + 1
weaker booking n k is = omega arith
weaker (claiming slots had) n k is = omega arith

reached_short : (w : Parts) (a : ℕ) (st : State) (k : ℕ) → Reached st k → Reached (shorten w a st) k
reached_short w a st k is = weaker st.phase st.attempt k is

reached_on : (w : Parts) (es : List Entry) (e : Entry) (st next : State) (k : ℕ) → Move w es e st next → Reached st k → Reached next k
reached_on w es e st next k (settles x more hand given is) r = subst (λ (s : State). Reached s k) (sym is) r
reached_on w es e st next k (drops x more t d hand given note is) r = subst (λ (s : State). Reached s k) (sym is) r
reached_on w es e st next k (admits i more t hand numbers given note is) r = subst (λ (s : State). Reached s k) (sym is) r
reached_on w es e st next k (strikes i more hand numbers given is) r = subst (λ (s : State). Reached s k) (sym is) r
reached_on w es e st next k (books spot more hand spots phase given note is) r = subst (λ (s : State). Reached s k) (sym is) (let less : k < st.attempt = subst (λ ph. ReachedIn ph st.attempt k) phase r in let le : k ≤ st.attempt = omega (arith, less) in le)
reached_on w es e st next k (claims spot more slot slots had j hand spots phase given free note is) r = subst (λ (s : State). Reached s k) (sym is) (let le : k ≤ st.attempt = subst (λ ph. ReachedIn ph st.attempt k) phase r in le)
reached_on w es e st next k (fires spot more had cs hand spots phase given note is) r = subst (λ (s : State). Reached s k) (sym is) (weaker st.phase st.attempt k r)
reached_on w es e st next k (gives_up spot more hand spots given quiet is) r = subst (λ (s : State). Reached s k) (sym is) (weaker st.phase st.attempt k r)
reached_on w es e st next k (goes x turns asks given is) r = subst (λ (s : State). Reached s k) (sym is) (let went = worked w st st.work refl (reply_of w es e) in let phases = sym went.phase in let attempts = sym went.attempt in subst (λ ph. ReachedIn ph (after_work w st st.work (reply_of w es e)).attempt k) phases (subst (λ n. ReachedIn st.phase n k) attempts r))

-- ---- who books

abbrev is_book : Ask → Bool
is_book (asks.Book t r) = true
is_book _ = false

some_book : (y x : Asked) → Some y ≡ Some x → is_book y.ask ≡ false → is_book x.ask ≡ false
some_book y x is none = some_so (λ (z : Asked). is_book z.ask ≡ false) is none

work_books : (a : ℕ) (wk : Work) (x : Asked) → work_ask a wk ≡ Some x → is_book x.ask ≡ false
work_books a (lines index []) x is = some_book _ x is refl
work_books a (lines index (sent ∷ sents)) x is = some_book _ x is refl
work_books a round x is = some_book _ x is refl
work_books a (taking left queue more) x is = some_book _ x is refl
work_books a (playing task index play) x is = by_posts play.posts is
  where
    by_end : (end : PlayEnd) → is_book (end_ask task play end).ask ≡ false
    by_end plays.Done = refl
    by_end (plays.Failed value) = refl
    by_end (plays.Yield site) = refl

    by_posts : (ps : List Sent) → Some (play_ask task play ps) ≡ Some x → is_book x.ask ≡ false
    by_posts [] now = some_book _ x now (by_end play.end)
    by_posts (sent ∷ ps) now = some_book _ x now refl
work_books a (posting task index play sent) x is = some_book _ x is refl
work_books a (shedding task) x is = some_book _ x is refl
work_books a resting x is = absurd (cc)

-- the asks of an entry, of which a booking is of the attempt under way
pub record Booking (w : Parts) (es : List Entry) (e : Entry) (st next : State) : Type 0 where
  pub x : Asked
  pub given : Given w es e x
  pub begins : (t : TaskId) (r : Bool) → x.ask ≡ asks.Book t r → e.note ≡ notes.Book t r None → (t ≡ name_at e.actor st) × Reached next t.attempt

no_book : (ask : Ask) (t : TaskId) (r : Bool) → is_book ask ≡ false → ask ≡ asks.Book t r → ⊥
no_book ask t r none is = no_both (ap is_book is) none

module _ (w : Parts) (n : ℕ) (lacks : Lacks) (es : List Entry) (e : Entry) (step : Step w lacks es e) (holds : Holds w n lacks es) (names : NamesReached w lacks es) where
  abbrev st : State
  st = state_of w lacks es e.actor

  booking_of : (next : State) → Move w es e st next → Booking w es e st next
  booking_of next (settles x more hand given is) = record { x = x; given = given; begins = λ t r book note. absurd (let owed : IsOwed w (visible es) e.actor st.attempt x.place x.ask = (holds.actors e.actor).claims.owed x (subst (Among x) (sym hand) (inl refl)) in subst (λ ask. IsOwed w (visible es) e.actor st.attempt x.place ask) book owed) }
  booking_of next (drops x more t d hand given note is) = record { x = x; given = given; begins = λ u r book noted. absurd (let both_are : notes.Put t (Some d) ≡ notes.Book u r None = sym note ∙ noted in cc) }
  booking_of next (admits i more t hand numbers given note is) = record { x = _; given = given; begins = λ u r book noted. absurd (cc) }
  booking_of next (strikes i more hand numbers given is) = record { x = _; given = given; begins = λ u r book noted. absurd (cc) }
  booking_of next (books spot more hand spots phase given note is) = record { x = _; given = given; begins = λ u r book noted. begun u r noted }
    where
      begun : (u : TaskId) (r : Bool) → e.note ≡ notes.Book u r None → (u ≡ name_at e.actor st) × Reached next u.attempt
      begun u r noted = (same, subst (λ (s : State). Reached s u.attempt) (sym is) (let number = ap (λ (t : TaskId). t.attempt) same in let le : u.attempt ≤ st.attempt = omega (arith, number) in le))
        where
          same : u ≡ name_at e.actor st
          same = let both_are = sym noted ∙ note in cc
  booking_of next (claims spot more slot slots had k hand spots phase given free note is) = record { x = _; given = given; begins = λ u r book noted. absurd (cc) }
  booking_of next (fires spot more had cs hand spots phase given note is) = record { x = _; given = given; begins = λ u r book noted. absurd (cc) }
  booking_of next (gives_up spot more hand spots given quiet is) = record { x = _; given = given; begins = λ u r book noted. absurd (no_both (ap is_booked_by noted) quiet) }
  booking_of next (goes x turns asks given is) = record { x = x; given = given; begins = λ u r book noted. absurd (no_book x.ask u r (work_books e.actor st.work x asks) book) }

  abbrev next : State
  next = after w e.actor st (reply_of w es e)

  made : Booking w es e st next
  made = booking_of next (moved w lacks es e step)

  own_reached : (k : ℕ) → Reached next k → Reached (state_of w lacks (es ++ e ∷ []) e.actor) k
  own_reached k r = of_next (state_of-own w lacks es e e.actor (eq-self e.actor))
    where
      of_next : IsNextState w e.actor st (reply_of w es e) (state_of w lacks (es ++ e ∷ []) e.actor) → Reached (state_of w lacks (es ++ e ∷ []) e.actor) k
      of_next (inl is) = subst (λ (s : State). Reached s k) (sym is) r
      of_next (inr is) = subst (λ (s : State). Reached s k) (sym is) (reached_short w e.actor next k r)

  all_reached : (a k : ℕ) → Reached (state_of w lacks es a) k → Reached (state_of w lacks (es ++ e ∷ []) a) k
  all_reached a k r = by (e.actor == a) refl
    where
      by : (b : Bool) → (e.actor == a) ≡ b → Reached (state_of w lacks (es ++ e ∷ []) a) k
      by true is = subst (λ c. Reached (state_of w lacks (es ++ e ∷ []) c) k) (same_number e.actor a is) (own_reached k (reached_on w es e st next k (moved w lacks es e step) (subst (λ c. Reached (state_of w lacks es c) k) (sym (same_number e.actor a is)) r)))
      by false is = subst (λ (s : State). Reached s k) (sym (state_of-other w lacks es e a is)) r

  pub names_reached-kept : NamesReached w lacks (es ++ e ∷ [])
  names_reached-kept q t known = by (same_place made.x.place (places.Queue q)) refl
    where
      now_at : Bool → QueueState
      now_at c = if c then queues.after (queue_at w es q) e.note else queue_at w es q

      changes : queue_at w (es ++ e ∷ []) q ≡ now_at (same_place made.x.place (places.Queue q))
      changes = queue_at-push w es e q ∙ ap (λ pl. now_at (same_place pl (places.Queue q))) made.given.there

      at_queue : (pl : Place) → same_place pl (places.Queue q) ≡ true → pl ≡ places.Queue q
      at_queue (places.Queue k) is = ap places.Queue (same_number k q is)
      at_queue (places.Arbiter k) is = absurd (cc)
      at_queue (places.Site k j) is = absurd (cc)
      at_queue (places.Port k) is = absurd (cc)
      at_queue places.Meter is = absurd (cc)

      old : is_known (queue_at w es q) t ≡ true → Reached (state_of w lacks (es ++ e ∷ []) t.actor) t.attempt
      old is = all_reached t.actor t.attempt (names q t is)

      by : (b : Bool) → same_place made.x.place (places.Queue q) ≡ b → Reached (state_of w lacks (es ++ e ∷ []) t.actor) t.attempt
      by false at = old (ap (λ s. is_known s t) (sym (changes ∙ ap now_at at)) ∙ known)
      by true at = of_back (known_back (queue_at w es q) made.x.ask e.note t noted (ap (λ s. is_known s t) (sym (changes ∙ ap now_at at)) ∙ known))
        where
          noted : queue_note (queue_at w es q) made.x.ask ≡ Some e.note
          noted = rw (at_queue made.x.place at) at made.given.gives

          of_back : KnownBy (queue_at w es q) made.x.ask e.note t → Reached (state_of w lacks (es ++ e ∷ []) t.actor) t.attempt
          of_back (inl is) = old is
          of_back (inr found) = let began = made.begins t found.0 found.1 found.2 in subst (λ c. Reached (state_of w lacks (es ++ e ∷ []) c) t.attempt) (sym (ap (λ (u : TaskId). u.actor) began.0)) (own_reached t.attempt began.1)

-- A booking is ended once, and by whom.
use Rattle.std.proofs.Common.{inl, inr, ◌⊎◌, ◌≡◌, ◌≤◌, ℕ, zero, suc, ◌+◌, Bool, true, false, not, ◌&&◌, ◌||◌, List, [], ◌∷◌, ◌++◌, length, Option, Some, None, refl, sym, arith, ap, ◌∙◌, subst}
use Rattle.std.specs.Prelude.{if◌then◌else◌}
use Rattle.std.specs.FinSet as set
use Rattle.ccr_base.specs.declared.names.Place.TheVariants as places
use Rattle.ccr_base.specs.declared.names.TaskId.{TaskId}
use Rattle.ccr_base.specs.declared.tasks.Task.{Task}
use Rattle.ccr_base.specs.Names.{same_task, has_task}
use Rattle.ccr_wiring.specs.declared.parts.Parts.{Parts}
use Rattle.ccr_wiring.specs.Valid.{IsValid}
use Rattle.ccr_model.specs.Firings.{fired}
use Rattle.ccr_base.proofs.Booleans.{both, eq-self, neither, no_both, not_true}
use Rattle.ccr_model.proofs.FiredTasks.{fired_has}
use Rattle.ccr_model.proofs.Members.{Among}
use Rattle.ccr_base.proofs.SameNames.{same_task-is}
use Rattle.ccr_model.proofs.TaskLists.{of_one}
use Rattle.ccr_places.specs.declared.notes.Note.{Note}
use Rattle.ccr_places.specs.declared.notes.Note.TheVariants as notes
use Rattle.ccr_places.specs.Queues.{QueueState, is_booked}
use Rattle.ccr_places.specs.Queues as queues
use Rattle.ccr_places.specs.TaskSets.{task_cmp}
use Rattle.ccr_places.specs.NotedTasks.{noted_booked, noted_unbooked}
use Rattle.ccr_claim.specs.declared.asks.Ask.{Ask}
use Rattle.ccr_claim.specs.declared.asks.Ask.TheVariants as asks
use Rattle.ccr_claim.specs.declared.asks.Asked.{Asked}
use Rattle.ccr_claim.specs.Plans.{resumes, slots_in}
use Rattle.ccr_claim.specs.Attempts.{Phase, booking, claiming, attempt_ask}
use Rattle.ccr_actor.specs.Plans.{plan_of}
use Rattle.ccr_actor.specs.Actors.{State, after, after_attempt, after_in, name_at, shorten}
use Rattle.ccr_runs.specs.declared.entries.Entry.{Entry}
use Rattle.ccr_runs.specs.Places.{note_of, queue_note}
use Rattle.ccr_runs.specs.EntryRuns.{IsRunAfter, Lacks, notes_at, reply_of, reply_to, same_place, state_of, queue_at}
use Rattle.ccr_runs.specs.Visible.{visible}
use Rattle.ccr_net.proofs.Kept.WholeInvariant.{Holds, begins, IsBegun}
use Rattle.ccr_net.proofs.Parts.TasksAreBookedOnce.{in-less, in-more}
use Rattle.ccr_net.proofs.Parts.PortsAndHandsMatch.{IsOwed}
use Rattle.ccr_net.proofs.Parts.MeterMatches.{bit}
use Rattle.ccr_net.proofs.Parts.NotesAnswerAsks.{Given, given_some}
use Rattle.ccr_net.proofs.Owed.NotedOversAreOver.{is_over_ask}
use Rattle.ccr_net.proofs.Owed.EntriesChangeOwing.{is_quiet}
use Rattle.ccr_net.proofs.Owed.PutTasksAreBooked.{is_booked_at}
use Rattle.ccr_net.proofs.Played.PlacesByNumber.{same_place-is}
use Rattle.ccr_net.proofs.Parts.OneMoreEntry.{IsNextState, Step, Step-made, queue_at-push, state_of-own}
use Rattle.ccr_rests.specs.Ends.{EndsBooking, EndsOnce, MayPut, MayUnbook, tells}
use Rattle.ccr_rests.proofs.HeldRuns.{along_held, holds_so}
use Rattle.ccr_rests.proofs.BroughtHands.{HandsBrought, IsBrought, hands_brought-kept}
use Rattle.ccr_rests.proofs.EntryCounts.{AreOwn, Parted, count, count-push, ends_once, own-push, parted}
use Rattle.ccr_rests.proofs.NoteKinds.{kind_asked, kind_noted}
use Rattle.ccr_rests.proofs.Rising.{IsOld, Rises, Tries, from_hand, is_claiming, rises, tries}

-- ---- a note at a queue

more_fresh : (a b c : Bool) → (a ≡ true → b || c ≡ false) → bit (a || false) + bit (b || c) ≡ 0 + bit ((a || b) || c)
more_fresh true b c none = (let out = ap bit (none refl) in omega (arith, out))
more_fresh false b c none = refl

more_resuming : (a b c : Bool) → (a ≡ true → b || c ≡ false) → bit (a || false) + bit (b || c) ≡ 0 + bit (b || (a || c))
more_resuming true true c none = (let out = ap bit (none refl) in omega (arith, out))
more_resuming true false c none = (let out = ap bit (none refl) in omega (arith, out))
more_resuming false b c none = refl

pub less : (a b c : Bool) → (a ≡ true → b || c ≡ true) → 0 + bit (b || c) ≡ bit (a || false) + bit ((not a && b) || (not a && c))
less true b c some = (let there = ap bit (some refl) in omega (arith, there))
less false b c some = refl

-- a booking that is made stands then, and one that is ended stood before
module _ (queue : QueueState) (t : TaskId) where
  booked : (u : TaskId) (r : Bool) (o : Option ℕ) → is_booked queue u ≡ false → bit (has_task (noted_booked (notes.Book u r o)) t) + bit (is_booked queue t) ≡ bit (has_task (noted_unbooked (notes.Book u r o)) t) + bit (is_booked (queues.after_book queue u r o) t)
  booked u false (Some k) none = refl
  booked u true (Some k) none = refl
  booked u false None none = rw (in-more queue.fresh u t) (more_fresh (same_task t u) (set.contains queue.fresh t) (set.contains queue.resuming t) (λ same. ap (is_booked queue) (same_task-is t u same) ∙ none))
  booked u true None none = rw (in-more queue.resuming u t) (more_resuming (same_task t u) (set.contains queue.fresh t) (set.contains queue.resuming t) (λ same. ap (is_booked queue) (same_task-is t u same) ∙ none))

  ended : (u : TaskId) → is_booked queue u ≡ true → 0 + bit (is_booked queue t) ≡ bit (has_task (u ∷ []) t) + bit (set.contains (set.remove queue.fresh u) t || set.contains (set.remove queue.resuming u) t)
  ended u there = rw (in-less queue.fresh u t, in-less queue.resuming u t) (less (same_task t u) (set.contains queue.fresh t) (set.contains queue.resuming t) (λ same. ap (is_booked queue) (same_task-is t u same) ∙ there))

  queue_balance : (ask : Ask) (note : Note) → queue_note queue ask ≡ Some note → bit (has_task (noted_booked note) t) + bit (is_booked queue t) ≡ bit (has_task (noted_unbooked note) t) + bit (is_booked (queues.after queue note) t)
  queue_balance (asks.Book u r) note is = let parts = given_some (queues.may_book queue u) (notes.Book u r (queues.book_note queue r)) note is in rw parts.1 (booked u r (queues.book_note queue r) (neither (is_booked queue u) (queues.is_queued queue u) (not_true _ parts.0)).0)
  queue_balance (asks.Unbook u) note is = let parts = given_some (queues.may_unbook queue u) (notes.Unbook u) note is in rw parts.1 (ended u parts.0)
  queue_balance (asks.Put task) note is = let parts = given_some (queues.may_put queue task.id) (notes.Put task.id (queues.put_note queue)) note is in rw parts.1 (ended task.id parts.0)
  queue_balance asks.Take note is = rw noted refl
    where
      noted : note ≡ notes.Take (queues.take_note queue)
      noted = cc
  queue_balance (asks.Post m) note is = absurd (cc)
  queue_balance (asks.Claim u s) note is = absurd (cc)
  queue_balance (asks.Consume u) note is = absurd (cc)
  queue_balance (asks.Free u) note is = absurd (cc)
  queue_balance (asks.Commit task ms) note is = absurd (cc)
  queue_balance asks.Admit note is = absurd (cc)
  queue_balance (asks.Over u r how) note is = absurd (cc)
  queue_balance (asks.Suspend task) note is = absurd (cc)
  queue_balance asks.Draw note is = absurd (cc)
  queue_balance asks.Leave note is = absurd (cc)
  queue_balance asks.Left note is = absurd (cc)

-- by which ask a booking was ended
abbrev IsEnding : Ask → Note → TaskId → Type 0
IsEnding ask note t = ((ask ≡ asks.Unbook t) × (note ≡ notes.Unbook t)) ⊎ ((task : Task) × (d : Option TaskId) × (ask ≡ asks.Put task) × (note ≡ notes.Put t d) × (task.id ≡ t))

ending : (queue : QueueState) (ask : Ask) (note : Note) (t : TaskId) → queue_note queue ask ≡ Some note → has_task (noted_unbooked note) t ≡ true → IsEnding ask note t
ending queue (asks.Unbook u) note t is has = (let noted = (given_some (queues.may_unbook queue u) (notes.Unbook u) note is).1 in let same : t ≡ u = of_one u t (ap (λ n. has_task (noted_unbooked n) t) (sym noted) ∙ has) in inl (ap asks.Unbook (sym same), noted ∙ ap notes.Unbook (sym same)))
ending queue (asks.Put task) note t is has = (let noted = (given_some (queues.may_put queue task.id) (notes.Put task.id (queues.put_note queue)) note is).1 in let same : t ≡ task.id = of_one task.id t (ap (λ n. has_task (noted_unbooked n) t) (sym noted) ∙ has) in inr (task, queues.put_note queue, refl, noted ∙ ap (λ u. notes.Put u (queues.put_note queue)) (sym same), sym same))
ending queue (asks.Book u r) note t is has = absurd (let noted = (given_some (queues.may_book queue u) (notes.Book u r (queues.book_note queue r)) note is).1 in no_both has (ap (λ n. has_task (noted_unbooked n) t) noted))
ending queue asks.Take note t is has = absurd (no_both has (ap (λ n. has_task (noted_unbooked n) t) noted))
  where
    noted : note ≡ notes.Take (queues.take_note queue)
    noted = cc
ending queue (asks.Consume u) note t is has = absurd (cc)
ending queue (asks.Free u) note t is has = absurd (cc)
ending queue (asks.Post m) note t is has = absurd (cc)
ending queue (asks.Claim u s) note t is has = absurd (cc)
ending queue (asks.Commit task ms) note t is has = absurd (cc)
ending queue asks.Admit note t is has = absurd (cc)
ending queue (asks.Over u r how) note t is has = absurd (cc)
ending queue (asks.Suspend task) note t is has = absurd (cc)
ending queue asks.Draw note t is has = absurd (cc)
ending queue asks.Leave note t is has = absurd (cc)
ending queue asks.Left note t is has = absurd (cc)

-- ---- one entry

-- a booking that was made
booking_noted : (note : Note) (t : TaskId) → has_task (noted_booked note) t ≡ true → (r : Bool) × (note ≡ notes.Book t r None)
booking_noted (notes.Book u r None) t has = (r, ap (λ v. notes.Book v r None) (sym (of_one u t has)))
booking_noted (notes.Book u r (Some k)) t has = absurd (cc)
booking_noted (notes.Claim u s k) t has = absurd (cc)
booking_noted (notes.Consume u) t has = absurd (cc)
booking_noted (notes.Free u) t has = absurd (cc)
booking_noted (notes.Post m) t has = absurd (cc)
booking_noted (notes.Fired u s ms cs) t has = absurd (cc)
booking_noted (notes.Dead u s by) t has = absurd (cc)
booking_noted (notes.Admit u) t has = absurd (cc)
booking_noted (notes.Over u r how) t has = absurd (cc)
booking_noted (notes.Suspend u) t has = absurd (cc)
booking_noted (notes.Unbook u) t has = absurd (cc)
booking_noted (notes.Put u d) t has = absurd (cc)
booking_noted (notes.Take u) t has = absurd (cc)
booking_noted (notes.Draw k) t has = absurd (cc)
booking_noted notes.Leave t has = absurd (cc)
booking_noted (notes.Left k) t has = absurd (cc)

module _ (w : Parts) (n : ℕ) (lacks : Lacks) (es : List Entry) (e : Entry) (holds : Holds w n lacks es) (step : Step w lacks es e) where
  noted_at : (q : ℕ) → same_place e.place (places.Queue q) ≡ true → queue_note (queue_at w es q) step.asking.ask ≡ Some e.note
  noted_at q at = subst (λ pl. note_of w pl (notes_at es pl) step.asking.ask ≡ Some e.note) (sym step.there ∙ same_place-is e.place (places.Queue q) at) step.gives

  entry_balance : (q : ℕ) (t : TaskId) → bit (tells noted_booked (places.Queue q) t e) + bit (is_booked_at w es q t) ≡ bit (tells noted_unbooked (places.Queue q) t e) + bit (is_booked_at w (es ++ e ∷ []) q t)
  entry_balance q t = by (same_place e.place (places.Queue q)) refl ∙ ap (λ s. bit (tells noted_unbooked (places.Queue q) t e) + bit (is_booked s t)) (sym (queue_at-push w es e q))
    where
      by : (b : Bool) → same_place e.place (places.Queue q) ≡ b → bit (b && has_task (noted_booked e.note) t) + bit (is_booked_at w es q t) ≡ bit (b && has_task (noted_unbooked e.note) t) + bit (is_booked (if b then queues.after (queue_at w es q) e.note else queue_at w es q) t)
      by true at = queue_balance (queue_at w es q) t step.asking.ask e.note (noted_at q at)
      by false at = refl

  -- who ends a booking
  ends_by : (q : ℕ) (t : TaskId) → HandsBrought w lacks es → tells noted_unbooked (places.Queue q) t e ≡ true → EndsBooking es e.actor e.note
  ends_by q t brought is = of (ending (queue_at w es q) step.asking.ask e.note t (noted_at q parts.0) parts.1)
    where
      parts : (same_place e.place (places.Queue q) ≡ true) × (has_task (noted_unbooked e.note) t ≡ true)
      parts = both (same_place e.place (places.Queue q)) (has_task (noted_unbooked e.note) t) is

      bound : ℕ
      bound = (state_of w lacks es e.actor).attempt

      of : IsEnding step.asking.ask e.note t → EndsBooking es e.actor e.note
      of (inl found) = subst (EndsBooking es e.actor) (sym found.1) (unbooks (subst (IsBrought es e.actor bound) found.0 (brought e.actor step.asking (subst (Among step.asking) (sym hand.1) (inl refl)))))
        where
          hand : (rest : List Asked) × ((state_of w lacks es e.actor).hand ≡ step.asking ∷ rest) × IsOwed w (visible es) e.actor (state_of w lacks es e.actor).attempt step.asking.place step.asking.ask
          hand = from_hand w n lacks es e holds step (ap is_quiet found.0) (ap is_over_ask found.0)

          unbooks : IsBrought es e.actor bound (asks.Unbook t) → MayUnbook es e.actor t
          unbooks (inl own) = inl (own.0, own.2)
          unbooks (inr told) = inr told
      of (inr found) = subst (EndsBooking es e.actor) (sym found.3) (subst (MayPut es e.actor) found.4 (has_fired, subst (IsBrought es e.actor bound) found.2 (brought e.actor step.asking (subst (Among step.asking) (sym hand.1) (inl refl)))))
        where
          hand : (rest : List Asked) × ((state_of w lacks es e.actor).hand ≡ step.asking ∷ rest) × IsOwed w (visible es) e.actor (state_of w lacks es e.actor).attempt step.asking.place step.asking.ask
          hand = from_hand w n lacks es e holds step (ap is_quiet found.2) (ap is_over_ask found.2)

          owed : IsOwed w (visible es) e.actor bound step.asking.place (asks.Put found.0)
          owed = subst (IsOwed w (visible es) e.actor bound step.asking.place) found.2 hand.2

          has_fired : has_task (fired (visible es)) (found.0).id ≡ true
          has_fired = fired_has (visible es) (found.0).id owed.0.fires

  -- who is booked is the attempt under way, not booked before, and then it goes on or has ended
  record BooksNew (t : TaskId) : Type 0 where
    name : t ≡ name_at e.actor (state_of w lacks es e.actor)
    new : is_claiming (state_of w lacks es e.actor).phase ≡ false
    later : IsOld (state_of w lacks (es ++ e ∷ []) t.actor) t (is_claiming (state_of w lacks (es ++ e ∷ []) t.actor).phase)

  books_new : (t : TaskId) → has_task (noted_booked e.note) t ≡ true → BooksNew t
  books_new t has = by (state_of w lacks es e.actor).phase refl
    where
      found : (r : Bool) × (e.note ≡ notes.Book t r None)
      found = booking_noted e.note t has

      one : kind_noted e.note ≡ 1
      one = ap kind_noted found.1

      tried : Tries w es e (state_of w lacks es e.actor)
      tried = tries w n lacks es e holds step (omega (arith, one)) (omega (arith, one))

      kind_so : (ph : Phase) → (state_of w lacks es e.actor).phase ≡ ph → kind_asked (attempt_ask (plan_of w tried.spot) (name_at e.actor (state_of w lacks es e.actor)) ph).ask ≡ 1
      kind_so ph phase = ap (λ p. kind_asked (attempt_ask (plan_of w tried.spot) (name_at e.actor (state_of w lacks es e.actor)) p).ask) (sym phase) ∙ sym tried.kind ∙ one

      by : (ph : Phase) → (state_of w lacks es e.actor).phase ≡ ph → BooksNew t
      by (claiming [] had) phase = absurd (let bad : 3 ≡ 1 = kind_so (claiming [] had) phase in omega (arith, bad))
      by (claiming (slot ∷ slots) had) phase = absurd (let bad : 2 ≡ 1 = kind_so (claiming (slot ∷ slots) had) phase in omega (arith, bad))
      by booking phase = record { name = named; new = ap is_claiming phase; later = subst (λ a. IsOld (state_of w lacks (es ++ e ∷ []) a) t (is_claiming (state_of w lacks (es ++ e ∷ []) a).phase)) (sym (ap (λ (u : TaskId). u.actor) named)) (of_next (state_of w lacks (es ++ e ∷ []) e.actor) (state_of-own w lacks es e e.actor (eq-self e.actor))) }
        where
          given : Given w es e (attempt_ask (plan_of w tried.spot) (name_at e.actor (state_of w lacks es e.actor)) booking)
          given = subst (λ ph. Given w es e (attempt_ask (plan_of w tried.spot) (name_at e.actor (state_of w lacks es e.actor)) ph)) phase tried.given

          parts : e.note ≡ notes.Book (name_at e.actor (state_of w lacks es e.actor)) (resumes tried.spot) (queues.book_note (queue_at w es (plan_of w tried.spot).queue) (resumes tried.spot))
          parts = (given_some (queues.may_book (queue_at w es (plan_of w tried.spot).queue) (name_at e.actor (state_of w lacks es e.actor))) (notes.Book (name_at e.actor (state_of w lacks es e.actor)) (resumes tried.spot) (queues.book_note (queue_at w es (plan_of w tried.spot).queue) (resumes tried.spot))) e.note given.gives).1

          named : t ≡ name_at e.actor (state_of w lacks es e.actor)
          named = (let same = sym found.1 ∙ parts in cc)

          attempt_so : t.attempt ≡ (state_of w lacks es e.actor).attempt
          attempt_so = ap (λ (u : TaskId). u.attempt) named

          next_so : after w e.actor (state_of w lacks es e.actor) (reply_of w es e) ≡ record (state_of w lacks es e.actor) { phase = claiming (slots_in (plan_of w tried.spot).pattern) [] }
          next_so = ap (λ tu. after_in w e.actor (state_of w lacks es e.actor) tu (reply_of w es e)) tried.turns ∙ ap (λ note. after_attempt w e.actor (state_of w lacks es e.actor) tried.spot tried.more (reply_to w (visible (es ++ e ∷ [])) (notes_at es e.place) note)) found.1

          of_next : (new : State) → IsNextState w e.actor (state_of w lacks es e.actor) (reply_of w es e) new → IsOld new t (is_claiming new.phase)
          of_next new (inl is) = subst (λ (s : State). IsOld s t (is_claiming s.phase)) (sym (is ∙ next_so)) (inr (attempt_so, refl))
          of_next new (inr is) = subst (λ (s : State). IsOld s t (is_claiming s.phase)) (sym (is ∙ ap (shorten w e.actor) next_so)) (inl (omega (arith, attempt_so)))

-- ---- along a run

-- what is known of the bookings of a run
pub record BookingsKnown (w : Parts) (lacks : Lacks) (es : List Entry) : Type 0 where
  pub balanced : (q : ℕ) (t : TaskId) → count noted_booked (places.Queue q) t es ≡ count noted_unbooked (places.Queue q) t es + bit (is_booked_at w es q t)
  pub old : (q : ℕ) (t : TaskId) → 1 ≤ count noted_booked (places.Queue q) t es → IsOld (state_of w lacks es t.actor) t (is_claiming (state_of w lacks es t.actor).phase)
  pub once : (q : ℕ) (t : TaskId) → count noted_booked (places.Queue q) t es ≤ 1
  pub own : AreOwn noted_booked es
  pub brought : HandsBrought w lacks es

module _ (w : Parts) (n : ℕ) (lacks : Lacks) (es : List Entry) (e : Entry) (holds : Holds w n lacks es) (step : Step w lacks es e) (known : BookingsKnown w lacks es) where
  balanced_on : (q : ℕ) (t : TaskId) → count noted_booked (places.Queue q) t (es ++ e ∷ []) ≡ count noted_unbooked (places.Queue q) t (es ++ e ∷ []) + bit (is_booked_at w (es ++ e ∷ []) q t)
  balanced_on q t =
      let starts = count-push noted_booked (places.Queue q) t es e in
      let ends = count-push noted_unbooked (places.Queue q) t es e in
      let before = known.balanced q t in
      let one = entry_balance w n lacks es e holds step q t in
      omega (arith, starts, ends, before, one)

  -- who is booked for the first time
  fresh : (q : ℕ) (t : TaskId) → tells noted_booked (places.Queue q) t e ≡ true → count noted_booked (places.Queue q) t es ≡ 0
  fresh q t is = by (count noted_booked (places.Queue q) t es) refl
    where
      new : BooksNew w n lacks es e holds step t
      new = books_new w n lacks es e holds step t (both (same_place e.place (places.Queue q)) (has_task (noted_booked e.note) t) is).1

      here : t.actor ≡ e.actor
      here = ap (λ (u : TaskId). u.actor) new.name

      never : IsOld (state_of w lacks es e.actor) t (is_claiming (state_of w lacks es e.actor).phase) → ⊥
      never (inl below) = (let same = ap (λ (u : TaskId). u.attempt) new.name in omega (arith, same, below))
      never (inr claims_so) = no_both claims_so.1 new.new

      by : (k : ℕ) → count noted_booked (places.Queue q) t es ≡ k → count noted_booked (places.Queue q) t es ≡ 0
      by zero at = at
      by (suc k) at = absurd (never (subst (λ a. IsOld (state_of w lacks es a) t (is_claiming (state_of w lacks es a).phase)) here (known.old q t (omega (arith, at)))))

  once_on : (q : ℕ) (t : TaskId) → count noted_booked (places.Queue q) t (es ++ e ∷ []) ≤ 1
  once_on q t = by (tells noted_booked (places.Queue q) t e) refl
    where
      by : (b : Bool) → tells noted_booked (places.Queue q) t e ≡ b → count noted_booked (places.Queue q) t (es ++ e ∷ []) ≤ 1
      by true at = (let none = fresh q t at in let all = count-push noted_booked (places.Queue q) t es e in let one = ap bit at in omega (arith, none, all, one))
      by false at = (let few = known.once q t in let all = count-push noted_booked (places.Queue q) t es e in let one = ap bit at in omega (arith, few, all, one))

  old_on : (q : ℕ) (t : TaskId) → 1 ≤ count noted_booked (places.Queue q) t (es ++ e ∷ []) → IsOld (state_of w lacks (es ++ e ∷ []) t.actor) t (is_claiming (state_of w lacks (es ++ e ∷ []) t.actor).phase)
  old_on q t some = by (tells noted_booked (places.Queue q) t e) refl
    where
      Old : Type 0
      Old = IsOld (state_of w lacks (es ++ e ∷ []) t.actor) t (is_claiming (state_of w lacks (es ++ e ∷ []) t.actor).phase)

      of_old : IsOld (state_of w lacks es t.actor) t (is_claiming (state_of w lacks es t.actor).phase) → Rises (state_of w lacks es t.actor) (state_of w lacks (es ++ e ∷ []) t.actor) → Old
      of_old (inl low) (inl more) = inl (omega (arith, low, more))
      of_old (inl low) (inr same) = inl (let is = same.0 in omega (arith, low, is))
      of_old (inr now) (inl more) = inl (let at = now.0 in omega (arith, at, more))
      of_old (inr now) (inr same) = inr (now.0 ∙ sym same.0, same.1 now.1)

      by : (b : Bool) → tells noted_booked (places.Queue q) t e ≡ b → Old
      by true at = (books_new w n lacks es e holds step t (both (same_place e.place (places.Queue q)) (has_task (noted_booked e.note) t) at).1).later
      by false at = of_old (known.old q t (let all = count-push noted_booked (places.Queue q) t es e in let none = ap bit at in omega (arith, all, none, some))) (rises w lacks es e step t.actor)

  pub bookings_known-kept : BookingsKnown w lacks (es ++ e ∷ [])
  bookings_known-kept = record { balanced = balanced_on; old = old_on; once = once_on; own = own-push noted_booked es e (λ t has. sym (ap (λ (u : TaskId). u.actor) (books_new w n lacks es e holds step t has).name)) known.own; brought = hands_brought-kept w n lacks es e holds step known.brought }

-- ---- the law

-- no task is booked before all entries
unbooked : (w : Parts) (q : ℕ) (t : TaskId) → is_booked_at w [] q t ≡ false
unbooked w q t = rw (set.contains-empty task_cmp t) refl

module _ (w : Parts) (workers : ℕ) (lacks : Lacks) (valid : IsValid w) (few : workers ≤ 16) where
  -- nothing is in hand at first
  begins_empty : (a : ℕ) (st : State) → IsBegun w a st → st.hand ≡ []
  begins_empty a st (inl is) = ap (λ (s : State). s.hand) is
  begins_empty a st (inr is) = ap (λ (s : State). s.hand) is

  booked_first : BookingsKnown w lacks []
  booked_first = record {
    balanced = λ q t. (let none = ap bit (unbooked w q t) in omega (arith, none));
    old = λ q t some. absurd (omega (arith, some));
    once = λ q t. omega arith;
    own = λ x is t has. absurd is;
    brought = λ a x is. absurd (subst (Among x) (begins_empty a (state_of w lacks [] a) (begins w lacks a)) is);
  }

  run_known : (es : List Entry) → IsRunAfter w workers lacks [] es → BookingsKnown w lacks es
  run_known = along_held w workers lacks valid few (BookingsKnown w lacks) (bookings_known-kept w (length w.posters + workers) lacks) booked_first

  module _ (past : List Entry) (e : Entry) (more : List Entry) (run : IsRunAfter w workers lacks [] (past ++ e ∷ more)) (q : ℕ) (t : TaskId) (is : tells noted_unbooked (places.Queue q) t e ≡ true) where
    parts : Parted w workers lacks past e more
    parts = parted w workers lacks past e more run

    step : Step w lacks past e
    step = Step-made w lacks past e parts.made

    known : BookingsKnown w lacks past
    known = run_known past parts.run

    balance : bit (tells noted_booked (places.Queue q) t e) + bit (is_booked_at w past q t) ≡ bit (tells noted_unbooked (places.Queue q) t e) + bit (is_booked_at w (past ++ e ∷ []) q t)
    balance = entry_balance w (length w.posters + workers) lacks past e (holds_so w workers lacks valid few past parts.run) step q t

    pub booking_by : EndsBooking past e.actor e.note
    booking_by = ends_by w (length w.posters + workers) lacks past e (holds_so w workers lacks valid few past parts.run) step q t known.brought is

    not_booked : bit (tells noted_booked (places.Queue q) t e) ≤ 0
    not_booked = by (tells noted_booked (places.Queue q) t e) refl
      where
        by : (b : Bool) → tells noted_booked (places.Queue q) t e ≡ b → bit b ≤ 0
        by false at = omega arith
        by true at =
            let books = both (same_place e.place (places.Queue q)) (has_task (noted_booked e.note) t) at in
            let ends = both (same_place e.place (places.Queue q)) (has_task (noted_unbooked e.note) t) is in
            absurd (no_both ends.1 (ap (λ x. has_task (noted_unbooked x) t) (booking_noted e.note t books.1).1))

    -- what is booked before and after
    booked_then : (bit (is_booked_at w past q t) ≡ 1) × (count noted_booked (places.Queue q) t past ≡ 1) × (count noted_unbooked (places.Queue q) t past ≡ 0) × (bit (is_booked_at w (past ++ e ∷ []) q t) ≡ 0)
    booked_then =
        let before = known.balanced q t in
        let once = known.once q t in
        let change = balance in
        let ends = ap bit is in
        let starts = not_booked in
        let low = bit_low (is_booked_at w past q t) in
        (omega (arith, before, once, change, ends, starts, low), omega (arith, before, once, change, ends, starts, low), omega (arith, before, once, change, ends, starts, low), omega (arith, before, once, change, ends, starts, low))
      where
        bit_low : (b : Bool) → bit b ≤ 1
        bit_low true = omega arith
        bit_low false = omega arith

    of_bit : (b c : Bool) → bit b ≡ bit c → b ≡ c
    of_bit true true same = refl
    of_bit false false same = refl
    of_bit true false same = absurd (omega (arith, same))
    of_bit false true same = absurd (omega (arith, same))

    pub booking_stands : is_booked (queue_at w past q) t ≡ true
    booking_stands = of_bit (is_booked_at w past q t) true booked_then.0

    pub booking_ended : is_booked (queue_at w (past ++ e ∷ []) q) t ≡ false
    booking_ended = of_bit (is_booked_at w (past ++ e ∷ []) q t) false booked_then.3

    pub booking_once : EndsOnce noted_booked noted_unbooked (places.Queue q) t past e more
    booking_once =
        let all = run_known (past ++ e ∷ more) run in
        let few_begun = all.once q t in
        let sums = all.balanced q t in
        ends_once noted_booked noted_unbooked (places.Queue q) t past e more known.own is booked_then.1 booked_then.2 few_begun (omega (arith, few_begun, sums))

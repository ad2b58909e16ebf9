-- A queue, which keeps its tasks whole, answers each ask of a run as the run has it.
use Rattle.std.proofs.Common.{◌≡◌, ℕ, Bool, true, false, List, [], ◌∷◌, ◌++◌, map, Option, Some, None, refl, sym, ap, ◌∙◌, subst}
use Rattle.std.specs.Prelude.{if◌then◌else◌, slice_get, drop, nat_le}
use Rattle.std.specs.Option.{option_map}
use Rattle.std.proofs.lemmas.Option.{slice_get-map}
use Rattle.std.proofs.lemmas.List.{drop-map}
use Rattle.ccr_base.specs.declared.names.Place.TheVariants as places
use Rattle.ccr_base.specs.declared.names.TaskId.{TaskId}
use Rattle.ccr_base.specs.declared.tasks.Task.{Task}
use Rattle.ccr_base.specs.Names.{has_task}
use Rattle.ccr_wiring.specs.declared.parts.Parts.{Parts}
use Rattle.ccr_model.specs.declared.history.Event.{Event}
use Rattle.ccr_model.specs.Tasks.{queued}
use Rattle.ccr_base.proofs.Booleans.{eq-self}
use Rattle.ccr_base.proofs.Options.{map_map, some_is}
use Rattle.ccr_model.proofs.FiredTasks.{IsFired}
use Rattle.ccr_model.proofs.Members.{Among}
use Rattle.ccr_model.proofs.WhoWasPut.{ArePlaced-legal, QueuedFacts-queued}
use Rattle.ccr_model.proofs.TaskLists.{named_has}
use Rattle.ccr_places.specs.declared.notes.Note.{Note}
use Rattle.ccr_places.specs.declared.notes.Note.TheVariants as notes
use Rattle.ccr_places.specs.Queues as queues
use Rattle.ccr_places.specs.Queues.{QueueState, QueueTasks, Queued, queued_task}
use Rattle.ccr_claim.specs.declared.asks.Ask.{Ask}
use Rattle.ccr_claim.specs.declared.asks.Ask.TheVariants as asks
use Rattle.ccr_claim.specs.declared.asks.Reply.{Reply}
use Rattle.ccr_claim.specs.declared.asks.Reply.TheVariants as replies
use Rattle.ccr_claim.specs.Attempts.{at_place}
use Rattle.ccr_object.specs.declared.object.Object.TheVariants.{Queue}
use Rattle.ccr_object.specs.Queues as objects
use Rattle.ccr_runs.specs.declared.entries.Entry.{Entry}
use Rattle.ccr_runs.specs.Places.{queue_note}
use Rattle.ccr_runs.specs.EntryRuns.{Lacks, notes_at, reply_to, same_place, queue_at}
use Rattle.ccr_runs.specs.Views.{view}
use Rattle.ccr_runs.specs.Visible.{visible, event_of}
use Rattle.ccr_net.proofs.Kept.WholeInvariant.{Holds}
use Rattle.ccr_net.proofs.Parts.NotesAnswerAsks.{Given, given_some}
use Rattle.ccr_net.proofs.Played.HandedTasksAreTold.{PutTells}
use Rattle.ccr_net.proofs.Played.ObjectsFollowNotes.{AnswersAs, told_queue}
use Rattle.ccr_net.proofs.Parts.OneMoreEntry.{queue_at-push, visible-push}
use Rattle.ccr_net.proofs.Played.ToldTasksStay.{map_behind, views-stay}
use Rattle.ccr_net.proofs.Parts.WorkMatches.{view-stays}

-- who is queued has fired
pub queued_fired : (w : Parts) (n : ℕ) (lacks : Lacks) (es : List Entry) → Holds w n lacks es → (q : ℕ) (x : Queued) → Among x (queue_at w es q).queued → IsFired (visible es) x.task
queued_fired w n lacks es holds q x is =
    let there : has_task (queued w (visible es) q) x.task ≡ true = subst (λ ts. has_task ts x.task ≡ true) (holds.queues.listed.queued_so q) (named_has queued_task (queue_at w es q).queued x is) in
    (ArePlaced-legal w (visible es) holds.legal).all_fired x.task (QueuedFacts-queued w (visible es) q x.task there).put_so

-- the whole tasks of those that are queued
abbrev pub whole_queued : Parts → List Event → List Queued → List Task
whole_queued w h xs = map (λ (x : Queued). view w h x.task) xs

booked_queued : (state : QueueState) (t : TaskId) (r : Bool) (o : Option ℕ) → (queues.after_book state t r o).queued ≡ state.queued
booked_queued state t true None = refl
booked_queued state t false None = refl
booked_queued state t true (Some k) = refl
booked_queued state t false (Some k) = refl

module _ (w : Parts) (n : ℕ) (lacks : Lacks) (es : List Entry) (e : Entry) (holds : Holds w n lacks es) (q : ℕ) where
  abbrev h : List Event
  h = visible es

  abbrev later : List Event
  later = visible (es ++ e ∷ [])

  abbrev state : QueueState
  state = queue_at w es q

  abbrev told : QueueTasks
  told = record { state = state; tasks = whole_queued w h state.queued }

  pub queued_stay : whole_queued w later state.queued ≡ whole_queued w h state.queued
  queued_stay = ap (λ g. whole_queued w g state.queued) (visible-push es e) ∙ views-stay (λ (x : Queued). x.task) w h (event_of e) state.queued (queued_fired w n lacks es holds q)

  -- the answer and the object after it, from their parts
  played : (ask : Ask) (reply : Reply) (note : Note) → e.place ≡ places.Queue q → e.note ≡ note → reply_to w later (notes_at es e.place) note ≡ reply → objects.answer told ask ≡ Some (reply, note) → Queue (objects.after told ask) ≡ told_queue w later (queues.after state note) → AnswersAs w es (at_place (places.Queue q) ask) e
  played ask reply note there is replied answered left = record {
    answers = answered ∙ (λ j. Some (sym (ap (reply_to w later (notes_at es e.place)) is ∙ replied) j, sym is j));
    goes = left ∙ ap (told_queue w later) (sym pushed);
  }
    where
      pushed : queue_at w (es ++ e ∷ []) q ≡ queues.after state note
      pushed = queue_at-push w es e q ∙ ap (λ b. if b then queues.after state e.note else state) (ap (λ p. same_place p (places.Queue q)) there ∙ eq-self q) ∙ ap (queues.after state) is

  -- a state with the same tasks
  stays_with : (new : QueueState) → new.queued ≡ state.queued → Queue (objects.with_state told new) ≡ told_queue w later new
  stays_with new same = λ j. Queue (record { state = new; tasks = (sym queued_stay ∙ ap (whole_queued w later) (sym same)) j })

  first_so : option_map (view w later) (queues.take_note state) ≡ slice_get told.tasks 0
  first_so = map_map (view w later) (λ (x : Queued). x.task) (slice_get state.queued 0) ∙ sym (slice_get-map (λ (x : Queued). view w later x.task) state.queued 0) ∙ ap (λ ts. slice_get ts 0) queued_stay

  dropped_so : option_map (view w later) (queues.put_note state) ≡ objects.dropped told
  dropped_so = by (nat_le 1 (queues.drop_count state))
    where
      by : (b : Bool) → option_map (view w later) (if b then queues.take_note state else None) ≡ (if b then slice_get told.tasks 0 else None)
      by true = first_so
      by false = refl

  put_so : (task : Task) → IsFired h task.id → task ≡ view w h task.id → drop (queues.drop_count state) told.tasks ++ task ∷ [] ≡ whole_queued w later (queues.after_put state task.id).queued
  put_so task fires is =
      (λ j. drop (queues.drop_count state) (sym queued_stay j) ++ (is ∙ sym now) j ∷ [])
      ∙ ap (λ ts. ts ++ view w later task.id ∷ []) (drop-map (λ (x : Queued). view w later x.task) (queues.drop_count state) state.queued)
      ∙ sym (map_behind (λ (x : Queued). view w later x.task) (drop (queues.drop_count state) state.queued) _)
    where
      now : view w later task.id ≡ view w h task.id
      now = ap (λ g. view w g task.id) (visible-push es e) ∙ view-stays w h (event_of e) task.id fires

  taken_so : drop 1 told.tasks ≡ whole_queued w later (queues.after_take state).queued
  taken_so = ap (drop 1) (sym queued_stay) ∙ drop-map (λ (x : Queued). view w later x.task) 1 state.queued

  by_ask : (ask : Ask) → e.place ≡ places.Queue q → queue_note state ask ≡ Some e.note → PutTells w h ask → AnswersAs w es (at_place (places.Queue q) ask) e
  by_ask (asks.Book t r) there gives tells =
      let found = given_some (queues.may_book state t) (notes.Book t r (queues.book_note state r)) e.note gives in
      played (asks.Book t r) (objects.book_reply (queues.book_note state r)) (notes.Book t r (queues.book_note state r)) there found.1 refl
      (ap (λ b. if b then Some (objects.book_reply (queues.book_note state r), notes.Book t r (queues.book_note state r)) else None) found.0)
      (ap (λ b. Queue (if b then objects.with_state told (queues.after_book state t r (queues.book_note state r)) else told)) found.0 ∙ stays_with (queues.after_book state t r (queues.book_note state r)) (booked_queued state t r (queues.book_note state r)))
  by_ask (asks.Unbook t) there gives tells =
      let found = given_some (queues.may_unbook state t) (notes.Unbook t) e.note gives in
      played (asks.Unbook t) replies.Done (notes.Unbook t) there found.1 refl
      (ap (λ b. if b then Some (replies.Done, notes.Unbook t) else None) found.0)
      (ap (λ b. Queue (if b then objects.with_state told (queues.after_unbook state t) else told)) found.0 ∙ stays_with (queues.after_unbook state t) refl)
  by_ask (asks.Put task) there gives tells =
      let found = given_some (queues.may_put state task.id) (notes.Put task.id (queues.put_note state)) e.note gives in
      played (asks.Put task) (replies.Dropped (objects.dropped told)) (notes.Put task.id (queues.put_note state)) there found.1 (ap replies.Dropped dropped_so)
      (ap (λ b. if b then Some (replies.Dropped (objects.dropped told), notes.Put task.id (queues.put_note state)) else None) found.0)
      (ap (λ b. Queue (if b then record { state = queues.after_put state task.id; tasks = drop (queues.drop_count state) told.tasks ++ task ∷ [] } else told)) found.0 ∙ (λ j. Queue (record { state = queues.after_put state task.id; tasks = put_so task tells.0 tells.1 j })))
  by_ask asks.Take there gives tells =
      played asks.Take (replies.Taken (slice_get told.tasks 0)) (notes.Take (queues.take_note state)) there (sym (some_is gives)) (ap replies.Taken first_so) refl
      (λ j. Queue (record { state = queues.after_take state; tasks = taken_so j }))
  by_ask (asks.Post m) there gives tells = absurd (cc)
  by_ask (asks.Claim t s) there gives tells = absurd (cc)
  by_ask (asks.Consume t) there gives tells = absurd (cc)
  by_ask (asks.Free t) there gives tells = absurd (cc)
  by_ask (asks.Commit t ms) there gives tells = absurd (cc)
  by_ask asks.Admit there gives tells = absurd (cc)
  by_ask (asks.Over t r how) there gives tells = absurd (cc)
  by_ask (asks.Suspend t) there gives tells = absurd (cc)
  by_ask asks.Draw there gives tells = absurd (cc)
  by_ask asks.Leave there gives tells = absurd (cc)
  by_ask asks.Left there gives tells = absurd (cc)

pub queue_answers : (w : Parts) (n : ℕ) (lacks : Lacks) (es : List Entry) (e : Entry) → Holds w n lacks es → (q : ℕ) (ask : Ask) → Given w es e (at_place (places.Queue q) ask) → PutTells w (visible es) ask → AnswersAs w es (at_place (places.Queue q) ask) e
queue_answers w n lacks es e holds q ask got tells = by_ask w n lacks es e holds q ask got.there got.gives tells

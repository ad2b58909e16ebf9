-- On a throttle queue each task that the rule counts is booked or queued, so where an attempt is booked there is room for its firing.
use Rattle.std.proofs.Common.{◌≢◌, ◌⊎◌, inl, inr, ◌≡◌, ◌<◌, ℕ, Bool, true, false, not, ◌||◌, List, [], ◌∷◌, ◌++◌, drop, length, map, Option, Some, None, refl, sym, arith, ap, ◌∙◌, subst, append-nil, take}
use Rattle.std.specs.Prelude.{◌==◌, if◌then◌else◌}
use Rattle.std.specs.FinSet as set
use Rattle.std.specs.Option.{option_map_or}
use Rattle.std.proofs.lemmas.Bool.Decides.{nat_tests}
use Rattle.std.proofs.lemmas.List.{take-append-drop}
use Rattle.ccr_base.specs.declared.names.MsgId.{MsgId}
use Rattle.ccr_base.specs.declared.names.Spot.{Spot}
use Rattle.ccr_base.specs.declared.names.Spot.TheVariants.{Branch, Site}
use Rattle.ccr_base.specs.declared.names.TaskId.{TaskId}
use Rattle.ccr_base.specs.declared.patterns.Slot.{Slot}
use Rattle.ccr_base.specs.declared.policies.Policy.{Policy}
use Rattle.ccr_base.specs.declared.policies.Policy.TheVariants.{Unbounded, Discard, Throttle}
use Rattle.ccr_base.specs.Names.{same_task, has_task, without}
use Rattle.ccr_wiring.specs.declared.parts.Parts.{Parts}
use Rattle.ccr_wiring.specs.Wirings.{Placement, placement, branch_of, policy_of, queue_of_spot as queue_number}
use Rattle.ccr_model.specs.declared.history.Event.{Event}
use Rattle.ccr_model.specs.declared.history.Event.TheVariants as events
use Rattle.ccr_model.specs.Consequences.{are_distinct_tasks}
use Rattle.ccr_model.specs.Firings.{Firing, firing_of, firings, firing_named, fired, put, put_by, started, dropped, cut}
use Rattle.ccr_model.specs.Legal.{IsLegal}
use Rattle.ccr_model.specs.Live.{has_room_in}
use Rattle.ccr_model.specs.Tasks.{fired_by, is_branch_where, is_for_queue, coming, queued}
use Rattle.ccr_base.proofs.Booleans.{same_number, eq-self, refuted, no_both, or_right}
use Rattle.ccr_model.proofs.Allowing.{OneName-legal}
use Rattle.ccr_model.proofs.AllowedFirings.{fired_by_named}
use Rattle.ccr_model.proofs.Members.{Among, Among-either, Among-mapped, Among-right}
use Rattle.ccr_model.proofs.OneMoreEvent.{put-push, cut-push}
use Rattle.ccr_base.proofs.SameNames.{same_task-is, same_task-self, same_task-sym}
use Rattle.ccr_model.proofs.TasksLeft.{of_without, out_left, distinct-filter}
use Rattle.ccr_model.proofs.TaskLists.{to_filter, to_without, not_within, of_more, of_one, out_right, task_among, named_has}
use Rattle.ccr_model.proofs.WhoWasPut.{QueuedFacts-queued}
use Rattle.ccr_model.proofs.TasksOnce.{fired_once, some_once, some_of_all}
use Rattle.ccr_model.proofs.LegalIsCovered.{no_member}
use Rattle.ccr_model.proofs.Cutting.{fired_by-fire, fired_by-same}
use Rattle.ccr_places.specs.declared.notes.Note.{Note}
use Rattle.ccr_places.specs.declared.notes.Note.TheVariants as notes
use Rattle.ccr_places.specs.Queues.{QueueState, Queued, queued_task}
use Rattle.ccr_places.specs.Queues as queues
use Rattle.ccr_claim.specs.declared.plan.Had.{Had}
use Rattle.ccr_claim.specs.Plans.{resumes}
use Rattle.ccr_claim.specs.Attempts.{Phase, booking, claiming}
use Rattle.ccr_actor.specs.Actors.{State, name_at}
use Rattle.ccr_net.proofs.Parts.TasksAreBookedOnce.{QueueSound, QueueSound-book, QueueSound-unbook, QueueSound-put, QueueSound-take, IsKept, in-more, in-less, kept_within}
use Rattle.ccr_net.proofs.Parts.QueuesMatch.{QueueChanges, QueuesMatch, QueuesMatch-event}

abbrev pub is_for : ℕ → Placement → Bool
is_for q s = s.branch.queue == q

-- the tasks that branches fired for the queue
abbrev pub fired_for : Parts → List Event → ℕ → List TaskId
fired_for w h q = fired_by w (is_for q) h

-- a task that a branch fired is booked until it is put or cut, and is queued as one that doesn't resume
pub record BookingsMatch (w : Parts) (h : List Event) (queue : ℕ → QueueState) : Type 0 where
  pub sound : (q : ℕ) → QueueSound (queue q)
  pub fired_booked : (q : ℕ) (t : TaskId) → has_task (fired_for w h q) t ≡ true → has_task (put h) t ≡ false → has_task (cut h) t ≡ false → set.contains (queue q).fresh t ≡ true
  pub queued_fresh : (q : ℕ) (x : Queued) → Among x (queue q).queued → has_task (fired_for w h q) x.task ≡ true → x.resumes ≡ false

-- ---- who was fired for the queue

-- an event that fires nothing
fired_for-same : (w : Parts) (h : List Event) (e : Event) (q : ℕ) → firing_of e ≡ [] → fired_for w (h ++ e ∷ []) q ≡ fired_for w h q
fired_for-same w h e q none = fired_by-same w (is_for q) h e none

fired_for-fire : (w : Parts) (h : List Event) (t : TaskId) (spot : Spot) (ms : List MsgId) (cs : List TaskId) (q : ℕ) → fired_for w (h ++ events.Fire t spot ms cs ∷ []) q ≡ fired_for w h q ++ (if is_branch_where w (is_for q) spot then t ∷ [] else [])
fired_for-fire w h t spot ms cs q = fired_by-fire w (is_for q) h t spot ms cs

among_drop : {X : Type 0} (n : ℕ) (xs : List X) (x : X) → Among x (drop n xs) → Among x xs
among_drop n xs x is = subst (Among x) (take-append-drop n xs) (Among-right x (take n xs) (drop n xs) is)

-- who is queued was put
queued_put : (w : Parts) (h : List Event) (queue : ℕ → QueueState) (q : ℕ) (x : Queued) → QueuesMatch w h queue → Among x (queue q).queued → has_task (put h) x.task ≡ true
queued_put w h queue q x listed is = (QueuedFacts-queued w h q x.task (ap (λ ts. has_task ts x.task) (sym (listed.queued_so q)) ∙ named_has queued_task (queue q).queued x is)).put_so

-- ---- the notes of a queue

-- a note by which no fired task's booking ends
pub BookingsMatch-note : (w : Parts) (h : List Event) (queue queue' : ℕ → QueueState) (q : ℕ) (note : Note) → QueueChanges queue queue' q note → QueueSound (queues.after (queue q) note) → ((t : TaskId) → has_task (fired_for w h q) t ≡ true → has_task (cut h) t ≡ false → set.contains (queue q).fresh t ≡ true → set.contains (queues.after (queue q) note).fresh t ≡ true) → ((x : Queued) → Among x (queues.after (queue q) note).queued → Among x (queue q).queued) → BookingsMatch w h queue → BookingsMatch w h queue'
BookingsMatch-note w h queue queue' q note changes sound keeps within match = record {
  sound = λ k. rw (changes k) (sound_at k (q == k) refl);
  fired_booked = λ k t fires unput uncut. rw (changes k) (booked_at k t (q == k) refl fires uncut (match.fired_booked k t fires unput uncut));
  queued_fresh = λ k x is fires. match.queued_fresh k x (queued_at k x (q == k) refl (rw (changes k) at is)) fires;
}
  where
    sound_at : (k : ℕ) (b : Bool) → (q == k) ≡ b → QueueSound (if b then queues.after (queue k) note else queue k)
    sound_at k true e = subst (λ j. QueueSound (queues.after (queue j) note)) (same_number q k e) sound
    sound_at k false e = match.sound k

    booked_at : (k : ℕ) (t : TaskId) (b : Bool) → (q == k) ≡ b → has_task (fired_for w h k) t ≡ true → has_task (cut h) t ≡ false → set.contains (queue k).fresh t ≡ true → set.contains (if b then queues.after (queue k) note else queue k).fresh t ≡ true
    booked_at k t true e fires uncut is = subst (λ j. has_task (fired_for w h j) t ≡ true → has_task (cut h) t ≡ false → set.contains (queue j).fresh t ≡ true → set.contains (queues.after (queue j) note).fresh t ≡ true) (same_number q k e) (keeps t) fires uncut is
    booked_at k t false e fires uncut is = is

    queued_at : (k : ℕ) (x : Queued) (b : Bool) → (q == k) ≡ b → Among x (if b then queues.after (queue k) note else queue k).queued → Among x (queue k).queued
    queued_at k x true e is = subst (λ j. Among x (queues.after (queue j) note).queued → Among x (queue j).queued) (same_number q k e) (within x) is
    queued_at k x false e is = is

pub BookingsMatch-booked : (w : Parts) (h : List Event) (queue queue' : ℕ → QueueState) (q : ℕ) (t : TaskId) (resumes : Bool) → queues.may_book (queue q) t ≡ true → queues.book_note (queue q) resumes ≡ None → QueueChanges queue queue' q (notes.Book t resumes None) → BookingsMatch w h queue → BookingsMatch w h queue'
BookingsMatch-booked w h queue queue' q t resumes may room changes match = BookingsMatch-note w h queue queue' q (notes.Book t resumes None) changes (QueueSound-book (queue q) t resumes may room (match.sound q)) (λ u fires uncut is. more resumes u is) (λ x is. same resumes x is) match
  where
    more : (r : Bool) (u : TaskId) → set.contains (queue q).fresh u ≡ true → set.contains (queues.after_book (queue q) t r None).fresh u ≡ true
    more true u is = is
    more false u is = in-more (queue q).fresh t u ∙ or_right (same_task u t) _ is

    same : (r : Bool) (x : Queued) → Among x (queues.after_book (queue q) t r None).queued → Among x (queue q).queued
    same true x is = is
    same false x is = is

pub BookingsMatch-full : (w : Parts) (h : List Event) (queue queue' : ℕ → QueueState) (q n : ℕ) (t : TaskId) (resumes : Bool) → QueueChanges queue queue' q (notes.Book t resumes (Some n)) → BookingsMatch w h queue → BookingsMatch w h queue'
BookingsMatch-full w h queue queue' q n t resumes changes match = by resumes changes
  where
    by : (r : Bool) → QueueChanges queue queue' q (notes.Book t r (Some n)) → BookingsMatch w h queue'
    by true change = BookingsMatch-note w h queue queue' q (notes.Book t true (Some n)) change (match.sound q) (λ u fires uncut is. is) (λ x is. is) match
    by false change = BookingsMatch-note w h queue queue' q (notes.Book t false (Some n)) change (match.sound q) (λ u fires uncut is. is) (λ x is. is) match

-- who was fired for the queue was fired
pub fired_of : (w : Parts) (h : List Event) (q : ℕ) (t : TaskId) → has_task (fired_for w h q) t ≡ true → has_task (fired h) t ≡ true
fired_of w h q t is = some_of_all (λ (f : Firing). is_branch_where w (is_for q) f.spot) (firings h) t is

pub BookingsMatch-unbook : (w : Parts) (h : List Event) (queue queue' : ℕ → QueueState) (q : ℕ) (t : TaskId) → (has_task (fired h) t ≡ false) ⊎ (has_task (cut h) t ≡ true) → QueueChanges queue queue' q (notes.Unbook t) → BookingsMatch w h queue → BookingsMatch w h queue'
BookingsMatch-unbook w h queue queue' q t gone changes match = BookingsMatch-note w h queue queue' q (notes.Unbook t) changes (QueueSound-unbook (queue q) t (match.sound q)) (λ u fires uncut is. in-less (queue q).fresh t u ∙ rw (other u gone fires uncut, is) refl) (λ x is. is) match
  where
    other : (u : TaskId) → (has_task (fired h) t ≡ false) ⊎ (has_task (cut h) t ≡ true) → has_task (fired_for w h q) u ≡ true → has_task (cut h) u ≡ false → same_task u t ≡ false
    other u (inl unfired) fires uncut = same_task-sym u t ∙ no_member (fired h) t u unfired (fired_of w h q u fires)
    other u (inr cut_so) fires uncut = refuted (same_task u t) (λ is. no_both (subst (λ v. has_task (cut h) v ≡ true) (sym (same_task-is u t is)) cut_so) uncut)

pub BookingsMatch-take : (w : Parts) (h : List Event) (queue queue' : ℕ → QueueState) (q : ℕ) (d : Option TaskId) → QueueChanges queue queue' q (notes.Take d) → BookingsMatch w h queue → BookingsMatch w h queue'
BookingsMatch-take w h queue queue' q d changes match = BookingsMatch-note w h queue queue' q (notes.Take d) changes (QueueSound-take (queue q) (match.sound q)) (λ u fires uncut is. is) (λ x is. among_drop 1 (queue q).queued x is) match

-- ---- events

uncut_before : (h : List Event) (e : Event) (t : TaskId) → has_task (cut (h ++ e ∷ [])) t ≡ false → has_task (cut h) t ≡ false
uncut_before h e t uncut = out_left (cut h) (cut (e ∷ [])) t (sym (ap (λ ts. has_task ts t) (cut-push h e)) ∙ uncut)

-- an event that fires nothing
pub BookingsMatch-event : (w : Parts) (h : List Event) (e : Event) (queue : ℕ → QueueState) → firing_of e ≡ [] → BookingsMatch w h queue → BookingsMatch w (h ++ e ∷ []) queue
BookingsMatch-event w h e queue none match = record {
  sound = match.sound;
  fired_booked = λ q t fires unput uncut. match.fired_booked q t (rw (fired_for-same w h e q none) at fires) (out_left (put h) (put_by e) t (sym (ap (λ ts. has_task ts t) (put-push h e)) ∙ unput)) (uncut_before h e t uncut);
  queued_fresh = λ q x is fires. match.queued_fresh q x is (rw (fired_for-same w h e q none) at fires);
}

pub BookingsMatch-fire : (w : Parts) (h : List Event) (t : TaskId) (spot : Spot) (ms : List MsgId) (cs : List TaskId) (queue : ℕ → QueueState) → has_task (put h) t ≡ false → ((q : ℕ) → is_branch_where w (is_for q) spot ≡ true → set.contains (queue q).fresh t ≡ true) → QueuesMatch w h queue → BookingsMatch w h queue → BookingsMatch w (h ++ events.Fire t spot ms cs ∷ []) queue
BookingsMatch-fire w h t spot ms cs queue unput booked listed match = record {
  sound = match.sound;
  fired_booked = λ q u fires unput_u uncut. older q u (is_branch_where w (is_for q) spot) refl (rw (fired_for-fire w h t spot ms cs q) at fires) (rw (put-push, append-nil) at unput_u) (uncut_before h (events.Fire t spot ms cs) u uncut);
  queued_fresh = λ q x is fires. waiting_so q x is (is_branch_where w (is_for q) spot) refl (rw (fired_for-fire w h t spot ms cs q) at fires);
}
  where
    older : (q : ℕ) (u : TaskId) (b : Bool) → is_branch_where w (is_for q) spot ≡ b → has_task (fired_for w h q ++ (if b then t ∷ [] else [])) u ≡ true → has_task (put h) u ≡ false → has_task (cut h) u ≡ false → set.contains (queue q).fresh u ≡ true
    older q u true e fires out uncut = of_more (fired_for w h q) (t ∷ []) u _ fires (λ is. match.fired_booked q u is out uncut) (λ is. subst (λ v. set.contains (queue q).fresh v ≡ true) (sym (of_one t u is)) (booked q e))
    older q u false e fires out uncut = match.fired_booked q u (subst (λ ts. has_task ts u ≡ true) (append-nil (fired_for w h q)) fires) out uncut

    waiting_so : (q : ℕ) (x : Queued) → Among x (queue q).queued → (b : Bool) → is_branch_where w (is_for q) spot ≡ b → has_task (fired_for w h q ++ (if b then t ∷ [] else [])) x.task ≡ true → x.resumes ≡ false
    waiting_so q x is true e fires = of_more (fired_for w h q) (t ∷ []) x.task _ fires (λ old. match.queued_fresh q x is old) (λ new. absurd (let there = queued_put w h queue q x listed is in let out : has_task (put h) x.task ≡ false = ap (has_task (put h)) (of_one t x.task new) ∙ unput in cc))
    waiting_so q x is false e fires = match.queued_fresh q x is (subst (λ ts. has_task ts x.task ≡ true) (append-nil (fired_for w h q)) fires)

-- a put of a booked task
pub BookingsMatch-put : (w : Parts) (h : List Event) (queue queue' : ℕ → QueueState) (q : ℕ) (t : TaskId) (d : Option TaskId) → queues.may_put (queue q) t ≡ true → has_task (put h) t ≡ false → has_task (cut h) t ≡ false → QueueChanges queue queue' q (notes.Put t d) → BookingsMatch w h queue → BookingsMatch w (h ++ events.Put t d ∷ []) queue'
BookingsMatch-put w h queue queue' q t d may unput uncut changes match = record {
  sound = λ k. rw (changes k) (sound_at k (q == k) refl);
  fired_booked = λ k u fires unput_u uncut_u. rw (changes k) (booked_at k u (q == k) (unput_both u (rw put-push at unput_u)) (uncut_before h (events.Put t d) u uncut_u) (rw (fired_for-same w h (events.Put t d) k refl) at fires));
  queued_fresh = λ k x is fires. queued_at k x (q == k) (rw (changes k) at is) (rw (fired_for-same w h (events.Put t d) k refl) at fires);
}
  where
    sound_at : (k : ℕ) (b : Bool) → (q == k) ≡ b → QueueSound (if b then queues.after (queue k) (notes.Put t d) else queue k)
    sound_at k true e = subst (λ j. QueueSound (queues.after_put (queue j) t)) (same_number q k e) (QueueSound-put (queue q) t may (match.sound q))
    sound_at k false e = match.sound k

    unput_both : (u : TaskId) → has_task (put h ++ t ∷ []) u ≡ false → (has_task (put h) u ≡ false) × (same_task u t ≡ false)
    unput_both u out = (out_left (put h) (t ∷ []) u out, of_test (same_task u t) refl (out_right (put h) (t ∷ []) u out))
      where
        of_test : (b : Bool) → same_task u t ≡ b → b || false ≡ false → same_task u t ≡ false
        of_test true e now = absurd (cc)
        of_test false e now = e

    booked_at : (k : ℕ) (u : TaskId) (b : Bool) → (has_task (put h) u ≡ false) × (same_task u t ≡ false) → has_task (cut h) u ≡ false → has_task (fired_for w h k) u ≡ true → set.contains (if b then queues.after (queue k) (notes.Put t d) else queue k).fresh u ≡ true
    booked_at k u true outs uncut_u fires = in-less (queue k).fresh t u ∙ rw (outs.1, match.fired_booked k u fires outs.0 uncut_u) refl
    booked_at k u false outs uncut_u fires = match.fired_booked k u fires outs.0 uncut_u

    queued_at : (k : ℕ) (x : Queued) (b : Bool) → Among x (if b then queues.after (queue k) (notes.Put t d) else queue k).queued → has_task (fired_for w h k) x.task ≡ true → x.resumes ≡ false
    queued_at k x false is fires = match.queued_fresh k x is fires
    queued_at k x true is fires = of_split (Among-either x (drop (queues.drop_count (queue k)) (queue k).queued) _ is)
      where
        new : Queued
        new = record { task = t; resumes = set.contains (queue k).resuming t }

        of_split : Among x (drop (queues.drop_count (queue k)) (queue k).queued) ⊎ Among x (new ∷ []) → x.resumes ≡ false
        of_split (inl old) = match.queued_fresh k x (among_drop (queues.drop_count (queue k)) (queue k).queued x old) fires
        of_split (inr (inl e)) = ap (λ (y : Queued). y.resumes) e ∙ (match.sound k).apart t (match.fired_booked k t (subst (λ v. has_task (fired_for w h k) v ≡ true) (ap (λ (y : Queued). y.task) e) fires) unput uncut)
        of_split (inr (inr none)) = absurd none

-- ---- nobody fires twice

-- ---- room

queued_as : (xs : List Queued) (t : TaskId) → has_task (map queued_task xs) t ≡ true → (x : Queued) × Among x xs × (x.task ≡ t)
queued_as xs t is = Among-mapped queued_task xs t (task_among (map queued_task xs) t is)

-- a task that the rule counts is booked or queued, as one that doesn't resume
coming_kept : (w : Parts) (h : List Event) (queue : ℕ → QueueState) (q : ℕ) (u : TaskId) → IsLegal w h → QueuesMatch w h queue → BookingsMatch w h queue → has_task (coming w h q) u ≡ true → IsKept (queue q).fresh (queue q).queued u
coming_kept w h queue q u legal listed match is = by (has_task (put h) u) refl
  where
    parts : (has_task (fired_for w h q) u ≡ true) × (has_task (started h ++ dropped h ++ cut h) u ≡ false)
    parts = of_without (fired_for w h q) (started h ++ dropped h ++ cut h) u is

    left : has_task (started h ++ dropped h) u ≡ false
    left = out_left (started h ++ dropped h) (cut h) u parts.1

    fires : (f : Firing) × (firing_named h u ≡ Some f) × (is_branch_where w (is_for q) f.spot ≡ true)
    fires = fired_by_named w (is_for q) h u (OneName-legal w h legal) parts.0

    its : is_for_queue w h q u ≡ true
    its = rw (fires.1) (at_spot fires.0.spot fires.2)
      where
        at_spot : (spot : Spot) → is_branch_where w (is_for q) spot ≡ true → option_map_or (λ (s : Placement). s.branch.queue == q) (placement w (branch_of spot)) false ≡ true
        at_spot (Branch b) now = now
        at_spot (Site b k) now = absurd (cc)

    by : (b : Bool) → has_task (put h) u ≡ b → IsKept (queue q).fresh (queue q).queued u
    by false e = inl (match.fired_booked q u parts.0 e (out_right (started h ++ dropped h) (cut h) u parts.1))
    by true e =
        let there : has_task (queued w h q) u ≡ true = to_filter (is_for_queue w h q) (without (put h) (started h ++ dropped h)) u (to_without (put h) (started h ++ dropped h) u e left) its in
        let found = queued_as (queue q).queued u (ap (λ ts. has_task ts u) (listed.queued_so q) ∙ there) in
        inr (found.0, found.1, found.2, match.queued_fresh q found.0 found.1 (subst (λ v. has_task (fired_for w h q) v ≡ true) (sym found.2) parts.0))

-- where a new attempt is booked, fewer others count than the throttle's number
pub room_left : (w : Parts) (h : List Event) (queue : ℕ → QueueState) (q n : ℕ) (t : TaskId) → IsLegal w h → QueuesMatch w h queue → BookingsMatch w h queue → policy_of w q ≡ Throttle n → set.contains (queue q).fresh t ≡ true → has_task (fired h) t ≡ false → length (coming w h q) < n
room_left w h queue q n t legal listed match rule booked unfired =
    let within = kept_within (t ∷ coming w h q) (queue q).fresh (queue q).queued distinct each in
    let most = (match.sound q).capped n (listed.policy_so q ∙ rule) in
    omega (arith, within, most)
  where
    new : has_task (coming w h q) t ≡ false
    new = not_within (coming w h q) (fired h) t (λ is. fired_of w h q t (of_without (fired_for w h q) (started h ++ dropped h ++ cut h) t is).0) unfired

    distinct : are_distinct_tasks (t ∷ coming w h q) ≡ true
    distinct = rw new (distinct-filter (λ u. not (has_task (started h ++ dropped h ++ cut h) u)) (fired_for w h q) (some_once (λ (f : Firing). is_branch_where w (is_for q) f.spot) (firings h) (fired_once w h legal)))

    each : (u : TaskId) → has_task (t ∷ coming w h q) u ≡ true → IsKept (queue q).fresh (queue q).queued u
    each u is = of_test (same_task u t) refl is
      where
        of_test : (b : Bool) → same_task u t ≡ b → b || has_task (coming w h q) u ≡ true → IsKept (queue q).fresh (queue q).queued u
        of_test true e now = inl (subst (λ v. set.contains (queue q).fresh v ≡ true) (sym (same_task-is u t e)) booked)
        of_test false e now = coming_kept w h queue q u legal listed match now

pub has_room-left : (w : Parts) (h : List Event) (queue : ℕ → QueueState) (q : ℕ) (t : TaskId) → IsLegal w h → QueuesMatch w h queue → BookingsMatch w h queue → set.contains (queue q).fresh t ≡ true → has_task (fired h) t ≡ false → has_room_in w h q (policy_of w q) ≡ true
has_room-left w h queue q t legal listed match booked unfired = by (policy_of w q) refl
  where
    by : (p : Policy) → policy_of w q ≡ p → has_room_in w h q p ≡ true
    by Unbounded is = refl
    by (Discard n) is = refl
    by (Throttle n) is = let few = room_left w h queue q n t legal listed match is booked unfired in grind (arith, nat_tests, few)

-- ---- attempts under way

-- an attempt past its booking on a branch is booked there
abbrev pub IsBookedAt : Parts → (ℕ → QueueState) → TaskId → Phase → List Spot → Type 0
IsBookedAt w queue name booking spots = Unit {0}
IsBookedAt w queue name (claiming slots had) [] = Unit {0}
IsBookedAt w queue name (claiming slots had) (Branch b ∷ more) = set.contains (queue (queue_number w (Branch b))).fresh name ≡ true
IsBookedAt w queue name (claiming slots had) (Site b k ∷ more) = Unit {0}

abbrev pub IsBooked : Parts → (ℕ → QueueState) → ℕ → State → Type 0
IsBooked w queue a st = IsBookedAt w queue (name_at a st) st.phase st.spots

-- the task stays booked where it is
abbrev pub Stays : (ℕ → QueueState) → (ℕ → QueueState) → TaskId → Type 0
Stays queue queue' name = (q : ℕ) → set.contains (queue q).fresh name ≡ true → set.contains (queue' q).fresh name ≡ true

pub IsBookedAt-stays : (w : Parts) (queue queue' : ℕ → QueueState) (name : TaskId) (ph : Phase) (spots : List Spot) → Stays queue queue' name → IsBookedAt w queue name ph spots → IsBookedAt w queue' name ph spots
IsBookedAt-stays w queue queue' name booking spots stays is = tt
IsBookedAt-stays w queue queue' name (claiming slots had) [] stays is = tt
IsBookedAt-stays w queue queue' name (claiming slots had) (Branch b ∷ more) stays is = stays (queue_number w (Branch b)) is
IsBookedAt-stays w queue queue' name (claiming slots had) (Site b k ∷ more) stays is = tt

-- whatever was claimed since
pub IsBookedAt-claimed : (w : Parts) (queue : ℕ → QueueState) (name : TaskId) (slots slots' : List Slot) (had had' : List Had) (spots : List Spot) → IsBookedAt w queue name (claiming slots had) spots → IsBookedAt w queue name (claiming slots' had') spots
IsBookedAt-claimed w queue name slots slots' had had' [] is = tt
IsBookedAt-claimed w queue name slots slots' had had' (Branch b ∷ more) is = is
IsBookedAt-claimed w queue name slots slots' had had' (Site b k ∷ more) is = tt

pub Stays-note : (queue queue' : ℕ → QueueState) (q : ℕ) (note : Note) (name : TaskId) → QueueChanges queue queue' q note → ((k : ℕ) → set.contains (queue k).fresh name ≡ true → set.contains (queues.after (queue k) note).fresh name ≡ true) → Stays queue queue' name
Stays-note queue queue' q note name changes keeps k is = rw (changes k) (by (q == k))
  where
    by : (b : Bool) → set.contains (if b then queues.after (queue k) note else queue k).fresh name ≡ true
    by true = keeps k is
    by false = is

other_name : (t name : TaskId) → t ≢ name → same_task name t ≡ false
other_name t name other = refuted (same_task name t) (λ e. other (sym (same_task-is name t e)))

pub Stays-unbook : (queue queue' : ℕ → QueueState) (q : ℕ) (t name : TaskId) → QueueChanges queue queue' q (notes.Unbook t) → t ≢ name → Stays queue queue' name
Stays-unbook queue queue' q t name changes other = Stays-note queue queue' q (notes.Unbook t) name changes (λ k is. in-less (queue k).fresh t name ∙ rw (other_name t name other, is) refl)

pub Stays-put : (queue queue' : ℕ → QueueState) (q : ℕ) (t name : TaskId) (d : Option TaskId) → QueueChanges queue queue' q (notes.Put t d) → t ≢ name → Stays queue queue' name
Stays-put queue queue' q t name d changes other = Stays-note queue queue' q (notes.Put t d) name changes (λ k is. in-less (queue k).fresh t name ∙ rw (other_name t name other, is) refl)

pub Stays-book : (queue queue' : ℕ → QueueState) (q : ℕ) (t name : TaskId) (resumes : Bool) (full : Option ℕ) → QueueChanges queue queue' q (notes.Book t resumes full) → Stays queue queue' name
Stays-book queue queue' q t name resumes full changes = Stays-note queue queue' q (notes.Book t resumes full) name changes (λ k is. by k resumes full is)
  where
    by : (k : ℕ) (r : Bool) (o : Option ℕ) → set.contains (queue k).fresh name ≡ true → set.contains (queues.after_book (queue k) t r o).fresh name ≡ true
    by k true None is = is
    by k true (Some n) is = is
    by k false (Some n) is = is
    by k false None is = in-more (queue k).fresh t name ∙ or_right (same_task name t) _ is

-- an attempt that is booked now
pub IsBookedAt-booked : (w : Parts) (queue queue' : ℕ → QueueState) (name : TaskId) (slots : List Slot) (had : List Had) (spot : Spot) (more : List Spot) → QueueChanges queue queue' (queue_number w spot) (notes.Book name (resumes spot) None) → IsBookedAt w queue' name (claiming slots had) (spot ∷ more)
IsBookedAt-booked w queue queue' name slots had (Site b k) more changes = tt
IsBookedAt-booked w queue queue' name slots had (Branch b) more changes = rw (changes (queue_number w (Branch b)), eq-self (queue_number w (Branch b))) (in-more (queue (queue_number w (Branch b))).fresh name name ∙ rw (same_task-self name) refl)

-- ---- all that is known of the queues

pub record QueuesHold (w : Parts) (h : List Event) (queue : ℕ → QueueState) : Type 0 where
  pub listed : QueuesMatch w h queue
  pub booked : BookingsMatch w h queue

-- an event that fires nothing and queues nobody
pub QueuesHold-event : (w : Parts) (h : List Event) (e : Event) (queue : ℕ → QueueState) → firing_of e ≡ [] → ((q : ℕ) → queued w (h ++ e ∷ []) q ≡ queued w h q) → QueuesHold w h queue → QueuesHold w (h ++ e ∷ []) queue
QueuesHold-event w h e queue none same known = record { listed = QueuesMatch-event w h e queue same known.listed; booked = BookingsMatch-event w h e queue none known.booked }

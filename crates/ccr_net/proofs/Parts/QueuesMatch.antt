-- What a queue keeps queued is what the history leaves queued: one lemma a kind of event.
use Rattle.std.proofs.Common.{length, drop, option_to_list, ◌≡◌, ℕ, Bool, true, false, List, [], ◌∷◌, ◌++◌, map, Some, None, refl, sym, arith, ap, ◌∙◌, subst, append-nil}
use Rattle.std.specs.Prelude.{◌==◌, if◌then◌else◌, slice_get, nat_le}
use Rattle.std.proofs.lemmas.List.{length-map}
use Rattle.std.specs.Option.{option_map}
use Rattle.std.proofs.lemmas.Grind.{common_steps}
use Rattle.ccr_base.specs.declared.names.TaskId.{TaskId}
use Rattle.ccr_base.specs.declared.policies.Policy.{Policy}
use Rattle.ccr_base.specs.declared.policies.Policy.TheVariants.{Unbounded, Discard, Throttle}
use Rattle.ccr_base.specs.Names.{has_task, without}
use Rattle.ccr_wiring.specs.declared.parts.Parts.{Parts}
use Rattle.ccr_wiring.specs.Wirings.{Placement, policy_of}
use Rattle.ccr_model.specs.declared.history.Event.{Event}
use Rattle.ccr_model.specs.declared.history.Event.TheVariants as events
use Rattle.ccr_model.specs.Consequences.{are_distinct_tasks}
use Rattle.ccr_model.specs.Firings.{put, started, dropped}
use Rattle.ccr_model.specs.Rules.{drop_at, drop_by}
use Rattle.ccr_model.specs.TaskData.{placement_of}
use Rattle.ccr_model.specs.Tasks.{queued, is_for_queue}
use Rattle.ccr_model.specs.Legal.{IsLegal}
use Rattle.ccr_base.proofs.Booleans.{same_number, eq-self, refuted}
use Rattle.ccr_base.proofs.Options.{some_of, some_is, some_so}
use Rattle.ccr_model.proofs.TaskSteps.{queued-put, queued-start}
use Rattle.ccr_model.proofs.TaskLists.{without_other, without_first, has_oldest, none_gone}
use Rattle.ccr_model.proofs.WhoWasPut.{QueuedFacts-queued}
use Rattle.ccr_model.proofs.Queued.{queued_once, put_fresh}
use Rattle.ccr_places.specs.declared.notes.Note.{Note}
use Rattle.ccr_places.specs.declared.notes.Note.TheVariants as notes
use Rattle.ccr_places.specs.Queues.{QueueState, Queued, queued_task}
use Rattle.ccr_places.specs.Queues as queues

pub record QueuesMatch (w : Parts) (h : List Event) (queue : ℕ → QueueState) : Type 0 where
  pub queued_so : (q : ℕ) → map queued_task (queue q).queued ≡ queued w h q
  pub policy_so : (q : ℕ) → (queue q).policy ≡ policy_of w q

-- the queue of this number takes the note, the others stay
abbrev pub QueueChanges : (ℕ → QueueState) → (ℕ → QueueState) → ℕ → Note → Type 0
QueueChanges queue queue' q note = (k : ℕ) → queue' k ≡ (if q == k then queues.after (queue k) note else queue k)

-- ---- the history

-- a task is queued at one queue
pub one_queue : (w : Parts) (h : List Event) (q k : ℕ) (t : TaskId) → has_task (queued w h q) t ≡ true → has_task (queued w h k) t ≡ true → q ≡ k
one_queue w h q k t at_q at_k =
    let one = some_of (λ (s : Placement). s.branch.queue == q) (placement_of w h t) (QueuedFacts-queued w h q t at_q).for_queue in
    let two = some_of (λ (s : Placement). s.branch.queue == k) (placement_of w h t) (QueuedFacts-queued w h k t at_k).for_queue in
    let same : one.0 ≡ two.0 = some_is (sym one.1 ∙ two.1) in
    sym (same_number one.0.branch.queue q one.2) ∙ ap (λ (s : Placement). s.branch.queue) same ∙ same_number two.0.branch.queue k two.2

-- ---- the steps

-- no note but a put and a take changes who is queued
pub QueuesMatch-note : (w : Parts) (h : List Event) (queue queue' : ℕ → QueueState) (q : ℕ) (note : Note) → QueueChanges queue queue' q note → ((k : ℕ) → (queues.after (queue k) note).queued ≡ (queue k).queued) → ((k : ℕ) → (queues.after (queue k) note).policy ≡ (queue k).policy) → QueuesMatch w h queue → QueuesMatch w h queue'
QueuesMatch-note w h queue queue' q note changes same rule match = record {
  queued_so = λ k. rw (changes k) (by k (q == k)) ∙ match.queued_so k;
  policy_so = λ k. rw (changes k) (of_rule k (q == k)) ∙ match.policy_so k;
}
  where
    by : (k : ℕ) (b : Bool) → map queued_task (if b then queues.after (queue k) note else queue k).queued ≡ map queued_task (queue k).queued
    by k true = ap (map queued_task) (same k)
    by k false = refl

    of_rule : (k : ℕ) (b : Bool) → (if b then queues.after (queue k) note else queue k).policy ≡ (queue k).policy
    of_rule k true = rule k
    of_rule k false = refl

pub QueuesMatch-event : (w : Parts) (h : List Event) (e : Event) (queue : ℕ → QueueState) → ((q : ℕ) → queued w (h ++ e ∷ []) q ≡ queued w h q) → QueuesMatch w h queue → QueuesMatch w (h ++ e ∷ []) queue
QueuesMatch-event w h e queue same match = record { queued_so = λ q. match.queued_so q ∙ sym (same q); policy_so = match.policy_so }

map-last : (qs : List Queued) (q : Queued) → map queued_task (qs ++ q ∷ []) ≡ map queued_task qs ++ q.task ∷ []
map-last qs q = grind (arith, common_steps)

-- what a put drops: nothing, or the oldest
pub data Drops (queue : QueueState) : Type 0 where
  drops_none : queues.put_note queue ≡ None → drop (queues.drop_count queue) queue.queued ≡ queue.queued → Drops queue
  drops_first : (first : Queued) (others : List Queued) → queue.queued ≡ first ∷ others → queues.put_note queue ≡ Some first.task → drop (queues.drop_count queue) queue.queued ≡ others → Drops queue

pub drops : (queue : QueueState) → Drops queue
drops queue = by queue.policy refl
  where
    by : (p : Policy) → queue.policy ≡ p → Drops queue
    by Unbounded is = drops_none (rw is refl) (rw is refl)
    by (Throttle n) is = drops_none (rw is refl) (rw is refl)
    by (Discard n) is = of_test (nat_le n (length queue.queued)) refl
      where
        of_test : (b : Bool) → nat_le n (length queue.queued) ≡ b → Drops queue
        of_test false e = drops_none (rw (is, e) refl) (rw (is, e) refl)
        of_test true e = of_list queue.queued refl
          where
            one : queues.drop_count queue ≡ 1
            one = rw (is, e) refl

            of_list : (qs : List Queued) → queue.queued ≡ qs → Drops queue
            of_list [] none = drops_none (rw (is, e) (rw none refl)) (rw (one, none) refl)
            of_list (x ∷ qs) some = drops_first x qs some (rw (is, e) (rw some refl)) (rw (one, some) refl)

-- the rule drops the same
drop_same : (p : Policy) (qs : List Queued) → drop_by p (map queued_task qs) ≡ (if nat_le 1 (queues.overflow p (length qs)) then option_map queued_task (slice_get qs 0) else None)
drop_same Unbounded qs = refl
drop_same (Throttle n) qs = refl
drop_same (Discard n) qs = rw (length-map qs queued_task) (of_test (nat_le n (length qs)))
  where
    heads : (xs : List Queued) → slice_get (map queued_task xs) 0 ≡ option_map queued_task (slice_get xs 0)
    heads [] = refl
    heads (x ∷ xs) = refl

    of_test : (b : Bool) → (if b then slice_get (map queued_task qs) 0 else None) ≡ (if nat_le 1 (if b then 1 else 0) then option_map queued_task (slice_get qs 0) else None)
    of_test true = heads qs
    of_test false = refl

pub drop_at-note : (w : Parts) (h : List Event) (queue : ℕ → QueueState) (q : ℕ) (t : TaskId) (s : Placement) → QueuesMatch w h queue → placement_of w h t ≡ Some s → s.branch.queue ≡ q → drop_at w h t ≡ queues.put_note (queue q)
drop_at-note w h queue q t s match sits at_q = rw (sits, at_q, sym (match.queued_so q), sym (match.policy_so q)) (drop_same (queue q).policy (queue q).queued)

pub QueuesMatch-put : (w : Parts) (h : List Event) (queue queue' : ℕ → QueueState) (q : ℕ) (t : TaskId) → IsLegal w h → has_task (put h) t ≡ false → ((k : ℕ) → is_for_queue w h k t ≡ (q == k)) → QueueChanges queue queue' q (notes.Put t (queues.put_note (queue q))) → QueuesMatch w h queue → QueuesMatch w (h ++ events.Put t (queues.put_note (queue q)) ∷ []) queue'
QueuesMatch-put w h queue queue' q t legal new own changes match = record {
  queued_so = λ k. rw (changes k) (by k (q == k) refl) ∙ sym (queued-put w h k t (queues.put_note (queue q)) fresh);
  policy_so = λ k. rw (changes k) (of_rule k (q == k)) ∙ match.policy_so k;
}
  where
    list_of : (first : Queued) (others : List Queued) → (queue q).queued ≡ first ∷ others → queued w h q ≡ first.task ∷ map queued_task others
    list_of first others is = sym (match.queued_so q) ∙ ap (map queued_task) is

    oldest_there : (first : Queued) (others : List Queued) → (queue q).queued ≡ first ∷ others → has_task (queued w h q) first.task ≡ true
    oldest_there first others is = has_oldest (queued w h q) (map queued_task others) first.task (list_of first others is)

    fresh : has_task (started h ++ (dropped h ++ option_to_list (queues.put_note (queue q)))) t ≡ false
    fresh = put_fresh w h t (queues.put_note (queue q)) legal new (of_drops (drops (queue q)))
      where
        of_drops : Drops (queue q) → (x : TaskId) → queues.put_note (queue q) ≡ Some x → has_task (put h) x ≡ true
        of_drops (drops_none none rest) x is = absurd (cc)
        of_drops (drops_first first others qs some rest) x is = some_so (λ u. has_task (put h) u ≡ true) (sym some ∙ is) (QueuedFacts-queued w h q first.task (oldest_there first others qs)).put_so

    -- what is left at each queue
    left : (k : ℕ) → without (queued w h k) (option_to_list (queues.put_note (queue q))) ≡ (if q == k then map queued_task (drop (queues.drop_count (queue q)) (queue q).queued) else queued w h k)
    left k = of_drops (drops (queue q)) (q == k) refl
      where
        of_drops : Drops (queue q) → (b : Bool) → (q == k) ≡ b → without (queued w h k) (option_to_list (queues.put_note (queue q))) ≡ (if b then map queued_task (drop (queues.drop_count (queue q)) (queue q).queued) else queued w h k)
        of_drops (drops_none none rest) true e = rw (none, rest) (none_gone (queued w h k) ∙ ap (queued w h) (sym (same_number q k e)) ∙ sym (match.queued_so q))
        of_drops (drops_none none rest) false e = rw none (none_gone (queued w h k))
        of_drops (drops_first first others qs some rest) true e = rw (some, rest) (ap (λ ts. without ts (first.task ∷ [])) (ap (queued w h) (sym (same_number q k e)) ∙ list_of first others qs) ∙ without_first (map queued_task others) first.task (ap are_distinct_tasks (sym (list_of first others qs)) ∙ queued_once w h q legal))
        of_drops (drops_first first others qs some rest) false e = rw some (without_other (queued w h k) first.task (refuted (has_task (queued w h k) first.task) (λ is. apart (one_queue w h q k first.task (oldest_there first others qs) is) e)))
          where
            apart : q ≡ k → (q == k) ≡ false → ⊥
            apart same out = let self : (q == k) ≡ true = subst (λ n. (q == n) ≡ true) same (eq-self q) in absurd (cc)

    by : (k : ℕ) (b : Bool) → (q == k) ≡ b → map queued_task (if b then queues.after_put (queue k) t else queue k).queued ≡ without (queued w h k) (option_to_list (queues.put_note (queue q))) ++ (if is_for_queue w h k t then t ∷ [] else [])
    by k true e = rw (left k, own k, e) (subst (λ n. map queued_task (queues.after_put (queue n) t).queued ≡ map queued_task (drop (queues.drop_count (queue q)) (queue q).queued) ++ t ∷ []) (same_number q k e) (map-last (drop (queues.drop_count (queue q)) (queue q).queued) _))
    by k false e = rw (left k, own k, e) (match.queued_so k ∙ sym (append-nil (queued w h k)))

    of_rule : (k : ℕ) (b : Bool) → (if b then queues.after_put (queue k) t else queue k).policy ≡ (queue k).policy
    of_rule k true = refl
    of_rule k false = refl

-- what a take tells
pub record Takes (queue : QueueState) (t : TaskId) : Type 0 where
  pub first : Queued
  pub others : List Queued
  pub queued_so : queue.queued ≡ first ∷ others
  pub is_first : first.task ≡ t

pub takes : (queue : QueueState) (t : TaskId) → queues.take_note queue ≡ Some t → Takes queue t
takes queue t is = of_list queue.queued refl is
  where
    of_list : (qs : List Queued) → queue.queued ≡ qs → option_map queued_task (slice_get qs 0) ≡ Some t → Takes queue t
    of_list [] e is = absurd (cc)
    of_list (x ∷ others) e is = record { first = x; others = others; queued_so = e; is_first = cc }

pub QueuesMatch-take : (w : Parts) (h : List Event) (queue queue' : ℕ → QueueState) (q a : ℕ) (t : TaskId) → IsLegal w h → Takes (queue q) t → QueueChanges queue queue' q (notes.Take (Some t)) → QueuesMatch w h queue → QueuesMatch w (h ++ events.Start t a ∷ []) queue'
QueuesMatch-take w h queue queue' q a t legal first changes match = record {
  queued_so = λ k. rw (changes k) (by k (q == k) refl) ∙ sym (queued-start w h k t a);
  policy_so = λ k. rw (changes k) (of_rule k (q == k)) ∙ match.policy_so k;
}
  where
    list : queued w h q ≡ t ∷ map queued_task first.others
    list = sym (match.queued_so q) ∙ rw first.queued_so (ap (λ x. x ∷ map queued_task first.others) first.is_first)

    there : has_task (queued w h q) t ≡ true
    there = has_oldest (queued w h q) (map queued_task first.others) t list

    rest : map queued_task (queues.after_take (queue q)).queued ≡ without (queued w h q) (t ∷ [])
    rest = rw first.queued_so refl ∙ sym (ap (λ ts. without ts (t ∷ [])) list ∙ without_first (map queued_task first.others) t (ap are_distinct_tasks (sym list) ∙ queued_once w h q legal))

    by : (k : ℕ) (b : Bool) → (q == k) ≡ b → map queued_task (if b then queues.after_take (queue k) else queue k).queued ≡ without (queued w h k) (t ∷ [])
    by k true e = subst (λ n. map queued_task (queues.after_take (queue n)).queued ≡ without (queued w h n) (t ∷ [])) (same_number q k e) rest
    by k false e = match.queued_so k ∙ sym (without_other (queued w h k) t (refuted (has_task (queued w h k) t) (λ is. apart (one_queue w h q k t there is) e)))
      where
        apart : q ≡ k → (q == k) ≡ false → ⊥
        apart same out = let self : (q == k) ≡ true = subst (λ n. (q == n) ≡ true) same (eq-self q) in absurd (cc)

    of_rule : (k : ℕ) (b : Bool) → (if b then queues.after_take (queue k) else queue k).policy ≡ (queue k).policy
    of_rule k true = refl
    of_rule k false = refl

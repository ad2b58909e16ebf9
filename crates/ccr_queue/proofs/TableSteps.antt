-- What each step does to the object's table, queue and count.
use Rattle.std.proofs.Common.{◌≡◌, ℕ, ◌+◌, ◌-◌, ◌≤◌, Bool, true, false, cond, not, ◌||◌, List, [], ◌∷◌, ◌++◌, length, map, count_by, is_some, Option, Some, None, refl, sym, ap, ◌∙◌, true≢false, arith, length-append}
use Rattle.std.proofs.lemmas.List.{map-append}
use Rattle.std.proofs.lemmas.List.Folds.{list_any-append}
use Rattle.std.proofs.lemmas.List.Sums.{sum_by-append, sum_by-cons}
use Rattle.std.proofs.lemmas.Map.Keys.{IsDistinct-push}
use Rattle.std.specs.List.{list_any, IsDistinct}
use Rattle.std.specs.Map.{keys_of}
use Rattle.std.specs.Option.{option_map_or}
use Rattle.std.specs.FinSet as set
use Rattle.ccr_base.specs.declared.names.TaskId.{TaskId}
use Rattle.ccr_base.specs.Names.{same_task}
use Rattle.ccr_base.proofs.Options.{none_is}
use Rattle.ccr_base.proofs.SameNames.{same_task-is}
use Rattle.ccr_base.proofs.Lists.{none_mapped, list_any-map}
use Rattle.ccr_places.specs.Queues.{Queued}
use Rattle.ccr_places.specs.TaskSets.{task_cmp, len-there, same_task_equiv}
use Rattle.ccr_places.specs.TaskTables.{tasks_where, kept_of, contains-tasks_where, tasks_where-put, tasks_where-gone, tasks_where-same, len-tasks_where}
use Rattle.ccr_queue.specs.declared.stage.QueueStage.{QueueStage}
use Rattle.ccr_queue.specs.declared.stage.QueueStage.TheVariants.{Fresh, Resuming, Queued as StandsQueued}
use Rattle.ccr_queue.specs.QueueTies.{Tied, is_fresh, is_resuming, is_queued}

kinds : (kept : Option QueueStage) → is_some kept ≡ ((option_map_or is_fresh kept false || option_map_or is_resuming kept false) || option_map_or is_queued kept false)
kinds None = refl
kinds (Some Fresh) = refl
kinds (Some Resuming) = refl
kinds (Some StandsQueued) = refl

module _ (table : List (TaskId × QueueStage)) (queued : List Queued) (fresh room : ℕ) (tied : Tied table queued fresh room) (task : TaskId) where
  -- the table has exactly the booked and the queued tasks
  pub is_some-known : is_some (kept_of table task)
      ≡ ((set.contains (tasks_where is_fresh table) task || set.contains (tasks_where is_resuming table) task) || list_any (λ (q : Queued). same_task task q.task) queued)
  is_some-known = kinds (kept_of table task)
      ∙ (λ i. (sym (contains-tasks_where is_fresh table tied.distinct task) i || sym (contains-tasks_where is_resuming table tied.distinct task) i) || tied.same_queued task i)

pub none-tied : (room : ℕ) → Tied [] [] 0 room
unfolding IsDistinct
none-tied room = record {
  distinct = tt;
  queued_distinct = tt;
  same_queued = λ task. refl;
  count = omega (arith, set.len-empty task_cmp);
  size = omega (arith, set.len-empty task_cmp);
  fits = omega arith;
}

-- ---- a step: the table keeps this stage of one task, and of each other what it kept

kinds_one : (kept : Option QueueStage) → cond (is_some kept) 1 0
    ≡ cond (option_map_or is_fresh kept false) 1 0 + cond (option_map_or is_resuming kept false) 1 0 + cond (option_map_or is_queued kept false) 1 0
kinds_one None = refl
kinds_one (Some Fresh) = refl
kinds_one (Some Resuming) = refl
kinds_one (Some StandsQueued) = refl

module _ (old new : List (TaskId × QueueStage)) (task : TaskId) (kept : Option QueueStage)
    (updates : (other : TaskId) → kept_of new other ≡ cond (same_task task other) kept (kept_of old other)) where
  -- the queued tasks of the table stay, where the one task stays queued or not queued
  stays : option_map_or is_queued kept false ≡ option_map_or is_queued (kept_of old task) false
      → (other : TaskId) → option_map_or is_queued (kept_of new other) false ≡ option_map_or is_queued (kept_of old other) false
  stays same other = ap (λ k. option_map_or is_queued k false) (updates other) ∙ by (same_task task other) refl
    where
      by : (here : Bool) → same_task task other ≡ here
          → option_map_or is_queued (cond here kept (kept_of old other)) false ≡ option_map_or is_queued (kept_of old other) false
      by true e = same ∙ ap (λ t. option_map_or is_queued (kept_of old t) false) (same_task-is task other e)
      by false e = refl

  module _ (queued later : List Queued) (fresh count room space : ℕ) (tied : Tied old queued fresh room)
      (distinct : IsDistinct same_task (keys_of new)) where
    pub stepped : IsDistinct same_task (map (λ (q : Queued). q.task) later)
        → ((other : TaskId) → option_map_or is_queued (kept_of new other) false ≡ list_any (λ (q : Queued). same_task other q.task) later)
        → count + (cond (option_map_or is_fresh (kept_of old task) false) 1 0 + count_by (λ (q : Queued). not q.resumes) queued)
        ≡ fresh + (cond (option_map_or is_fresh kept false) 1 0 + count_by (λ (q : Queued). not q.resumes) later)
        → length later + cond (option_map_or is_queued (kept_of old task) false) 1 0 ≡ length queued + cond (option_map_or is_queued kept false) 1 0
        → length new + cond (is_some (kept_of old task)) 1 0 ≡ length old + cond (is_some kept) 1 0
        → length new ≤ space
        → Tied new later count space
    stepped names_distinct same counts queue_len table_len fits = record {
      distinct = distinct;
      queued_distinct = names_distinct;
      same_queued = same;
      count = omega (arith, tied.count, len-tasks_where is_fresh old new task kept tied.distinct distinct updates);
      size = omega (arith, tied.size, kinds_one kept, kinds_one (kept_of old task), len-tasks_where is_fresh old new task kept tied.distinct distinct updates, len-tasks_where is_resuming old new task kept tied.distinct distinct updates);
      fits = fits;
    }

-- ---- a booking

-- a task that may be booked isn't in the table
pub absent : (table : List (TaskId × QueueStage)) (queued : List Queued) (fresh room : ℕ) → Tied table queued fresh room → (task : TaskId)
    → not ((set.contains (tasks_where is_fresh table) task || set.contains (tasks_where is_resuming table) task) || list_any (λ (q : Queued). same_task task q.task) queued) ≡ true
    → kept_of table task ≡ None
absent table queued fresh room tied task free = none_is (kept_of table task) (ap not (is_some-known table queued fresh room tied task) ∙ free)

module _ (old new : List (TaskId × QueueStage)) (queued : List Queued) (fresh room space : ℕ) (tied : Tied old queued fresh room) (task : TaskId)
    (none : kept_of old task ≡ None) (distinct : IsDistinct same_task (keys_of new)) where
  pub booked : (stage : QueueStage) → ((other : TaskId) → kept_of new other ≡ cond (same_task task other) (Some stage) (kept_of old other))
      → is_queued stage ≡ false → length new ≡ length old + 1 → length new ≤ space
      → (count : ℕ) → count ≡ fresh + cond (is_fresh stage) 1 0 → Tied new queued count space
  booked stage updates waits len fits count counts =
      let before : (test : QueueStage → Bool) → option_map_or test (kept_of old task) false ≡ false = λ test. ap (λ k. option_map_or test k false) none in
      let known : is_some (kept_of old task) ≡ false = ap is_some none in
      stepped old new task (Some stage) updates queued queued fresh count room space tied distinct
      tied.queued_distinct
      (λ other. stays old new task (Some stage) updates (waits ∙ sym (before is_queued)) other ∙ tied.same_queued other)
      (rw (before is_fresh) (omega arith))
      (rw (before is_queued, waits) refl)
      (rw known (omega arith))
      fits

  pub fresh_booked : ((other : TaskId) → kept_of new other ≡ cond (same_task task other) (Some Fresh) (kept_of old other))
      → (tasks_where is_fresh new ≡ set.insert (tasks_where is_fresh old) task) × (tasks_where is_resuming new ≡ tasks_where is_resuming old)
  fresh_booked updates = (
    tasks_where-put is_fresh old new task (Some Fresh) tied.distinct distinct updates refl,
    tasks_where-same is_resuming old new task (Some Fresh) tied.distinct distinct updates refl (ap (λ k. option_map_or is_resuming k false) none),
  )

  pub resuming_booked : ((other : TaskId) → kept_of new other ≡ cond (same_task task other) (Some Resuming) (kept_of old other))
      → (tasks_where is_fresh new ≡ tasks_where is_fresh old) × (tasks_where is_resuming new ≡ set.insert (tasks_where is_resuming old) task)
  resuming_booked updates = (
    tasks_where-same is_fresh old new task (Some Resuming) tied.distinct distinct updates refl (ap (λ k. option_map_or is_fresh k false) none),
    tasks_where-put is_resuming old new task (Some Resuming) tied.distinct distinct updates refl,
  )

-- ---- what a booked task's stage says

pub record IsBooked (kept : Option QueueStage) : Type 0 where
  pub apart : option_map_or is_queued kept false ≡ false
  pub there : is_some kept ≡ true
  pub either : option_map_or is_fresh kept false ≡ not (option_map_or is_resuming kept false)

booked_kind : (kept : Option QueueStage) → (option_map_or is_fresh kept false || option_map_or is_resuming kept false) ≡ true → IsBooked kept
booked_kind None e = absurd (true≢false (sym e))
booked_kind (Some Fresh) e = record { apart = refl; there = refl; either = refl }
booked_kind (Some Resuming) e = record { apart = refl; there = refl; either = refl }
booked_kind (Some StandsQueued) e = absurd (true≢false (sym e))

either_len : (a b : Bool) (m n : ℕ) → (a || b) ≡ true → (a ≡ true → 1 ≤ m) → (b ≡ true → 1 ≤ n) → 1 ≤ m + n
either_len true b m n e f g = let h = f refl in omega arith
either_len false true m n e f g = let h = g refl in omega arith
either_len false false m n e f g = absurd (true≢false (sym e))

one_below : (b : Bool) (m n : ℕ) → (b ≡ true → 1 ≤ m) → cond b 1 0 ≤ m + n
one_below true m n f = let h = f refl in omega arith
one_below false m n f = omega arith

module _ (table : List (TaskId × QueueStage)) (queued : List Queued) (fresh room : ℕ) (tied : Tied table queued fresh room) (task : TaskId) where
  pub booked-known : (set.contains (tasks_where is_fresh table) task || set.contains (tasks_where is_resuming table) task)
      ≡ (option_map_or is_fresh (kept_of table task) false || option_map_or is_resuming (kept_of table task) false)
  booked-known = λ i. contains-tasks_where is_fresh table tied.distinct task i || contains-tasks_where is_resuming table tied.distinct task i

  -- the count has the task, where it is booked and doesn't resume
  pub fresh-counted : cond (option_map_or is_fresh (kept_of table task) false) 1 0 ≤ fresh
  fresh-counted = rw (tied.count) (one_below (option_map_or is_fresh (kept_of table task) false) _ _
      (λ e. len-there (tasks_where is_fresh table) task (contains-tasks_where is_fresh table tied.distinct task ∙ e)))

  module _ (booking : (set.contains (tasks_where is_fresh table) task || set.contains (tasks_where is_resuming table) task) ≡ true) where
    pub booked-stage : IsBooked (kept_of table task)
    booked-stage = booked_kind (kept_of table task) (sym booked-known ∙ booking)

    -- the queue has a place for a booked task
    pub place-left : length queued + 1 ≤ room
    place-left =
        let some = either_len _ _ _ _ booking (len-there (tasks_where is_fresh table) task) (len-there (tasks_where is_resuming table) task) in
        omega (arith, tied.size, tied.fits)

-- ---- the end of a booking

module _ (old new : List (TaskId × QueueStage)) (queued : List Queued) (fresh room : ℕ) (tied : Tied old queued fresh room) (task : TaskId)
    (booking : IsBooked (kept_of old task)) (distinct : IsDistinct same_task (keys_of new)) where
  pub unbooked : ((other : TaskId) → kept_of new other ≡ cond (same_task task other) None (kept_of old other))
      → length new + 1 ≡ length old
      → Tied new queued (fresh - cond (option_map_or is_fresh (kept_of old task) false) 1 0) room
  unbooked updates len =
      let enough = fresh-counted old queued fresh room tied task in
      stepped old new task None updates queued queued fresh (fresh - cond (option_map_or is_fresh (kept_of old task) false) 1 0) room room tied distinct
      tied.queued_distinct
      (λ other. stays old new task None updates (sym booking.apart) other ∙ tied.same_queued other)
      (omega arith)
      (rw (booking.apart) refl)
      (rw (booking.there) (omega arith))
      (omega (arith, tied.fits))

  pub sets_unbooked : ((other : TaskId) → kept_of new other ≡ cond (same_task task other) None (kept_of old other))
      → (tasks_where is_fresh new ≡ set.remove (tasks_where is_fresh old) task) × (tasks_where is_resuming new ≡ set.remove (tasks_where is_resuming old) task)
  sets_unbooked updates =
      (tasks_where-gone is_fresh old new task None tied.distinct distinct updates refl, tasks_where-gone is_resuming old new task None tied.distinct distinct updates refl)

-- ---- a put

last_there : (a : Bool) → true ≡ (a || (true || false))
last_there true = refl
last_there false = refl

last_apart : (a : Bool) → a ≡ (a || (false || false))
last_apart true = refl
last_apart false = refl

module _ (old new : List (TaskId × QueueStage)) (queued : List Queued) (fresh room : ℕ) (tied : Tied old queued fresh room) (task : TaskId)
    (booking : IsBooked (kept_of old task)) (distinct : IsDistinct same_task (keys_of new))
    (updates : (other : TaskId) → kept_of new other ≡ cond (same_task task other) (Some StandsQueued) (kept_of old other)) where
  free : list_any (λ (q : Queued). same_task task q.task) queued ≡ false
  free = sym (tied.same_queued task) ∙ booking.apart

  pub put_last : (resumes : Bool) → resumes ≡ option_map_or is_resuming (kept_of old task) false → length new ≡ length old
      → Tied new (queued ++ (record { task = task; resumes = resumes }) ∷ []) fresh room
  put_last resumes same len =
      let newest : Queued = record { task = task; resumes = resumes } in
      let names : Queued → TaskId = λ q. q.task in
      let waits : Queued → Bool = λ q. not q.resumes in
      stepped old new task (Some StandsQueued) updates queued (queued ++ newest ∷ []) fresh fresh room room tied distinct
      (rw (map-append names queued (newest ∷ [])) (IsDistinct-push same_task_equiv (map names queued) task tied.queued_distinct (list_any-map (same_task task) names queued ∙ free)))
      same_later
      (rw (booking.either, ← same) (omega (arith, sum_by-append (λ q. cond (waits q) 1 0) queued (newest ∷ []))))
      (rw (booking.apart) (omega (arith, length-append queued (newest ∷ []))))
      (rw (booking.there) (omega arith))
      (omega (arith, tied.fits))
    where
      same_later : (other : TaskId) → option_map_or is_queued (kept_of new other) false ≡ list_any (λ (q : Queued). same_task other q.task) (queued ++ (record { task = task; resumes = resumes }) ∷ [])
      same_later other =
          ap (λ k. option_map_or is_queued k false) (updates other) ∙ by (same_task task other) refl
          ∙ sym (list_any-append (λ (q : Queued). same_task other q.task) queued ((record { task = task; resumes = resumes }) ∷ []))
        where
          by : (here : Bool) → same_task task other ≡ here
              → option_map_or is_queued (cond here (Some StandsQueued) (kept_of old other)) false
              ≡ (list_any (λ (q : Queued). same_task other q.task) queued || (same_task other task || false))
          by true e = last_there (list_any (λ (q : Queued). same_task other q.task) queued) ∙ (λ i. list_any (λ (q : Queued). same_task other q.task) queued || (sym (same_task_equiv.symm other task ∙ e) i || false))
          by false e = tied.same_queued other ∙ last_apart (list_any (λ (q : Queued). same_task other q.task) queued) ∙ (λ i. list_any (λ (q : Queued). same_task other q.task) queued || (sym (same_task_equiv.symm other task ∙ e) i || false))

  pub sets_put : (tasks_where is_fresh new ≡ set.remove (tasks_where is_fresh old) task) × (tasks_where is_resuming new ≡ set.remove (tasks_where is_resuming old) task)
  sets_put = (
    tasks_where-gone is_fresh old new task (Some StandsQueued) tied.distinct distinct updates refl,
    tasks_where-gone is_resuming old new task (Some StandsQueued) tied.distinct distinct updates refl,
  )

-- ---- a take

only_queued : (kept : Option QueueStage) → option_map_or is_queued kept false ≡ true → kept ≡ Some StandsQueued
only_queued None e = absurd (true≢false (sym e))
only_queued (Some Fresh) e = absurd (true≢false (sym e))
only_queued (Some Resuming) e = absurd (true≢false (sym e))
only_queued (Some StandsQueued) e = refl

module _ (old new : List (TaskId × QueueStage)) (oldest : Queued) (later : List Queued) (fresh room : ℕ) (tied : Tied old (oldest ∷ later) fresh room)
    (distinct : IsDistinct same_task (keys_of new))
    (updates : (other : TaskId) → kept_of new other ≡ cond (same_task oldest.task other) None (kept_of old other)) where
  stands : kept_of old oldest.task ≡ Some StandsQueued
  stands = only_queued (kept_of old oldest.task) (tied.same_queued oldest.task ∙ ap (λ b. b || list_any (λ (q : Queued). same_task oldest.task q.task) later) (same_task_equiv.refl oldest.task))

  -- the oldest is in the table
  pub oldest-there : is_some (kept_of old oldest.task) ≡ true
  oldest-there = ap is_some stands

  pub taken : length new + 1 ≡ length old → Tied new later (fresh - cond (not oldest.resumes) 1 0) room
  unfolding IsDistinct
  taken len =
      stepped old new oldest.task None updates (oldest ∷ later) later fresh (fresh - cond (not oldest.resumes) 1 0) room room tied distinct
      (tied.queued_distinct).1
      same_later
      (rw (ap (λ k. option_map_or is_fresh k false) stands) (omega (arith, tied.count, sum_by-cons (λ (q : Queued). cond (not q.resumes) 1 0) oldest later)))
      (rw (ap (λ k. option_map_or is_queued k false) stands) (omega arith))
      (rw oldest-there (omega arith))
      (omega (arith, tied.fits))
    where
      same_later : (other : TaskId) → option_map_or is_queued (kept_of new other) false ≡ list_any (λ (q : Queued). same_task other q.task) later
      same_later other = ap (λ k. option_map_or is_queued k false) (updates other) ∙ by (same_task oldest.task other) refl
        where
          by : (here : Bool) → same_task oldest.task other ≡ here
              → option_map_or is_queued (cond here None (kept_of old other)) false ≡ list_any (λ (q : Queued). same_task other q.task) later
          by true e = sym (ap (λ t. list_any (λ (q : Queued). same_task t q.task) later) (sym (same_task-is oldest.task other e)) ∙ none_mapped (same_task oldest.task) (λ (q : Queued). q.task) later (tied.queued_distinct).0)
          by false e = tied.same_queued other ∙ ap (λ b. b || list_any (λ (q : Queued). same_task other q.task) later) (same_task_equiv.symm other oldest.task ∙ e)

  pub sets_taken : (tasks_where is_fresh new ≡ tasks_where is_fresh old) × (tasks_where is_resuming new ≡ tasks_where is_resuming old)
  sets_taken = (
    tasks_where-same is_fresh old new oldest.task None tied.distinct distinct updates refl (ap (λ k. option_map_or is_fresh k false) stands),
    tasks_where-same is_resuming old new oldest.task None tied.distinct distinct updates refl (ap (λ k. option_map_or is_resuming k false) stands),
  )

-- What each step does to the object's table, its waiting tasks and its counts.
use Rattle.std.proofs.Common.{◌≡◌, ℕ, ◌+◌, ◌-◌, ◌≤◌, Bool, true, false, cond, not, ◌&&◌, ◌||◌, List, [], ◌∷◌, ◌++◌, length, map, is_some, Option, Some, None, refl, sym, ap, ◌∙◌, true≢false, arith}
use Rattle.std.proofs.lemmas.List.{map-append}
use Rattle.std.proofs.lemmas.List.Folds.{list_any-append}
use Rattle.std.proofs.lemmas.Map.Keys.{IsDistinct-push}
use Rattle.std.specs.List.{list_any, IsDistinct}
use Rattle.std.specs.Map.{keys_of}
use Rattle.std.proofs.lemmas.Map.Made.{is_some-lookup}
use Rattle.indexmap.specs.IndexMap.{insert_entry}
use Rattle.std.specs.Option.{option_map_or}
use Rattle.std.specs.FinSet as set
use Rattle.std.proofs.Math.Bool.{or-true}
use Rattle.ccr_base.specs.declared.names.TaskId.{TaskId}
use Rattle.ccr_base.specs.declared.names.Spot.{Spot}
use Rattle.ccr_base.specs.Names.{same_task, has_task}
use Rattle.ccr_base.proofs.Options.{not_some}
use Rattle.ccr_base.proofs.SameNames.{same_task-is}
use Rattle.ccr_base.proofs.Lists.{none_mapped, list_any-map}
use Rattle.ccr_places.specs.Interleaves.{Waiting}
use Rattle.ccr_places.specs.TaskSets.{task_cmp, len-there, same_task_equiv}
use Rattle.ccr_places.specs.TaskTables.{tasks_where, kept_of, contains-tasks_where, tasks_where-put, tasks_where-gone, tasks_where-same, len-tasks_where, len-tasks_where-le}
use Rattle.ccr_interleave.specs.declared.admission.Admission.{Admission}
use Rattle.ccr_interleave.specs.declared.admission.Admission.TheVariants.{Outside, Shared, Alone}
use Rattle.ccr_interleave.specs.Admissions.{Tied, is_shared, is_alone, admitted_as}
use Rattle.ccr_base.proofs.Booleans.{refuted}

pub none-tied : Tied [] [] 0 0
unfolding IsDistinct
none-tied = record {
  distinct = tt;
  waiting_distinct = tt;
  outside = λ task e. absurd (true≢false (sym e));
  shared_count = omega (arith, set.len-empty task_cmp);
  alone_count = omega (arith, set.len-empty task_cmp);
}

-- ---- what is known of a task

module _ (table : List (TaskId × Admission)) (waiting : List Waiting) (shared alone : ℕ) (tied : Tied table waiting shared alone) where
  -- no waiting task, as a teardown leaves it
  pub cleared : Tied table [] shared alone
  unfolding IsDistinct
  cleared = record {
    distinct = tied.distinct;
    waiting_distinct = tt;
    outside = λ task e. absurd (true≢false (sym e));
    shared_count = tied.shared_count;
    alone_count = tied.alone_count;
  }

  -- no more roots are counted than tasks fired
  pub shared-fired : shared ≤ length table
  shared-fired = omega (arith, tied.shared_count, len-tasks_where-le is_shared table)

  pub alone-fired : alone ≤ length table
  alone-fired = omega (arith, tied.alone_count, len-tasks_where-le is_alone table)

  module _ (task : TaskId) where
    pub admitted-known : (set.contains (tasks_where is_shared table) task || set.contains (tasks_where is_alone table) task)
        ≡ (option_map_or is_shared (kept_of table task) false || option_map_or is_alone (kept_of table task) false)
    admitted-known = λ i. contains-tasks_where is_shared table tied.distinct task i || contains-tasks_where is_alone table tied.distinct task i

    one_at_most : (b : Bool) (n : ℕ) → (b ≡ true → 1 ≤ n) → cond b 1 0 ≤ n
    one_at_most true n f = f refl
    one_at_most false n f = omega arith

    pub shared-counted : cond (option_map_or is_shared (kept_of table task) false) 1 0 ≤ shared
    shared-counted = rw (tied.shared_count) (one_at_most (option_map_or is_shared (kept_of table task) false) _
        (λ e. len-there (tasks_where is_shared table) task (contains-tasks_where is_shared table tied.distinct task ∙ e)))

    pub alone-counted : cond (option_map_or is_alone (kept_of table task) false) 1 0 ≤ alone
    alone-counted = rw (tied.alone_count) (one_at_most (option_map_or is_alone (kept_of table task) false) _
        (λ e. len-there (tasks_where is_alone table) task (contains-tasks_where is_alone table tied.distinct task ∙ e)))

    there_of : (kept : Option Admission) → (option_map_or is_shared kept false || option_map_or is_alone kept false) ≡ true → is_some kept ≡ true
    there_of None e = absurd (true≢false (sym e))
    there_of (Some admission) e = refl

    -- an admitted root fired here
    pub admitted-there : (set.contains (tasks_where is_shared table) task || set.contains (tasks_where is_alone table) task) ≡ true → is_some (kept_of table task) ≡ true
    admitted-there admitted = there_of (kept_of table task) (sym admitted-known ∙ admitted)

-- ---- a firing

module _ (old new : List (TaskId × Admission)) (waiting : List Waiting) (shared alone : ℕ) (tied : Tied old waiting shared alone) (task : TaskId)
    (none : kept_of old task ≡ None) (distinct : IsDistinct same_task (keys_of new))
    (updates : (other : TaskId) → kept_of new other ≡ cond (same_task task other) (Some Outside) (kept_of old other)) where
  not_waiting : list_any (λ (w : Waiting). same_task task w.task) waiting ≡ false
  not_waiting = refuted (list_any (λ (w : Waiting). same_task task w.task) waiting) (λ e. true≢false (ap is_some (sym (tied.outside task e) ∙ none)))

  pub sets_fired : (tasks_where is_shared new ≡ tasks_where is_shared old) × (tasks_where is_alone new ≡ tasks_where is_alone old)
  sets_fired = (
    tasks_where-same is_shared old new task (Some Outside) tied.distinct distinct updates refl (ap (λ k. option_map_or is_shared k false) none),
    tasks_where-same is_alone old new task (Some Outside) tied.distinct distinct updates refl (ap (λ k. option_map_or is_alone k false) none),
  )

  pub fired : (spot : Spot) → Tied new (waiting ++ (record { task = task; spot = spot }) ∷ []) shared alone
  fired spot =
      let newest : Waiting = record { task = task; spot = spot } in
      let names : Waiting → TaskId = λ w. w.task in
      record {
        distinct = distinct;
        waiting_distinct = rw (map-append names waiting (newest ∷ [])) (IsDistinct-push same_task_equiv (map names waiting) task tied.waiting_distinct (list_any-map (same_task task) (λ (w : Waiting). w.task) waiting ∙ not_waiting));
        outside = λ other e. updates other ∙ by other (same_task task other) refl (sym (list_any-append (λ (w : Waiting). same_task other w.task) waiting (newest ∷ [])) ∙ e);
        shared_count = tied.shared_count ∙ ap set.len (sym (sets_fired.0));
        alone_count = tied.alone_count ∙ ap set.len (sym (sets_fired.1));
      }
    where
      only_old : (a b : Bool) → b ≡ false → (a || (b || false)) ≡ true → a ≡ true
      only_old true b f e = refl
      only_old false true f e = absurd (true≢false f)
      only_old false false f e = absurd (true≢false (sym e))

      by : (other : TaskId) (here : Bool) → same_task task other ≡ here
          → (list_any (λ (w : Waiting). same_task other w.task) waiting || (same_task other task || false)) ≡ true
          → cond here (Some Outside) (kept_of old other) ≡ Some Outside
      by other true same e = refl
      by other false same e = tied.outside other (only_old (list_any (λ (w : Waiting). same_task other w.task) waiting) (same_task other task) (same_task_equiv.symm other task ∙ same) e)

-- ---- an admission

module _ (old new : List (TaskId × Admission)) (oldest : Waiting) (later : List Waiting) (shared alone : ℕ) (tied : Tied old (oldest ∷ later) shared alone) where
  stands : kept_of old oldest.task ≡ Some Outside
  stands = tied.outside oldest.task (ap (λ b. b || list_any (λ (w : Waiting). same_task oldest.task w.task) later) (same_task_equiv.refl oldest.task))

  module _ (distinct : IsDistinct same_task (keys_of new)) (concurrent : Bool)
      (updates : (other : TaskId) → kept_of new other ≡ cond (same_task oldest.task other) (Some (admitted_as concurrent)) (kept_of old other)) where
    pub admitted : Tied new later (shared + cond (is_shared (admitted_as concurrent)) 1 0) (alone + cond (is_alone (admitted_as concurrent)) 1 0)
    unfolding IsDistinct
    admitted = record {
      distinct = distinct;
      waiting_distinct = (tied.waiting_distinct).1;
      outside = λ other e. updates other ∙ by other (same_task oldest.task other) refl e;
      shared_count = omega (arith, tied.shared_count, rw stands at (len-tasks_where is_shared old new oldest.task (Some (admitted_as concurrent)) tied.distinct distinct updates));
      alone_count = omega (arith, tied.alone_count, rw stands at (len-tasks_where is_alone old new oldest.task (Some (admitted_as concurrent)) tied.distinct distinct updates));
    }
      where
        by : (other : TaskId) (here : Bool) → same_task oldest.task other ≡ here → list_any (λ (w : Waiting). same_task other w.task) later ≡ true
            → cond here (Some (admitted_as concurrent)) (kept_of old other) ≡ Some Outside
        by other true same e = absurd (true≢false (sym e
            ∙ ap (λ t. list_any (λ (w : Waiting). same_task t w.task) later) (sym (same_task-is oldest.task other same))
            ∙ none_mapped (same_task oldest.task) (λ (w : Waiting). w.task) later (tied.waiting_distinct).0))
        by other false same e = tied.outside other (ap (λ b. same_task other oldest.task || b) e ∙ or-true (same_task other oldest.task))

  module _ (distinct : IsDistinct same_task (keys_of new)) where
    -- the sets of the admitted roots, by whether the oldest task is of a concurrent branch
    pub sets_admitted : (concurrent : Bool) → ((other : TaskId) → kept_of new other ≡ cond (same_task oldest.task other) (Some (admitted_as concurrent)) (kept_of old other))
        → (tasks_where is_shared new ≡ cond concurrent (set.insert (tasks_where is_shared old) oldest.task) (tasks_where is_shared old))
        × (tasks_where is_alone new ≡ cond concurrent (tasks_where is_alone old) (set.insert (tasks_where is_alone old) oldest.task))
    sets_admitted true updates = (
      tasks_where-put is_shared old new oldest.task (Some Shared) tied.distinct distinct updates refl,
      tasks_where-same is_alone old new oldest.task (Some Shared) tied.distinct distinct updates refl (ap (λ k. option_map_or is_alone k false) stands),
    )
    sets_admitted false updates = (
      tasks_where-same is_shared old new oldest.task (Some Alone) tied.distinct distinct updates refl (ap (λ k. option_map_or is_shared k false) stands),
      tasks_where-put is_alone old new oldest.task (Some Alone) tied.distinct distinct updates refl,
    )

-- ---- the end of a root

module _ (old new : List (TaskId × Admission)) (waiting : List Waiting) (shared alone : ℕ) (tied : Tied old waiting shared alone) (root : TaskId)
    (distinct : IsDistinct same_task (keys_of new))
    (updates : (other : TaskId) → kept_of new other ≡ cond (same_task root other) (Some Outside) (kept_of old other)) where
  pub over : Tied new waiting (shared - cond (option_map_or is_shared (kept_of old root) false) 1 0) (alone - cond (option_map_or is_alone (kept_of old root) false) 1 0)
  over = record {
    distinct = distinct;
    waiting_distinct = tied.waiting_distinct;
    outside = λ other e. updates other ∙ by other (same_task root other) e;
    shared_count = omega (arith, tied.shared_count, len-tasks_where is_shared old new root (Some Outside) tied.distinct distinct updates);
    alone_count = omega (arith, tied.alone_count, len-tasks_where is_alone old new root (Some Outside) tied.distinct distinct updates);
  }
    where
      by : (other : TaskId) (here : Bool) → list_any (λ (w : Waiting). same_task other w.task) waiting ≡ true → cond here (Some Outside) (kept_of old other) ≡ Some Outside
      by other true e = refl
      by other false e = tied.outside other e

  pub sets_over : (tasks_where is_shared new ≡ set.remove (tasks_where is_shared old) root) × (tasks_where is_alone new ≡ set.remove (tasks_where is_alone old) root)
  sets_over = (tasks_where-gone is_shared old new root (Some Outside) tied.distinct distinct updates refl, tasks_where-gone is_alone old new root (Some Outside) tied.distinct distinct updates refl)

-- ---- a task whose name is new

second_false : (a b : Bool) → (a && not b) ≡ true → b ≡ false
second_false true true e = absurd (true≢false (sym e))
second_false true false e = refl
second_false false b e = absurd (true≢false (sym e))

-- a task may commit only where the table hasn't its name
pub absent : (table : List (TaskId × Admission)) (task : TaskId) (here : Bool) → (here && not (has_task (keys_of table) task)) ≡ true → kept_of table task ≡ None
absent table task here new = not_some (kept_of table task) (is_some-lookup (same_task task) table ∙ second_false here (has_task (keys_of table) task) new)

-- a new name is the last
pub keys-new : (table : List (TaskId × Admission)) (task : TaskId) (admission : Admission) → kept_of table task ≡ None
    → keys_of (insert_entry same_task table task admission) ≡ keys_of table ++ task ∷ []
keys-new [] task admission none = refl
keys-new (entry ∷ table) task admission none = by (same_task task entry.0) refl (keys-new table task admission)
  where
    by : (here : Bool) → same_task task entry.0 ≡ here → (kept_of table task ≡ None → keys_of (insert_entry same_task table task admission) ≡ keys_of table ++ task ∷ [])
        → keys_of (insert_entry same_task (entry ∷ table) task admission) ≡ keys_of (entry ∷ table) ++ task ∷ []
    by true same rest = absurd (true≢false (ap is_some (rw same at none)))
    by false apart rest = rw apart (ap (λ ks. entry.0 ∷ ks) (rest (rw apart at none)))

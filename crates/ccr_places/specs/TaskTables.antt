-- A table from names of tasks to what is kept of each, read as the sets of the tasks of which a test holds.
use Rattle.std.specs.Prelude.{◌≡◌, ◌≤◌, ◌+◌, ◌-◌, ◌&&◌, ◌||◌, ℕ, Bool, true, false, not, cond, List, [], ◌∷◌, filter, length, is_some, Option, Some, None}
use Rattle.std.proofs.Common.{refl, sym, ◌∙◌, ap, arith}
use Rattle.std.specs.List.{list_any, IsDistinct}
use Rattle.std.specs.Map.{keys_of, lookup}
use Rattle.std.specs.Option.{option_map_or}
use Rattle.std.specs.Ordering.{eq_by_cmp}
use Rattle.std.specs.FinSet as set
use Rattle.std.proofs.lemmas.Map.Made.{is_some-lookup}
use Rattle.std.proofs.lemmas.Map.Entries.{lookup-filter-values, option_filter}
use Rattle.ccr_base.specs.declared.names.TaskId.{TaskId}
use Rattle.ccr_base.specs.Names.{same_task, has_task}
use Rattle.ccr_places.specs.TaskSets.{TaskSet, task_cmp, task_cmp_total, task_cmp-IsAntisymmetric, len-there, remove-absent, same_task_equiv, eq_by_cmp-tasks}

-- the tasks of whose value the test holds
abbrev pub tasks_where : {S : Type 0} → (S → Bool) → List (TaskId × S) → TaskSet
tasks_where test entries = set.from_list (keys_of (filter (λ entry. test entry.1) entries))

-- what is kept of the task
abbrev pub kept_of : {S : Type 0} → List (TaskId × S) → TaskId → Option S
kept_of entries task = lookup (same_task task) entries

any-tied : (task : TaskId) (tasks : List TaskId) → list_any (eq_by_cmp task_cmp task) tasks ≡ has_task tasks task
any-tied task [] = refl
any-tied task (other ∷ tasks) = λ i. eq_by_cmp-tasks task other i || any-tied task tasks i

is_some-filter : {S : Type 0} (test : S → Bool) (kept : Option S) → is_some (option_filter test kept) ≡ option_map_or test kept false
is_some-filter test None = refl
is_some-filter test (Some kept) = by (test kept)
  where
    by : (b : Bool) → is_some (cond b (Some kept) None) ≡ b
    by true = refl
    by false = refl

module _ {S : Type 0} (test : S → Bool) where
  -- a task is in the set where the test holds of what is kept of it
  pub contains-tasks_where : (entries : List (TaskId × S)) → IsDistinct same_task (keys_of entries) → (task : TaskId)
      → set.contains (tasks_where test entries) task ≡ option_map_or test (kept_of entries task) false
  contains-tasks_where entries distinct task =
      set.contains-from_list task_cmp_total (keys_of (filter (λ entry. test entry.1) entries)) task
      ∙ any-tied task (keys_of (filter (λ entry. test entry.1) entries))
      ∙ sym (is_some-lookup (same_task task) (filter (λ entry. test entry.1) entries))
      ∙ ap is_some (lookup-filter-values same_task_equiv test task entries distinct)
      ∙ is_some-filter test (kept_of entries task)

  put_at : (here : Bool) (kept before : Option S) → option_map_or test kept false ≡ true
      → option_map_or test (cond here kept before) false ≡ (here || option_map_or test before false)
  put_at true kept before holds = holds
  put_at false kept before holds = refl

  gone_at : (here : Bool) (kept before : Option S) → option_map_or test kept false ≡ false
      → option_map_or test (cond here kept before) false ≡ (not here && option_map_or test before false)
  gone_at true kept before fails = fails
  gone_at false kept before fails = refl

  -- the new table keeps this of the task, and of each other what the old one keeps
  module _ (old new : List (TaskId × S)) (task : TaskId) (kept : Option S)
      (old_distinct : IsDistinct same_task (keys_of old)) (new_distinct : IsDistinct same_task (keys_of new))
      (updates : (other : TaskId) → kept_of new other ≡ cond (same_task task other) kept (kept_of old other)) where
    holds_then : (other : TaskId) → set.contains (tasks_where test new) other ≡ option_map_or test (cond (same_task task other) kept (kept_of old other)) false
    holds_then other = contains-tasks_where new new_distinct other ∙ ap (λ k. option_map_or test k false) (updates other)

    turned : (other : TaskId) → same_task task other ≡ eq_by_cmp task_cmp other task
    turned other = same_task_equiv.symm task other ∙ sym (eq_by_cmp-tasks other task)

    pub tasks_where-put : option_map_or test kept false ≡ true → tasks_where test new ≡ set.insert (tasks_where test old) task
    tasks_where-put holds = set.same_set task_cmp_total task_cmp-IsAntisymmetric _ _ (λ other.
        holds_then other
        ∙ put_at (same_task task other) kept (kept_of old other) holds
        ∙ (λ i. turned other i || sym (contains-tasks_where old old_distinct other) i)
        ∙ sym (set.contains-insert task_cmp_total (tasks_where test old) task other))

    pub tasks_where-gone : option_map_or test kept false ≡ false → tasks_where test new ≡ set.remove (tasks_where test old) task
    tasks_where-gone fails = set.same_set task_cmp_total task_cmp-IsAntisymmetric _ _ (λ other.
        holds_then other
        ∙ gone_at (same_task task other) kept (kept_of old other) fails
        ∙ (λ i. not (turned other i) && sym (contains-tasks_where old old_distinct other) i)
        ∙ sym (set.contains-remove task_cmp_total (tasks_where test old) task other))

    -- how the number of such tasks changes
    pub len-tasks_where : set.len (tasks_where test new) + cond (option_map_or test (kept_of old task) false) 1 0
        ≡ set.len (tasks_where test old) + cond (option_map_or test kept false) 1 0
    len-tasks_where = by (option_map_or test (kept_of old task) false) (option_map_or test kept false) refl refl
      where
        was : set.contains (tasks_where test old) task ≡ option_map_or test (kept_of old task) false
        was = contains-tasks_where old old_distinct task

        by : (before after : Bool) → option_map_or test (kept_of old task) false ≡ before → option_map_or test kept false ≡ after
            → set.len (tasks_where test new) + cond before 1 0 ≡ set.len (tasks_where test old) + cond after 1 0
        by before true b a =
            let grown = ap set.len (tasks_where-put a)
            ∙ set.len-insert task_cmp_total (tasks_where test old) task
            ∙ ap (λ c. cond c (set.len (tasks_where test old)) (set.len (tasks_where test old) + 1)) (was ∙ b) in
            put_len before grown
          where
            put_len : (before : Bool) → set.len (tasks_where test new) ≡ cond before (set.len (tasks_where test old)) (set.len (tasks_where test old) + 1)
                → set.len (tasks_where test new) + cond before 1 0 ≡ set.len (tasks_where test old) + 1
            put_len true e = omega arith
            put_len false e = omega arith
        by true false b a =
            let there = len-there (tasks_where test old) task (was ∙ b) in
            let gone = ap set.len (tasks_where-gone a)
            ∙ set.len-remove task_cmp_total (tasks_where test old) task
            ∙ ap (λ c. cond c (set.len (tasks_where test old) - 1) (set.len (tasks_where test old))) (was ∙ b) in
            omega arith
        by false false b a =
            let gone = ap set.len (tasks_where-gone a)
            ∙ set.len-remove task_cmp_total (tasks_where test old) task
            ∙ ap (λ c. cond c (set.len (tasks_where test old) - 1) (set.len (tasks_where test old))) (was ∙ b) in
            omega arith

    -- the set stays, where the task isn't in it before and after
    pub tasks_where-same : option_map_or test kept false ≡ false → option_map_or test (kept_of old task) false ≡ false → tasks_where test new ≡ tasks_where test old
    tasks_where-same fails failed = tasks_where-gone fails ∙ remove-absent (tasks_where test old) task (contains-tasks_where old old_distinct task ∙ failed)

-- no more tasks are in the set than in the table
pub len-tasks_where-le : {S : Type 0} (test : S → Bool) (entries : List (TaskId × S)) → set.len (tasks_where test entries) ≤ length entries
len-tasks_where-le test [] = omega (arith, set.len-empty task_cmp)
len-tasks_where-le test (entry ∷ entries) = by (test entry.1) refl (len-tasks_where-le test entries)
  where
    inserted : (there : Bool) (n m : ℕ) → n ≤ m → cond there n (n + 1) ≤ m + 1
    inserted true n m le = omega arith
    inserted false n m le = omega arith

    by : (holds : Bool) → test entry.1 ≡ holds → set.len (tasks_where test entries) ≤ length entries → set.len (tasks_where test (entry ∷ entries)) ≤ length (entry ∷ entries)
    by true holds le = rw (holds, set.len-insert task_cmp_total (tasks_where test entries) entry.0)
        (let more = inserted (set.contains (tasks_where test entries) entry.0) _ _ le in omega (arith, more))
    by false fails le = rw fails (omega (arith, le))

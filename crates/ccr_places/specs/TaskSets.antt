-- Sets of task names: std's finite sets, in the order of the names, first by actor and then by attempt.
use Rattle.std.specs.Prelude.{◌≡◌, ◌≤◌, Bool, true, false, not, ◌&&◌}
use Rattle.std.proofs.Common.{refl, sym, ◌∙◌, ap, true≢false, inl, inr, arith}
use Rattle.std.proofs.lemmas.Bool.Decides.{eqb_tells}
use Rattle.std.specs.Ordering.{nat_cmp, on, then_cmp, eq_by_cmp, is_eq}
use Rattle.std.specs.Cmp.{IsEquivalence, IsTotalOrder, nat_cmp_total, nat_eq_equiv, on_total, then_total, on_equiv, and_equiv, unsigned_tied, tied_then}
use Rattle.std.specs.declared.cmp.Ordering.{Ordering}
use Rattle.std.specs.FinSet as set
use Rattle.std.specs.Coded.{Coded}
use Rattle.ccr_base.specs.contracts.names.TaskId as name
use Rattle.ccr_base.specs.declared.names.TaskId.{TaskId}
use Rattle.ccr_base.specs.Names.{same_task}
use Rattle.ccr_base.proofs.SameNames.{same_task-is}

-- the order of the names of tasks
abbrev pub task_cmp : TaskId → TaskId → Ordering
task_cmp = then_cmp (on (λ (t : TaskId). t.actor) nat_cmp) (on (λ (t : TaskId). t.attempt) nat_cmp)

-- a set of names of tasks
abbrev pub TaskSet : Type 0
TaskSet = set.FinSet task_cmp

-- its names as a list, by which sets are compared
abbrev pub task_set_code : Coded TaskSet
task_set_code = set.code name.the_row.coded

-- the order is total, and tells the same names apart as `same_task`
pub task_cmp_total : IsTotalOrder task_cmp
task_cmp_total = then_total (on_total (λ (t : TaskId). t.actor) nat_cmp_total) (on_total (λ (t : TaskId). t.attempt) nat_cmp_total)

pub same_task_equiv : IsEquivalence same_task
same_task_equiv = and_equiv (on_equiv (λ (t : TaskId). t.actor) nat_eq_equiv) (on_equiv (λ (t : TaskId). t.attempt) nat_eq_equiv)

pub eq_by_cmp-tasks : (s t : TaskId) → eq_by_cmp task_cmp s t ≡ same_task s t
eq_by_cmp-tasks s t = sym (tied_then (nat_cmp s.actor t.actor) (nat_cmp s.attempt t.attempt)) ∙ (λ i. unsigned_tied s.actor t.actor i && unsigned_tied s.attempt t.attempt i)

pub task_cmp-IsAntisymmetric : set.IsAntisymmetric task_cmp
task_cmp-IsAntisymmetric s t tied = same_task-is s t (sym (eq_by_cmp-tasks s t) ∙ ap is_eq tied)

-- a task that isn't there is taken out for nothing
pub remove-absent : (tasks : TaskSet) (task : TaskId) → set.contains tasks task ≡ false → set.remove tasks task ≡ tasks
remove-absent tasks task absent = set.same_set task_cmp_total task_cmp-IsAntisymmetric _ _ (λ other.
    set.contains-remove task_cmp_total tasks task other ∙ by other (eq_by_cmp task_cmp other task) refl)
  where
    by : (other : TaskId) (same : Bool) → eq_by_cmp task_cmp other task ≡ same → (not same && set.contains tasks other) ≡ set.contains tasks other
    by other true same = sym (ap (set.contains tasks) (same_task-is other task (sym (eq_by_cmp-tasks other task) ∙ same)) ∙ absent)
    by other false same = refl

-- a set has at least one task where a task is in it
pub len-there : (tasks : TaskSet) (task : TaskId) → set.contains tasks task ≡ true → 1 ≤ set.len tasks
len-there tasks task there = elim (eqb_tells (set.len tasks) 0) [
  | inl none ↦ absurd (true≢false (sym there ∙ ap (λ s. set.contains s task) (set.empty_of_len tasks none.1) ∙ set.contains-empty task_cmp task))
  | inr some ↦ omega arith
]

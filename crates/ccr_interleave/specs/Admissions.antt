-- How the object's table, its waiting tasks and its counts are tied.
use Rattle.std.specs.Prelude.{◌≡◌, ℕ, Bool, true, false, List, map, Option, Some}
use Rattle.std.specs.List.{list_any, IsDistinct}
use Rattle.std.specs.Map.{keys_of}
use Rattle.std.specs.FinSet as set
use Rattle.ccr_base.specs.declared.names.TaskId.{TaskId}
use Rattle.ccr_base.specs.declared.tasks.Task.{Task}
use Rattle.ccr_base.specs.declared.policies.Group.{Group}
use Rattle.ccr_base.specs.Names.{same_task}
use Rattle.ccr_places.specs.Interleaves.{InterleaveState, Waiting}
use Rattle.ccr_places.specs.TaskTables.{tasks_where, kept_of}
use Rattle.ccr_interleave.specs.Replies.{waiting_of}
use Rattle.ccr_interleave.specs.declared.admission.Admission.{Admission}
use Rattle.ccr_interleave.specs.declared.admission.Admission.TheVariants.{Outside, Shared, Alone}

-- whether it is admitted beside others
abbrev pub is_shared : Admission → Bool
is_shared Outside = false
is_shared Shared = true
is_shared Alone = false

-- whether it is admitted alone
abbrev pub is_alone : Admission → Bool
is_alone Outside = false
is_alone Shared = false
is_alone Alone = true

-- the admission of an admitted root, by whether its branch is concurrent
abbrev pub admitted_as : Bool → Admission
admitted_as true = Shared
admitted_as false = Alone

-- the state of a domain of these branches and groups, by its table, its waiting tasks and its teardown
abbrev pub state_of : List ℕ → List Group → List (TaskId × Admission) → List Task → Option TaskId → InterleaveState
state_of branches groups table waiting teardown = record {
  branches = branches;
  groups = groups;
  fired = keys_of table;
  waiting = map waiting_of waiting;
  shared = tasks_where is_shared table;
  alone = tasks_where is_alone table;
  teardown = teardown;
}

-- the waiting tasks aren't admitted, and the counts are those of the admitted roots
pub record Tied (table : List (TaskId × Admission)) (waiting : List Waiting) (shared alone : ℕ) : Type 0 where
  pub distinct : IsDistinct same_task (keys_of table)
  pub waiting_distinct : IsDistinct same_task (map (λ (w : Waiting). w.task) waiting)
  pub outside : (task : TaskId) → list_any (λ (w : Waiting). same_task task w.task) waiting ≡ true → kept_of table task ≡ Some Outside
  pub shared_count : shared ≡ set.len (tasks_where is_shared table)
  pub alone_count : alone ≡ set.len (tasks_where is_alone table)

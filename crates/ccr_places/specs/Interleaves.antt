-- What a domain of Interleaves keeps, and its steps: the branches of one Interleave, or of several that share one protection. The
-- tasks stand here by their names; the domain's object keeps them whole.
use Rattle.std.specs.Prelude.{◌≡◌, ⊤, ℕ, Bool, false, not, ◌==◌, ◌&&◌, ◌||◌, List, [], ◌∷◌, ◌++◌, drop, fold, map, position, slice_get, is_some, Option, Some, None, if◌then◌else◌, refl}
use Rattle.std.specs.Coded.{Coded, code_by, coded×, coded_ℕ, coded_list, coded_option}
use Rattle.std.specs.Option.{option_map, option_and_then}
use Rattle.std.specs.FinSet as set
use Rattle.ccr_base.specs.declared.names.TaskId.{TaskId}
use Rattle.ccr_base.specs.declared.names.Spot.{Spot}
use Rattle.ccr_base.specs.declared.names.Spot.TheVariants.{Branch, Site}
use Rattle.ccr_base.specs.declared.tasks.Task.{Task}
use Rattle.ccr_base.specs.declared.tasks.By.{By}
use Rattle.ccr_base.specs.declared.tasks.By.TheVariants.{Fired as ByFired}
use Rattle.ccr_base.specs.declared.policies.Group.{Group}
use Rattle.ccr_base.specs.contracts.names.TaskId as name
use Rattle.ccr_base.specs.contracts.names.Spot as place_of_firing
use Rattle.ccr_base.specs.contracts.tasks.Task as whole
use Rattle.ccr_base.specs.contracts.policies.Group as group
use Rattle.ccr_base.specs.Groups.{is_teardown as is_teardown_group, is_concurrent as is_concurrent_group}
use Rattle.ccr_base.specs.Names.{has_task}
use Rattle.ccr_places.specs.TaskSets.{TaskSet, task_set_code}
use Rattle.ccr_places.specs.declared.notes.Note.{Note}
use Rattle.ccr_places.specs.declared.notes.Note.TheVariants.{Fired, Dead, Admit, Over}

-- a waiting task, and the branch that fired it
pub record Waiting : Type 0 where
  pub task : TaskId
  pub spot : Spot

-- the name of the waiting task
abbrev pub waiting_task : Waiting → TaskId
waiting_task waiting = waiting.task

-- the branches, rising, and the group of each; the tasks that fired there; those that wait, oldest first; the admitted roots
-- that aren't noted over, those of concurrent branches apart from the others; the teardown task that fired
pub record InterleaveState : Type 0 where
  pub branches : List ℕ
  pub groups : List Group
  pub fired : List TaskId
  pub waiting : List Waiting
  pub shared : TaskSet
  pub alone : TaskSet
  pub teardown : Option TaskId

-- a domain of which no branch fired
abbrev pub start : List ℕ → List Group → InterleaveState
start branches groups = record { branches = branches; groups = groups; fired = []; waiting = []; shared = set.empty; alone = set.empty; teardown = None }

-- the group of the spot, where it is one of the branches
abbrev pub group_among : List ℕ → List Group → Spot → Option Group
group_among branches groups (Branch branch) = option_and_then (λ index. slice_get groups index) (position (λ other. other == branch) branches)
group_among branches groups (Site branch site) = None

-- the group of the spot, where it is a branch of this Interleave
abbrev pub group_at : InterleaveState → Spot → Option Group
group_at place spot = group_among place.branches place.groups spot

-- whether it is the group that ends all
abbrev pub is_teardown : Option Group → Bool
is_teardown None = false
is_teardown (Some g) = is_teardown_group g

-- whether it is a group whose tasks run beside each other
abbrev pub is_concurrent : Option Group → Bool
is_concurrent None = false
is_concurrent (Some g) = is_concurrent_group g

-- whether the task was admitted and isn't noted over
abbrev pub is_admitted : InterleaveState → TaskId → Bool
is_admitted place root = set.contains place.shared root || set.contains place.alone root

-- why no branch of it can fire
abbrev pub dead_by : InterleaveState → Option By
dead_by place = option_map ByFired place.teardown

-- a task at one of its branches, whose name is new here
abbrev pub may_commit : InterleaveState → Task → Bool
may_commit place task = is_some (group_at place task.spot) && not (has_task place.fired task.id)

-- a root that was admitted and isn't over
abbrev pub may_over : InterleaveState → TaskId → Bool
may_over place root = is_admitted place root

-- the waiting tasks that a firing leaves: none, where it is a teardown
abbrev pub spared : InterleaveState → Spot → List Waiting
spared place spot = if is_teardown (group_at place spot) then [] else place.waiting

-- the waiting tasks that a firing cuts: all, where it is a teardown
abbrev pub cut_note : InterleaveState → Spot → List TaskId
cut_note place spot = if is_teardown (group_at place spot) then map (λ (waiting : Waiting). waiting.task) place.waiting else []

-- whether a waiting task of the spot may be admitted beside the kept roots: a concurrent one beside concurrent ones, another beside none
abbrev pub may_admit : InterleaveState → Spot → Bool
may_admit place spot = (set.len place.alone == 0) && (is_concurrent (group_at place spot) || (set.len place.shared == 0))

-- the oldest waiting task, where it may be admitted
abbrev pub next_admitted : InterleaveState → Option Waiting
next_admitted place = option_and_then (λ (waiting : Waiting). if may_admit place waiting.spot then Some waiting else None) (slice_get place.waiting 0)

-- the task that is admitted next
abbrev pub admit_note : InterleaveState → Option TaskId
admit_note place = option_map (λ (waiting : Waiting). waiting.task) (next_admitted place)

-- the task waits last, and a teardown has cut all that waited
abbrev pub after_firing : InterleaveState → TaskId → Spot → InterleaveState
after_firing place task spot = record place {
  fired = place.fired ++ task ∷ [];
  waiting = spared place spot ++ (record { task = task; spot = spot }) ∷ [];
  teardown = if is_teardown (group_at place spot) then Some task else place.teardown;
}

-- the waiting task is one of the admitted roots
abbrev pub with_root : InterleaveState → Waiting → InterleaveState
with_root place waiting = record place {
  shared = if is_concurrent (group_at place waiting.spot) then set.insert place.shared waiting.task else place.shared;
  alone = if is_concurrent (group_at place waiting.spot) then place.alone else set.insert place.alone waiting.task;
}

-- the oldest waiting task is an admitted root
abbrev pub after_admission : InterleaveState → InterleaveState
after_admission place = admitted (slice_get place.waiting 0)
  where
    admitted : Option Waiting → InterleaveState
    admitted None = place
    admitted (Some waiting) = record (with_root place waiting) { waiting = drop 1 place.waiting }

-- an admission, unless the answer was none
abbrev pub after_admit : InterleaveState → Option TaskId → InterleaveState
after_admit place None = place
after_admit place (Some task) = after_admission place

-- the root doesn't count any more
abbrev pub after_over : InterleaveState → TaskId → InterleaveState
after_over place root = record place { shared = set.remove place.shared root; alone = set.remove place.alone root }

-- what the Interleave keeps after a note of its own
abbrev pub after : InterleaveState → Note → InterleaveState
after place (Fired task spot messages cuts) = after_firing place task spot
after place (Admit task) = after_admit place task
after place (Over task root how) = after_over place root
after place _ = place

-- what the Interleave keeps after all these notes
abbrev pub kept : InterleaveState → List Note → InterleaveState
kept place notes = fold after place notes

-- the notes that the Interleave may give
abbrev pub IsGiven : InterleaveState → Note → Type 0
IsGiven place (Fired task spot messages cuts) = (dead_by place ≡ None) × (cuts ≡ cut_note place spot)
IsGiven place (Dead task spot by) = dead_by place ≡ Some by
IsGiven place (Admit task) = task ≡ admit_note place
IsGiven place (Over task root how) = ⊤
IsGiven place _ = ⊥

-- what the object of an Interleave keeps: the Interleave by its notes, and its waiting tasks whole, oldest first
pub record InterleaveTasks : Type 0 where
  pub state : InterleaveState
  pub tasks : List Task

-- a waiting task is told by its fields, and so is an Interleave
abbrev pub waiting_code : Coded Waiting
waiting_code =
    code_by (TaskId × Spot) (coded× name.the_row.coded place_of_firing.the_row.coded) (λ w. (w.task, w.spot)) (λ p. record { task = p.0; spot = p.1 }) (λ _. refl)

-- its parts as a tuple, by which states are compared
abbrev pub interleave_code : Coded InterleaveState
interleave_code =
    code_by (List ℕ × (List Group × (List TaskId × (List Waiting × (TaskSet × (TaskSet × Option TaskId))))))
    (coded× (coded_list coded_ℕ) (coded× (coded_list group.the_row.coded) (coded× (coded_list name.the_row.coded)
    (coded× (coded_list waiting_code) (coded× task_set_code (coded× task_set_code (coded_option name.the_row.coded)))))))
    (λ s. (s.branches, (s.groups, (s.fired, (s.waiting, (s.shared, (s.alone, s.teardown)))))))
    (λ p. record { branches = p.0; groups = p.1.0; fired = p.1.1.0; waiting = p.1.1.1.0; shared = p.1.1.1.1.0; alone = p.1.1.1.1.1.0; teardown = p.1.1.1.1.1.1 })
    (λ _. refl)

-- its state and tasks as a pair, by which they are compared
abbrev pub interleave_tasks_code : Coded InterleaveTasks
interleave_tasks_code =
    code_by (InterleaveState × List Task) (coded× interleave_code (coded_list whole.the_row.coded)) (λ s. (s.state, s.tasks)) (λ p. record { state = p.0; tasks = p.1 }) (λ _. refl)

-- What a receiver or a choice keeps, and its steps. Interleaves have a file of their own.
use Rattle.std.specs.Prelude.{◌≡◌, ⊤, ℕ, ◌+◌, Bool, true, false, not, ◌&&◌, nat_lt, nat_le, List, [], ◌∷◌, ◌++◌, fold, slice_get, Option, Some, None, if◌then◌else◌}
use Rattle.std.specs.Option.{option_map}
use Rattle.ccr_base.specs.declared.names.TaskId.{TaskId}
use Rattle.ccr_base.specs.declared.names.Spot.{Spot}
use Rattle.ccr_base.specs.declared.names.Spot.TheVariants.{Branch, Site}
use Rattle.ccr_base.specs.declared.tasks.Task.{Task}
use Rattle.ccr_base.specs.declared.tasks.By.{By}
use Rattle.ccr_base.specs.declared.tasks.By.TheVariants.{Fired as ByFired}
use Rattle.ccr_base.specs.Names.{has_task}
use Rattle.ccr_places.specs.declared.notes.Note.{Note}
use Rattle.ccr_places.specs.declared.notes.Note.TheVariants.{Fired, Dead, Over}

-- its first branch and how many it has, whether one firing retires them all, the tasks that fired there, and the roots
-- that are over, each in the order of the notes
pub record ArbiterState : Type 0 where
  pub first : ℕ
  pub count : ℕ
  pub once : Bool
  pub fired : List TaskId
  pub over : List TaskId

-- a receiver of one branch, before it fired
abbrev pub receiver : ℕ → Bool → ArbiterState
receiver branch once = record { first = branch; count = 1; once = once; fired = []; over = [] }

-- a choice of so many branches, before one of them fired
abbrev pub choice : ℕ → ℕ → ArbiterState
choice first count = record { first = first; count = count; once = true; fired = []; over = [] }

-- whether the spot is one of its branches
abbrev pub has_spot : ArbiterState → Spot → Bool
has_spot arbiter (Branch branch) = nat_le arbiter.first branch && nat_lt branch (arbiter.first + arbiter.count)
has_spot arbiter (Site branch site) = false

-- the firing that retired its branches
abbrev pub retired_by : ArbiterState → Option TaskId
retired_by arbiter = if arbiter.once then slice_get arbiter.fired 0 else None

-- why no branch of it can fire
abbrev pub dead_by : ArbiterState → Option By
dead_by arbiter = option_map ByFired (retired_by arbiter)

-- a task at one of its branches, whose name is new here
abbrev pub may_commit : ArbiterState → Task → Bool
may_commit arbiter task = has_spot arbiter task.spot && not (has_task arbiter.fired task.id)

-- a root that fired here and isn't over
abbrev pub may_over : ArbiterState → TaskId → Bool
may_over arbiter root = has_task arbiter.fired root && not (has_task arbiter.over root)

-- the task has fired
abbrev pub after_firing : ArbiterState → TaskId → ArbiterState
after_firing arbiter task = record arbiter { fired = arbiter.fired ++ task ∷ [] }

-- the root is over
abbrev pub after_over : ArbiterState → TaskId → ArbiterState
after_over arbiter root = record arbiter { over = arbiter.over ++ root ∷ [] }

-- what the arbiter keeps after a note of its own
abbrev pub after : ArbiterState → Note → ArbiterState
after arbiter (Fired task spot messages cuts) = after_firing arbiter task
after arbiter (Over task root how) = after_over arbiter root
after arbiter _ = arbiter

-- what the arbiter keeps after all these notes
abbrev pub kept : ArbiterState → List Note → ArbiterState
kept arbiter notes = fold after arbiter notes

-- the notes that the arbiter may give
abbrev pub IsGiven : ArbiterState → Note → Type 0
IsGiven arbiter (Fired task spot messages cuts) = (dead_by arbiter ≡ None) × (cuts ≡ [])
IsGiven arbiter (Dead task spot by) = dead_by arbiter ≡ Some by
IsGiven arbiter (Over task root how) = ⊤
IsGiven arbiter _ = ⊥

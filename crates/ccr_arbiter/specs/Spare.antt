-- Spare capacity for the roots that will be over.
use Rattle.std.specs.Prelude.{◌≡◌, ◌+◌, ◌≤◌, true, List}
use Rattle.std.specs.declared.hash.FoldHasher.{FoldHasher}
use Rattle.std.specs.declared.hash.BuildHasherDefault.{BuildHasherDefault}
use Rattle.std.specs.List.{IsDistinct}
use Rattle.indexmap.specs.IndexSet.{IndexSet, index_set_len, spare}
use Rattle.ccr_base.specs.declared.names.TaskId.{TaskId}
use Rattle.ccr_base.specs.Names.{same_task, has_task}

-- a set of tasks in the order in which they came
abbrev pub Tasks : Type 0
Tasks = IndexSet TaskId (BuildHasherDefault FoldHasher)

-- each task of the first list stands in the second
abbrev pub AreAmong : List TaskId → List TaskId → Type 0
AreAmong tasks all = (task : TaskId) → has_task tasks task ≡ true → has_task all task ≡ true

-- what is over has fired, and once; and there is spare capacity for every other root that fired
pub record HasSpare (fired over : Tasks) : Type 0 where
  pub among : AreAmong over.keys fired.keys
  pub distinct : IsDistinct same_task over.keys
  pub fits : index_set_len fired ≤ index_set_len over + spare over

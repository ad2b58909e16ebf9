-- The names at a site after a commit.
use Rattle.std.proofs.Common.{◌≡◌, Bool, true, false, not, ◌&&◌, IsTrue, List, [], ◌∷◌, ◌++◌, true≢false, refl, sym}
use Rattle.std.specs.Prelude.{if◌then◌else◌}
use Rattle.indexmap.specs.IndexSet.{insert_key}
use Rattle.ccr_base.specs.declared.names.TaskId.{TaskId}
use Rattle.ccr_base.specs.Names.{same_task, has_task}

-- a new name goes last
pub insert_key-new : (here : Bool) (fired : List TaskId) (task : TaskId) → IsTrue (here && not (has_task fired task)) → insert_key same_task fired task ≡ fired ++ task ∷ []
insert_key-new here fired task may = of_tests here (has_task fired task) may
  where
    of_tests : (here among : Bool) → IsTrue (here && not among) → (if among then fired else fired ++ task ∷ []) ≡ fired ++ task ∷ []
    of_tests here false may = refl
    of_tests true true may = absurd (true≢false (sym may))
    of_tests false true may = absurd (true≢false (sym may))

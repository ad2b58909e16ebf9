-- Tasks that came, and those of them that went on: each goes on once.
use Rattle.std.proofs.Common.{◌≡◌, ◌+◌, ◌≤◌, true, false, List, [], ◌∷◌, ◌++◌, length, arith, length-append}
use Rattle.std.proofs.lemmas.Grind.{common_steps}
use Rattle.ccr_base.specs.declared.names.TaskId.{TaskId}
use Rattle.ccr_base.specs.Names.{has_task, without}
use Rattle.ccr_model.proofs.TasksLeft.{less_left}

-- as many as went on and as may still go are no more than came
pub record Fits (came gone : List TaskId) : Type 0 where
  pub few : length gone + length (without came gone) ≤ length came

pub Fits-came : (came gone : List TaskId) (t : TaskId) → Fits came gone → Fits (came ++ t ∷ []) gone
Fits-came came gone t fits = record { few = grind (arith, common_steps, fits.few) }

pub Fits-gone : (came gone : List TaskId) (t : TaskId) → Fits came gone → has_task came t ≡ true → has_task gone t ≡ false → Fits came (gone ++ t ∷ [])
Fits-gone came gone t fits is out = record { few = omega (arith, fits.few, less_left came gone t is out, length-append gone (t ∷ [])) }

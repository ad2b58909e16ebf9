-- A list without a cause, once one index where it stands is gone.
use Rattle.std.proofs.Common.{◌≡◌, ℕ, zero, suc, List, [], ◌∷◌, Some, arith}
use Rattle.std.proofs.lemmas.Grind.{common_steps}
use Rattle.std.specs.List.{slice_get, remove}
use Rattle.ccr_cause.specs.Causes.{without_cause}

pub without_cause-remove : (causes : List ℕ) (index cause : ℕ) → slice_get causes index ≡ Some cause → without_cause (remove causes index) cause ≡ without_cause causes cause
without_cause-remove [] index cause stands = grind (arith, common_steps)
without_cause-remove (other ∷ causes) zero cause stands = grind (arith, common_steps)
without_cause-remove (other ∷ causes) (suc index) cause stands =
    grind (arith, common_steps, without_cause-remove causes index cause stands)

-- what taking a cause out needs
pub ruleset steps = (without_cause-remove)

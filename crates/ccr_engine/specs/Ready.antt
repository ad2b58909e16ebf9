-- The tasks that may be put, by the numbers of their firings.
use Rattle.std.specs.Prelude.{◌≡◌, ℕ, ◌<◌, Bool, true, false, List, Some}
use Rattle.std.specs.List.{slice_get}
use Rattle.std.specs.Option.{option_map_or}
use Rattle.ccr_base.specs.Lists.{has_number}
use Rattle.ccr_wiring.specs.declared.parts.Parts.{Parts}
use Rattle.ccr_model.specs.declared.history.Event.{Event}
use Rattle.ccr_model.specs.Firings.{fired}
use Rattle.ccr_model.specs.Rules.{may_put}

-- whether the task of the firing of this number may be put
abbrev pub may_put_at : Parts → List Event → ℕ → Bool
may_put_at wiring history number = option_map_or (may_put wiring history) (slice_get (fired history) number) false

-- the numbers are those of the tasks that may be put
abbrev pub AreReady : Parts → List Event → List ℕ → Type 0
AreReady wiring history numbers = (number : ℕ) → has_number numbers number ≡ may_put_at wiring history number

-- the number is the least of them
pub record IsLeast (numbers : List ℕ) (number : ℕ) : Type 0 where
  pub among : has_number numbers number ≡ true
  pub low : (other : ℕ) → other < number → has_number numbers other ≡ false

-- the first of them is the least
abbrev pub IsLeastFirst : List ℕ → Type 0
IsLeastFirst numbers = (number : ℕ) → slice_get numbers 0 ≡ Some number → IsLeast numbers number

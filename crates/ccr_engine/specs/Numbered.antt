-- Items by their indices in a list, and what sets of such numbers gain.
use Rattle.std.specs.Prelude.{◌≡◌, ◌<◌, ℕ, ◌||◌, Bool, false, List, Option, None}
use Rattle.std.specs.List.{slice_get}
use Rattle.std.specs.Option.{option_map_or}
use Rattle.ccr_base.specs.Lists.{has_number}
use Rattle.ccr_model.specs.declared.history.Event.{Event}
use Rattle.ccr_engine.specs.Ready.{IsLeastFirst}

-- whether the item at the index passes the test
abbrev pub passes_at : {T : Type 0} → (T → Bool) → List T → ℕ → Bool
passes_at test items index = option_map_or test (slice_get items index) false

-- the numbers afterwards are those before and all that pass the test
pub record Gains (test : ℕ → Bool) (old new : List ℕ) : Type 0 where
  pub members : (number : ℕ) → has_number new number ≡ test number || has_number old number
  pub least : IsLeastFirst old → IsLeastFirst new

-- of so many of the first numbers none has an event but these
abbrev pub IsNoneBut : (ℕ → Option Event) → ℕ → List ℕ → Type 0
IsNoneBut event_at count numbers = (number : ℕ) → has_number numbers number ≡ false → number < count → event_at number ≡ None

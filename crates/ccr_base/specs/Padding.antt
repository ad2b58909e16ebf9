-- A list of at most 8 numbers, made 8 long: zeros behind it.
use Rattle.std.specs.Prelude.{◌≡◌, ℕ, ◌-◌, ◌<◌, ◌≤◌, List, ◌++◌, length, take, drop, replicate}
use Rattle.std.proofs.Common.{arith, take-append-drop, length-take-le}
use Rattle.ccr_base.specs.Bounds.{most_value_numbers}

-- the first so many are 1 to 8, and zeros follow
pub record IsPadded (count : ℕ) (numbers : List ℕ) : Type 0 where
  pub some : 0 < count
  pub few : count ≤ most_value_numbers
  pub whole : length numbers ≡ most_value_numbers
  pub zeros : drop count numbers ≡ replicate (most_value_numbers - count) 0

-- as many are taken as are counted
pub counted : (count : ℕ) (numbers : List ℕ) → IsPadded count numbers → length (take count numbers) ≡ count
counted count numbers h = length-take-le count numbers (omega (arith, h.few, h.whole))

-- the first ones and zeros behind them are the whole
pub padded-taken : (count : ℕ) (numbers : List ℕ) → IsPadded count numbers → take count numbers ++ replicate (most_value_numbers - length (take count numbers)) 0 ≡ numbers
padded-taken count numbers h = rw (counted count numbers h, ← h.zeros) (take-append-drop count numbers)

-- What a drive does to a net and to its actor.
use Rattle.std.specs.Prelude.{◌≡◌, ◌<◌, ◌≤◌, List, ◌++◌, length, ℕ}
use Rattle.ccr_actor.specs.Acting.{Acting}
use Rattle.ccr_actor.specs.Nets.{Step, counted}
use Rattle.ccr_dispatch.specs.Ranks.{owed_by, steps_left}

-- so many steps were added
abbrev pub Adds : List Step → List Step → ℕ → Type 0
Adds old new count = (made : List Step) × ((new ≡ old ++ made) × (count ≡ counted (length made)))

-- one step of what is in hand: less is owed, and no more is to be done behind it
pub record IsSettled (old new : Acting) : Type 0 where
  pub owed : owed_by new < owed_by old
  pub left : steps_left new ≤ steps_left old

-- What a judge is to its callers, and what it keeps.
use Rattle.std.specs.Prelude.{◌≡◌, Bool, true, List}
use Rattle.ccr_wiring.specs.declared.parts.Parts.{Parts}
use Rattle.ccr_wiring.specs.Valid.{IsValid}
use Rattle.ccr_model.specs.declared.history.Event.{Event}
use Rattle.ccr_model.specs.Legal.{IsLegal, has_shed}
use Rattle.ccr_ledger.specs.Books.{Books}
use Rattle.ccr_ledger.specs.Kept.{Keeps}

-- the events that it accepted, over its wiring
pub record Judged : Type 0 where
  pub wiring : Parts
  pub history : List Event

-- the accepted events are legal; the flag says whether a task was shed; where the tables are theirs they say what the model says
pub record IsChecker (judged : Judged) (books : Books) (whole shed : Bool) : Type 0 where
  pub valid : IsValid judged.wiring
  pub legal : IsLegal judged.wiring judged.history
  pub flag : shed ≡ has_shed judged.history
  pub tables : whole ≡ true → Keeps judged.wiring judged.history books

-- What is told of a history.
use Rattle.std.specs.Prelude.{◌≡◌, ℕ, true, List}
use Rattle.ccr_wiring.specs.declared.parts.Parts.{Parts}
use Rattle.ccr_model.specs.declared.history.Event.{Event}
use Rattle.ccr_model.specs.Legal.{IsLegal, IsQuiet, is_complete}
use Rattle.ccr_model.specs.Order.{IsFinished}
use Rattle.ccr_trace.specs.Written.{IsWritten}
use Rattle.ccr_report.specs.declared.counted.Counts.{Counts}
use Rattle.ccr_report.specs.Counted.{IsCounted}
use Rattle.ccr_telling.specs.Tallies.{IsCounting}
use Rattle.ccr_telling.specs.declared.telling.Telling.{Telling}
use Rattle.ccr_telling.specs.declared.ending.Told.{Told}

-- what is told is the history's text and its numbers, with the names of the wiring
pub record HasTold (telling : Telling) (wiring : Parts) (history : List Event) : Type 0 where
  pub names : telling.names ≡ wiring
  pub written : IsWritten wiring history telling.text
  pub counting : IsCounting wiring history telling.tally

-- the history is what the serial order makes behind the first events, until it puts nothing more first
pub record IsEnd (wiring : Parts) (closer : ℕ) (first history : List Event) : Type 0 where
  pub finished : IsFinished wiring closer first history
  pub legal : IsLegal wiring history
  pub complete : is_complete wiring history ≡ true
  pub quiet : IsQuiet wiring history

-- the text and the counts are those of that history
pub record IsToldToEnd (wiring : Parts) (closer : ℕ) (first : List Event) (told : Told) : Type 0 where
  pub history : List Event
  pub end : IsEnd wiring closer first history
  pub written : IsWritten wiring history told.text
  pub counted : IsCounted wiring history told.counts

-- the counts are those of that history
pub record IsCountedToEnd (wiring : Parts) (closer : ℕ) (first : List Event) (counts : Counts) : Type 0 where
  pub history : List Event
  pub end : IsEnd wiring closer first history
  pub counted : IsCounted wiring history counts

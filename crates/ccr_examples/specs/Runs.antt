-- What is written of a run.
use Rattle.std.specs.Prelude.{◌≡◌, ℕ, true, List}
use Rattle.ccr_wiring.specs.declared.parts.Parts.{Parts}
use Rattle.ccr_wiretext.specs.Lines.{IsText}
use Rattle.ccr_model.specs.declared.history.Event.{Event}
use Rattle.ccr_model.specs.Legal.{IsLegal, IsQuiet, is_complete}
use Rattle.ccr_trace.specs.HistoryText.{history_text}

-- what is written is the text of a legal, complete and quiet history of the wiring
pub record IsRunOf (wiring : Parts) (written : List ℕ) : Type 0 where
  pub history : List Event
  pub legal : IsLegal wiring history
  pub complete : is_complete wiring history ≡ true
  pub quiet : IsQuiet wiring history
  pub is_text : written ≡ history_text wiring history

-- the text says a wiring, and what is written is the text of a run of it
pub record IsRunOfText (text written : List ℕ) : Type 0 where
  pub wiring : Parts
  pub says : IsText text wiring
  pub run : IsRunOf wiring written

-- What is found of a history.
use Rattle.std.specs.Prelude.{◌≡◌, ℕ, List, [], Some, Ok, option_map}
use Rattle.ccr_wiring.specs.declared.parts.Parts.{Parts}
use Rattle.ccr_model.specs.declared.history.Event.{Event}
use Rattle.ccr_model.specs.Legal.{IsLegal, first_refusal, is_complete, numbered}
use Rattle.ccr_checker.specs.Quiet.{MeansQuiet}
use Rattle.ccr_trace.specs.declared.reading.ReadHistory.{ReadHistory}
use Rattle.ccr_trace.specs.Reading.{reading}
use Rattle.ccr_examples.specs.declared.judging.HistoryFound.{HistoryFound}
use Rattle.ccr_examples.specs.declared.judging.HistoryFound.TheVariants.{Illegal, Legal}

-- Illegal names the first event that isn't allowed after those before it, and the number of the rule; Legal says whether the history is complete and quiet
abbrev pub Tells : Parts → List Event → HistoryFound → Type 0
Tells wiring history (Illegal at rule) = option_map numbered (first_refusal wiring [] 0 history) ≡ Some (at, rule)
Tells wiring history (Legal complete quiet) = IsLegal wiring history × (complete ≡ is_complete wiring history) × MeansQuiet wiring history quiet

-- the text says a history, and this is found of it
pub record IsFound (wiring : Parts) (text : List ℕ) (found : HistoryFound) : Type 0 where
  pub read : ReadHistory
  pub says : reading wiring text ≡ Ok read
  pub tells : Tells wiring read.history found

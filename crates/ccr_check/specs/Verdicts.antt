-- What a verdict says of the history.
use Rattle.std.specs.Prelude.{◌≡◌, ℕ, List, Option, Some, None}
use Rattle.ccr_wiring.specs.declared.parts.Parts.{Parts}
use Rattle.ccr_model.specs.declared.history.Event.{Event}
use Rattle.ccr_model.specs.Legal.{IsLegal, is_complete}
use Rattle.ccr_checker.specs.Quiet.{MeansQuiet}
use Rattle.ccr_check.specs.declared.verdicts.Verdict.{Verdict}
use Rattle.ccr_check.specs.declared.verdicts.Verdict.TheVariants.{Legal, Illegal}

-- the index and the number of the rule of an illegal verdict
abbrev pub refusal_told : Verdict → Option (ℕ × ℕ)
refusal_told (Legal complete quiet) = None
refusal_told (Illegal at rule) = Some (at, rule)

-- Legal is told of a legal history, Illegal of one that isn't
abbrev pub TellsLegal : Parts → List Event → Verdict → Type 0
TellsLegal wiring history (Legal complete quiet) = IsLegal wiring history
TellsLegal wiring history (Illegal at rule) = IsLegal wiring history → ⊥

-- whether a legal verdict says complete is whether the history is
abbrev pub TellsComplete : Parts → List Event → Verdict → Type 0
TellsComplete wiring history (Legal complete quiet) = complete ≡ is_complete wiring history
TellsComplete wiring history (Illegal at rule) = Unit {0}

-- whether a legal verdict says quiet is whether the history is
abbrev pub TellsQuiet : Parts → List Event → Verdict → Type 0
TellsQuiet wiring history (Legal complete quiet) = MeansQuiet wiring history quiet
TellsQuiet wiring history (Illegal at rule) = Unit {0}

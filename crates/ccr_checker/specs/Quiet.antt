-- Whether anything is allowed after a history.
use Rattle.std.specs.Prelude.{Bool, true, false, List}
use Rattle.ccr_wiring.specs.declared.parts.Parts.{Parts}
use Rattle.ccr_model.specs.declared.history.Event.{Event}
use Rattle.ccr_model.specs.Legal.{IsAllowed, IsQuiet}

-- some event is allowed after the history
abbrev pub AllowsSome : Parts → List Event → Type 0
AllowsSome wiring history = (event : Event) × IsAllowed wiring history event

-- true means that no event is allowed after the history, false that some event is
abbrev pub MeansQuiet : Parts → List Event → Bool → Type 0
MeansQuiet wiring history true = IsQuiet wiring history
MeansQuiet wiring history false = AllowsSome wiring history

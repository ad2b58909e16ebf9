-- What a checked wiring keeps beside its parts, so that it is looked up and not counted anew.
use Rattle.std.specs.Prelude.{◌≡◌, List}
use Rattle.ccr_base.specs.declared.names.Spot.{Spot}
use Rattle.ccr_wiring.specs.declared.parts.Parts.{Parts}
use Rattle.ccr_wiring.specs.declared.placements.Position.{Position}
use Rattle.ccr_wiring.specs.Placements.{positions as positions_of}
use Rattle.ccr_wiring.specs.Wirings.{spots as spots_of}
use Rattle.ccr_wiring.specs.Takers.{AreTaken}
use Rattle.ccr_wiring.specs.Valid.{IsValid}

-- the parts are valid, and these are their spots, where their branches stand, and who takes from each port and runs on each queue
abbrev pub AreKnown : Parts → List Spot → List Position → List (List Spot) → List (List Spot) → Type 0
AreKnown parts spots positions ports queues = IsValid parts × (spots ≡ spots_of parts) × (positions ≡ positions_of parts) × AreTaken parts spots ports queues

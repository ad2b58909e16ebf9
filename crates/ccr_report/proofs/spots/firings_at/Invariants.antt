use Rattle.std.proofs.Common.{◌≡◌, take, length}
use Rattle.std.specs.Prelude.{unwrap_or}
use Rattle.std.specs.HashMap.{get}
use Rattle.ccr_base.specs.declared.names.Spot.{Spot}
use Rattle.ccr_model.specs.Firings.{fired_at}
use Rattle.ccr_base.specs.Names.{same_spot}
use Rattle.ccr_report.proofs.spots.firings_at.Given as goal

abbrev pub invariant-loop-event : goal.invariant-loop-event
invariant-loop-event l = (spot : Spot) → unwrap_or (get same_spot l.counts spot) 0 ≡ length (fired_at (take l.event-index l.events) spot)

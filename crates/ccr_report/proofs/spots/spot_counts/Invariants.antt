use Rattle.std.proofs.Common.{◌≡◌, map, take, length}
use Rattle.ccr_model.specs.Firings.{fired_at}
use Rattle.ccr_report.proofs.spots.spot_counts.Given as goal

abbrev pub invariant-loop-spot : goal.invariant-loop-spot
invariant-loop-spot l = l.counts.items ≡ map (λ spot. length (fired_at l.events spot)) (take l.spot-index l.spots)

use Rattle.std.proofs.Common.{◌≡◌, ◌-◌, length}
use Rattle.ccr_ledger.specs.Lanes.{IsLane}
use Rattle.ccr_ledger.proofs.Lanes.{IsTidy}
use Rattle.ccr_ledger.proofs.held.tidy.Given as goal

abbrev pub invariant-index : goal.invariant-index
invariant-index l = record { lane : IsLane l.items l.lane; pred : l.lane.pred ≡ l.initial.lane.pred; tidy : IsTidy l.items l.lane l.number }

abbrev pub decreases-index : goal.decreases-index
decreases-index l = length l.lane.indices - l.number

use Rattle.std.proofs.Common.{◌≡◌, take}
use Rattle.ccr_ledger.specs.Lanes.{IsLane}
use Rattle.ccr_ledger.proofs.held.lane_of.Given as goal

abbrev pub invariant-loop-index : goal.invariant-loop-index
invariant-loop-index l = record { lane : IsLane (take l.index l.items) l.lane; pred : l.lane.pred ≡ l.fn.pred }

use Rattle.std.proofs.Common.{◌≡◌, ◌++◌, map, take, drop}
use Rattle.ccr_ledger.specs.Lanes.{lost}
use Rattle.ccr_ledger.proofs.held.lose_all.Given as goal

abbrev pub invariant-loop-number : goal.invariant-loop-number
invariant-loop-number l = l.lanes.items ≡ map (lost l.value) (take l.number l.initial.lanes.items) ++ drop l.number l.initial.lanes.items

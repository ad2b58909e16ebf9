use Rattle.std.proofs.Common.{◌≡◌, ◌++◌, map, take, drop}
use Rattle.ccr_ledger.specs.Lanes.{entered}
use Rattle.ccr_ledger.proofs.held.enter_all.Given as goal

abbrev pub invariant-loop-number : goal.invariant-loop-number
invariant-loop-number l = l.lanes.items ≡ map (entered l.index l.value) (take l.number l.initial.lanes.items) ++ drop l.number l.initial.lanes.items

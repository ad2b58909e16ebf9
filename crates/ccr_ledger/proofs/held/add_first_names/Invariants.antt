use Rattle.std.proofs.Common.{◌≡◌, ◌++◌, take}
use Rattle.ccr_ledger.specs.Lanes.{names_at}
use Rattle.ccr_ledger.proofs.held.add_first_names.Given as goal

abbrev pub invariant-loop-number : goal.invariant-loop-number
invariant-loop-number l = l.names.items ≡ l.initial.names.items ++ names_at l.items (take l.number l.lane.indices)

use Rattle.std.proofs.Common.{◌≡◌, ◌≤◌, ◌+◌, drop, length}
use Rattle.ccr_wiring.specs.Wirings.{awaited}
use Rattle.ccr_object.proofs.numbers.count_awaits.Given as goal

-- the awaits so far and those still to come are all
abbrev pub invariant-loop-action : goal.invariant-loop-action
invariant-loop-action l = (l.count + length (awaited (drop l.action-index l.actions)) ≡ length (awaited l.actions)) × (l.count ≤ l.action-index)

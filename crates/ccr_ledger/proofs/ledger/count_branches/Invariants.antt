use Rattle.std.proofs.Common.{◌≡◌, ◌+◌, length, drop}
use Rattle.ccr_wiring.specs.Wirings.{placements_from}
use Rattle.ccr_ledger.proofs.ledger.count_branches.Given as goal

abbrev pub invariant-loop-arbiter : goal.invariant-loop-arbiter
invariant-loop-arbiter l = l.count + length (placements_from l.arbiter-index (drop l.arbiter-index l.arbiters)) ≡ length (placements_from 0 l.arbiters)

use Rattle.std.proofs.Common.{◌≡◌, ◌++◌, drop}
use Rattle.ccr_service.specs.Telling.{told_asks}
use Rattle.ccr_service.proofs.telling.add_client.Given as goal

-- the answers so far and those still to come are all
abbrev pub invariant-loop-index : goal.invariant-loop-index
invariant-loop-index l = l.answers.items ++ told_asks l.tables l.faults l.client l.index (drop l.index l.asks) ≡ l.fn.answers.items ++ told_asks l.tables l.faults l.client 0 l.asks

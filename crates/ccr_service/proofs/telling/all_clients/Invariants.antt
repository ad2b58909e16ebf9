use Rattle.std.proofs.Common.{◌≡◌, ◌++◌, drop}
use Rattle.ccr_service.specs.Telling.{told_clients}
use Rattle.ccr_service.proofs.telling.all_clients.Given as goal

-- the answers so far and those still to come are all
abbrev pub invariant-loop-number : goal.invariant-loop-number
invariant-loop-number l = l.answers.items ++ told_clients l.tables l.faults l.number (drop l.number l.clients) ≡ told_clients l.tables l.faults 0 l.clients

use Rattle.std.proofs.Common.{◌≡◌, ◌+◌, ◌++◌, drop}
use Rattle.ccr_service.specs.Expansion.{causes_from}
use Rattle.ccr_service.proofs.expanding.causes.Given as goal

-- the causes so far and those still to come are all
abbrev pub invariant-loop-number : goal.invariant-loop-number
invariant-loop-number l = l.parts.items ++ causes_from (l.first + l.number) (drop l.number l.clients) ≡ causes_from l.first l.clients

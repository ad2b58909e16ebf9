use Rattle.std.proofs.Common.{◌≡◌, ◌++◌, drop}
use Rattle.ccr_service.specs.Expansion.{posters_from}
use Rattle.ccr_service.proofs.expanding.posters.Given as goal

-- the posters so far and those still to come are all
abbrev pub invariant-loop-number : goal.invariant-loop-number
invariant-loop-number l = l.parts.items ++ posters_from l.number (drop l.number l.service.clients) ≡ posters_from 0 l.service.clients

use Rattle.std.proofs.Common.{◌≡◌, ◌++◌, drop}
use Rattle.ccr_service.specs.Expansion.{handlers_from}
use Rattle.ccr_service.proofs.expanding.add_handlers.Given as goal

-- the handlers so far and those still to come are all
abbrev pub invariant-loop-number : goal.invariant-loop-number
invariant-loop-number l = l.parts.items ++ handlers_from l.number (drop l.number l.ops) ≡ l.fn.parts.items ++ handlers_from 0 l.ops

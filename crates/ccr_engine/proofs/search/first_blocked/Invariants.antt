use Rattle.std.proofs.Common.{◌≡◌}
use Rattle.ccr_engine.proofs.Blocking.{total}
use Rattle.ccr_engine.proofs.Searching.{IsLeft}
use Rattle.ccr_engine.proofs.search.first_blocked.Given as goal

abbrev pub invariant-asking : goal.invariant-asking
invariant-asking l = (l.ledger ≡ l.fn.ledger) × IsLeft l.wiring l.fn.ledger l.fn.blocked l.blocked

abbrev pub decreases-asking : goal.decreases-asking
decreases-asking l = total l.blocked

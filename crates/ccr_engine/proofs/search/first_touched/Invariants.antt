use Rattle.std.proofs.Common.{◌≡◌, length}
use Rattle.ccr_engine.specs.Blocked.{IsFullBefore}
use Rattle.ccr_engine.specs.Candidates.{AreCandidates}
use Rattle.ccr_engine.proofs.search.first_touched.Given as goal

abbrev pub invariant-asking : goal.invariant-asking
invariant-asking l = (l.ledger ≡ l.fn.ledger) × AreCandidates l.wiring l.fn.ledger l.touched l.blocked × IsFullBefore l.wiring l.fn.ledger l.blocked l.limit

abbrev pub decreases-asking : goal.decreases-asking
decreases-asking l = length l.touched

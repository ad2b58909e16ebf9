use Rattle.ccr_engine.specs.Candidates.{IsFirstOpen}
use Rattle.ccr_engine.proofs.search.first_open.Given as goal

abbrev pub invariant-loop-queue : goal.invariant-loop-queue
invariant-loop-queue l = IsFirstOpen l.wiring l.ledger l.blocked l.queue l.found

use Rattle.std.proofs.Common.{length}
use Rattle.ccr_engine.specs.Ready.{IsLeastFirst}
use Rattle.ccr_engine.specs.Numbered.{IsNoneBut}
use Rattle.ccr_engine.specs.Parts.{start_at_in}
use Rattle.ccr_engine.proofs.parts.first_start.Given as goal

abbrev pub invariant-asking : goal.invariant-asking
invariant-asking l = IsNoneBut (start_at_in l.closer l.ledger) (length l.wiring.queues) l.queues × IsLeastFirst l.queues

abbrev pub decreases-asking : goal.decreases-asking
decreases-asking l = length l.queues

use Rattle.std.proofs.Common.{length}
use Rattle.ccr_engine.specs.Ready.{IsLeastFirst}
use Rattle.ccr_engine.specs.Numbered.{IsNoneBut}
use Rattle.ccr_engine.specs.Parts.{admission_in}
use Rattle.ccr_engine.proofs.parts.first_admit.Given as goal

abbrev pub invariant-asking : goal.invariant-asking
invariant-asking l = IsNoneBut (admission_in l.ledger) (length l.wiring.arbiters) l.domains × IsLeastFirst l.domains

abbrev pub decreases-asking : goal.decreases-asking
decreases-asking l = length l.domains

use Rattle.std.proofs.Common.{◌≡◌, drop}
use Rattle.ccr_checker.specs.LeftInTables.{has_admission_in}
use Rattle.ccr_checker.proofs.left.has_admission.Given as goal

abbrev pub invariant-loop-number : goal.invariant-loop-number
invariant-loop-number l = has_admission_in l.ledger l.number (drop l.number l.wiring.arbiters) ≡ has_admission_in l.ledger 0 l.wiring.arbiters

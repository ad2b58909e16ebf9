use Rattle.std.proofs.Common.{◌≡◌, drop}
use Rattle.ccr_checker.specs.LeftInTables.{has_line_left_in}
use Rattle.ccr_checker.proofs.left.has_line_left.Given as goal

abbrev pub invariant-loop-number : goal.invariant-loop-number
invariant-loop-number l = has_line_left_in l.ledger l.number (drop l.number l.wiring.posters) ≡ has_line_left_in l.ledger 0 l.wiring.posters

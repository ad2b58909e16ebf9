use Rattle.std.proofs.Common.{◌≡◌, drop}
use Rattle.ccr_checker.specs.LeftInTables.{are_whole_in}
use Rattle.ccr_checker.proofs.complete.are_whole_in.Given as goal

abbrev pub invariant-loop-number : goal.invariant-loop-number
invariant-loop-number l = are_whole_in l.wiring l.ledger l.number (drop l.number l.wiring.posters) ≡ are_whole_in l.wiring l.ledger 0 l.wiring.posters

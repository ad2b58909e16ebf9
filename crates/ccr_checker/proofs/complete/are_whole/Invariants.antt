use Rattle.std.proofs.Common.{◌≡◌, drop}
use Rattle.ccr_model.specs.Legal.{are_whole_from}
use Rattle.ccr_checker.proofs.complete.are_whole.Given as goal

abbrev pub invariant-loop-number : goal.invariant-loop-number
invariant-loop-number l = are_whole_from l.wiring l.events l.number (drop l.number l.wiring.posters) ≡ are_whole_from l.wiring l.events 0 l.wiring.posters

use Rattle.std.proofs.Common.{◌≡◌, drop}
use Rattle.ccr_wiring.specs.Domains.{least_with}
use Rattle.ccr_wiring.proofs.domains.least_with.Given as goal

abbrev pub invariant-loop-number : goal.invariant-loop-number
invariant-loop-number l = least_with l.least (drop l.number-index l.numbers) ≡ least_with l.first l.numbers

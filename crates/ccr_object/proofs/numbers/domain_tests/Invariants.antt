use Rattle.std.proofs.Common.{◌≡◌}
use Rattle.ccr_object.specs.Numbers.{domain_tests}
use Rattle.ccr_object.proofs.numbers.domain_tests.Given as goal

-- the tests so far
abbrev pub invariant-loop-number : goal.invariant-loop-number
invariant-loop-number l = l.tests.items ≡ domain_tests l.wiring.domains l.number

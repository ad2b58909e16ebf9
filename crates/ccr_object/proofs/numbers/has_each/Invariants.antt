use Rattle.std.proofs.Common.{◌≡◌, drop}
use Rattle.ccr_object.specs.Numbers.{has_each}
use Rattle.ccr_object.proofs.numbers.has_each.Given as goal

-- each so far is one of them
abbrev pub invariant-loop-cause : goal.invariant-loop-cause
invariant-loop-cause l = has_each l.count (drop l.cause-index l.causes) ≡ has_each l.count l.causes

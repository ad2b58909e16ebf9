use Rattle.std.proofs.Common.{◌≡◌}
use Rattle.ccr_space.specs.Spaces.{stopped_of}
use Rattle.ccr_space.proofs.space.close.short_of.Given as goal

abbrev pub invariant-loop-number : goal.invariant-loop-number
invariant-loop-number l = l.short.items ≡ stopped_of l.passes l.number

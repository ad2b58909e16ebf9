use Rattle.std.proofs.Common.{◌≡◌, take}
use Rattle.std.specs.Prelude.{flat_map}
use Rattle.ccr_object.specs.Numbers.{arbiter_sites}
use Rattle.ccr_object.proofs.numbers.site_counts.Given as goal

abbrev pub invariant-loop-arbiter : goal.invariant-loop-arbiter
invariant-loop-arbiter l = l.counts.items ≡ flat_map (arbiter_sites l.wiring) (take l.arbiter-index l.wiring.arbiters)

use Rattle.std.proofs.Common.{◌≡◌, take}
use Rattle.std.proofs.Common.{flat_map}
use Rattle.ccr_wiring.specs.SpotWords.{branch_names_of}
use Rattle.ccr_wiring.proofs.spot_names.branch_names.Given as goal

abbrev pub invariant-loop-arbiter : goal.invariant-loop-arbiter
invariant-loop-arbiter l = l.names ≡ flat_map branch_names_of (take l.arbiter-index l.parts.arbiters)

use Rattle.std.proofs.Common.{◌≡◌, take}
use Rattle.ccr_cause.specs.Causes.{without_cause}
use Rattle.ccr_cause.proofs.lists.index_of.Given as goal

abbrev pub invariant-loop-index : goal.invariant-loop-index
invariant-loop-index l = without_cause (take l.index l.causes) l.cause ≡ take l.index l.causes

use Rattle.std.proofs.Common.{◌≡◌, length}
use Rattle.ccr_cause.specs.Causes.{without_cause}
use Rattle.ccr_cause.proofs.lists.remove.Given as goal

abbrev pub invariant-loop-index : goal.invariant-loop-index
invariant-loop-index l = without_cause l.causes l.cause ≡ without_cause l.initial.causes l.cause

abbrev pub decreases-loop-index : goal.decreases-loop-index
decreases-loop-index l = length l.causes

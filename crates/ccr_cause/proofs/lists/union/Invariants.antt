use Rattle.std.proofs.Common.{◌≡◌, drop}
use Rattle.ccr_cause.specs.Causes.{union}
use Rattle.ccr_cause.proofs.lists.union.Given as goal

abbrev pub invariant-loop-cause : goal.invariant-loop-cause
invariant-loop-cause l = union l.joined (drop l.cause-index l.second) ≡ union l.first l.second

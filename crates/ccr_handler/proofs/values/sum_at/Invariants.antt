use Rattle.std.proofs.Common.{◌≡◌, take}
use Rattle.ccr_handler.specs.Evaluating.{sum_at}
use Rattle.ccr_handler.proofs.values.sum_at.Given as goal

abbrev pub invariant-loop-value : goal.invariant-loop-value
invariant-loop-value l = l.total ≡ sum_at (take l.value-index l.values) l.index

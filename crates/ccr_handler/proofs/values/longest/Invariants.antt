use Rattle.std.proofs.Common.{◌≡◌, ◌≤◌, max, drop}
use Rattle.ccr_handler.specs.Evaluating.{longest}
use Rattle.ccr_handler.proofs.values.longest.Given as goal

abbrev pub invariant-loop-value : goal.invariant-loop-value
invariant-loop-value l = (max l.most (longest (drop l.value-index l.values)) ≡ longest l.values) × (l.most ≤ 8)

use Rattle.std.proofs.Common.{◌≡◌, take, map, length}
use Rattle.std.specs.List.{range_with_len}
use Rattle.ccr_handler.specs.Evaluating.{sum_at}
use Rattle.ccr_handler.proofs.values.sum_of.Given as goal

abbrev pub invariant-loop-index : goal.invariant-loop-index
invariant-loop-index l = (take l.index l.numbers ≡ map (sum_at l.values) (range_with_len 0 l.index)) × (length l.numbers ≡ 8)

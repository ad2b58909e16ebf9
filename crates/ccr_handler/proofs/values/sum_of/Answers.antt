use Rattle.std.proofs.Common.{◌≡◌, ◌+◌, arith, map, ◌++◌, ◌∷◌, [], slice_set, take, refl}
use Rattle.std.proofs.lemmas.List.{take_more_set, length-set}
use Rattle.std.proofs.lemmas.List.FromFn.{map-range_with_len_more}
use Rattle.std.specs.List.{range_with_len}
use Rattle.ccr_handler.specs.Evaluating.{sum_at}
use Rattle.ccr_handler.proofs.values.sum_of.Goals as goal

pub loop-index-preserved : goal.loop-index-preserved
loop-index-preserved c =
    let index = c.loop-index.index in
    let numbers = c.loop-index.numbers in
    let one : take (index + 1) (slice_set numbers index c.sum_at.result) ≡ take index numbers ++ c.sum_at.result ∷ [] = take_more_set numbers index c.sum_at.result (omega (arith, c.loop-index.invariant.1, c.loop-index-test.true, c.longest-count.ensures.few)) in
    let more : map (sum_at c.args.values.now) (range_with_len 0 (index + 1)) ≡ map (sum_at c.args.values.now) (range_with_len 0 index) ++ sum_at c.args.values.now index ∷ [] = map-range_with_len_more (sum_at c.args.values.now) 0 index index (omega arith) in
    (rw (one, more, c.loop-index.invariant.0, c.sum_at.ensures) refl, rw (length-set numbers index c.sum_at.result) c.loop-index.invariant.1)

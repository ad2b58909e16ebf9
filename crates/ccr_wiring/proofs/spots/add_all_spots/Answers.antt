use Rattle.std.proofs.Common.{◌≡◌, List, ◌++◌, ◌+◌, length, drop, sym, ap, ◌∙◌, length-append, arith}
use Rattle.ccr_wiring.specs.declared.parts.BranchPart.{BranchPart}
use Rattle.ccr_wiring.specs.Spots.{branch_spots, all_branches}
use Rattle.ccr_wiring.proofs.SpotsAreListed.{all_drop, spots_next}
use Rattle.ccr_wiring.proofs.spots.add_all_spots.Goals as goal

pub loop-arbiter-preserved : goal.loop-arbiter-preserved
loop-arbiter-preserved c =
    let branches = c.as_slice-branches.result.now in
    let rest = all_branches (drop (c.loop-arbiter.arbiter-index + 1) c.args.arbiters.now) in
    let split : all_branches (drop c.loop-arbiter.arbiter-index c.args.arbiters.now) ≡ branches ++ rest =
    all_drop c.args.arbiters.now c.loop-arbiter.arbiter-index c.arbiter-item.result c.loop-arbiter-test.true c.arbiter-item.is ∙ ap (λ (bs : List BranchPart). bs ++ rest) (sym c.as_slice-branches.ensures) in
    let all = ap (λ (bs : List BranchPart). c.loop-arbiter.spots.items ++ branch_spots c.args.parts.now c.loop-arbiter.number bs) (sym split) ∙ c.loop-arbiter.invariant.0 in
    let long = ap length split ∙ length-append branches rest in
    let count = c.loop-arbiter.invariant.1 in
    (rw c.in_ok-add_branch_spots.ensures (spots_next c.args.parts.now c.loop-arbiter.number c.loop-arbiter.spots.items _ branches rest all), omega (arith, long, count))

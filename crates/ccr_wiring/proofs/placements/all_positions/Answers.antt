use Rattle.std.proofs.Common.{arith}
use Rattle.ccr_wiring.proofs.Validity.{few_arbiters}
use Rattle.ccr_wiring.proofs.placements.all_positions.Goals as goal

pub add_all_positions-requires : goal.add_all_positions-requires
add_all_positions-requires c =
    let few = few_arbiters c.args.parts.now c.requires in
    rw c.as_slice-2.ensures (omega arith)

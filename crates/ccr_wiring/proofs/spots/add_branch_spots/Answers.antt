use Rattle.std.proofs.Common.{arith}
use Rattle.ccr_wiring.proofs.Validity.{few_actions}
use Rattle.ccr_wiring.proofs.spots.add_branch_spots.Goals as goal

pub add_sites-requires : goal.add_sites-requires
add_sites-requires c =
    let few = few_actions c.args.parts.now c.branch-item.result.handler c.requires.limits in
    rw c.actions_of.ensures (omega arith)

use Rattle.std.proofs.Common.{◌<◌, length, arith}
use Rattle.std.proofs.lemmas.List.Edits.{map_over_more}
use Rattle.ccr_port.specs.Lanes.{can_leave, left}
use Rattle.ccr_port.proofs.LaneLists.{all-here}
use Rattle.ccr_port.proofs.lanes.leave_all.Goals as goal

pub leave-requires : goal.leave-requires
leave-requires c =
    let low : c.loop-number.number < length c.args.lanes.now.items = omega arith in
    all-here (can_leave c.args.key c.args.value) (left c.args.key c.args.value) c.args.lanes.now.items c.loop-number.lanes.items c.loop-number.number c.index_mut-lane.result.now c.requires low c.loop-number.invariant c.index_mut-lane.ensures.value

pub loop-number-preserved : goal.loop-number-preserved
loop-number-preserved c =
    let within : c.loop-number.number < length c.args.lanes.now.items = omega arith in
    rw c.leave.ensures
    (map_over_more (left c.args.key c.args.value) c.args.lanes.now.items c.loop-number.lanes.items c.loop-number.number c.index_mut-lane.result.now within c.loop-number.invariant c.index_mut-lane.ensures.value)

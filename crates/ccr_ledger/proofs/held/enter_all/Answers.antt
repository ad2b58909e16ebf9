use Rattle.std.proofs.Common.{◌<◌, length, arith}
use Rattle.std.proofs.lemmas.List.Edits.{map_over_more}
use Rattle.ccr_ledger.specs.Lanes.{entered}
use Rattle.ccr_ledger.proofs.held.enter_all.Goals as goal

pub loop-number-preserved : goal.loop-number-preserved
loop-number-preserved c =
    let within : c.loop-number.number < length c.args.lanes.now.items = omega arith in
    rw c.in_ok-enter.ensures
    (map_over_more (entered c.args.index c.args.value) c.args.lanes.now.items c.loop-number.lanes.items c.loop-number.number c.index_mut-lane.result.now within c.loop-number.invariant c.index_mut-lane.ensures.value)

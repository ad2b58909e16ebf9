use Rattle.std.proofs.Common.{arith}
use Rattle.ccr_port.proofs.LaneLists.{same-self, same-set, same-long, room-none, room-set}
use Rattle.ccr_port.proofs.lanes.make_room.Goals as goal

pub loop-number-init : goal.loop-number-init
loop-number-init c = record { same = same-self c.args.lanes.now.items; room = room-none c.args.key c.args.lanes.now.items }

pub returns-in_err-make_room-clause-same : goal.returns-in_err-make_room-clause-same
returns-in_err-make_room-clause-same c =
    same-set c.args.lanes.now.items c.loop-number.lanes.items c.loop-number.number c.index_mut-lane.result.now c.make_room.new.self c.loop-number.invariant.same c.index_mut-lane.ensures.value c.make_room.ensures.pred c.make_room.ensures.keys

pub loop-number-preserved : goal.loop-number-preserved
loop-number-preserved c = record {
  same = same-set c.args.lanes.now.items c.loop-number.lanes.items c.loop-number.number c.index_mut-lane.result.now c.make_room.new.self c.loop-number.invariant.same c.index_mut-lane.ensures.value c.in_ok-make_room.ensures.pred c.in_ok-make_room.ensures.keys;
  room = room-set c.args.key c.loop-number.number c.loop-number.lanes.items c.make_room.new.self (omega (arith, same-long c.args.lanes.now.items c.loop-number.lanes.items c.loop-number.invariant.same)) c.loop-number.invariant.room c.in_ok-make_room.ensures.room;
}

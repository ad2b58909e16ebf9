use Rattle.std.proofs.Common.{◌∙◌, sym, arith}
use Rattle.ccr_port.specs.Entries.{keys_of}
use Rattle.ccr_port.proofs.Listing.{has-at, some_at, keys-long, stands}
use Rattle.ccr_port.proofs.LaneLists.{can-enter-next, lane-next}
use Rattle.ccr_port.proofs.lanes.lane_of.Goals as goal

pub unreachable-requires : goal.unreachable-requires
unreachable-requires c = some_at (keys_of c.args.items.now) c.loop-index._index (omega (arith, keys-long c.args.items.now, c.len-index-end.ensures.len)) (sym c.loop-index.invariant.here ∙ c.in_default.is)

pub message-requires : goal.message-requires
message-requires c = has-at (keys_of c.args.items.now) c.loop-index._index c.in-Some.here (sym c.loop-index.invariant.here ∙ c.in-Some.is)

pub behind-key-requires : goal.behind-key-requires
behind-key-requires c = has-at (keys_of c.args.items.now) c.loop-index._index c.in-Some.here (sym c.loop-index.invariant.here ∙ c.in-Some.is)

pub enter-requires : goal.enter-requires
enter-requires c =
    let stand = stands c.args.items.now c.loop-index._index c.in-Some.here (sym c.loop-index.invariant.here ∙ c.in-Some.is) in
    can-enter-next c.args.items.now c.loop-index._index c.in-Some.here stand c.len-index-end.ensures.apart c.make_room.new.self c.args.pred
    (c.in_ok-make_room.ensures.pred ∙ c.loop-index.invariant.pred) (c.in_ok-make_room.ensures.keys ∙ c.loop-index.invariant.keys) c.in_ok-make_room.ensures.room (omega arith)

pub loop-index-preserved : goal.loop-index-preserved
loop-index-preserved c =
    let at = sym c.loop-index.invariant.here ∙ c.in-Some.is in
    let stand = stands c.args.items.now c.loop-index._index c.in-Some.here at in
    let next = lane-next c.args.items.now c.loop-index._index c.in-Some.here stand c.len-index-end.ensures.apart c.make_room.new.self c.args.pred c.enter.new.self c.message.result.now c.message.ensures
    (c.in_ok-make_room.ensures.pred ∙ c.loop-index.invariant.pred) (c.in_ok-make_room.ensures.keys ∙ c.loop-index.invariant.keys) c.enter.ensures in
    record { here = c.behind-key.ensures c.loop-index._index at; pred = next.0; keys = next.1 }

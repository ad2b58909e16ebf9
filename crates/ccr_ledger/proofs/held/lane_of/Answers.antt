use Rattle.std.proofs.Common.{◌≡◌, ◌<◌, ◌∙◌, length, take, sym, arith, length-take-le}
use Rattle.std.proofs.lemmas.List.{take_more}
use Rattle.ccr_ledger.proofs.Lanes.{lane-item, pred-item}
use Rattle.ccr_ledger.proofs.held.lane_of.Goals as goal

pub loop-index-preserved : goal.loop-index-preserved
loop-index-preserved c =
    let low : c.loop-index.index < length c.args.items.now = omega arith in
    let all : length (take c.loop-index.index c.args.items.now) ≡ c.loop-index.index = length-take-le c.loop-index.index c.args.items.now (omega arith) in
    rw (c.in_ok-enter_item.ensures, take_more c.args.items.now c.loop-index.index c.index-items-index.result low, ← c.index-items-index.is)
    (record {
      lane = lane-item (take c.loop-index.index c.args.items.now) c.loop-index.index c.index-items-index.result c.loop-index.lane (sym all) c.loop-index.invariant.lane;
      pred = pred-item c.loop-index.index c.index-items-index.result c.loop-index.lane ∙ c.loop-index.invariant.pred;
    })

use Rattle.std.proofs.Common.{◌≡◌, length, ap, ◌∙◌, sym, arith}
use Rattle.ccr_port.specs.Lanes.{KeyLaneState, fitting_keys}
use Rattle.std.proofs.lemmas.Option.{slice_get_within}
use Rattle.ccr_base.proofs.Options.{get-last, passed_over}
use Rattle.ccr_port.proofs.LaneLists.{are-one_more}
use Rattle.ccr_port.proofs.lanes.lane_for.Goals as goal

pub returns-clause-lanes : goal.returns-clause-lanes
returns-clause-lanes c = rw c.in_ok-push.ensures.items (are-one_more c.args.items.now c.args.lanes.now.items _ c.requires
    (c.in_ok-lane_of.ensures.keys ∙ ap (λ p. fitting_keys p c.args.items.now) (sym c.in_ok-lane_of.ensures.pred)))

pub returns-clause-found : goal.returns-clause-found
returns-clause-found c =
    let last : c.len-number.result ≡ length c.args.lanes.now.items = omega arith in
    (c.in_ok-lane_of.field-0, get-last c.args.lanes.now.items _ c.len-number.result c.in_ok-lane_of.field-0 last c.in_ok-push.ensures.items, c.in_ok-lane_of.ensures.pred)

pub loop-number-preserved : goal.loop-number-preserved
loop-number-preserved c n has = passed_over (λ (lane : KeyLaneState). lane.pred) c.args.lanes.now.items c.loop-number.number n c.index.result.now c.args.pred c.is_of.result c.index.ensures c.is_of.ensures c.if-is_of.false (c.loop-number.invariant n has) has

pub returns-clause-once : goal.returns-clause-once
returns-clause-once c n has =
    let low = slice_get_within c.args.lanes.now.items n has.0 has.1 in
    absurd (omega (arith, low, c.loop-number.invariant n has))

use Rattle.std.proofs.Common.{◌∙◌, ap, length, sym, take, refl, arith}
use Rattle.ccr_places.specs.Ports.{PortState}
use Rattle.ccr_port.specs.declared.claims.Claimed.TheVariants.{Got}
use Rattle.ccr_port.specs.Replies.{are_at}
use Rattle.ccr_port.proofs.MessagesBearTheirPort.{claim_fits}
use Rattle.ccr_port.specs.Entries.{are_under, messages_under}
use Rattle.ccr_port.proofs.PortSteps.{lane-keys, short-reply, short-note, short-step, short-after, marks-there, got-reply, got-note, got-step, got-after, claimed}
use Rattle.ccr_port.proofs.port.PortObject.claim.Goals as goal

pub returns-then-fitting-slot-clause-reply : goal.returns-then-fitting-slot-clause-reply
returns-then-fitting-slot-clause-reply c =
    let keys = lane-keys c.self.inside.items c.lane_for.new.lanes.items c.in_ok-number.number c.args.slot.now.pred c.index-lane.result.now c.in_ok-number.ensures.lanes c.in_ok-number.ensures.found c.index-lane.ensures in
    let fits = c.len-fitting.ensures ∙ ap length keys in
    rw (← c.self.view_is, c.in_default.is) (short-reply c.self.inside.number c.self.inside.items c.args.task c.args.slot.now c.len-fitting.result fits c.if-fitting-slot.true)

pub returns-then-fitting-slot-clause-note : goal.returns-then-fitting-slot-clause-note
returns-then-fitting-slot-clause-note c =
    let keys = lane-keys c.self.inside.items c.lane_for.new.lanes.items c.in_ok-number.number c.args.slot.now.pred c.index-lane.result.now c.in_ok-number.ensures.lanes c.in_ok-number.ensures.found c.index-lane.ensures in
    let fits = c.len-fitting.ensures ∙ ap length keys in
    rw (← c.self.view_is, c.in_default.is) (short-note c.self.inside.number c.self.inside.items c.args.task c.args.slot.now c.len-fitting.result fits c.if-fitting-slot.true)

pub returns-then-fitting-slot-clause-state : goal.returns-then-fitting-slot-clause-state
returns-then-fitting-slot-clause-state c =
    let keys = lane-keys c.self.inside.items c.lane_for.new.lanes.items c.in_ok-number.number c.args.slot.now.pred c.index-lane.result.now c.in_ok-number.ensures.lanes c.in_ok-number.ensures.found c.index-lane.ensures in
    let fits = c.len-fitting.ensures ∙ ap length keys in
    rw (← c.self.view_is, c.in_default.is) (short-step c.self.inside.number c.self.inside.items c.args.task c.args.slot.now c.len-fitting.result fits c.if-fitting-slot.true)

pub returns-then-fitting-slot-clause-given : goal.returns-then-fitting-slot-clause-given
returns-then-fitting-slot-clause-given c =
    let keys = lane-keys c.self.inside.items c.lane_for.new.lanes.items c.in_ok-number.number c.args.slot.now.pred c.index-lane.result.now c.in_ok-number.ensures.lanes c.in_ok-number.ensures.found c.index-lane.ensures in
    let fits = c.len-fitting.ensures ∙ ap length keys in
    rw (← c.self.view_is, c.in_default.is) (short-note c.self.inside.number c.self.inside.items c.args.task c.args.slot.now c.len-fitting.result fits c.if-fitting-slot.true)

pub returns-then-fitting-slot-clause-step : goal.returns-then-fitting-slot-clause-step
returns-then-fitting-slot-clause-step c =
    let keys = lane-keys c.self.inside.items c.lane_for.new.lanes.items c.in_ok-number.number c.args.slot.now.pred c.index-lane.result.now c.in_ok-number.ensures.lanes c.in_ok-number.ensures.found c.index-lane.ensures in
    let fits = c.len-fitting.ensures ∙ ap length keys in
    rw (← c.self.view_is, c.in_default.is) (short-after c.self.inside.number c.self.inside.items c.args.task c.args.slot.now c.len-fitting.result fits c.if-fitting-slot.true)

pub copies_of-requires : goal.copies_of-requires
copies_of-requires c =
    let keys = lane-keys c.self.inside.items c.lane_for.new.lanes.items c.in_ok-number.number c.args.slot.now.pred c.index-lane.result.now c.in_ok-number.ensures.lanes c.in_ok-number.ensures.found c.index-lane.ensures in
    let fits = c.len-fitting.ensures ∙ ap length keys in
    let marks = c.as_slice.ensures.value ∙ c.in_ok-keys.ensures ∙ ap (take c.min-count.result) keys in
    ap (λ ks. are_under ks c.self.inside.items) marks ∙ marks-there c.self.inside.number c.self.inside.items c.args.task c.args.slot.now c.len-fitting.result fits (omega arith) c.self.invariant.apart c.min-count.result c.min-count.ensures

pub invariant_of-self-2 : goal.invariant_of-self-2
invariant_of-self-2 c =
    let keys = lane-keys c.self.inside.items c.lane_for.new.lanes.items c.in_ok-number.number c.args.slot.now.pred c.index-lane.result.now c.in_ok-number.ensures.lanes c.in_ok-number.ensures.found c.index-lane.ensures in
    let fits = c.len-fitting.ensures ∙ ap length keys in
    let marks = c.as_slice.ensures.value ∙ c.in_ok-keys.ensures ∙ ap (take c.min-count.result) keys in
    claimed c.self.inside.number c.self.inside.items c.args.task c.args.slot.now c.len-fitting.result fits (omega arith) c.self.invariant.apart c.min-count.result c.min-count.ensures c.lane_for.new.lanes.items _ (record { few = c.self.invariant.few; own = c.self.invariant.own; apart = c.self.invariant.apart; lanes = c.in_ok-number.ensures.lanes; marked = tt }) refl refl (c.in_ok-keys.ensures ∙ ap (take c.min-count.result) keys)

pub returns-clause-reply : goal.returns-clause-reply
returns-clause-reply c =
    let keys = lane-keys c.self.inside.items c.lane_for.new.lanes.items c.in_ok-number.number c.args.slot.now.pred c.index-lane.result.now c.in_ok-number.ensures.lanes c.in_ok-number.ensures.found c.index-lane.ensures in
    let fits = c.len-fitting.ensures ∙ ap length keys in
    let marks = c.as_slice.ensures.value ∙ c.in_ok-keys.ensures ∙ ap (take c.min-count.result) keys in
    rw (← c.self.view_is, c.in_default.is) (got-reply c.self.inside.number c.self.inside.items c.args.task c.args.slot.now c.len-fitting.result fits (omega arith) c.self.invariant.apart c.min-count.result c.min-count.ensures c.in_ok-copies.copies (c.in_ok-copies.ensures ∙ ap (λ ks. messages_under ks c.self.inside.items) marks))

pub returns-clause-fits : goal.returns-clause-fits
returns-clause-fits c = claim_fits c.args.self.now c.args.task c.args.slot.now (Got c.in_ok-copies.copies) (ap (λ (port : PortState). are_at port.number port.items) (sym c.self.view_is) ∙ c.self.invariant.own) c.requires (returns-clause-reply c)

pub returns-clause-note : goal.returns-clause-note
returns-clause-note c =
    let keys = lane-keys c.self.inside.items c.lane_for.new.lanes.items c.in_ok-number.number c.args.slot.now.pred c.index-lane.result.now c.in_ok-number.ensures.lanes c.in_ok-number.ensures.found c.index-lane.ensures in
    let fits = c.len-fitting.ensures ∙ ap length keys in
    let marks = c.as_slice.ensures.value ∙ c.in_ok-keys.ensures ∙ ap (take c.min-count.result) keys in
    rw (← c.self.view_is, c.in_default.is) (got-note c.self.inside.number c.self.inside.items c.args.task c.args.slot.now c.len-fitting.result fits (omega arith) c.self.invariant.apart c.min-count.result c.min-count.ensures c.in_ok-copies.copies (c.in_ok-copies.ensures ∙ ap (λ ks. messages_under ks c.self.inside.items) marks))

pub returns-clause-state : goal.returns-clause-state
returns-clause-state c =
    let keys = lane-keys c.self.inside.items c.lane_for.new.lanes.items c.in_ok-number.number c.args.slot.now.pred c.index-lane.result.now c.in_ok-number.ensures.lanes c.in_ok-number.ensures.found c.index-lane.ensures in
    let fits = c.len-fitting.ensures ∙ ap length keys in
    let marks = c.as_slice.ensures.value ∙ c.in_ok-keys.ensures ∙ ap (take c.min-count.result) keys in
    rw (← c.self.view_is, c.in_default.is) (got-step c.self.inside.number c.self.inside.items c.args.task c.args.slot.now c.len-fitting.result fits (omega arith) c.self.invariant.apart c.min-count.result c.min-count.ensures c.in_ok-copies.copies (c.in_ok-copies.ensures ∙ ap (λ ks. messages_under ks c.self.inside.items) marks))

pub returns-clause-given : goal.returns-clause-given
returns-clause-given c =
    let keys = lane-keys c.self.inside.items c.lane_for.new.lanes.items c.in_ok-number.number c.args.slot.now.pred c.index-lane.result.now c.in_ok-number.ensures.lanes c.in_ok-number.ensures.found c.index-lane.ensures in
    let fits = c.len-fitting.ensures ∙ ap length keys in
    let marks = c.as_slice.ensures.value ∙ c.in_ok-keys.ensures ∙ ap (take c.min-count.result) keys in
    rw (← c.self.view_is, c.in_default.is) (got-note c.self.inside.number c.self.inside.items c.args.task c.args.slot.now c.len-fitting.result fits (omega arith) c.self.invariant.apart c.min-count.result c.min-count.ensures c.in_ok-copies.copies (c.in_ok-copies.ensures ∙ ap (λ ks. messages_under ks c.self.inside.items) marks))

pub returns-clause-step : goal.returns-clause-step
returns-clause-step c =
    let keys = lane-keys c.self.inside.items c.lane_for.new.lanes.items c.in_ok-number.number c.args.slot.now.pred c.index-lane.result.now c.in_ok-number.ensures.lanes c.in_ok-number.ensures.found c.index-lane.ensures in
    let fits = c.len-fitting.ensures ∙ ap length keys in
    let marks = c.as_slice.ensures.value ∙ c.in_ok-keys.ensures ∙ ap (take c.min-count.result) keys in
    rw (← c.self.view_is) (got-after c.self.inside.number c.self.inside.items c.args.task c.args.slot.now c.len-fitting.result fits (omega arith) c.self.invariant.apart c.min-count.result c.min-count.ensures c.in_ok-copies.copies (c.in_ok-copies.ensures ∙ ap (λ ks. messages_under ks c.self.inside.items) marks))

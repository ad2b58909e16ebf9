use Rattle.std.proofs.Common.{◌∙◌, sym, ap, refl, Some}
use Rattle.ccr_port.specs.Entries.{can_take, without_entries}
use Rattle.ccr_port.specs.Marks.{IsPort}
use Rattle.ccr_port.proofs.PortSteps.{marks-can_go, marks-gone, consumed}
use Rattle.ccr_port.proofs.port.PortObject.consume.Goals as goal
use Rattle.ccr_port.proofs.port.PortObject.consume.Goals.{In-Some}

marked : (c : In-Some) → IsPort c.self.inside.number c.self.inside.items c.self.inside.lanes.items (Some c.in-Some.mark)
marked c = rw (← (sym c.take.ensures.value ∙ c.in-Some.is)) c.self.invariant

pub take_marked-requires-clause-there : goal.take_marked-requires-clause-there
take_marked-requires-clause-there c =
    ap (λ ks. can_take ks c.self.inside.items) c.as_slice.ensures.value ∙ marks-can_go c.self.inside.number c.self.inside.items c.self.inside.lanes.items c.in-Some.mark (marked (goal.at.take_marked-requires-clause-there c).In-Some)

pub invariant_of-self : goal.invariant_of-self
invariant_of-self c = rw c.take.ensures.after
    (consumed c.self.inside.number c.self.inside.items c.self.inside.lanes.items c.in-Some.mark (marked (goal.at.invariant_of-self c).In-Some) c.take_marked.new.items c.take_marked.new.lanes.items c.take_marked.ensures.lanes
    (c.take_marked.ensures.rest ∙ ap (λ ks. without_entries ks c.self.inside.items) c.as_slice.ensures.value))

pub returns-in-Some-clause-state : goal.returns-in-Some-clause-state
returns-in-Some-clause-state c =
    let claimed = sym c.take.ensures.value ∙ c.in-Some.is in
    let rest = c.take_marked.ensures.rest ∙ ap (λ ks. without_entries ks c.self.inside.items) c.as_slice.ensures.value in
    let gone = marks-gone c.self.inside.number c.self.inside.items c.self.inside.lanes.items c.in-Some.mark (marked (goal.at.returns-in-Some-clause-state c).In-Some) in
    rw (← c.self.view_is, claimed, c.take.ensures.after, rest, gone) refl

pub returns-in-Some-clause-step : goal.returns-in-Some-clause-step
returns-in-Some-clause-step c =
    let claimed = sym c.take.ensures.value ∙ c.in-Some.is in
    let rest = c.take_marked.ensures.rest ∙ ap (λ ks. without_entries ks c.self.inside.items) c.as_slice.ensures.value in
    let gone = marks-gone c.self.inside.number c.self.inside.items c.self.inside.lanes.items c.in-Some.mark (marked (goal.at.returns-in-Some-clause-step c).In-Some) in
    rw (← c.self.view_is, claimed, c.take.ensures.after, rest, gone) refl

use Rattle.std.proofs.Common.{◌==◌, ◌∙◌, sym, ap, refl, rules}
use Rattle.std.proofs.lemmas.Option.{same_Some}
use Rattle.ccr_places.specs.Ports.{PortState}
use Rattle.ccr_port.proofs.Listing.{messages-more, without-more, has-more, under-more}
use Rattle.ccr_port.proofs.MessagesBearTheirPort.{own_post}
use Rattle.ccr_port.proofs.PortSteps.{few_posted, posted, may_enter-all, gave_up}
use Rattle.ccr_port.proofs.port.PortObject.post.Goals as goal

pub append-requires : goal.append-requires
append-requires c = few_posted c.self.inside.items c.args.self.now c.args.message (ap (λ (port : PortState). port.items) (sym c.self.view_is)) c.requires

pub take-requires : goal.take-requires
take-requires c = rw c.in_ok-key.ensures.ok (has-more c.in_ok-key.key c.args.message c.self.inside.items)

pub invariant_of-self-then-is_err : goal.invariant_of-self-then-is_err
invariant_of-self-then-is_err c =
    let back = rw c.in_ok-key.ensures.ok at c.take.ensures.rest in
    gave_up c.self.inside.number c.self.inside.items c.take.new.self c.self.inside.lanes.items c.make_room.new.lanes.items c.self.inside.claim c.in_ok-key.key c.args.message c.self.invariant c.make_room.ensures.same c.in_ok-key.ensures.fresh
    (back ∙ without-more c.in_ok-key.key c.args.message c.self.inside.items c.in_ok-key.ensures.fresh)

pub returns-then-is_err-clause-err : goal.returns-then-is_err-clause-err
returns-then-is_err-clause-err c =
    let back = rw c.in_ok-key.ensures.ok at c.take.ensures.rest in
    let same = back ∙ without-more c.in_ok-key.key c.args.message c.self.inside.items c.in_ok-key.ensures.fresh in
    rw same c.self.view_is

pub returns-then-is_err-clause-returned : goal.returns-then-is_err-clause-returned
returns-then-is_err-clause-returned c =
    let found = rw c.in_ok-key.ensures.ok at c.take.ensures.message in
    let same = under-more c.in_ok-key.key c.args.message c.self.inside.items c.in_ok-key.ensures.fresh in
    same_Some _ _ (sym found ∙ same)

pub enter_all-requires : goal.enter_all-requires
enter_all-requires c =
    may_enter-all c.self.inside.number c.self.inside.items c.self.inside.items c.self.inside.lanes.items c.make_room.new.lanes.items c.self.inside.claim c.in_ok-key.key c.args.message c.self.invariant c.make_room.ensures.same c.in_ok-key.ensures.fresh
    (few_posted c.self.inside.items c.args.self.now c.args.message (ap (λ (port : PortState). port.items) (sym c.self.view_is)) c.requires) (search rules)

pub invariant_of-self-2 : goal.invariant_of-self-2
invariant_of-self-2 c = rw c.enter_all.ensures
    (posted c.self.inside.number c.self.inside.items c.append.new.self c.self.inside.lanes.items c.make_room.new.lanes.items c.self.inside.claim c.in_ok-key.key c.args.message c.self.invariant c.make_room.ensures.same c.in_ok-key.ensures.fresh
    (few_posted c.self.inside.items c.args.self.now c.args.message (ap (λ (port : PortState). port.items) (sym c.self.view_is)) c.requires)
    (ap (λ (port : PortState). c.args.message.port == port.number) c.self.view_is ∙ own_post c.args.self.now c.args.message c.requires) c.in_ok-key.ensures.ok)

pub returns-clause-state : goal.returns-clause-state
returns-clause-state c = rw (← c.self.view_is, c.in_ok-key.ensures.ok, messages-more c.in_ok-key.key c.args.message c.self.inside.items) refl

pub returns-clause-step : goal.returns-clause-step
returns-clause-step c = rw (← c.self.view_is, c.in_ok-key.ensures.ok, messages-more c.in_ok-key.key c.args.message c.self.inside.items) refl

use Rattle.std.proofs.Common.{◌∙◌, refl, length, arith}
use Rattle.std.proofs.lemmas.List.{length-set}
use Rattle.ccr_port.specs.Lanes.{lane_keys}
use Rattle.ccr_port.proofs.LaneLinks.{last-below, lane-appended, may_enter}
use Rattle.ccr_port.proofs.lane.KeyLane.append.Goals as goal

pub set_behind-requires : goal.set_behind-requires
set_behind-requires c = last-below c.self.inside.links.items c.self.inside.first c.self.inside.last c.self.inside.count c.self.invariant _ (length-set c.self.inside.links.items c.args.key _)

pub overflow_add-self : goal.overflow_add-self
overflow_add-self c =
    let may = may_enter c.args.key (record { pred = c.self.inside.pred; keys = lane_keys c.self.inside.links.items c.self.inside.first c.self.inside.count; room = length c.self.inside.links.items }) (rw (← c.self.view_is) at c.requires) in
    omega (arith, may.few, c.self.invariant.long)

pub invariant_of-self : goal.invariant_of-self
invariant_of-self c =
    let may = may_enter c.args.key (record { pred = c.self.inside.pred; keys = lane_keys c.self.inside.links.items c.self.inside.first c.self.inside.count; room = length c.self.inside.links.items }) (rw (← c.self.view_is) at c.requires) in
    (lane-appended c.self.inside.links.items c.self.inside.first c.self.inside.last c.self.inside.count c.self.invariant c.set_behind.new.links.items c.set_behind.new.first c.args.key may.room may.absent c.set_behind.ensures.behind c.set_behind.ensures.before c.set_behind.ensures.room).linked

pub returns : goal.returns
returns c =
    let may = may_enter c.args.key (record { pred = c.self.inside.pred; keys = lane_keys c.self.inside.links.items c.self.inside.first c.self.inside.count; room = length c.self.inside.links.items }) (rw (← c.self.view_is) at c.requires) in
    let keys = (lane-appended c.self.inside.links.items c.self.inside.first c.self.inside.last c.self.inside.count c.self.invariant c.set_behind.new.links.items c.set_behind.new.first c.args.key may.room may.absent c.set_behind.ensures.behind c.set_behind.ensures.before c.set_behind.ensures.room).keys in
    let room = c.set_behind.ensures.room ∙ length-set c.self.inside.links.items c.args.key _ in
    rw (← c.self.view_is, keys, room) refl

use Rattle.std.proofs.Common.{◌∙◌, refl, arith}
use Rattle.ccr_port.proofs.LaneLinks.{key-below, before-below, behind-below, lane-unlinked}
use Rattle.ccr_port.proofs.lane.KeyLane.unlink.Goals as goal

pub index-requires : goal.index-requires
index-requires c = let low = key-below c.self.inside.links.items c.self.inside.first c.self.inside.last c.self.inside.count c.self.invariant c.args.key (rw (← c.self.view_is) at c.requires) in omega (arith, low, c.self.inside.links.ok.0)

pub set_behind-requires : goal.set_behind-requires
set_behind-requires c = before-below c.self.inside.links.items c.self.inside.first c.self.inside.last c.self.inside.count c.self.invariant c.args.key (rw (← c.self.view_is) at c.requires) c.index.result.now c.index.ensures

pub set_before-requires : goal.set_before-requires
set_before-requires c = behind-below c.self.inside.links.items c.self.inside.first c.self.inside.last c.self.inside.count c.self.invariant c.args.key (rw (← c.self.view_is) at c.requires) c.index.result.now c.index.ensures _ c.set_behind.ensures.room

pub invariant_of-self : goal.invariant_of-self
invariant_of-self c =
    (lane-unlinked c.self.inside.links.items c.self.inside.first c.self.inside.last c.self.inside.count c.self.invariant c.args.key (rw (← c.self.view_is) at c.requires) c.index.result.now c.index.ensures
    c.set_behind.new.links.items c.set_before.new.links.items c.set_behind.new.first c.set_before.new.last
    c.set_behind.ensures.behind c.set_behind.ensures.before c.set_behind.ensures.room c.set_before.ensures.before c.set_before.ensures.behind c.set_before.ensures.room).linked

pub returns : goal.returns
returns c =
    let keys = (lane-unlinked c.self.inside.links.items c.self.inside.first c.self.inside.last c.self.inside.count c.self.invariant c.args.key (rw (← c.self.view_is) at c.requires) c.index.result.now c.index.ensures
    c.set_behind.new.links.items c.set_before.new.links.items c.set_behind.new.first c.set_before.new.last
    c.set_behind.ensures.behind c.set_behind.ensures.before c.set_behind.ensures.room c.set_before.ensures.before c.set_before.ensures.behind c.set_before.ensures.room).keys in
    let room = c.set_before.ensures.room ∙ c.set_behind.ensures.room in
    rw (← c.self.view_is, keys, room) refl

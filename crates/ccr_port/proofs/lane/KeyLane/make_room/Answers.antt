use Rattle.ccr_port.proofs.LaneLinks.{lane-grown}
use Rattle.ccr_port.proofs.lane.KeyLane.make_room.Goals as goal

pub invariant_of-self : goal.invariant_of-self
invariant_of-self c = (lane-grown c.self.inside.links.items c.self.inside.first c.self.inside.last c.self.inside.count c.self.invariant c.extend.new.links.items c.extend.ensures.behind c.extend.ensures.before c.extend.ensures.grown).linked

pub returns-clause-keys : goal.returns-clause-keys
returns-clause-keys c =
    rw (← c.self.view_is) (lane-grown c.self.inside.links.items c.self.inside.first c.self.inside.last c.self.inside.count c.self.invariant c.extend.new.links.items c.extend.ensures.behind c.extend.ensures.before c.extend.ensures.grown).keys

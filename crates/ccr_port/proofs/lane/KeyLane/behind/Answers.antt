use Rattle.std.proofs.Common.{arith}
use Rattle.ccr_port.proofs.LaneLinks.{key-below, lane-behind}
use Rattle.ccr_port.proofs.lane.KeyLane.behind.Goals as goal

pub index-requires : goal.index-requires
index-requires c =
    let low = key-below c.self.inside.links.items c.self.inside.first c.self.inside.last c.self.inside.count c.self.invariant c.args.key (rw (← c.self.view_is) at c.requires) in
    omega (arith, low, c.self.inside.links.ok.0)

pub returns : goal.returns
returns c = rw (← c.self.view_is)
    (lane-behind c.self.inside.links.items c.self.inside.first c.self.inside.last c.self.inside.count c.self.invariant c.args.key (rw (← c.self.view_is) at c.requires) c.index.result.now c.index.ensures)

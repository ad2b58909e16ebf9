use Rattle.ccr_port.proofs.ItemLinks.{has-linked, has-value, item-behind}
use Rattle.ccr_port.proofs.items.Items.behind.Goals as goal

pub index-requires : goal.index-requires
index-requires c = has-value c.self.inside.entries c.self.inside.first c.self.inside.last c.self.inside.count c.self.invariant c.args.key (has-linked c.self.inside.entries c.self.inside.first c.self.inside.last c.self.inside.count c.self.invariant c.args.key (rw (← c.self.view_is) at c.requires))

pub returns : goal.returns
returns c = rw (← c.self.view_is) (item-behind c.self.inside.entries c.self.inside.first c.self.inside.last c.self.inside.count c.self.invariant c.args.key (has-linked c.self.inside.entries c.self.inside.first c.self.inside.last c.self.inside.count c.self.invariant c.args.key (rw (← c.self.view_is) at c.requires)) c.index.result.now c.index.ensures)

use Rattle.ccr_port.proofs.ItemLinks.{has-linked, has-value, before-kept, behind-kept, items-taken, entries-taken, message-taken}
use Rattle.ccr_port.proofs.items.Items.take.Goals as goal

pub index-requires : goal.index-requires
index-requires c = has-value c.self.inside.entries c.self.inside.first c.self.inside.last c.self.inside.count c.self.invariant c.args.key (has-linked c.self.inside.entries c.self.inside.first c.self.inside.last c.self.inside.count c.self.invariant c.args.key (rw (← c.self.view_is) at c.requires))

pub set_behind-requires : goal.set_behind-requires
set_behind-requires c = before-kept c.self.inside.entries c.self.inside.first c.self.inside.last c.self.inside.count c.self.invariant c.args.key (has-linked c.self.inside.entries c.self.inside.first c.self.inside.last c.self.inside.count c.self.invariant c.args.key (rw (← c.self.view_is) at c.requires)) c.index.result.now c.index.ensures

pub set_before-requires : goal.set_before-requires
set_before-requires c = behind-kept c.self.inside.entries c.self.inside.first c.self.inside.last c.self.inside.count c.self.invariant c.args.key (has-linked c.self.inside.entries c.self.inside.first c.self.inside.last c.self.inside.count c.self.invariant c.args.key (rw (← c.self.view_is) at c.requires)) c.index.result.now c.index.ensures
    c.set_behind.new.entries c.set_behind.new.first c.set_behind.ensures.behind c.set_behind.ensures.before c.set_behind.ensures.messages

pub invariant_of-self : goal.invariant_of-self
invariant_of-self c = (items-taken c.self.inside.entries c.self.inside.first c.self.inside.last c.self.inside.count c.self.invariant c.args.key (has-linked c.self.inside.entries c.self.inside.first c.self.inside.last c.self.inside.count c.self.invariant c.args.key (rw (← c.self.view_is) at c.requires)) c.index.result.now c.index.ensures
    c.set_behind.new.entries c.set_behind.new.first c.set_behind.ensures.behind c.set_behind.ensures.before c.set_behind.ensures.messages
    c.set_before.new.entries c.remove-message.new.self c.set_before.new.last c.set_before.ensures.before c.set_before.ensures.behind c.set_before.ensures.messages c.remove-message.ensures.updates).linked

pub returns-clause-message : goal.returns-clause-message
returns-clause-message c = rw (← c.self.view_is) (message-taken c.self.inside.entries c.self.inside.first c.self.inside.last c.self.inside.count c.self.invariant c.args.key (has-linked c.self.inside.entries c.self.inside.first c.self.inside.last c.self.inside.count c.self.invariant c.args.key (rw (← c.self.view_is) at c.requires)) c.index.result.now c.index.ensures
    c.set_behind.new.entries c.set_behind.new.first c.set_behind.ensures.behind c.set_behind.ensures.before c.set_behind.ensures.messages
    c.set_before.new.entries c.remove-message.new.self c.set_before.new.last c.set_before.ensures.before c.set_before.ensures.behind c.set_before.ensures.messages c.remove-message.ensures.updates
    c.remove-message.result c.remove-message.ensures.value)

pub returns-clause-rest : goal.returns-clause-rest
returns-clause-rest c = rw (← c.self.view_is) (entries-taken c.self.inside.entries c.self.inside.first c.self.inside.last c.self.inside.count c.self.invariant c.args.key (has-linked c.self.inside.entries c.self.inside.first c.self.inside.last c.self.inside.count c.self.invariant c.args.key (rw (← c.self.view_is) at c.requires)) c.index.result.now c.index.ensures
    c.set_behind.new.entries c.set_behind.new.first c.set_behind.ensures.behind c.set_behind.ensures.before c.set_behind.ensures.messages
    c.set_before.new.entries c.remove-message.new.self c.set_before.new.last c.set_before.ensures.before c.set_before.ensures.behind c.set_before.ensures.messages c.remove-message.ensures.updates)

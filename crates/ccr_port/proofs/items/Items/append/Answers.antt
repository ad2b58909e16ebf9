use Rattle.std.proofs.Common.{◌∙◌, ap, arith}
use Rattle.ccr_port.specs.Entries.{linked_keys}
use Rattle.ccr_port.specs.Chains.{has_key}
use Rattle.ccr_port.proofs.ItemLinks.{last-kept, items-appended, entries-appended, absent, keys-entries, length-entries}
use Rattle.ccr_port.proofs.items.Items.append.Goals as goal

pub set_behind-requires : goal.set_behind-requires
set_behind-requires c = last-kept c.self.inside.entries c.self.inside.first c.self.inside.last c.self.inside.count c.self.invariant c.insert.new.self c.in-Ok.key c.args.message c.in-Ok.ensures.was_vacant c.in-Ok.ensures.updates

pub overflow_add-self : goal.overflow_add-self
overflow_add-self c =
    let few = rw (← c.self.view_is, length-entries c.self.inside.entries (linked_keys c.self.inside.entries c.self.inside.first c.self.inside.count) c.self.invariant.kept, c.self.invariant.long) at c.requires in
    omega (arith, few)

pub invariant_of-self : goal.invariant_of-self
invariant_of-self c =
    (items-appended c.self.inside.entries c.self.inside.first c.self.inside.last c.self.inside.count c.self.invariant c.insert.new.self c.in-Ok.key c.args.message c.in-Ok.ensures.was_vacant c.in-Ok.ensures.updates c.set_behind.new.entries c.set_behind.new.first c.set_behind.ensures.behind c.set_behind.ensures.before c.set_behind.ensures.messages).linked

pub invariant_of-self-in-Err : goal.invariant_of-self-in-Err
invariant_of-self-in-Err c = rw c.in-Err.ensures.err (record { chain = c.self.invariant.chain; long = c.self.invariant.long; kept = c.self.invariant.kept })

pub returns-in-Ok-clause-ok : goal.returns-in-Ok-clause-ok
returns-in-Ok-clause-ok c = rw (← c.self.view_is)
    (entries-appended c.self.inside.entries c.self.inside.first c.self.inside.last c.self.inside.count c.self.invariant c.insert.new.self c.in-Ok.key c.args.message c.in-Ok.ensures.was_vacant c.in-Ok.ensures.updates c.set_behind.new.entries c.set_behind.new.first c.set_behind.ensures.behind c.set_behind.ensures.before c.set_behind.ensures.messages)

pub returns-in-Ok-clause-fresh : goal.returns-in-Ok-clause-fresh
returns-in-Ok-clause-fresh c = rw (← c.self.view_is)
    (ap (has_key c.in-Ok.key) (keys-entries c.self.inside.entries (linked_keys c.self.inside.entries c.self.inside.first c.self.inside.count) c.self.invariant.kept)
    ∙ absent c.self.inside.entries c.self.inside.first c.self.inside.last c.self.inside.count c.self.invariant c.in-Ok.key c.in-Ok.ensures.was_vacant)

pub returns-in-Err-clause-err : goal.returns-in-Err-clause-err
returns-in-Err-clause-err c = rw c.in-Err.ensures.err c.self.view_is

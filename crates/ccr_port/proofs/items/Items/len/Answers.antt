use Rattle.std.proofs.Common.{◌∙◌, sym, ap}
use Rattle.ccr_base.specs.Lists.{are_apart}
use Rattle.ccr_port.specs.Entries.{linked_keys}
use Rattle.ccr_port.proofs.ItemLinks.{keys-entries, length-entries}
use Rattle.ccr_port.proofs.items.Items.len.Goals as goal

pub returns-clause-len : goal.returns-clause-len
returns-clause-len c = rw (← c.self.view_is)
    (sym (length-entries c.self.inside.entries (linked_keys c.self.inside.entries c.self.inside.first c.self.inside.count) c.self.invariant.kept ∙ c.self.invariant.long))

pub returns-clause-apart : goal.returns-clause-apart
returns-clause-apart c = rw (← c.self.view_is)
    (ap are_apart (keys-entries c.self.inside.entries (linked_keys c.self.inside.entries c.self.inside.first c.self.inside.count) c.self.invariant.kept) ∙ c.self.invariant.chain.apart)

use Rattle.std.proofs.Common.{◌∙◌, ap}
use Rattle.std.specs.Prelude.{option_map}
use Rattle.ccr_port.specs.declared.items.LinkedMessage.{LinkedMessage}
use Rattle.ccr_port.specs.Entries.{linked_keys}
use Rattle.ccr_port.proofs.ItemLinks.{has-linked, has-value, under-is}
use Rattle.ccr_port.proofs.items.Items.message.Goals as goal

pub index-entry-requires : goal.index-entry-requires
index-entry-requires c = has-value c.self.inside.entries c.self.inside.first c.self.inside.last c.self.inside.count c.self.invariant c.args.key (has-linked c.self.inside.entries c.self.inside.first c.self.inside.last c.self.inside.count c.self.invariant c.args.key (rw (← c.self.view_is) at c.requires))

pub returns : goal.returns
returns c = rw (← c.self.view_is)
    (under-is c.self.inside.entries c.args.key (linked_keys c.self.inside.entries c.self.inside.first c.self.inside.count) c.self.invariant.kept (has-linked c.self.inside.entries c.self.inside.first c.self.inside.last c.self.inside.count c.self.invariant c.args.key (rw (← c.self.view_is) at c.requires))
    ∙ ap (λ o. option_map (λ (e : LinkedMessage). e.message) o) c.index-entry.ensures)

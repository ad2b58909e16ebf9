use Rattle.std.proofs.Common.{◌∙◌, sym, ap, None}
use Rattle.std.specs.List.{slice_get}
use Rattle.ccr_port.specs.Chains.{behind_of}
use Rattle.ccr_port.specs.Entries.{linked_keys, link_at}
use Rattle.ccr_port.proofs.Chains.{path-head}
use Rattle.ccr_port.proofs.ItemLinks.{keys-entries}
use Rattle.ccr_port.proofs.items.Items.first.Goals as goal

pub returns : goal.returns
returns c = rw (← c.self.view_is)
    (path-head (behind_of (link_at c.self.inside.entries) c.self.inside.first) None (linked_keys c.self.inside.entries c.self.inside.first c.self.inside.count) c.self.invariant.chain.path
    ∙ ap (λ l. slice_get l 0) (sym (keys-entries c.self.inside.entries (linked_keys c.self.inside.entries c.self.inside.first c.self.inside.count) c.self.invariant.kept)))

use Rattle.std.proofs.Common.{sym, ◌∙◌, ap}
use Rattle.ccr_text.specs.Names.{meaning_of}
use Rattle.ccr_text.proofs.NamesSeen.{named-seen}
use Rattle.ccr_text.proofs.names.Names.get.Goals as goal

pub returns : goal.returns
returns g c = c.copied.ensures ∙ c.get.ensures.value ∙ sym (named-seen c.self.inside.entries.entries c.args.name.now) ∙ ap (λ names. meaning_of names c.args.name.now) c.self.view_is

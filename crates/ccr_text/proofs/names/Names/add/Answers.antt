use Rattle.std.proofs.Common.{◌≡◌, refl, ◌∙◌, ap, None}
use Rattle.ccr_text.specs.Names.{meaning_of}
use Rattle.ccr_text.proofs.NamesSeen.{seen, seen-insert}
use Rattle.ccr_text.proofs.names.Names.add.Goals as goal

pub returns : goal.returns
returns g c =
    let new : meaning_of (seen c.self.inside.entries.entries) c.in_ok-name.name.items ≡ None = rw (c.in_ok-name.ensures.items, c.self.view_is) c.requires in
    ap seen c.in_ok-insert.ensures.entries ∙ seen-insert c.self.inside.entries.entries c.in_ok-name.name c.args.what new ∙ rw (c.in_ok-name.ensures.items, c.self.view_is) refl

use Rattle.std.proofs.Common.{◌≡◌, false, refl, ◌∙◌, ap}
use Rattle.std.specs.List.{list_any}
use Rattle.std.specs.Str.{bytes_eq}
use Rattle.ccr_trace.proofs.Numbered.{seen, seen-insert}
use Rattle.ccr_trace.proofs.numbered_names.NumberedNames.add.Goals as goal

pub returns : goal.returns
returns c =
    let fresh : list_any (bytes_eq c.args.name.now) (seen c.self.inside.names.keys) ≡ false = rw c.self.view_is c.requires.fresh in
    ap seen c.in_ok-insert.ensures.keys ∙ seen-insert c.self.inside.names.keys c.args.name fresh ∙ rw c.self.view_is refl

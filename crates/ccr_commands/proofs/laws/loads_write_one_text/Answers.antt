use Rattle.std.proofs.Common.{sym, ap, ◌∙◌}
use Rattle.ccr_commands.specs.Loads.{load_text}
use Rattle.ccr_commands.proofs.laws.loads_write_one_text.Goals as goal

pub returns : goal.returns
returns c = λ size workers others json one other many a b.
    let alike = c.loads_are_alike.ensures.alike size many a.history b.history (record { legal = a.legal; quiet = a.quiet; complete = a.complete }) (record { legal = b.legal; quiet = b.quiet; complete = b.complete }) in
    a.written ∙ (ap (load_text size json) alike.totals ∙ sym b.written)

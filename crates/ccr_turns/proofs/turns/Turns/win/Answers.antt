use Rattle.std.proofs.Common.{◌∷◌, ◌∙◌, ap, sym, Some}
use Rattle.atomic_table.specs.Table.{rest}
use Rattle.ccr_turns.proofs.turns.Turns.win.Goals as goal

pub exchange-requires : goal.exchange-requires
exchange-requires g c =
    let t = c.lock.ensures.won in
    let e = ap (λ m. m.1) t.1 in
    (c.lock.ensures.tied ∙ c.requires.0, (Some t.0, e ∙ ap (λ l. (c.args.place, Some t.0) ∷ rest l) (sym e)))

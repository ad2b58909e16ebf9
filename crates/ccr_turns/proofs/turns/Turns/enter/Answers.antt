use Rattle.std.proofs.Common.{◌∷◌, ◌∙◌, None, ap, sym, Some, arith}
use Rattle.atomic_table.specs.Table.{rest}
use Rattle.ccr_turns.specs.Views.{view}
use Rattle.ccr_turns.specs.Logs.{noted, log_entry}
use Rattle.ccr_turns.specs.Lists.{last_of}
use Rattle.ccr_turns.specs.Histories.{history_stamps}
use Rattle.ccr_turns.proofs.StepsKeepTheRule.{enters_at}
use Rattle.ccr_turns.proofs.turns.Turns.enter.Goals as goal

pub swap-found-requires : goal.swap-found-requires
swap-found-requires g c =
    let key = c.args.self.now.table.shared.key in
    let t = c.requires.entry in (
      c.exchange-out.ensures.0 ∙ c.requires.tied.0,
      rw c.args.self.now.places.0 c.requires.tied.1,
      enters_at g.O.Kept.value g.O.Kept.after g.O.Kept.may g.O.Kept.seen key.keep key.objects.value key.seats _ _ _ _ t.number t.logged _ t.before t.now c.args.cell t.entry t.me c.exchange-out.ensures.3 t.history t.object t.sifted t.given t.seat t.stamp (let a = t.sifted.2 in let b = c.entry_count-count.ensures in let d = c.entry_count-count.type_inv in omega arith),
    )

pub returns-clause-entered : goal.returns-clause-entered
returns-clause-entered g c =
    let x = c.exchange-out.ensures.3 in
    let told = c.swap-found.ensures.2 in
    let last = ap (λ m. m.1) x in
    let first = ap (λ m. m.0) x in (
      told.0 ∙ (ap rest last ∙ ap (λ m. rest m.1) c.requires.entry.me),
      λ e h is-h is-e. told.1 c.args.cell e h (ap (λ v. v.hold) first ∙ is-h) (last ∙ ap (λ l. (c.args.place, Some c.args.cell) ∷ rest l) (sym last)) is-e
          ∙ ap (λ v. view (noted v.logs (log_entry h.place e.stamp e.note h.now (last_of 0 (history_stamps h.history)))) None) first,
    )

use Rattle.std.proofs.Common.{◌+◌, ◌++◌, ◌∷◌, [], ◌∙◌, ap, sym, refl, arith, length, length-append}
use Rattle.std.proofs.lemmas.List.Elements.{filter-append}
use Rattle.ccr_turns.specs.Lists.{last_of}
use Rattle.ccr_turns.specs.Histories.{history_stamps, keeps, sifted, past}
use Rattle.ccr_turns.specs.declared.history.Held.{Held}
use Rattle.ccr_turns.proofs.Acting.{last_stamp}
use Rattle.ccr_turns.proofs.turns.cell.play.Goals as goal

pub returns-clause-acted : goal.returns-clause-acted
returns-clause-acted g c =
    let acted = c.in_ok-reply.ensures in
    let e : Held _ = record { seat = c.args.number; stamp = c.max-stamp.result + 1; note = c.in_ok-reply.note } in (
      (let a = c.requires.sifted.1 in let b = c.max-stamp.ensures in omega arith),
      (
        e,
        c.more-history.ensures,
        acted.next,
        acted.given,
        refl,
        refl,
      ),
    )

pub returns-clause-sifted : goal.returns-clause-sifted
returns-clause-sifted g c =
    let e : Held _ = record { seat = c.args.number; stamp = c.max-stamp.result + 1; note = c.in_ok-reply.note } in
    let kept = keeps c.args.cell.now.keep g.O.Kept.seen in
    let before = past c.args.cell.now in
    let more = c.more-history.ensures in (
      c.add.ensures ∙ (ap (λ l. l ++ sifted kept (e ∷ [])) (c.reserve.ensures.items ∙ c.requires.sifted.0)
          ∙ (sym (filter-append (λ (d : Held _). kept d.note) before (e ∷ [])) ∙ sym (ap (sifted kept) more))),
      sym (last_stamp before e) ∙ sym (ap (λ l. last_of 0 (history_stamps l)) more),
      ap length more ∙ (length-append before (e ∷ []) ∙ ap (λ n. n + 1) c.requires.sifted.2),
    )

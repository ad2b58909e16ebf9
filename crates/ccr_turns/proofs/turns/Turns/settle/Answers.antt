use Rattle.std.proofs.Common.{◌≡◌, ◌++◌, ◌∙◌, map, length, sym, ap, subst}
use Rattle.std.proofs.lemmas.List.{length-map}
use Rattle.std.specs.Option.{option_to_list}
use Rattle.std.specs.Slots.{slots_items}
use Rattle.ccr_turns.specs.Rule.{Settled}
use Rattle.ccr_turns.specs.Histories.{keeps}
use Rattle.ccr_turns.specs.Locks.{full_log}
use Rattle.ccr_turns.proofs.Ends.{closes}
use Rattle.ccr_turns.proofs.turns.Turns.settle.Goals as goal

pub returns-clause-settled : goal.returns-clause-settled
returns-clause-settled g c =
    let key = c.args.self.table.shared.key in
    let whole = c.pop.ensures.items ∙ ap (λ o. c.pop.new.self.items ++ option_to_list o) c.unwrap-last.ensures in
    let logs = c.gather-token.ensures.logs ∙ ap (map full_log) (sym whole) in
    let all : length c.gather-token.result.me.0.logs ≡ key.seats = ap length logs ∙ (length-map c.args.seats.items full_log ∙ c.requires.all) in
    subst (Settled g.O.Kept.value g.O.Kept.after g.O.Kept.may (keeps key.keep g.O.Kept.seen) key.objects.value key.seats (slots_items c.close_with.result.slots)) logs
    (closes g.O.Kept.value g.O.Kept.after g.O.Kept.may g.O.Kept.seen key.keep key.objects.value key.seats _ _ _ _ c.gather-token.ensures.idle.0 all c.close_with.ensures.values.2)

use Rattle.std.proofs.Common.{◌+◌, true, false, refl, sym, ap, ◌∙◌, subst}
use Rattle.ccr_base.specs.Lists.{has_number}
use Rattle.ccr_claim.specs.declared.asks.Asked.{Asked}
use Rattle.ccr_claim.specs.Asks.{is_refusable}
use Rattle.ccr_actor.specs.Acting.{Acting, shortened}
use Rattle.ccr_net.specs.Schedules.{IsAnswered}
use Rattle.ccr_plain.proofs.RefusedActorsGoOn.{refusable, taken_turn}
use Rattle.ccr_plain.proofs.shortages.make_ask.Goals as goal

pub answer-requires-clause-met : goal.answer-requires-clause-met
answer-requires-clause-met c = c.requires.met (record { place = c.ask-place.result.0; ask = c.ask-place.result.1 }) c.ask-place.ensures.asked

pub returns-then-settles : goal.returns-then-settles
returns-then-settles c =
    let one : Asked = record { place = c.ask-place.result.0; ask = c.ask-place.result.1 } in
    let made = subst (λ (x : Acting). IsAnswered c.args.places.now x c.args.entries.now.items one.place one.ask c.answer.new.places c.answer.new.actor c.answer.new.entries.items) c.ask-place.ensures.sent c.in_ok-answer.ensures in
    taken_turn true (has_number c.args.refused.now c.args.asks) c.args.refused.now c.args.asks c.args.places.now c.args.actor.now c.args.entries.now.items c.answer.new.places c.answer.new.actor c.answer.new.entries.items c.args.asks one c.ask-place.ensures.asked (sym c.settles.ensures ∙ c.if-settles.true) refl (made, refl)

pub hear-requires : goal.hear-requires
hear-requires c = ap is_refusable c.ask-place.ensures.due ∙ refusable c.ask-place.result.1 (sym c.settles.ensures ∙ c.if-settles.false)

pub returns-then-is_refused : goal.returns-then-is_refused
returns-then-is_refused c =
    let one : Asked = record { place = c.ask-place.result.0; ask = c.ask-place.result.1 } in
    taken_turn false true c.args.refused.now c.args.asks c.args.places.now c.args.actor.now c.args.entries.now.items c.args.places.now c.hear.new.self c.args.entries.now.items (c.args.asks + 1) one c.ask-place.ensures.asked (sym c.settles.ensures ∙ c.if-settles.false) (sym c.is_refused.ensures ∙ c.if-is_refused.true) (c.hear.ensures.after ∙ ap shortened c.ask-place.ensures.sent, (refl, (refl, refl)))

pub answer-requires-2-clause-met : goal.answer-requires-2-clause-met
answer-requires-2-clause-met c = c.requires.met (record { place = c.ask-place.result.0; ask = c.ask-place.result.1 }) c.ask-place.ensures.asked

pub returns : goal.returns
returns c =
    let one : Asked = record { place = c.ask-place.result.0; ask = c.ask-place.result.1 } in
    let made = subst (λ (x : Acting). IsAnswered c.args.places.now x c.args.entries.now.items one.place one.ask c.answer-2.new.places c.answer-2.new.actor c.answer-2.new.entries.items) c.ask-place.ensures.sent c.in_ok-answer-2.ensures in
    taken_turn false false c.args.refused.now c.args.asks c.args.places.now c.args.actor.now c.args.entries.now.items c.answer-2.new.places c.answer-2.new.actor c.answer-2.new.entries.items (c.args.asks + 1) one c.ask-place.ensures.asked (sym c.settles.ensures ∙ c.if-settles.false) (sym c.is_refused.ensures ∙ c.if-is_refused.false) (made, refl)

use Rattle.std.proofs.Common.{◌+◌, [], ◌∷◌, length, take, sym, ◌∙◌, ap, ℕ, arith}
use Rattle.std.proofs.lemmas.Grind.{common_steps}
use Rattle.ccr_model.specs.declared.history.Event.{Event}
use Rattle.ccr_model.specs.Firings.{fired_at}
use Rattle.ccr_report.proofs.SpotCounts.{fired_at-le, fired_at-more}
use Rattle.ccr_report.proofs.spots.firings_at.Goals as goal

pub count_event-requires : goal.count_event-requires
count_event-requires c = λ spot. grind (arith, common_steps, c.loop-event.invariant spot, fired_at-le (take c.loop-event.event-index c.args.events.now) spot)

pub loop-event-preserved : goal.loop-event-preserved
loop-event-preserved c = λ spot.
    c.in_ok-count_event.ensures spot
    ∙ ap (λ (n : ℕ). n + length (fired_at (c.event-item.result ∷ []) spot)) (c.loop-event.invariant spot)
    ∙ ap (λ (event : Event). length (fired_at (take c.loop-event.event-index c.args.events.now) spot) + length (fired_at (event ∷ []) spot)) c.event-item.is
    ∙ sym (fired_at-more c.args.events.now c.loop-event.event-index c.event-item.result spot c.loop-event-test.true)

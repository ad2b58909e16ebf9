use Rattle.std.proofs.Common.{[], ◌∷◌, sym, ◌∙◌, ap, take, Option}
use Rattle.std.specs.Option.{option_or}
use Rattle.ccr_base.specs.declared.names.Spot.{Spot}
use Rattle.ccr_model.specs.declared.history.Event.{Event}
use Rattle.ccr_model.specs.Firings.{spot_of}
use Rattle.ccr_report.proofs.SpotsOf.{spot_of-more}
use Rattle.ccr_report.proofs.tasks.spots_of_tasks.Goals as goal

pub loop-event-preserved : goal.loop-event-preserved
loop-event-preserved c = λ task.
    c.in_ok-note_firing.ensures task
    ∙ ap (λ (found : Option Spot). option_or found (spot_of (c.event-item.result ∷ []) task)) (c.loop-event.invariant task)
    ∙ ap (λ (event : Event). option_or (spot_of (take c.loop-event.event-index c.args.events.now) task) (spot_of (event ∷ []) task)) c.event-item.is
    ∙ sym (spot_of-more c.args.events.now c.loop-event.event-index c.event-item.result task c.loop-event-test.true)

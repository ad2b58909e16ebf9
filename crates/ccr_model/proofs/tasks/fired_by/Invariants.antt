use Rattle.std.proofs.Common.{◌≡◌, take}
use Rattle.ccr_model.specs.Tasks.{fired_by}
use Rattle.ccr_model.specs.Views.{means}
use Rattle.ccr_model.proofs.tasks.fired_by.Given as goal

abbrev pub invariant-loop-event : goal.invariant-loop-event
invariant-loop-event l = l.tasks.items ≡ fired_by l.wiring (means l.which) (take l.event-index l.events)

use Rattle.std.proofs.Common.{◌≡◌, take}
use Rattle.ccr_model.specs.Firings.{started}
use Rattle.ccr_model.proofs.firings.started.Given as goal

abbrev pub invariant-loop-event : goal.invariant-loop-event
invariant-loop-event l = l.tasks.items ≡ started (take l.event-index l.events)

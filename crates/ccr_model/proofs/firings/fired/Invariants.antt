use Rattle.std.proofs.Common.{◌≡◌, take}
use Rattle.ccr_model.specs.Firings.{fired}
use Rattle.ccr_model.proofs.firings.fired.Given as goal

abbrev pub invariant-loop-event : goal.invariant-loop-event
invariant-loop-event l = l.tasks.items ≡ fired (take l.event-index l.events)

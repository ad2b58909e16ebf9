use Rattle.std.proofs.Common.{◌≡◌, take}
use Rattle.ccr_model.specs.Firings.{yielded}
use Rattle.ccr_model.proofs.firings.yielded.Given as goal

abbrev pub invariant-loop-event : goal.invariant-loop-event
invariant-loop-event l = l.tasks.items ≡ yielded (take l.event-index l.events)

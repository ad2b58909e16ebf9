use Rattle.std.proofs.Common.{◌≡◌, take}
use Rattle.ccr_model.specs.Firings.{ever_admitted}
use Rattle.ccr_model.proofs.firings.ever_admitted.Given as goal

abbrev pub invariant-loop-event : goal.invariant-loop-event
invariant-loop-event l = l.tasks.items ≡ ever_admitted (take l.event-index l.events)

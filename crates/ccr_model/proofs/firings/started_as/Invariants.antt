use Rattle.std.proofs.Common.{◌≡◌, take, flat_map}
use Rattle.ccr_model.specs.Tasks.{started_as}
use Rattle.ccr_model.proofs.firings.started_as.Given as goal

abbrev pub invariant-loop-event : goal.invariant-loop-event
invariant-loop-event l = l.tasks.items ≡ flat_map (started_as l.by) (take l.event-index l.events)

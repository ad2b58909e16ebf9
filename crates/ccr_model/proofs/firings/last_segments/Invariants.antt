use Rattle.std.proofs.Common.{◌≡◌, take}
use Rattle.ccr_model.specs.Firings.{last_segments}
use Rattle.ccr_model.proofs.firings.last_segments.Given as goal

abbrev pub invariant-loop-event : goal.invariant-loop-event
invariant-loop-event l = l.tasks.items ≡ last_segments (take l.event-index l.events)

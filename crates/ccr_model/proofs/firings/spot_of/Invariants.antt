use Rattle.std.proofs.Common.{◌≡◌, drop}
use Rattle.ccr_model.specs.Firings.{spot_of}
use Rattle.ccr_model.proofs.firings.spot_of.Given as goal

abbrev pub invariant-loop-event : goal.invariant-loop-event
invariant-loop-event l = spot_of l.events l.task ≡ spot_of (drop l.event-index l.events) l.task

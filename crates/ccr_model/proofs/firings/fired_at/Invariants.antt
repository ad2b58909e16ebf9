use Rattle.std.proofs.Common.{◌≡◌, take}
use Rattle.ccr_model.specs.Firings.{fired_at}
use Rattle.ccr_model.proofs.firings.fired_at.Given as goal

abbrev pub invariant-loop-event : goal.invariant-loop-event
invariant-loop-event l = l.tasks.items ≡ fired_at (take l.event-index l.events) l.at

use Rattle.std.proofs.Common.{◌≡◌, ◌≤◌, take, length}
use Rattle.ccr_model.specs.Firings.{firings}
use Rattle.ccr_report.proofs.counts.fired_count.Given as goal

abbrev pub invariant-loop-event : goal.invariant-loop-event
invariant-loop-event l = (l.count ≡ length (firings (take l.event-index l.events))) × (l.count ≤ l.event-index)

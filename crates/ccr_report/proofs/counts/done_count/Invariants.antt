use Rattle.std.proofs.Common.{◌≡◌, ◌≤◌, take, length, filter}
use Rattle.ccr_model.specs.Counts.{is_done}
use Rattle.ccr_report.proofs.counts.done_count.Given as goal

abbrev pub invariant-loop-event : goal.invariant-loop-event
invariant-loop-event l = (l.count ≡ length (filter is_done (take l.event-index l.events))) × (l.count ≤ l.event-index)

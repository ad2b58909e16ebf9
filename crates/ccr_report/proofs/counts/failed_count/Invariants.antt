use Rattle.std.proofs.Common.{◌≡◌, ◌≤◌, take, length, filter}
use Rattle.ccr_model.specs.Counts.{is_failed}
use Rattle.ccr_report.proofs.counts.failed_count.Given as goal

abbrev pub invariant-loop-event : goal.invariant-loop-event
invariant-loop-event l = (l.count ≡ length (filter is_failed (take l.event-index l.events))) × (l.count ≤ l.event-index)

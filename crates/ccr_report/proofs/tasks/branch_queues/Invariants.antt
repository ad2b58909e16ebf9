use Rattle.std.proofs.Common.{◌≡◌, take, flat_map}
use Rattle.ccr_report.specs.Counting.{queues_in}
use Rattle.ccr_report.proofs.tasks.branch_queues.Given as goal

abbrev pub invariant-loop-arbiter : goal.invariant-loop-arbiter
invariant-loop-arbiter l = l.queues.items ≡ flat_map queues_in (take l.arbiter-index l.parts.arbiters)

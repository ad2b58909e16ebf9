use Rattle.std.proofs.Common.{◌≡◌, ◌++◌, take, map}
use Rattle.ccr_wiring.specs.declared.parts.BranchPart.{BranchPart}
use Rattle.ccr_report.proofs.tasks.add_queues.Given as goal

abbrev pub invariant-loop-part : goal.invariant-loop-part
invariant-loop-part l = l.queues.items ≡ l.fn.queues.items ++ map (λ (part : BranchPart). part.queue) (take l.part-index l.arbiter.branches)

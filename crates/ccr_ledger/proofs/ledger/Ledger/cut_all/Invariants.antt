use Rattle.std.proofs.Common.{◌≡◌, drop}
use Rattle.ccr_ledger.specs.Firing.{after_cuts}
use Rattle.ccr_ledger.proofs.ledger.Ledger.cut_all.Given as goal

abbrev pub invariant-loop-task : goal.invariant-loop-task
invariant-loop-task l = after_cuts (drop l.task-index l.tasks) l.self ≡ after_cuts l.tasks l.initial.self

use Rattle.std.proofs.Common.{◌≡◌, drop}
use Rattle.std.specs.List.{list_any}
use Rattle.ccr_base.specs.declared.names.TaskId.{TaskId}
use Rattle.ccr_ledger.specs.declared.cards.Card.{Card}
use Rattle.ccr_ledger.specs.Asked.{is_ready}
use Rattle.ccr_checker.specs.LeftInTables.{has_ready}
use Rattle.ccr_checker.proofs.left.has_ready.Given as goal

abbrev pub invariant-loop-number : goal.invariant-loop-number
invariant-loop-number l = list_any (λ (entry : TaskId × Card). is_ready l.ledger entry.0) (drop l.number l.ledger.tasks) ≡ has_ready l.ledger

use Rattle.std.proofs.Common.{◌≡◌, ◌≤◌, ◌+◌, length, drop, filter}
use Rattle.ccr_ledger.specs.declared.cards.Runner.{Runner}
use Rattle.ccr_ledger.specs.Asked.{has_more}
use Rattle.ccr_ledger.proofs.ledger.Ledger.unfinished.Given as goal

abbrev pub invariant-loop-runner : goal.invariant-loop-runner
invariant-loop-runner l = record {
  left : l.count + length (filter (λ (r : Runner). has_more l.self r.task) (drop l.runner-index l.self.running)) ≡ length (filter (λ (r : Runner). has_more l.self r.task) l.self.running);
  few : l.count ≤ l.runner-index;
}

use Rattle.std.proofs.Common.{◌≡◌, ◌++◌, map}
use Rattle.ccr_runs.proofs.dealing.histories_of.Given as goal

abbrev pub invariant-loop-history : goal.invariant-loop-history
invariant-loop-history g l = map (λ history. history.items) l.histories.items ++ map (λ left. left.1) l.history-iterator.rest.items ≡ map (λ left. left.1) l.fn.kept.items

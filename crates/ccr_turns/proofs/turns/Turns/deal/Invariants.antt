use Rattle.std.proofs.Common.{◌≡◌, ℕ, ◌+◌, ◌≤◌, [], None, map, vec_len, vec_capacity}
use Rattle.std.specs.Prelude.{All}
use Rattle.std.specs.List.{range_with_len}
use Rattle.ccr_turns.specs.Logs.{fresh}
use Rattle.ccr_turns.specs.Views.{view}
use Rattle.ccr_turns.specs.Locks.{IsSeatOf, number_of, log_of}
use Rattle.ccr_turns.proofs.turns.Turns.deal.Given as goal

abbrev pub invariant-loop-number : goal.invariant-loop-number
invariant-loop-number g l =
    (l.token.table_id ≡ l.self.table.shared.table_id)
    × ((left : ℕ) × (left + l.number ≡ l.fn.seats) × (l.token.me ≡ (view (fresh l.number left) None, [])))
    × (vec_len l.dealt ≡ l.number)
    × (l.fn.seats ≤ vec_capacity l.dealt)
    × All (λ s. IsSeatOf l.self s) l.dealt.items
    × (map number_of l.dealt.items ≡ range_with_len 0 l.number)
    × All (λ s. log_of s ≡ []) l.dealt.items

use Rattle.std.proofs.Common.{◌≡◌, List, [], ◌∷◌, ◌++◌, None, map}
use Rattle.std.specs.Prelude.{All}
use Rattle.ccr_turns.specs.Locks.{IsSeatOf, full_log}
use Rattle.ccr_turns.proofs.turns.Turns.gather.Given as goal

abbrev pub invariant-loop-seat : goal.invariant-loop-seat
invariant-loop-seat g l =
    (l.token.table_id ≡ l.self.table.shared.table_id)
    × (l.token.me.0.hold ≡ None)
    × (l.token.me.1 ≡ [])
    × All (λ s. IsSeatOf l.self s) l.seats.items
    × ((rest : List _) × (l.fn.seats.items ++ l.fn.last ∷ [] ≡ l.seats.items ++ rest) × (l.token.me.0.logs ≡ map full_log rest))

abbrev pub decreases-loop-seat : goal.decreases-loop-seat
decreases-loop-seat g l = goal.left-loop-seat g l

use Rattle.std.proofs.Common.{◌≡◌, ◌++◌, [], map}
use Rattle.std.specs.Prelude.{All}
use Rattle.ccr_turns.specs.Locks.{IsSeatOf, number_of, log_of}
use Rattle.ccr_space.specs.Spaces.{IsPassOf, log, number}
use Rattle.ccr_space.proofs.space.make.Space.deal.Given as goal

abbrev pub invariant-loop-seat : goal.invariant-loop-seat
invariant-loop-seat l =
    All (λ seat. IsSeatOf l.self.turns seat) l.seat-iterator.rest.items
    × All (λ seat. log_of seat ≡ []) l.seat-iterator.rest.items
    × (map number l.passes.items ++ map number_of l.seat-iterator.rest.items ≡ map number_of l.fn.seats.items)
    × All (λ pass. IsPassOf l.self pass) l.passes.items
    × All (λ pass. log pass ≡ []) l.passes.items

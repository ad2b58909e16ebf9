use Rattle.std.proofs.Common.{◌≡◌, ◌+◌, ◌≤◌, ◌++◌, length, map, vec_capacity}
use Rattle.ccr_space.proofs.space.close.seats_of.Given as goal

abbrev pub invariant-loop-pass : goal.invariant-loop-pass
invariant-loop-pass l =
    (l.seats.items ++ map (λ pass. pass.seat) l.pass-iterator.rest.items ≡ map (λ pass. pass.seat) l.fn.passes.items)
    × (length l.seats.items + length l.pass-iterator.rest.items ≤ vec_capacity l.seats)

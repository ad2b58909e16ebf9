use Rattle.std.proofs.Common.{◌≡◌, ◌++◌, ◌≤◌, length, vec_len, vec_capacity}
use Rattle.std.specs.List.{AllZip}
use Rattle.ccr_turns.specs.Seated.{IsLaid}
use Rattle.ccr_turns.proofs.turns.make.cells.Given as goal

abbrev pub invariant-loop-object : goal.invariant-loop-object
invariant-loop-object g l =
    (l.fn.objects.items ≡ l.yielded ++ l.object-iterator.rest.items)
    × (vec_len l.slots ≡ length l.yielded)
    × (length l.fn.objects.items ≤ vec_capacity l.slots)
    × AllZip (IsLaid l.fn.keep) l.yielded l.slots.items

use Rattle.std.proofs.Common.{◌≡◌, ℕ, ◌<◌, ◌≤◌, false, get_or, vec_len, vec_capacity, Some}
use mathlib.Core.Option.{some}
use lib.ListN.{get_elem?}
use Rattle.std.specs.Mem.Slots.{slots_filled, slots_len, slots_items}
use Rattle.std.specs.Mem.Slots.Ownership.{Filled}
use Rattle.ccr_turns.specs.declared.history.Cell.{Cell}
use Rattle.ccr_turns.proofs.turns.close.lift.Given as goal

abbrev pub invariant-loop-place : goal.invariant-loop-place
invariant-loop-place g l =
    Filled (slots_filled l.closed.slots) l.place (slots_len l.closed.slots)
    × ((k : ℕ) → k < l.place → get_or (slots_filled l.closed.slots) k false ≡ false)
    × (slots_items l.closed.slots ≡ slots_items l.initial.closed.slots)
    × (slots_len l.closed.slots ≡ l.place-end)
    × (vec_len l.kept ≡ l.place)
    × (l.place-end ≤ vec_capacity l.kept)
    × ((i : ℕ) (c : Cell _ _) → i < l.place → get_elem? (slots_items l.initial.closed.slots) i ≡ some (Some c) → get_elem? l.kept.items i ≡ some (c.object, c.seen.items))

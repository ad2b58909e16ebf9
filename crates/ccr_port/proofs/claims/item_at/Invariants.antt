use Rattle.std.proofs.Common.{◌≡◌}
use Rattle.std.specs.List.{slice_get}
use Rattle.ccr_port.specs.Entries.{keys_of}
use Rattle.ccr_port.proofs.claims.item_at.Given as goal

abbrev pub invariant-loop-before : goal.invariant-loop-before
invariant-loop-before l = l.key ≡ slice_get (keys_of l.items) l._before

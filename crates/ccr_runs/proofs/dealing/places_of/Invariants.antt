use Rattle.std.proofs.Common.{◌≡◌, ◌++◌, map}
use Rattle.ccr_runs.proofs.dealing.places_of.Given as goal

abbrev pub invariant-loop-one : goal.invariant-loop-one
invariant-loop-one l = l.places.items ++ map (λ one. one.item) l.one-iterator.rest.items ≡ map (λ one. one.item) l.fn.keys.items

use Rattle.std.proofs.Common.{◌≡◌, map, drop}
use Rattle.ccr_wiring.specs.Names.{has_repeated}
use Rattle.ccr_wiring.proofs.RepeatedNames.{repeated_after}
use Rattle.ccr_wiring.proofs.names.has_repeated.Given as goal

-- what is left has a name that was seen, or one twice
abbrev pub invariant-loop-name : goal.invariant-loop-name
invariant-loop-name l = repeated_after (map (λ name. name.now) l.seen.keys) (map (λ name. name.now) (drop l.name-index l.names)) ≡ has_repeated (map (λ name. name.now) l.names)

use Rattle.std.proofs.Common.{◌≡◌, map, drop}
use Rattle.ccr_wiring.specs.Names.{has_malformed}
use Rattle.ccr_wiring.proofs.names.has_malformed.Given as goal

-- none so far is malformed
abbrev pub invariant-loop-name : goal.invariant-loop-name
invariant-loop-name l = has_malformed (map (λ name. name.now) (drop l.name-index l.names)) ≡ has_malformed (map (λ name. name.now) l.names)

use Rattle.std.proofs.Common.{◌≡◌, ◌++◌, map, drop}
use Rattle.ccr_wiring.proofs.names.add_ports.Given as goal

-- the names so far and those still to come are all
abbrev pub invariant-loop-name : goal.invariant-loop-name
invariant-loop-name l = map (λ name. name.now) l.names.items ++ drop l.name-index l.ports ≡ map (λ name. name.now) l.fn.names.items ++ l.ports

use Rattle.std.proofs.Common.{◌≡◌, map, take}
use Rattle.ccr_trace.proofs.known.port_names.Given as goal

abbrev pub invariant-loop-name : goal.invariant-loop-name
invariant-loop-name l = map (λ name. name.now) l.names.items ≡ take l.name-index l.ports

use Rattle.std.proofs.Common.{◌≡◌, ◌++◌, map, take}
use Rattle.ccr_wiring.specs.PartNames.{port_name}
use Rattle.ccr_wiretext.proofs.words.LineWords.ports.Given as goal

abbrev pub invariant-loop-port : goal.invariant-loop-port
invariant-loop-port l = l.self ≡ l.fn.self ++ map (port_name l.parts) (take l.port-index l.ports)

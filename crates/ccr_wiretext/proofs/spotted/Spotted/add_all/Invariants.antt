use Rattle.std.proofs.Common.{◌≡◌, ◌++◌, take}
use Rattle.ccr_wiretext.proofs.spotted.Spotted.add_all.Given as goal

abbrev pub invariant-loop-port : goal.invariant-loop-port
invariant-loop-port l = l.self ≡ l.fn.self ++ take l.port-index l.ports

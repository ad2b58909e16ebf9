use Rattle.std.proofs.Common.{◌≡◌, ◌++◌, drop}
use Rattle.ccr_service.specs.Expansion.{op_ports}
use Rattle.ccr_service.proofs.expanding.add_op_ports.Given as goal

-- the names so far and those still to come are all
abbrev pub invariant-loop-op : goal.invariant-loop-op
invariant-loop-op l = l.names.items ++ op_ports (drop l.op-index l.ops) ≡ l.fn.names.items ++ op_ports l.ops

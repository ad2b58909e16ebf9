use Rattle.std.proofs.Common.{◌≡◌, drop}
use Rattle.ccr_wiring.specs.Openness.{open_ports_in}
use Rattle.ccr_wiring.proofs.openness.open_ports_in.Given as goal

-- none so far has the number
abbrev pub invariant-loop-part : goal.invariant-loop-part
invariant-loop-part l = open_ports_in (drop l.part-index l.listed) l.number ≡ open_ports_in l.listed l.number

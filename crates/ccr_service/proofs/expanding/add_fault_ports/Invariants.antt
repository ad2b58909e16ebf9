use Rattle.std.proofs.Common.{◌++◌, map}
use Rattle.std.specs.Prelude.{codes}
use Rattle.ccr_service.specs.declared.parts.ClientPart.{ClientPart}
use Rattle.ccr_base.proofs.Loops.{AddsUp}
use Rattle.ccr_service.proofs.expanding.add_fault_ports.Given as goal

-- the names so far and those still to come are all
abbrev pub invariant-loop-client : goal.invariant-loop-client
invariant-loop-client l = AddsUp (map (λ (client : ClientPart). client.name ++ codes "-f")) l.clients l.client-index l.fn.names.items l.names.items

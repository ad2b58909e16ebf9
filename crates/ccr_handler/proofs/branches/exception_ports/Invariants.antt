use Rattle.std.proofs.Common.{◌≡◌, map, take}
use Rattle.ccr_wiring.specs.declared.parts.CausePart.{CausePart}
use Rattle.ccr_handler.proofs.branches.exception_ports.Given as goal

abbrev pub invariant-loop-cause : goal.invariant-loop-cause
invariant-loop-cause l = l.ports.items ≡ map (λ (part : CausePart). part.port) (take l.cause-index l.cause-items)

use Rattle.std.proofs.Common.{◌≡◌, map, take}
use Rattle.ccr_wiring.specs.declared.parts.CausePart.{CausePart}
use Rattle.ccr_trace.proofs.known.cause_names.Given as goal

abbrev pub invariant-loop-part : goal.invariant-loop-part
invariant-loop-part l = map (λ name. name.now) l.names.items ≡ map (λ (part : CausePart). part.name) (take l.part-index l.parts)

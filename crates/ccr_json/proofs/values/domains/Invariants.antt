use Rattle.std.proofs.Common.{◌≡◌, map, take}
use Rattle.serde_json.specs.View.{view}
use Rattle.ccr_json.specs.Wiring.{domain_value}
use Rattle.ccr_json.proofs.values.domains.Given as goal

abbrev pub invariant-loop-part : goal.invariant-loop-part
invariant-loop-part l = map view l.values.items ≡ map (domain_value l.parts) (take l.part-index l.domains)

use Rattle.std.proofs.Common.{◌≡◌, map, take}
use Rattle.serde_json.specs.View.{view}
use Rattle.ccr_json.specs.Wiring.{member_value}
use Rattle.ccr_json.proofs.values.member_values.Given as goal

abbrev pub invariant-loop-arbiter : goal.invariant-loop-arbiter
invariant-loop-arbiter l = map view l.values.items ≡ map (member_value l.parts) (take l.arbiter-index l.arbiters)

use Rattle.std.proofs.Common.{◌≡◌, true, sym, ap, ◌∙◌, subst}
use Rattle.ccr_wiring.specs.declared.parts.Parts.{Parts}
use Rattle.ccr_wiring.specs.Valid.{IsValid}
use Rattle.ccr_wiring.specs.Openness.{is_closed}
use Rattle.ccr_plain.specs.Served.{seats}
use Rattle.ccr_plain.proofs.ServingKeepsRoom.{roomy_start}
use Rattle.ccr_plain.proofs.net.PlainNet.start.Goals as goal

pub invariant_of-result : goal.invariant_of-result
invariant_of-result c =
    let places = c.in_ok-places.places in
    let there = sym c.in_ok-places.ensures.wiring in
    let count = c.actor_count-seats.ensures in
    roomy_start places c.new.result.items _ _ (subst IsValid there count.valid) (subst (λ (x : Parts). is_closed x ≡ true) there c.requires) c.in_ok-places.ensures.acts c.new.ensures.items (count.count ∙ ap seats there)

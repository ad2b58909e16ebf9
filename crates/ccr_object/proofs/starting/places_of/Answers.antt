use Rattle.std.proofs.Common.{◌≤◌, List, length, sym, subst}
use Rattle.ccr_base.specs.declared.names.Place.{Place}
use Rattle.ccr_object.proofs.FewSpotsAndPlaces.{few_places}
use Rattle.ccr_object.proofs.starting.places_of.Goals as goal

pub returns-clause-count : goal.returns-clause-count
returns-clause-count c =
    subst (λ (places : List Place). (1 ≤ length places) × (length places ≤ 8192)) (sym c.in_ok-places.ensures) (few_places c.args.wiring.now c.parts-valid.ensures.valid)

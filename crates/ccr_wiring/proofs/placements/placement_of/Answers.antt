use Rattle.std.proofs.Common.{◌≡◌, List, Some, None, length, refl, ap, sym, ◌∙◌, arith}
use Rattle.std.specs.Option.{option_and_then}
use Rattle.std.specs.List.{slice_get}
use Rattle.std.proofs.lemmas.Grind.{common_steps}
use Rattle.std.proofs.lemmas.Option.{slice_get_past, slice_get_read}
use Rattle.ccr_wiring.specs.declared.placements.Position.{Position}
use Rattle.ccr_wiring.specs.Placements.{placement_at}
use Rattle.ccr_wiring.specs.Wirings.{placement}
use Rattle.ccr_wiring.proofs.Positions.{placement_at_position}
use Rattle.ccr_wiring.proofs.placements.placement_of.Goals as goal

pub returns-in_err-position : goal.returns-in_err-position
returns-in_err-position c =
    let parts = c.args.parts.now in
    let gone : slice_get c.args.positions.now c.args.branch ≡ None = slice_get_past c.args.positions.now c.args.branch c.in_err-position.ensures.lookup.3 in
    let none : placement parts c.args.branch ≡ None = sym (placement_at_position parts c.args.branch) ∙ ap (option_and_then (placement_at parts.arbiters)) (ap (λ (ps : List Position). slice_get ps c.args.branch) (sym c.requires) ∙ gone) in
    rw none (grind (arith, common_steps))

pub returns : goal.returns
returns c =
    let parts = c.args.parts.now in
    let position = c.in_ok-position.position.now in
    let there : slice_get c.args.positions.now c.args.branch ≡ Some position = slice_get_read c.args.positions.now (length c.args.positions.now) c.args.branch position refl c.in_ok-position.ensures.lookup.3.0 c.in_ok-position.ensures.lookup.1 in
    let at : placement parts c.args.branch ≡ placement_at parts.arbiters position = sym (placement_at_position parts c.args.branch) ∙ ap (option_and_then (placement_at parts.arbiters)) (ap (λ (ps : List Position). slice_get ps c.args.branch) (sym c.requires) ∙ there) in
    c.placement_at.ensures ∙ rw (at, c.as_slice.ensures) refl

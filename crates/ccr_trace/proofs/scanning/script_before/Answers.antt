use Rattle.std.proofs.Common.{◌≡◌, [], ◌∷◌, Some, subst, arith}
use Rattle.std.specs.Option.{option_map_or}
use Rattle.ccr_trace.specs.Pieces.{pieces}
use Rattle.ccr_trace.specs.Fields.{short_number}
use Rattle.ccr_trace.specs.Forms.{field}
use Rattle.ccr_trace.proofs.Scanned.{script_scanned}
use Rattle.ccr_trace.proofs.scanning.script_before.Goals as goal

pub returns : goal.returns
returns c =
    let numbers = c.in_ok-first.numbers.now in
    let whole : c.args.bytes.now ≡ 115 ∷ numbers = grind arith in
    let first = subst (λ rest. field short_number (pieces 46 numbers) ≡ Some (c.in_ok-actor.actor, option_map_or (λ r. pieces 46 r.now) rest [])) c.in_ok-rest.was c.in_ok-actor.ensures in
    rw whole (script_scanned numbers c.in_ok-rest.field-0.now c.in_ok-actor.actor c.in_ok-place.place _ first c.in_ok-place.ensures)

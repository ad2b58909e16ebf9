use Rattle.std.proofs.Common.{◌≡◌, [], ◌∷◌, Some, subst, arith}
use Rattle.std.specs.Option.{option_map_or}
use Rattle.ccr_trace.specs.Pieces.{pieces}
use Rattle.ccr_trace.specs.Fields.{short_number}
use Rattle.ccr_trace.specs.Forms.{field}
use Rattle.ccr_trace.proofs.Scanned.{task_message_scanned}
use Rattle.ccr_trace.proofs.scanning.task_message_before.Goals as goal

pub returns : goal.returns
returns c =
    let numbers = c.in_ok-first.numbers.now in
    let whole : c.args.bytes.now ≡ 116 ∷ numbers = grind arith in
    let first = subst (λ rest. field short_number (pieces 46 numbers) ≡ Some (c.in_ok-actor.actor, option_map_or (λ r. pieces 46 r.now) rest [])) c.in_ok-rest.was c.in_ok-actor.ensures in
    let next = subst (λ rest. field short_number (pieces 46 c.in_ok-rest.field-0.now) ≡ Some (c.in_ok-attempt.attempt, option_map_or (λ r. pieces 46 r.now) rest [])) c.in_ok-rest-2.was c.in_ok-attempt.ensures in
    rw whole (task_message_scanned numbers c.in_ok-rest.field-0.now c.in_ok-rest-2.field-0.now c.in_ok-actor.actor c.in_ok-attempt.attempt c.in_ok-place.place _ first next c.in_ok-place.ensures)

use Rattle.std.proofs.Common.{◌≡◌, subst}
use Rattle.ccr_serial.proofs.Made.{IsMade-behind}
use Rattle.ccr_engine.proofs.Runs.{IsSound-resume}
use Rattle.ccr_serial.proofs.serial.Serial.resume.Goals as goal

pub invariant_of-result : goal.invariant_of-result
invariant_of-result c =
    let w = c.args.wiring.now in
    let made = subst (λ h. c.in-Ok.engine.value ≡ record { wiring = w; closer = c.args.closer; history = h }) c.events.ensures c.in-Ok.ensures in
    IsMade-behind _ c.in-Ok.engine (IsSound-resume w c.args.closer c.args.history c.parts.ensures.valid c.requires.closed c.requires.no_poster c.requires.low c.requires.legal c.requires.attempts) made

use Rattle.std.proofs.Common.{◌∙◌, ap, arith, sym}
use Rattle.ccr_engine.specs.Engine.{next_engine}
use Rattle.ccr_serial.proofs.Made.{IsMade-entered}
use Rattle.ccr_serial.proofs.serial.Serial.enter.Goals as goal

pub invariant_of-self-2 : goal.invariant_of-self-2
invariant_of-self-2 c =
    let was = c.in_ok-engine.ensures.engine ∙ sym (c.self.view_is ∙ c.take_engine.ensures.kept) in
    IsMade-entered _ _ _ c.args.event c.self.invariant.sound (grind arith) (c.in_ok-follow.ensures.history ∙ ap next_engine (c.deref_mut.ensures.value ∙ was)) (grind arith)

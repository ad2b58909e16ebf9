use Rattle.std.proofs.Common.{◌∙◌}
use Rattle.ccr_serial.proofs.Made.{IsMade-behind}
use Rattle.ccr_engine.proofs.Runs.{IsSound-start}
use Rattle.ccr_serial.proofs.serial.Serial.start.Goals as goal

pub invariant_of-result : goal.invariant_of-result
invariant_of-result c = rw c.new-2.ensures (IsMade-behind _ c.in_ok-engine.engine (IsSound-start c.args.wiring.now c.args.closer c.parts.ensures.valid c.requires.closed c.requires.no_poster c.requires.low) (c.in_ok-engine.ensures.ok ∙ c.in_ok-made.ensures))

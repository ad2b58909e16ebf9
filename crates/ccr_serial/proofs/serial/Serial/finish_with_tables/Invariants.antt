use Rattle.ccr_laws.specs.Potential.{potential}
use Rattle.ccr_engine.proofs.Runs.{GoesFrom}
use Rattle.ccr_serial.proofs.serial.Serial.finish_with_tables.Given as goal

abbrev pub invariant-steps : goal.invariant-steps
invariant-steps l = GoesFrom l.initial.self l.self

abbrev pub decreases-steps : goal.decreases-steps
decreases-steps l = potential l.initial.self.wiring l.self.history

use Rattle.std.proofs.Common.{◌<◌, arith, subst}
use Rattle.ccr_laws.specs.Potential.{potential}
use Rattle.ccr_engine.specs.Engine.{IsSound}
use Rattle.ccr_engine.proofs.Runs.{GoesFrom, GoesFrom-next, IsDone-next}
use Rattle.ccr_serial.proofs.serial.Serial.finish_with_tables.Goals as goal

goes_on : (c : goal.Then-branch) → GoesFrom c.args.self c.advance.new.self × (potential c.args.self.wiring c.advance.new.self.history < potential c.args.self.wiring c.steps.self.history)
goes_on c = GoesFrom-next c.args.self c.steps.self c.advance.new.self (subst IsSound c.self.view_is c.self.invariant.sound) c.steps.invariant (grind arith) (grind arith)

pub steps-smaller : goal.steps-smaller
steps-smaller c = (goes_on c).1

pub steps-preserved : goal.steps-preserved
steps-preserved c = (goes_on c).0

pub returns-clause-finished : goal.returns-clause-finished
returns-clause-finished c = (IsDone-next c.args.self c.steps.self _ c.self-2.invariant.sound c.steps.invariant (grind arith) (grind arith)).finished

pub returns-clause-complete : goal.returns-clause-complete
returns-clause-complete c = (IsDone-next c.args.self c.steps.self _ c.self-2.invariant.sound c.steps.invariant (grind arith) (grind arith)).complete

pub returns-clause-quiet : goal.returns-clause-quiet
returns-clause-quiet c = (IsDone-next c.args.self c.steps.self _ c.self-2.invariant.sound c.steps.invariant (grind arith) (grind arith)).quiet

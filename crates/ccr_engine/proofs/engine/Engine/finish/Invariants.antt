use Rattle.ccr_laws.specs.Potential.{potential}
use Rattle.ccr_engine.proofs.Runs.{GoesFrom}
use Rattle.ccr_engine.proofs.engine.Engine.finish.Given as goal

abbrev pub invariant-steps : goal.invariant-steps
invariant-steps g l = record {
  goes : GoesFrom l.fn.self l.self;
  heard : g.L.Listener.has_heard l.fn.listener l.fn.self.wiring l.fn.self.history → g.L.Listener.has_heard l.listener l.fn.self.wiring l.self.history;
}

abbrev pub decreases-steps : goal.decreases-steps
decreases-steps g l = potential l.fn.self.wiring l.self.history

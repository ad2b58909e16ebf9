use Rattle.std.proofs.Common.{sym, subst, arith}
use Rattle.ccr_engine.proofs.Runs.{GoesFrom-next, IsDone-next, IsSound-next}
use Rattle.ccr_engine.proofs.engine.Engine.finish.Goals as goal

pub steps-smaller : goal.steps-smaller
steps-smaller g c = (GoesFrom-next c.args.self.now c.steps.self c.advance.new.self (IsSound-next c.steps.self c.advance.new.self c.in_ok-advance.ensures.sound c.in_ok-advance.ensures.history) c.steps.invariant.goes (grind arith) c.in_ok-advance.ensures.history).1

pub steps-preserved : goal.steps-preserved
steps-preserved g c =
    let goes = c.steps.invariant.goes in
    record {
      goes = (GoesFrom-next c.args.self.now c.steps.self c.advance.new.self (IsSound-next c.steps.self c.advance.new.self c.in_ok-advance.ensures.sound c.in_ok-advance.ensures.history) goes (grind arith) c.in_ok-advance.ensures.history).0;
      heard = λ first. subst (λ w. g.L.Listener.has_heard c.advance.new.listener w c.advance.new.self.history) goes.wiring (c.in_ok-advance.ensures.heard (subst (λ w. g.L.Listener.has_heard c.steps.listener w c.steps.self.history) (sym goes.wiring) (c.steps.invariant.heard first)));
    }

pub returns-clause-finished : goal.returns-clause-finished
returns-clause-finished g c = (IsDone-next c.args.self.now c.steps.self c.advance.new.self (IsSound-next c.steps.self c.advance.new.self c.in_ok-advance.ensures.sound c.in_ok-advance.ensures.history) c.steps.invariant.goes (grind arith) c.in_ok-advance.ensures.history).finished

pub returns-clause-legal : goal.returns-clause-legal
returns-clause-legal g c = (IsDone-next c.args.self.now c.steps.self c.advance.new.self (IsSound-next c.steps.self c.advance.new.self c.in_ok-advance.ensures.sound c.in_ok-advance.ensures.history) c.steps.invariant.goes (grind arith) c.in_ok-advance.ensures.history).legal

pub returns-clause-complete : goal.returns-clause-complete
returns-clause-complete g c = (IsDone-next c.args.self.now c.steps.self c.advance.new.self (IsSound-next c.steps.self c.advance.new.self c.in_ok-advance.ensures.sound c.in_ok-advance.ensures.history) c.steps.invariant.goes (grind arith) c.in_ok-advance.ensures.history).complete

pub returns-clause-quiet : goal.returns-clause-quiet
returns-clause-quiet g c = (IsDone-next c.args.self.now c.steps.self c.advance.new.self (IsSound-next c.steps.self c.advance.new.self c.in_ok-advance.ensures.sound c.in_ok-advance.ensures.history) c.steps.invariant.goes (grind arith) c.in_ok-advance.ensures.history).quiet

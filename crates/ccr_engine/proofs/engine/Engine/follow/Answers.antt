use Rattle.std.proofs.Common.{◌≡◌, Some, sym, subst, arith}
use Rattle.ccr_engine.specs.Desk.{IsRead}
use Rattle.ccr_engine.specs.Engine.{Engine, next_event}
use Rattle.ccr_engine.proofs.DesksAlongHistories.{attempt_fits}
use Rattle.ccr_engine.proofs.Reading.{IsRead-next}
use Rattle.ccr_engine.proofs.Runs.{IsSound-fits}
use Rattle.ccr_engine.proofs.engine.Engine.follow.Goals as goal

pub push-requires : goal.push-requires
push-requires c =
    let next : next_event _ ≡ Some c.args.event.now = subst (λ (s : Engine). next_event s ≡ Some c.args.event.now) (sym c.self.view_is) c.requires in
    attempt_fits c.self.inside.indices c.self.inside.closer _ c.args.event.now c.self.inside.desk (c.self.invariant.stands (grind arith)) (IsSound-fits _ c.self.invariant.sound c.args.event.now next)

pub invariant_of-self-2 : goal.invariant_of-self-2
invariant_of-self-2 c =
    let next : next_event _ ≡ Some c.args.event.now = subst (λ (s : Engine). next_event s ≡ Some c.args.event.now) (sym c.self.view_is) c.requires in
    IsRead-next _ c.self.inside.desk c.push.new.self c.args.event.now _ (subst (IsRead _ c.self.inside.desk) (grind arith) c.self.invariant) next c.in_ok-push.ensures c.in_ok-push-2.ensures.ok

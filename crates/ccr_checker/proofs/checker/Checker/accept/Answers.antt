use Rattle.std.proofs.Common.{◌≡◌, ◌∙◌, ◌||◌, refl, arith}
use Rattle.ccr_model.specs.Legal.{IsAllowed}
use Rattle.ccr_model.specs.Counts.{is_shed as is_shed_end}
use Rattle.ccr_checker.proofs.JudgesStayJudges.{IsChecker-more}
use Rattle.ccr_checker.proofs.checker.Checker.accept.Goals as goal
use Rattle.ccr_checker.proofs.checker.Checker.accept.Goals.{then-self, else-self}

pub invariant_of-self-2 : goal.invariant_of-self-2
invariant_of-self-2 c =
    let allowed : IsAllowed c.self.inside.wiring.now c.self.inside.accepted c.args.event.now = grind arith in
    let shed : c.if-self.self ≡ c.self.inside.shed || is_shed_end c.args.event.now = elim c.if-self.branch [
      | then-self w ↦ rw (w.self-is, w.if-self.true) refl
      | else-self w ↦ w.self-is ∙ (w.is_shed_end-self-inside.ensures ∙ rw w.if-self.false refl)
    ] in
    IsChecker-more _ c.push-2.new.self c.args.event.now c.self.inside.ledger c.push.new.self c.self.inside.shed c.if-self.self
    (grind arith) allowed c.in_ok-push-2.ensures.ok c.in_ok-push.ensures.ok shed

use Rattle.std.proofs.Common.{◌≡◌, ◌∙◌, subst, arith}
use Rattle.ccr_model.specs.Rules.{refusal}
use Rattle.ccr_checker.specs.Judges.{Judged}
use Rattle.ccr_checker.proofs.Refusals.{refusal_in_told}
use Rattle.ccr_checker.proofs.checker.Checker.refusal.Goals as goal

pub returns-clause-rule : goal.returns-clause-rule
returns-clause-rule c =
    let known = c.self.invariant in
    subst (λ (j : Judged). c.in_ok-rule.rule ≡ refusal j.wiring j.history c.args.event.now) c.self.view_is
    (c.in_ok-rule.ensures.rule ∙ refusal_in_told c.self.inside.wiring.now known.valid c.self.inside.accepted known.legal c.self.inside.ledger (known.tables (grind arith)) c.args.event.now)

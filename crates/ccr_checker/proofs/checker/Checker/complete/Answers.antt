use Rattle.std.proofs.Common.{◌≡◌, ◌∙◌, subst}
use Rattle.ccr_model.specs.Legal.{is_complete}
use Rattle.ccr_checker.specs.Judges.{Judged}
use Rattle.ccr_checker.proofs.StillTold.{is_complete_told}
use Rattle.ccr_checker.proofs.checker.Checker.complete.Goals as goal

pub returns-then-self : goal.returns-then-self
returns-then-self c =
    let known = c.self.invariant in
    subst (λ (j : Judged). c.is_complete_in.result ≡ is_complete j.wiring j.history) c.self.view_is
    (c.is_complete_in.ensures ∙ is_complete_told c.self.inside.wiring.now known.valid c.self.inside.accepted known.legal c.self.inside.ledger (known.tables c.if-self.true) c.self.inside.shed known.flag)

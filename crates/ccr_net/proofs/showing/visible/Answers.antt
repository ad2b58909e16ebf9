use Rattle.std.proofs.Common.{◌≡◌, true, sym, subst}
use Rattle.ccr_model.specs.Legal.{IsLegal, is_covered}
use Rattle.ccr_net.proofs.Kept.RunsAreLegal.{visible_legal, visible_covered}
use Rattle.ccr_net.proofs.showing.visible.Goals as goal

pub returns-clause-legal : goal.returns-clause-legal
returns-clause-legal c = λ workers few run.
    subst (IsLegal c.args.wiring.now) (sym c.in_ok-history.ensures.exact) (visible_legal c.args.wiring.now workers c.args.full.now.entries c.parts-valid.ensures.valid few run)

pub returns-clause-covered : goal.returns-clause-covered
returns-clause-covered c = λ workers few run.
    subst (λ h. is_covered c.args.wiring.now h ≡ true) (sym c.in_ok-history.ensures.exact) (visible_covered c.args.wiring.now workers c.args.full.now.entries c.parts-valid.ensures.valid few run)

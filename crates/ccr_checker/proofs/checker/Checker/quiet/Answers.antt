use Rattle.std.proofs.Common.{◌≡◌, true, sym, subst, arith}
use Rattle.ccr_wiring.specs.Openness.{is_closed}
use Rattle.std.specs.Prelude.{IfOk}
use Rattle.ccr_checker.specs.Quiet.{MeansQuiet}
use Rattle.ccr_checker.specs.Judges.{Judged}
use Rattle.ccr_checker.proofs.JudgesStayJudges.{quiet_told}
use Rattle.ccr_checker.proofs.checker.Checker.quiet.Goals as goal

pub returns-clause-quiet : goal.returns-clause-quiet
returns-clause-quiet c =
    let w = c.self.inside.wiring.now in
    let h = c.self.inside.accepted in
    let known = c.self.invariant in
    let closed : is_closed w ≡ true = subst (λ (j : Judged). is_closed j.wiring ≡ true) (sym c.self.view_is) c.requires in
    subst (λ (j : Judged). IfOk c.is_still.result (MeansQuiet j.wiring j.history)) c.self.view_is
    (quiet_told w known.valid h known.legal c.self.inside.ledger (known.tables (grind arith)) c.is_still.result c.is_still.ensures.still (c.still_is_quiet.ensures.still w h known.valid closed) (c.still_is_quiet.ensures.left w h known.valid known.legal))

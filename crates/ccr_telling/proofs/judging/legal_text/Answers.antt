use Rattle.std.proofs.Common.{◌≡◌, true, sym, subst}
use Rattle.ccr_wiring.specs.Openness.{is_closed}
use Rattle.ccr_checker.specs.Judges.{Judged}
use Rattle.ccr_telling.proofs.judging.legal_text.Goals as goal

pub quiet-requires : goal.quiet-requires
quiet-requires c = subst (λ (j : Judged). is_closed j.wiring ≡ true) (sym c.requires.agrees.accepted) c.requires.agrees.closed

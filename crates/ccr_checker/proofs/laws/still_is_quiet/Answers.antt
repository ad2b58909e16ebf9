use Rattle.std.proofs.Common.{◌≤◌, length, arith, subst, ◌∙◌}
use Rattle.std.specs.Prelude.{IfSome, is_some}
use Rattle.ccr_base.proofs.Options.{none_is, is_there}
use Rattle.ccr_base.proofs.Booleans.{not_refuted}
use Rattle.ccr_model.specs.Legal.{IsAllowed}
use Rattle.ccr_model.specs.Order.{first}
use Rattle.ccr_checker.proofs.Stillness.{is_still-first}
use Rattle.ccr_checker.proofs.laws.still_is_quiet.Goals as goal

pub returns-clause-still : goal.returns-clause-still
returns-clause-still c = λ w h valid closed still.
    c.none_first_is_quiet.ensures w (length w.posters) h (c.valid_wirings_are_sound.ensures w valid).queues closed (none_is (first w (length w.posters) h) (is_still-first w (length w.posters) h ∙ still))

pub returns-clause-left : goal.returns-clause-left
returns-clause-left c = λ w h valid legal left.
    let few = (c.valid_wirings_are_sound.ensures w valid).small.posters in
    let low : length w.posters ≤ 32 = omega arith in
    let found = is_there (first w (length w.posters) h) (not_refuted (is_some (first w (length w.posters) h)) (is_still-first w (length w.posters) h ∙ left)) in
    (found.0, subst (λ o. IfSome o (IsAllowed w h)) found.1 (c.first_is_allowed.ensures w (length w.posters) h (omega arith) low legal))

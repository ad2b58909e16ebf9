-- A judge stays one: with no event, and with one more.
use Rattle.std.proofs.Common.{◌≡◌, ◌∙◌, Bool, true, false, ◌||◌, List, [], ◌∷◌, ◌++◌, refl, ap, sym}
use Rattle.std.specs.Prelude.{Result, Ok, Err, IfOk}
use Rattle.ccr_wiring.specs.declared.parts.Parts.{Parts}
use Rattle.ccr_wiring.specs.Valid.{IsValid}
use Rattle.ccr_model.specs.declared.history.Event.{Event}
use Rattle.ccr_model.specs.Legal.{IsAllowed, IsLegal, IsQuiet, has_shed}
use Rattle.ccr_model.specs.Counts.{is_shed as is_shed_end}
use Rattle.ccr_model.proofs.LegalParts.{legal_push}
use Rattle.ccr_model.proofs.OneMoreEvent.{has_shed-push}
use Rattle.ccr_ledger.specs.Books.{Books}
use Rattle.ccr_ledger.specs.Events.{after_event, empty_books}
use Rattle.ccr_ledger.specs.Kept.{Keeps}
use Rattle.ccr_ledger.proofs.EventsKeepTables.{keeps-none, keeps-event}
use Rattle.ccr_checker.specs.Left.{is_still}
use Rattle.ccr_checker.specs.LeftInTables.{is_still_in}
use Rattle.ccr_checker.specs.Quiet.{AllowsSome, MeansQuiet}
use Rattle.ccr_checker.specs.Judges.{Judged, IsChecker}
use Rattle.ccr_checker.proofs.Stillness.{MeansQuiet-still}
use Rattle.ccr_checker.proofs.StillTold.{is_still_told}

pub IsChecker-none : (w : Parts) (h : List Event) (b : Books) → IsValid w → h ≡ [] → b ≡ empty_books w → IsChecker (record { wiring = w; history = h }) b true false
IsChecker-none w h b valid none is = rw (none, is) (record { valid = valid; legal = tt; flag = refl; tables = λ whole. keeps-none w })

pub IsChecker-more : (j : Judged) (more : List Event) (e : Event) (old new : Books) (before shed : Bool) → IsChecker j old true before → IsAllowed j.wiring j.history e
    → more ≡ j.history ++ e ∷ [] → new ≡ after_event j.wiring e old → shed ≡ before || is_shed_end e → IsChecker (record j { history = more }) new true shed
IsChecker-more j more e old new before shed kept allowed is entered now = record {
  valid = kept.valid;
  legal = rw is (legal_push j.wiring [] j.history e kept.legal allowed);
  flag = now ∙ (ap (λ flag. flag || is_shed_end e) kept.flag ∙ (sym (has_shed-push j.history e) ∙ ap has_shed (sym is)));
  tables = λ whole. rw (is, entered) (keeps-event j.wiring kept.valid j.history e old kept.legal allowed (kept.tables refl));
}

-- what is left by the tables tells whether the history is quiet
pub quiet_told : {E : Type 0} (w : Parts) → IsValid w → (h : List Event) → IsLegal w h → (b : Books) → Keeps w h b → (still : Result Bool E) → IfOk still (λ s. s ≡ is_still_in w b)
    → (is_still w h ≡ true → IsQuiet w h) → (is_still w h ≡ false → AllowsSome w h) → IfOk still (MeansQuiet w h)
quiet_told w valid h legal b keeps (Ok s) is quiet moves = MeansQuiet-still w h s (is ∙ is_still_told w valid h legal b keeps) quiet moves
quiet_told w valid h legal b keeps (Err e) is quiet moves = tt

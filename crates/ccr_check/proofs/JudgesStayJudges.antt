-- A judge stays one: with no event, and with one more.
use Rattle.std.proofs.Common.{◌≡◌, ◌<◌, ◌^◌, true, List, [], ◌∷◌, ◌++◌, length, Some, refl, arith}
use Rattle.std.specs.Global.{Box}
use Rattle.ccr_wiring.specs.Valid.{IsValid}
use Rattle.ccr_wiring.specs.Openness.{is_closed}
use Rattle.ccr_model.specs.declared.history.Event.{Event}
use Rattle.ccr_model.specs.Legal.{IsAllowed, IsLegal}
use Rattle.ccr_model.proofs.LegalParts.{legal_push}
use Rattle.ccr_checker.specs.Judges.{Judged}
use Rattle.ccr_check.specs.Judge.{IsJudge}

pub IsJudge-none : (j : Judged) (inner : Box Judged) → IsValid j.wiring → is_closed j.wiring ≡ true → j.history ≡ [] → inner.value ≡ j → IsJudge j (Some inner)
IsJudge-none j inner valid closed none is = record { valid = valid; closed = closed; legal = rw none tt; few = rw none (omega arith); so_far = is }

pub IsJudge-more : (j inner : Judged) (new : Box Judged) (more : List Event) (e : Event) → IsValid j.wiring → is_closed j.wiring ≡ true → IsLegal j.wiring j.history → IsAllowed j.wiring j.history e → more ≡ j.history ++ e ∷ [] → length more < 2 ^ 32
    → inner ≡ j → new.value ≡ record inner { history = inner.history ++ e ∷ [] } → IsJudge (record j { history = more }) (Some new)
IsJudge-more j inner new more e valid closed legal allowed is few same accepted = record {
  valid = valid;
  closed = closed;
  legal = rw is (legal_push j.wiring [] j.history e legal allowed);
  few = few;
  so_far = rw (accepted, same, is) refl;
}

-- What a judge keeps that has a copy of each event.
use Rattle.std.specs.Prelude.{◌≡◌, true, ◌<◌, ◌^◌, length, Option, IfSome}
use Rattle.std.specs.Global.{Box}
use Rattle.ccr_wiring.specs.Valid.{IsValid}
use Rattle.ccr_wiring.specs.Openness.{is_closed}
use Rattle.ccr_model.specs.Legal.{IsLegal}
use Rattle.ccr_checker.specs.Judges.{Judged}

-- the wiring is closed, the accepted events are legal and fewer than 2^32, and the checker kept, if any, accepted them all
pub record IsJudge (judged : Judged) (kept : Option (Box Judged)) : Type 0 where
  pub valid : IsValid judged.wiring
  pub closed : is_closed judged.wiring ≡ true
  pub legal : IsLegal judged.wiring judged.history
  pub few : length judged.history < 2 ^ 32
  pub so_far : IfSome kept (λ checker. checker.value ≡ judged)

-- What the engine comes to is the end of the history that it began behind.
use Rattle.std.proofs.Common.{◌≡◌, ℕ, true, List, subst}
use Rattle.ccr_wiring.specs.declared.parts.Parts.{Parts}
use Rattle.ccr_model.specs.declared.history.Event.{Event}
use Rattle.ccr_model.specs.Legal.{IsLegal, IsQuiet, is_complete}
use Rattle.ccr_model.specs.Order.{IsFinished}
use Rattle.ccr_engine.specs.Engine.{Engine}
use Rattle.ccr_telling.specs.Telling.{IsEnd}

pub end_of : (w : Parts) (closer : ℕ) (first history : List Event) (engine : Engine) → engine ≡ record { wiring = w; closer = closer; history = first } → IsFinished engine.wiring engine.closer engine.history history → IsLegal engine.wiring history → is_complete engine.wiring history ≡ true → IsQuiet engine.wiring history → IsEnd w closer first history
end_of w closer first history engine is finished legal complete quiet = record {
  finished = subst (λ (e : Engine). IsFinished e.wiring e.closer e.history history) is finished;
  legal = subst (λ (e : Engine). IsLegal e.wiring history) is legal;
  complete = subst (λ (e : Engine). is_complete e.wiring history ≡ true) is complete;
  quiet = subst (λ (e : Engine). IsQuiet e.wiring history) is quiet;
}

-- What an engine that keeps its history knows of the engine that makes it.
use Rattle.std.proofs.Common.{◌≡◌, List, [], ◌∷◌, ◌++◌, Option, Some, ap, ◌∙◌}
use Rattle.std.specs.Global.{Box}
use Rattle.ccr_model.specs.declared.history.Event.{Event}
use Rattle.ccr_model.specs.Order.{with_first}
use Rattle.ccr_engine.specs.Engine.{Engine, IsSound, next_event, next_engine}
use Rattle.ccr_engine.proofs.Runs.{IsSound-pushed}
use Rattle.ccr_serial.specs.Made.{IsMade}

-- an engine that keeps its history: at its start or behind these events
pub IsMade-behind : (s : Engine) (made : Box Engine) → IsSound s → made.value ≡ s → IsMade s (Some made)
IsMade-behind s made sound is = record { sound = sound; so_far = is }

-- and behind one event more
pub IsMade-entered : (s : Engine) (made : Box Engine) (h : List Event) (e : Event) → IsSound s → next_event s ≡ Some e → made.value ≡ next_engine s → h ≡ s.history ++ e ∷ [] → IsMade (record s { history = h }) (Some made)
IsMade-entered s made h e sound is entered more =
    let same : made.value ≡ record s { history = s.history ++ e ∷ [] } = entered ∙ ap (λ (o : Option Event). record s { history = with_first s.history o }) is in
    record { sound = IsSound-pushed s sound e is h more; so_far = rw more same }

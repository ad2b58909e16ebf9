-- What an engine is to its callers.
use Rattle.std.specs.Prelude.{◌≡◌, true, ◌≤◌, ◌<◌, ◌+◌, ℕ, List, length, Option}
use Rattle.ccr_base.specs.Bounds.{most_actors}
use Rattle.ccr_wiring.specs.declared.parts.Parts.{Parts}
use Rattle.ccr_wiring.specs.Valid.{IsValid}
use Rattle.ccr_wiring.specs.Openness.{is_closed}
use Rattle.ccr_model.specs.declared.history.Event.{Event}
use Rattle.ccr_model.specs.Firings.{fired}
use Rattle.ccr_model.specs.Legal.{IsLegal}
use Rattle.ccr_model.specs.Order.{first, most_attempts, next_attempt, with_first}

pub record Engine : Type 0 where
  pub wiring : Parts
  pub closer : ℕ
  pub history : List Event

-- the event that comes first after the history of the engine
unfoldable pub next_event : Engine → Option Event
next_event engine = first engine.wiring engine.closer engine.history

-- the engine with that event at the end of its history
abbrev pub next_engine : Engine → Engine
next_engine engine = record engine { history = with_first engine.history (next_event engine) }

-- nothing is open, the history is legal, the closer is no poster and at most 32, and has attempts left for every event to come
pub record IsSound (engine : Engine) : Type 0 where
  pub valid : IsValid engine.wiring
  pub closed : is_closed engine.wiring ≡ true
  pub high : length engine.wiring.posters ≤ engine.closer
  pub low : engine.closer ≤ most_actors
  pub legal : IsLegal engine.wiring engine.history
  pub attempts : next_attempt engine.closer (fired engine.history) < most_attempts + length engine.history

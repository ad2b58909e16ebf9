-- Where an event occurs in a history.
use Rattle.std.specs.Prelude.{◌≡◌, List, ◌∷◌, ◌++◌}
use Rattle.ccr_model.specs.declared.history.Event.{Event}

-- the event occurs in the history, behind exactly this past
pub record Occurs (history past : List Event) (event : Event) : Type 0 where
  pub more : List Event
  pub whole : history ≡ past ++ event ∷ more

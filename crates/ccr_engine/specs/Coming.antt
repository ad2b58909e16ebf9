-- What a listener knows of the event that comes next.
use Rattle.std.specs.Prelude.{◌≡◌, true, List, [], ◌∷◌, ◌++◌}
use Rattle.ccr_wiring.specs.declared.parts.Parts.{Parts}
use Rattle.ccr_wiring.specs.Valid.{IsValid}
use Rattle.ccr_wiring.specs.Openness.{is_closed}
use Rattle.ccr_model.specs.declared.history.Event.{Event}
use Rattle.ccr_model.specs.Legal.{IsLegal}
use Rattle.ccr_ledger.specs.Books.{Books}
use Rattle.ccr_ledger.specs.Kept.{Keeps}

-- the wiring is valid, the tables are those of the history, and the event may come behind it
pub record ComesNext (wiring : Parts) (history : List Event) (books : Books) (event : Event) : Type 0 where
  pub valid : IsValid wiring
  pub closed : is_closed wiring ≡ true
  pub tables : Keeps wiring history books
  pub legal : IsLegal wiring (history ++ event ∷ [])

-- who had heard some history has heard it with the event behind it, if that comes next
abbrev pub HearsNext : (Parts → List Event → Type 0) → (Parts → List Event → Type 0) → Books → Event → Type 0
HearsNext had_heard has_heard books event =
    (wiring : Parts) (history : List Event) →
    ComesNext wiring history books event →
    had_heard wiring history →
    has_heard wiring (history ++ event ∷ [])

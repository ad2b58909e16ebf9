-- Acts that are dealt out from the histories of their places.
use Rattle.std.specs.Prelude.{ℕ, ◌<◌, List, [], ◌∷◌, ◌++◌, drop, length, slice_get, slice_set, unwrap_or}
use Rattle.ccr_turns.specs.declared.history.Held.{Held}
use Rattle.ccr_runs.specs.declared.acts.Act.{Act}
use Rattle.ccr_runs.specs.declared.ordering.StampedItem.{StampedItem}
use Rattle.ccr_runs.specs.Merges.{tag}

module _ {N : Type 0} where
  -- what is left of a place's history
  abbrev pub left_at : List (List (Held N)) → ℕ → List (Held N)
  left_at histories place = unwrap_or (slice_get histories place) []

  -- its first entry as an act, if any
  abbrev pub first_at : ℕ → List (Held N) → List (Act N)
  first_at place [] = []
  first_at place (h ∷ history) = tag place h ∷ []

  -- the histories without the first entry at the place
  abbrev pub without_first : List (List (Held N)) → ℕ → List (List (Held N))
  without_first histories place = slice_set histories place (drop 1 (left_at histories place))

  -- for each of these places the next act there
  abbrev pub dealt : List ℕ → List (List (Held N)) → List (Act N)
  dealt [] histories = []
  dealt (place ∷ places) histories = first_at place (left_at histories place) ++ dealt places (without_first histories place)

  -- each of these places has such an act
  abbrev pub HasEach : List ℕ → List (List (Held N)) → Type 0
  HasEach [] histories = Unit {0}
  HasEach (place ∷ places) histories = (place < length histories) × (0 < length (left_at histories place)) × HasEach places (without_first histories place)

  -- an act's stamp and place
  abbrev pub key : Act N → StampedItem ℕ
  key act = record { stamp = act.stamp; item = act.place }

  abbrev pub place_of : Act N → ℕ
  place_of act = act.place

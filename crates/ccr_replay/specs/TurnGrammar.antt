-- What turn lines say, apart from reading: no codes, and no order of looking.
use Rattle.std.specs.Prelude.{◌≡◌, ◌<◌, ◌⊎◌, ℕ, true, List, [], ◌∷◌, Some, codes}
use Rattle.ccr_text.specs.Lines.{split_text}
use Rattle.ccr_text.specs.Fields.{Words}
use Rattle.ccr_text.specs.Words.{is_clean, number_of, words_of, IsSkipped}

-- the line is `turn A`, where A is the number of one of so many actors
pub record IsTurn (actors : ℕ) (words : Words) (actor : ℕ) : Type 0 where
  pub digits : List ℕ
  pub form : words ≡ codes "turn" ∷ digits ∷ []
  pub value : number_of digits ≡ Some actor
  pub below : actor < actors

-- each line is clean, and is skipped or is the next turn
abbrev pub AreTurns : ℕ → List (List ℕ) → List ℕ → Type 0
AreTurns actors [] turns = turns ≡ []
AreTurns actors (line ∷ lines) turns = (is_clean line ≡ true) × ((IsSkipped (words_of line) × AreTurns actors lines turns)
    ⊎ ((actor : ℕ) × (others : List ℕ) × (turns ≡ actor ∷ others) × IsTurn actors (words_of line) actor × AreTurns actors lines others))

-- the text says these turns to so many actors
abbrev pub Says : List ℕ → ℕ → List ℕ → Type 0
Says text actors turns = AreTurns actors (split_text text) turns

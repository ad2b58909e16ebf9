-- A text's first line, taken in by its words.
use Rattle.std.specs.Prelude.{◌≡◌, ◌<◌, ℕ, List, ◌∷◌, length, Ok, Err}
use Rattle.ccr_text.specs.Codes.{code_number}
use Rattle.ccr_text.specs.Lines.{split_text, first_line}
use Rattle.ccr_text.specs.Words.{is_clean, words_of}
use Rattle.ccr_text.specs.declared.code.Code.{Code}
use Rattle.ccr_text.specs.declared.stop.Stop.{Stop}
use Rattle.ccr_text.specs.declared.stop.Stop.TheVariants as stops
use Rattle.ccr_service.specs.Reading.{So, after_clean}

-- the text's first line is taken in, and this stands behind it
pub record IsLineTaken (so : So) (text : List ℕ) (new : So) (behind : List ℕ) : Type 0 where
  pub lines : split_text text ≡ first_line text ∷ split_text behind
  pub shorter : length behind < length text
  pub taken : after_clean so (is_clean (first_line text)) (words_of (first_line text)) ≡ Ok new

-- the text's first line is refused
abbrev pub IsLineRefused : So → List ℕ → Stop Code → Type 0
IsLineRefused so text stops.Memory = Unit {0}
IsLineRefused so text (stops.Refused code) =
    (behind : List ℕ) × (split_text text ≡ first_line text ∷ split_text behind)
    × (after_clean so (is_clean (first_line text)) (words_of (first_line text)) ≡ Err (code_number code))

-- What a record's text says, apart from reading: no codes, and no order of looking.
use Rattle.std.specs.Prelude.{◌≡◌, ◌≤◌, ℕ, ◌+◌, true, List, [], ◌∷◌, ◌++◌, length, Some, codes}
use Rattle.ccr_base.specs.Bounds.{most_wiring_bytes, most_workers}
use Rattle.ccr_text.specs.Lines.{split_text}
use Rattle.ccr_text.specs.Words.{is_clean, number_of, words_of, IsSkipped}
use Rattle.ccr_wiretext.specs.Lines.{IsText}
use Rattle.ccr_replay.specs.TurnGrammar.{AreTurns}
use Rattle.ccr_replay.specs.declared.records.Record.{Record}

-- the line is `record 1 N`, where N is at most 16
pub record IsRecordLine (line : List ℕ) (workers : ℕ) : Type 0 where
  pub clean : is_clean line ≡ true
  pub digits : List ℕ
  pub form : words_of line ≡ codes "record" ∷ codes "1" ∷ digits ∷ []
  pub value : number_of digits ≡ Some workers
  pub few : workers ≤ most_workers

-- the line is `done 0`
pub record IsLastLine (line : List ℕ) : Type 0 where
  pub clean : is_clean line ≡ true
  pub form : words_of line ≡ codes "done" ∷ codes "0" ∷ []

-- each line is clean, and has no words or begins with #
abbrev pub AreSkipped : List (List ℕ) → Type 0
AreSkipped [] = Unit {0}
AreSkipped (line ∷ lines) = (is_clean line ≡ true) × IsSkipped (words_of line) × AreSkipped lines

-- the line of the record, turns of the posters and the workers with skipped lines between them, the last line, and skipped lines
pub record AreRecord (posters workers : ℕ) (turns : List ℕ) (lines : List (List ℕ)) : Type 0 where
  pub first : List ℕ
  pub middle : List (List ℕ)
  pub last : List ℕ
  pub others : List (List ℕ)
  pub all : lines ≡ first ∷ (middle ++ last ∷ others)
  pub first_line : IsRecordLine first workers
  pub turn_lines : AreTurns (posters + workers) middle turns
  pub last_line : IsLastLine last
  pub skipped : AreSkipped others

-- a text of a wiring, LF, and these lines
pub record Says (text : List ℕ) (said : Record) : Type 0 where
  pub wiring_text : List ℕ
  pub behind : List ℕ
  pub whole : text ≡ wiring_text ++ 10 ∷ behind
  pub short : length wiring_text ≤ most_wiring_bytes
  pub wiring : IsText wiring_text said.wiring
  pub lines : AreRecord (length said.wiring.posters) said.workers said.turns (split_text behind)

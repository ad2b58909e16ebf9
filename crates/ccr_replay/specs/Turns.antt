-- Reading turn lines: what each line says, and the first line that offends, with its code.
use Rattle.std.specs.Prelude.{ℕ, ◌+◌, List, [], ◌∷◌, ◌++◌, Option, Some, None, Result, Ok, Err, nat_lt, if◌then◌else◌, codes, option_to_list}
use Rattle.std.specs.Str.{bytes_eq}
use Rattle.ccr_text.specs.declared.lines.Line.{Line}
use Rattle.ccr_text.specs.Lines.{split_text, numbered}
use Rattle.ccr_text.specs.Fields.{Words, ◌>>=◌, word, no_more, unless, or_code}
use Rattle.ccr_text.specs.Words.{is_comment, number_of}

-- the lines before a text of turns, or before what stands behind the turns of a record, at most: so each line has a number of 32 bits
abbrev pub most_lines_before : ℕ
most_lines_before = 4000000000

-- the words behind `turn` are the number of one of so many actors
abbrev pub actor_in : ℕ → Words → Result ℕ ℕ
actor_in actors words = do
  digits ← word words
  actor ← or_code (number_of digits.0) 5
  below ← unless (nat_lt actor actors) 10
  whole ← no_more digits.1
  Ok actor

-- a first word that is no comment has to be `turn`
abbrev pub turn_of : ℕ → List ℕ → Words → Result ℕ ℕ
turn_of actors first words = if bytes_eq first (codes "turn") then actor_in actors words else Err 3

-- a line without words or with a comment is skipped
abbrev pub turn_in : ℕ → Words → Result (Option ℕ) ℕ
turn_in actors [] = Ok None
turn_in actors (first ∷ words) = if is_comment first then Ok None else (turn_of actors first words >>= λ actor. Ok (Some actor))

-- whose turn a line says it is. A line that isn't clean is code 1
abbrev pub turn_on : ℕ → Line → Result (Option ℕ) ℕ
turn_on actors line = if line.clean then turn_in actors line.words else Err 1

-- these turns, and then those that are read, where no line offends
abbrev pub onto : List ℕ → Result (List ℕ) (ℕ × ℕ) → Result (List ℕ) (ℕ × ℕ)
onto turns (Ok more) = Ok (turns ++ more)
onto turns (Err refusal) = Err refusal

-- the turns of the lines, or the number of the first that offends and its code
abbrev pub turns_on : ℕ → List Line → Result (List ℕ) (ℕ × ℕ)
turns_on actors [] = Ok []
turns_on actors (line ∷ lines) = elim (turn_on actors line) [ Ok turn ↦ onto (option_to_list turn) (turns_on actors lines) | Err code ↦ Err (line.number, code) ]

-- the turns that a text says, behind so many lines and to so many actors; or its first offending line and the code
abbrev pub reading_turns : List ℕ → ℕ → ℕ → Result (List ℕ) (ℕ × ℕ)
reading_turns text lines_before actors = turns_on actors (numbered (lines_before + 1) (split_text text))

-- What a function returned is what reading gives, unless memory ran out.
use Rattle.std.specs.Prelude.{◌≡◌, ℕ, List, Result, Ok, Err}
use Rattle.std.specs.Borrow.{Bor}
use Rattle.ccr_wiretext.specs.declared.refused.ReadRefused.{ReadRefused}
use Rattle.ccr_wiretext.specs.declared.refused.ReadRefused.TheVariants as answers
use Rattle.ccr_replay.specs.declared.records.Record.{Record}
use Rattle.ccr_replay.specs.declared.refusals.RecordCode.{RecordCode}
use Rattle.ccr_replay.specs.declared.refusals.RecordCode.TheVariants as refusals
use Rattle.ccr_replay.specs.Grammar.{Says}
use Rattle.ccr_replay.specs.TurnGrammar.{Says as SaysTurns}

-- the number by which a code is told
abbrev pub code_number : RecordCode → ℕ
code_number refusals.Unclean = 1
code_number refusals.Keyword = 3
code_number refusals.WordCount = 4
code_number refusals.Number = 5
code_number refusals.Limit = 10
code_number refusals.NoRecord = 16
code_number refusals.Ending = 17

-- the reader's answer is this value, or a refusal with this code's number
abbrev pub Gives : {X : Type 0} → Result X RecordCode → Result X ℕ → Type 0
Gives (Ok x) read = read ≡ Ok x
Gives (Err code) read = read ≡ Err (code_number code)

-- the same of words behind a reference
abbrev pub GivesSeen : {X : Type 0} → Result (Bor X) RecordCode → Result X ℕ → Type 0
GivesSeen (Ok seen) read = read ≡ Ok seen.now
GivesSeen (Err code) read = read ≡ Err (code_number code)

-- what is answered where a line is refused
abbrev pub refused : ℕ → RecordCode → ReadRefused
refused line code = answers.At line (code_number code)

-- where a line is refused, the text says no record
abbrev pub SaysNothing : List ℕ → ReadRefused → Type 0
SaysNothing text answers.Memory = Unit {0}
SaysNothing text (answers.At line code) = (said : Record) → Says text said → ⊥

-- where a turn line is refused, the text says no turns to so many actors
abbrev pub TurnsSayNothing : List ℕ → ℕ → ReadRefused → Type 0
TurnsSayNothing text actors answers.Memory = Unit {0}
TurnsSayNothing text actors (answers.At line code) = (turns : List ℕ) → SaysTurns text actors turns → ⊥

-- What an answer of reading tells of the text.
use Rattle.std.proofs.Common.{◌≡◌, ◌∙◌, ◌<◌, ℕ, ◌+◌, List, Result, Ok, Err, IfOk, IfErr, sym}
use Rattle.std.specs.List.{All}
use Rattle.ccr_text.specs.Lines.{split_text}
use Rattle.ccr_wiretext.specs.declared.refused.ReadRefused.{ReadRefused}
use Rattle.ccr_wiretext.specs.declared.refused.ReadRefused.TheVariants as answers
use Rattle.ccr_replay.specs.Turns.{reading_turns}
use Rattle.ccr_replay.specs.TurnGrammar.{Says}
use Rattle.ccr_wiretext.specs.Answers.{IsReading}
use Rattle.ccr_replay.specs.Answers.{TurnsSayNothing}
use Rattle.ccr_replay.proofs.TurnsSaid.{all_below, read, said}

pub says : (actors before : ℕ) (text : List ℕ) (result : Result (List ℕ) ReadRefused) → IsReading result (reading_turns text before actors) → IfOk result (λ turns. Says text actors turns)
says actors before text (Ok turns) is = said actors (before + 1) (split_text text) turns is
says actors before text (Err refused) is = tt

pub below : (actors before : ℕ) (text : List ℕ) (result : Result (List ℕ) ReadRefused) → IsReading result (reading_turns text before actors) → IfOk result (λ turns. All (λ actor. actor < actors) turns)
below actors before text (Ok turns) is = all_below actors (split_text text) turns (said actors (before + 1) (split_text text) turns is)
below actors before text (Err refused) is = tt

pub says_nothing : (actors before : ℕ) (text : List ℕ) (result : Result (List ℕ) ReadRefused) → IsReading result (reading_turns text before actors) → IfErr result (λ refused. TurnsSayNothing text actors refused)
says_nothing actors before text (Ok turns) is = tt
says_nothing actors before text (Err answers.Memory) is = tt
says_nothing actors before text (Err (answers.At line code)) is =
    λ turns says. absurd (let h : Err (line, code) ≡ Ok turns = sym is ∙ read actors (before + 1) (split_text text) turns says in cc)

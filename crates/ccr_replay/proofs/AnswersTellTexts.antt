-- What an answer of reading tells of the text.
use Rattle.std.proofs.Common.{ℕ, ◌∙◌, List, Result, Ok, Err, IfOk, IfErr, sym}
use Rattle.ccr_wiretext.specs.declared.refused.ReadRefused.{ReadRefused}
use Rattle.ccr_wiretext.specs.declared.refused.ReadRefused.TheVariants as answers
use Rattle.ccr_replay.specs.declared.records.Record.{Record}
use Rattle.ccr_wiretext.specs.Answers.{IsReading}
use Rattle.ccr_replay.specs.Answers.{SaysNothing}
use Rattle.ccr_replay.specs.Grammar.{Says}
use Rattle.ccr_replay.specs.Reading.{reading_record}
use Rattle.ccr_replay.proofs.ReadingIsExact.{never, read, said}

pub says : (text : List ℕ) (result : Result Record ReadRefused) → IsReading result (reading_record text) → IfOk result (Says text)
says text (Ok r) is = said text r is
says text (Err why) is = tt

pub says_nothing : (text : List ℕ) (result : Result Record ReadRefused) → IsReading result (reading_record text) → IfErr result (SaysNothing text)
says_nothing text (Ok r) is = tt
says_nothing text (Err answers.Memory) is = tt
says_nothing text (Err (answers.At line code)) is = λ r says. never (line, code) r (sym is ∙ read text r says)

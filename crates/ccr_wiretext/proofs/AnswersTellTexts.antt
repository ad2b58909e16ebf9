-- What an answer of reading tells of the text.
use Rattle.std.proofs.Common.{◌≡◌, ℕ, true, List, Result, Ok, Err, IfOk, IfErr, sym, ◌∙◌}
use Rattle.ccr_wiring.specs.declared.parts.Parts.{Parts}
use Rattle.ccr_wiring.specs.Openness.{is_closed}
use Rattle.ccr_wiring.specs.Valid.{IsValid}
use Rattle.ccr_wiretext.specs.declared.refused.ReadRefused.{ReadRefused}
use Rattle.ccr_wiretext.specs.declared.refused.ReadRefused.TheVariants as refusals
use Rattle.ccr_wiretext.specs.Reading.{reading_text}
use Rattle.ccr_wiretext.specs.Answers.{IsReading, IsNoText}
use Rattle.ccr_wiretext.specs.Lines.{IsText}
use Rattle.ccr_wiretext.proofs.TextsRead.{text_said, text_read}
use Rattle.ccr_wiretext.proofs.NoCode.{text_has_none, text_closed}

pub says : (text : List ℕ) (result : Result Parts ReadRefused) → IsReading result (reading_text text) → IfOk result (λ parts. IsText text parts)
says text (Ok parts) read = text_said text parts read
says text (Err refused) read = tt

pub is_valid : (text : List ℕ) (result : Result Parts ReadRefused) → IsReading result (reading_text text) → IfOk result (λ parts. IsValid parts)
is_valid text (Ok parts) read = text_has_none text parts (text_said text parts read)
is_valid text (Err refused) read = tt

pub is_shut : (text : List ℕ) (result : Result Parts ReadRefused) → IsReading result (reading_text text) → IfOk result (λ parts. is_closed parts ≡ true)
is_shut text (Ok parts) read = text_closed text parts (text_said text parts read)
is_shut text (Err refused) read = tt

pub says_nothing : (text : List ℕ) (result : Result Parts ReadRefused) → IsReading result (reading_text text) → IfErr result (λ refused. IsNoText text refused)
says_nothing text (Ok parts) read = tt
says_nothing text (Err refusals.Memory) read = tt
says_nothing text (Err (refusals.At line code)) read = λ parts said. absurd (let h : Err (line, code) ≡ Ok parts = sym read ∙ text_read text parts said in cc)

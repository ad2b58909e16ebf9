-- What a reader answers of a text: what reading gives, unless memory ran out.
use Rattle.std.specs.Prelude.{◌≡◌, ℕ, List, Result, Ok, Err}
use Rattle.ccr_text.specs.declared.code.Code.{Code}
use Rattle.ccr_text.specs.declared.stop.Stop.{Stop}
use Rattle.ccr_text.specs.declared.stop.Stop.TheVariants as stops
use Rattle.ccr_text.specs.Codes.{code_number}
use Rattle.ccr_wiring.specs.declared.parts.Parts.{Parts}
use Rattle.ccr_wiretext.specs.declared.refused.ReadRefused.{ReadRefused}
use Rattle.ccr_wiretext.specs.declared.refused.ReadRefused.TheVariants as refusals
use Rattle.ccr_wiretext.specs.Lines.{IsText}

-- what is answered where a line stops the reading
abbrev pub refused : ℕ → Stop Code → ReadRefused
refused line stops.Memory = refusals.Memory
refused line (stops.Refused code) = refusals.At line (code_number code)

-- what the text says, or the first offending line and its code
abbrev pub IsReading : {X : Type 0} → Result X ReadRefused → Result X (ℕ × ℕ) → Type 0
IsReading (Ok said) read = read ≡ Ok said
IsReading (Err refusals.Memory) read = Unit {0}
IsReading (Err (refusals.At line code)) read = read ≡ Err (line, code)

-- where a line is refused, the text says nothing
abbrev pub IsNoText : List ℕ → ReadRefused → Type 0
IsNoText text refusals.Memory = Unit {0}
IsNoText text (refusals.At line code) = (parts : Parts) → IsText text parts → ⊥

-- What a function returned is what reading gives, unless memory ran out.
use Rattle.std.specs.Prelude.{◌≡◌, ℕ, Option, Some, None, Result, Ok, Err}
use Rattle.ccr_text.specs.declared.stop.Stop.{Stop}
use Rattle.ccr_text.specs.declared.stop.Stop.TheVariants as stops
use Rattle.ccr_trace.specs.declared.line_fault.LineFault.{LineFault}
use Rattle.ccr_trace.specs.declared.line_fault.LineFault.TheVariants as faults
use Rattle.ccr_trace.specs.declared.refused.HistoryRefused.{HistoryRefused}
use Rattle.ccr_trace.specs.declared.refused.HistoryRefused.TheVariants as refusals
use Rattle.ccr_trace.specs.declared.reading.ReadHistory.{ReadHistory}
use Rattle.ccr_text.specs.Fields.{Words}

-- nothing is said by a malformed line
abbrev pub SaysNone : {Y : Type 0} → Stop LineFault → Option Y → Type 0
SaysNone stops.Memory said = Unit {0}
SaysNone (stops.Refused faults.Malformed) said = said ≡ None
SaysNone (stops.Refused faults.Unknown) said = ⊥

-- what the words say
abbrev pub Says : {X : Type 0} → Result X (Stop LineFault) → Option X → Type 0
Says (Ok x) said = said ≡ Some x
Says (Err stop) said = SaysNone stop said

-- the same of a field, seen by view, which leaves the words behind it
abbrev pub LeavesBy : {X Y : Type 0} → (X → Y) → Words → Result X (Stop LineFault) → Option (Y × Words) → Type 0
LeavesBy view rest (Ok x) said = said ≡ Some (view x, rest)
LeavesBy view rest (Err stop) said = SaysNone stop said

-- the reader's answer is this value with the words that are left, or it has none
abbrev pub Leaves : {X : Type 0} → Words → Result X (Stop LineFault) → Option (X × Words) → Type 0
Leaves rest result said = LeavesBy (λ x. x) rest result said

-- what the wiring has
abbrev pub Finds : {X : Type 0} → Result X (Stop LineFault) → Option X → Type 0
Finds (Ok x) found = found ≡ Some x
Finds (Err stops.Memory) found = Unit {0}
Finds (Err (stops.Refused faults.Malformed)) found = ⊥
Finds (Err (stops.Refused faults.Unknown)) found = found ≡ None

-- the code of a line that stops the reading
abbrev pub HasCode : {Y : Type 0} → Stop LineFault → Result Y ℕ → Type 0
HasCode stops.Memory read = Unit {0}
HasCode (stops.Refused faults.Malformed) read = read ≡ Err 1
HasCode (stops.Refused faults.Unknown) read = read ≡ Err 2

-- the reader's answer is this value, or the refusal
abbrev pub Gives : {X : Type 0} → Result X (Stop LineFault) → Result X ℕ → Type 0
Gives (Ok x) read = read ≡ Ok x
Gives (Err stop) read = HasCode stop read

-- what is answered where a line stops the reading
abbrev pub refused : ℕ → Stop LineFault → HistoryRefused
refused line stops.Memory = refusals.Memory
refused line (stops.Refused faults.Malformed) = refusals.At line 1
refused line (stops.Refused faults.Unknown) = refusals.At line 2

-- this line and this code
abbrev pub IsRefusal : HistoryRefused → ℕ × ℕ → Type 0
IsRefusal refusals.Memory at = Unit {0}
IsRefusal (refusals.At line code) at = at ≡ (line, code)

-- the history, or the first offending line and its code
abbrev pub IsReading : Result ReadHistory HistoryRefused → Result ReadHistory (ℕ × ℕ) → Type 0
IsReading (Ok history) read = read ≡ Ok history
IsReading (Err refusals.Memory) read = Unit {0}
IsReading (Err (refusals.At line code)) read = read ≡ Err (line, code)

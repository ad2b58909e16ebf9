-- What `verify` finds of an output behind its wiring.
use Rattle.std.specs.Prelude.{◌≡◌, ℕ, ◌+◌, max, Bool, true, false, List, [], ◌∷◌, ◌++◌, drop, codes, decimal, Option, Some, None, Result, Ok, Err}
use Rattle.ccr_wiring.specs.declared.parts.Parts.{Parts}
use Rattle.ccr_wiring.specs.Valid.{IsValid}
use Rattle.ccr_model.specs.declared.history.Event.{Event}
use Rattle.ccr_model.specs.Rules.{number_of}
use Rattle.ccr_model.specs.Legal.{IsLegal, first_refusal, has_shed, is_complete}
use Rattle.ccr_checker.specs.Quiet.{MeansQuiet}
use Rattle.ccr_trace.specs.declared.reading.ReadHistory.{ReadHistory}
use Rattle.ccr_trace.specs.Reading.{reading}
use Rattle.ccr_report.specs.Report.{report_text}
use Rattle.ccr_commands.specs.Inputs.{first_difference}
use Rattle.ccr_commands.specs.Runs.{IsRun, last_line}
use Rattle.ccr_commands.specs.declared.status.Status.{Status}
use Rattle.ccr_commands.specs.declared.status.Status.TheVariants as statuses
use Rattle.ccr_commands.specs.declared.findings.Finding.{Finding}
use Rattle.ccr_commands.specs.declared.findings.Finding.TheVariants.{Malformed, Illegal, Misreported, Legal}

-- the refusal at a line behind so many others
abbrev pub behind : ℕ → Result ReadHistory (ℕ × ℕ) → Result ReadHistory (ℕ × ℕ)
behind before (Ok read) = Ok read
behind before (Err refusal) = Err (before + refusal.0, refusal.1)

-- the history that the output behind so many lines begins with, or the line that refuses it and the code: where there is no output, the last line
abbrev pub reading_output : Parts → ℕ → List ℕ → Result ReadHistory (ℕ × ℕ)
reading_output wiring before [] = Err (max before 1, 3)
reading_output wiring before (b ∷ output) = behind before (reading wiring (b ∷ output))

-- what is due behind the events of a history: its report and the last line
abbrev pub due_text : Parts → List Event → List ℕ
due_text wiring history = report_text wiring history ++ last_line (has_shed history)

-- the output begins with a legal history
pub record IsLegalOutput (wiring : Parts) (before : ℕ) (output : List ℕ) (read : ReadHistory) : Type 0 where
  pub reads : reading_output wiring before output ≡ Ok read
  pub legal : IsLegal wiring read.history

-- the line at which what stands behind its events first differs from what is due
abbrev pub difference : Parts → ℕ → List ℕ → ReadHistory → Option ℕ
difference wiring before output read = first_difference (before + read.lines + 1) (drop read.rest output) (due_text wiring read.history)

-- the finding is the first of these that is there: the output has no form of a history; its history is illegal at some line by
-- some rule; its report or last line differ; else it is legal, complete or not, and quiet or not
abbrev pub IsFound : Parts → ℕ → List ℕ → Finding → Type 0
IsFound wiring before output (Malformed line code) = reading_output wiring before output ≡ Err (line, code)
IsFound wiring before output (Illegal line rule) =
    (read : ReadHistory) × (index : ℕ) × (reading_output wiring before output ≡ Ok read)
    × (first_refusal wiring [] 0 read.history ≡ Some (index, rule))
    × (line ≡ before + 2 + index)
IsFound wiring before output (Misreported line) = (read : ReadHistory) × IsLegalOutput wiring before output read × (difference wiring before output read ≡ Some line)
IsFound wiring before output (Legal complete quiet) =
    (read : ReadHistory) × IsLegalOutput wiring before output read
    × (difference wiring before output read ≡ None)
    × (complete ≡ is_complete wiring read.history)
    × MeansQuiet wiring read.history quiet

-- in the text of a run of the wiring, if that is valid, it finds behind so many lines that it is legal, complete and quiet
abbrev pub RunIsFoundLegal : Parts → ℕ → Option (List ℕ) → Bool → List ℕ → ℕ → Type 0
RunIsFoundLegal wiring workers turns shed text before = IsValid wiring → IsRun false wiring workers turns shed text → IsFound wiring before text (Legal true true)

-- whether it finds a fault
abbrev pub is_fault : Finding → Bool
is_fault (Legal complete quiet) = false
is_fault _ = true

-- the word for whether it is so
abbrev pub yes_or_no : Bool → List ℕ
yes_or_no true = codes "yes"
yes_or_no false = codes "no"

-- a line, and the last line with the status
abbrev pub finding_text : Finding → List ℕ
finding_text (Malformed line code) = codes "malformed " ++ decimal line ++ 32 ∷ decimal code ++ 10 ∷ codes "done 7" ++ 10 ∷ []
finding_text (Illegal line rule) = codes "illegal " ++ decimal line ++ 32 ∷ decimal (number_of rule) ++ 10 ∷ codes "done 7" ++ 10 ∷ []
finding_text (Misreported line) = codes "misreported " ++ decimal line ++ 10 ∷ codes "done 7" ++ 10 ∷ []
finding_text (Legal complete quiet) = codes "legal complete " ++ yes_or_no complete ++ codes " quiet " ++ yes_or_no quiet ++ 10 ∷ codes "done 0" ++ 10 ∷ []

-- with what the program ends
abbrev pub status_of : Finding → Status
status_of (Legal complete quiet) = statuses.Done
status_of _ = statuses.Illegal

-- the text that is due for an output behind so many lines
abbrev pub VerifyGives : Parts → ℕ → List ℕ → Status → List ℕ → Type 0
VerifyGives wiring before output statuses.Done text = (complete : Bool) × (quiet : Bool) × IsFound wiring before output (Legal complete quiet) × (text ≡ finding_text (Legal complete quiet))
VerifyGives wiring before output statuses.Illegal text = (finding : Finding) × (is_fault finding ≡ true) × IsFound wiring before output finding × (text ≡ finding_text finding)
VerifyGives wiring before output _ text = ⊥

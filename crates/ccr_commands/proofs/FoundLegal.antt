-- A text of a history with its report and last line is found legal.
use Rattle.std.proofs.Common.{◌≡◌, ℕ, ◌+◌, Bool, true, List, [], ◌∷◌, ◌++◌, length, None, Ok, refl, sym, ap, ◌∙◌, subst, append_assoc}
use Rattle.std.specs.Prelude.{◌==◌, codes, if◌then◌else◌}
use Rattle.std.proofs.Math.Seq.{drop-append_seam}
use Rattle.ccr_wiring.specs.declared.parts.Parts.{Parts}
use Rattle.ccr_model.specs.declared.history.Event.{Event}
use Rattle.ccr_model.specs.Legal.{IsLegal, IsQuiet, has_shed, is_complete}
use Rattle.ccr_base.proofs.Booleans.{eq-self}
use Rattle.ccr_trace.specs.declared.reading.ReadHistory.{ReadHistory}
use Rattle.ccr_trace.specs.HistoryText.{history_text}
use Rattle.ccr_trace.specs.Reading.{reading, reading_lines}
use Rattle.ccr_report.specs.Report.{report_text}
use Rattle.ccr_commands.specs.declared.findings.Finding.TheVariants.{Legal}
use Rattle.ccr_commands.specs.Findings.{IsFound, difference, due_text, reading_output}
use Rattle.ccr_commands.specs.Inputs.{first_difference}
use Rattle.ccr_commands.specs.Runs.{last_line}

-- a text doesn't differ from itself
pub no_difference : (text : List ℕ) (line : ℕ) → first_difference line text text ≡ None
no_difference [] line = refl
no_difference (b ∷ text) line = rw (eq-self b) (no_difference text (if b == 10 then line + 1 else line))

-- an empty text has no history
reading_nothing : (wiring : Parts) (read : ReadHistory) → reading wiring [] ≡ Ok read → ⊥
unfolding reading_lines
reading_nothing wiring read is = cc

-- the text is the output's
pub read_output : (wiring : Parts) (before : ℕ) (text : List ℕ) (read : ReadHistory) → reading wiring text ≡ Ok read → reading_output wiring before text ≡ Ok read
read_output wiring before [] read is = absurd (reading_nothing wiring read is)
read_output wiring before (b ∷ text) read is = rw is refl

-- what stands behind the line `report 1` of what is due
due_more : (wiring : Parts) (history : List Event) → (more : List ℕ) × (due_text wiring history ≡ codes "report 1" ++ 10 ∷ more)
due_more wiring history = (_, refl)

-- what is written behind the history's text is what is due
pub written_is_due : (wiring : Parts) (history : List Event) (shed : Bool) (text : List ℕ) → has_shed history ≡ shed → text ≡ history_text wiring history ++ report_text wiring history ++ last_line shed → text ≡ history_text wiring history ++ due_text wiring history
written_is_due wiring history shed text sheds written =
    written ∙ (append_assoc (history_text wiring history) (report_text wiring history) (last_line shed)
    ∙ ap (λ s. history_text wiring history ++ (report_text wiring history ++ last_line s)) (sym sheds))

-- a legal history that is complete and quiet, with its report and last line behind it, is found so
pub text_is_found : (wiring : Parts) (history : List Event) (before : ℕ)
    → ((more : List ℕ) → reading wiring (history_text wiring history ++ (codes "report 1" ++ 10 ∷ more)) ≡ Ok (record { history = history; rest = length (history_text wiring history); lines = length history + 1 }))
    → IsLegal wiring history → is_complete wiring history ≡ true → IsQuiet wiring history
    → IsFound wiring before (history_text wiring history ++ due_text wiring history) (Legal true true)
text_is_found wiring history before again legal complete quiet =
    let due = due_more wiring history in
    let read : ReadHistory = record { history = history; rest = length (history_text wiring history); lines = length history + 1 } in
    let text = history_text wiring history ++ due_text wiring history in
    let reads : reading wiring text ≡ Ok read = subst (λ t. reading wiring (history_text wiring history ++ t) ≡ Ok read) (sym due.1) (again due.0) in
    let same : difference wiring before text read ≡ None = rw (drop-append_seam (history_text wiring history) (due_text wiring history)) (no_difference (due_text wiring history) (before + (length history + 1) + 1)) in
    (read, record { reads = read_output wiring before text read reads; legal = legal }, same, sym complete, quiet)

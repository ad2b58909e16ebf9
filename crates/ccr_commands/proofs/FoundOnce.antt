-- What is found of an output is found once.
use Rattle.std.proofs.Common.{◌≡◌, ℕ, ◌+◌, ◌<◌, ◌≤◌, false, Bool, List, [], ◌∷◌, ◌++◌, length, Option, Some, None, Result, Ok, Err, refl, sym, subst, ap, arith}
use Rattle.std.specs.Option.{option_map_or}
use Rattle.ccr_base.proofs.Options.{no_some}
use Rattle.ccr_wiring.specs.declared.parts.Parts.{Parts}
use Rattle.ccr_model.specs.declared.history.Event.{Event}
use Rattle.ccr_model.specs.declared.rule.Rule.{Rule}
use Rattle.ccr_model.specs.Rules.{refusal}
use Rattle.ccr_model.specs.Legal.{first_or, first_refusal}
use Rattle.ccr_model.proofs.LegalParts.{first_refusal-legal}
use Rattle.ccr_trace.specs.declared.reading.ReadHistory.{ReadHistory}
use Rattle.ccr_trace.proofs.Outcomes.{lines_of, rest_of}
use Rattle.ccr_telling.specs.declared.judging.LegalText.{LegalText}
use Rattle.ccr_telling.specs.declared.judging.Judgement.{Judgement}
use Rattle.ccr_telling.specs.declared.judging.Judgement.TheVariants as judgements
use Rattle.ccr_telling.specs.Judging.{IsJudged, IsJudgedHistory, IsToldOf}
use Rattle.ccr_commands.proofs.Bounds.{read_within}
use Rattle.ccr_commands.proofs.FoundLegal.{read_output}
use Rattle.ccr_commands.specs.declared.findings.Finding.{Finding}
use Rattle.ccr_commands.specs.declared.findings.Finding.TheVariants.{Malformed, Illegal, Misreported, Legal}
use Rattle.ccr_commands.specs.declared.status.Status.{Status}
use Rattle.ccr_commands.specs.Findings.{IsLegalOutput, difference, IsFound, VerifyGives, is_fault, status_of, finding_text}

bounded : (answer : Option Rule) (later : Option (ℕ × Rule)) (index bound at : ℕ) (rule : Rule) → (later ≡ Some (at, rule) → at < bound) → index < bound → first_or answer index later ≡ Some (at, rule) → at < bound
bounded None later index bound at rule within here is = within is
bounded (Some found) later index bound at rule within here is = let same : index ≡ at = ap (λ (o : Option (ℕ × Rule)). option_map_or (λ (p : ℕ × Rule). p.0) o index) is in omega (arith, same, here)

-- the refused event is one of the history
pub refused_within : (wiring : Parts) (past : List Event) (index : ℕ) (events : List Event) (at : ℕ) (rule : Rule) → first_refusal wiring past index events ≡ Some (at, rule) → at < index + length events
refused_within wiring past index [] at rule is = absurd cc
refused_within wiring past index (event ∷ events) at rule is =
    bounded (refusal wiring past event) (first_refusal wiring (past ++ event ∷ []) (index + 1) events) index (index + length (event ∷ events)) at rule
    (λ later. let within : at < index + 1 + length events = refused_within wiring (past ++ event ∷ []) (index + 1) events at rule later in omega (arith, within))
    (omega arith) is

unread : (read : Result ReadHistory (ℕ × ℕ)) (one : ReadHistory) (line code : ℕ) → read ≡ Ok one → read ≡ Err (line, code) → ⊥
unread read one line code ok err = cc

same_read : (read : Result ReadHistory (ℕ × ℕ)) (one other : ReadHistory) → read ≡ Ok one → read ≡ Ok other → one ≡ other
same_read read one other ok again = cc

-- where an output is legal and nothing differs, no fault is found
no_fault : (wiring : Parts) (before : ℕ) (output : List ℕ) (read : ReadHistory) (finding : Finding) → IsLegalOutput wiring before output read → difference wiring before output read ≡ None → IsFound wiring before output finding → is_fault finding ≡ false
no_fault wiring before output read (Legal complete quiet) legal same found = refl
no_fault wiring before output read (Malformed line code) legal same found = absurd (unread _ read line code legal.reads found)
no_fault wiring before output read (Illegal line rule) legal same found =
    let one : found.0 ≡ read = same_read _ found.0 read found.2 legal.reads in
    let none : first_refusal wiring [] 0 found.0.history ≡ None = subst (λ (r : ReadHistory). first_refusal wiring [] 0 r.history ≡ None) (sym one) (first_refusal-legal wiring [] 0 read.history legal.legal) in
    absurd (no_some _ (found.1, rule) none found.3)
no_fault wiring before output read (Misreported line) legal same found =
    let one : found.0 ≡ read = same_read _ found.0 read found.1.reads legal.reads in
    let none : difference wiring before output found.0 ≡ None = subst (λ (r : ReadHistory). difference wiring before output r ≡ None) (sym one) same in
    absurd (no_some _ line none found.2)

-- a legal output has no fault
pub no_fault_beside : (wiring : Parts) (before : ℕ) (output : List ℕ) (complete quiet : Bool) (finding : Finding) → IsFound wiring before output (Legal complete quiet) → IsFound wiring before output finding → is_fault finding ≡ false
no_fault_beside wiring before output complete quiet finding legal found = no_fault wiring before output legal.0 finding legal.1 legal.2 found

-- what is told of a legal text is told of lines and bytes that it has
pub told_within : (wiring : Parts) (output : List ℕ) (found : LegalText) → IsJudged wiring output (judgements.Legal found) → (found.lines ≤ length output + 2) × (found.rest ≤ length output)
told_within wiring output found judged =
    let lines = read_within wiring output judged.read judged.reads in
    let rest = rest_of wiring output (Ok judged.read) judged.reads in
    (omega (arith, lines, judged.judged.lines), omega (arith, rest, judged.judged.rest))

-- the refused event stands on a line that the text has
pub refused_line_within : (wiring : Parts) (output : List ℕ) (judgement : Judgement) (at : ℕ) (rule : Rule) → IsJudged wiring output judgement → judgement ≡ judgements.Illegal at rule → at ≤ length output
refused_line_within wiring output judgement at rule judged is =
    let refused = subst (λ (j : Judgement). IsJudgedHistory wiring judged.read j) is judged.judged in
    let within = refused_within wiring [] 0 judged.read.history at rule refused in
    let lines = lines_of wiring output (Ok judged.read) judged.reads in
    let few = read_within wiring output judged.read judged.reads in
    omega (arith, within, lines, few)

-- the finding of an illegal text
pub illegal_is_found : (wiring : Parts) (before : ℕ) (output : List ℕ) (judgement : Judgement) (at : ℕ) (rule : Rule) → IsJudged wiring output judgement → judgement ≡ judgements.Illegal at rule → IsFound wiring before output (Illegal (before + 2 + at) rule)
illegal_is_found wiring before output judgement at rule judged is =
    (judged.read, at, read_output wiring before output judged.read judged.reads, subst (λ (j : Judgement). IsJudgedHistory wiring judged.read j) is judged.judged, refl)

-- the output of a legal text, and the line at which it differs
pub legal_is_output : (wiring : Parts) (before : ℕ) (output : List ℕ) (judgement : Judgement) (found : LegalText) (judged : IsJudged wiring output judgement) → judgement ≡ judgements.Legal found → IsLegalOutput wiring before output judged.read × IsToldOf wiring judged.read found
legal_is_output wiring before output judgement found judged is =
    let told = subst (λ (j : Judgement). IsJudgedHistory wiring judged.read j) is judged.judged in
    (record { reads = read_output wiring before output judged.read judged.reads; legal = told.legal }, told)

-- what is found is what the text says
pub finding_is_due : (wiring : Parts) (before : ℕ) (output : List ℕ) (finding : Finding) (status : Status) (text : List ℕ) → IsFound wiring before output finding → status ≡ status_of finding → text ≡ finding_text finding → VerifyGives wiring before output status text
finding_is_due wiring before output (Legal complete quiet) status text found same due = rw same (complete, quiet, found, due)
finding_is_due wiring before output (Malformed line code) status text found same due = rw same (Malformed line code, refl, found, due)
finding_is_due wiring before output (Illegal line rule) status text found same due = rw same (Illegal line rule, refl, found, due)
finding_is_due wiring before output (Misreported line) status text found same due = rw same (Misreported line, refl, found, due)

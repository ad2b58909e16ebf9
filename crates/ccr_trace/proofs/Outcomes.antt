-- What holds of a history that was read.
use Rattle.std.proofs.Common.{◌≡◌, ℕ, ◌+◌, ◌<◌, ◌≤◌, cond, List, [], ◌∷◌, length, Result, Ok, Err, inl, inr, refl, sym, ap, subst, ◌∙◌, length-append, arith}
use Rattle.std.specs.Prelude.{codes, IfOk}
use Rattle.std.specs.Str.{bytes_eq}
use Rattle.std.proofs.lemmas.List.Elements.{All-nil, All-push}
use Rattle.ccr_base.proofs.Texts.{same_word}
use Rattle.ccr_base.proofs.Booleans.{chosen}
use Rattle.ccr_wiring.specs.declared.parts.Parts.{Parts}
use Rattle.ccr_model.specs.declared.history.Event.{Event}
use Rattle.ccr_trace.specs.declared.refused.HistoryRefused.{HistoryRefused}
use Rattle.ccr_trace.specs.declared.reading.ReadHistory.{ReadHistory}
use Rattle.ccr_trace.specs.Pieces.{pieces, bytes_in}
use Rattle.ccr_trace.specs.Known.{IsKnown, AreKnown, HasMessages, HaveMessages}
use Rattle.ccr_trace.specs.Reading.{event_on, first_line, head, with_event, reading_from, reading_lines, reading}
use Rattle.ccr_trace.specs.Answers.{IsReading}
use Rattle.ccr_trace.proofs.LineSteps.{bytes_more, bytes-pieces, first_bytes}
use Rattle.ccr_trace.proofs.KnownEvents.{event_is_known, event_has_messages}
use Rattle.ccr_text.proofs.Steps.{ok_is}

abbrev pub Read : Type 0
Read = Result ReadHistory (ℕ × ℕ)

abbrev pub done : ReadHistory → Read
done read = Ok read

abbrev stopped : ℕ × ℕ → Read
stopped at = Err at

-- what the line of an event leaves to the lines behind it
abbrev pub behind : Parts → ReadHistory → List ℕ → List (List ℕ) → Result Event ℕ → Read
behind parts read line lines on = elim on [ Ok event ↦ reading_from parts (with_event read line event) lines | Err code ↦ Err (read.lines + 1, code) ]

pub step_ok : (parts : Parts) (read : ReadHistory) (line : List ℕ) (lines : List (List ℕ)) (on : Result Event ℕ) (out : ReadHistory) → behind parts read line lines on ≡ Ok out → (event : Event) × (on ≡ Ok event) × (reading_from parts (with_event read line event) lines ≡ Ok out)
step_ok parts read line lines (Ok event) out e = (event, refl, e)
step_ok parts read line lines (Err code) out e = absurd cc

-- what holds at the head and is kept by each event holds at the end
pub along : (parts : Parts) (P : ReadHistory → Type 0) → ((read : ReadHistory) (line : List ℕ) (event : Event) → P read → event_on parts line ≡ Ok event → P (with_event read line event))
    → (lines : List (List ℕ)) (read out : ReadHistory) → P read → reading_from parts read lines ≡ Ok out → P out
unfolding reading_from
along parts P step [] read out p e = absurd cc
along parts P step (last ∷ []) read out p e = absurd cc
along parts P step (line ∷ next ∷ lines) read out p e =
    elim (chosen (bytes_eq line (codes "report 1")) (Ok read) (behind parts read line (next ∷ lines) (event_on parts line)) (Ok out) e) [
      | inl h ↦ subst P (ok_is read out h.1) p
      | inr h ↦ let on = step_ok parts read line (next ∷ lines) (event_on parts line) out h.1 in along parts P step (next ∷ lines) (with_event read line on.0) out (step read line on.0 p on.1) on.2
    ]

within_from : (parts : Parts) (lines : List (List ℕ)) (read out : ReadHistory) → reading_from parts read lines ≡ Ok out → out.rest < read.rest + bytes_in lines
unfolding reading_from
within_from parts [] read out e = absurd cc
within_from parts (last ∷ []) read out e = absurd cc
within_from parts (line ∷ next ∷ lines) read out e =
    elim (chosen (bytes_eq line (codes "report 1")) (Ok read) (behind parts read line (next ∷ lines) (event_on parts line)) (Ok out) e) [
      | inl h ↦ let same : read.rest ≡ out.rest = ap (λ (r : ReadHistory). r.rest) (ok_is read out h.1) in omega (arith, bytes_more line (next ∷ lines), same)
      | inr h ↦ let on = step_ok parts read line (next ∷ lines) (event_on parts line) out h.1 in let more : out.rest < (read.rest + (length line + 1)) + bytes_in (next ∷ lines) = within_from parts (next ∷ lines) (with_event read line on.0) out on.2 in omega (arith, bytes_more line (next ∷ lines), more)
    ]

-- the lines behind the first
pub head_ok : (parts : Parts) (lines : List (List ℕ)) (out : ReadHistory) → reading_lines parts lines ≡ Ok out → (rest : List (List ℕ)) × (lines ≡ first_line parts ∷ rest) × (reading_from parts head rest ≡ Ok out)
unfolding reading_lines
head_ok parts [] out e = absurd cc
head_ok parts (last ∷ []) out e = absurd cc
head_ok parts (line ∷ next ∷ lines) out e =
    elim (chosen (bytes_eq line (first_line parts)) (reading_from parts head (next ∷ lines)) (Err (1, 1)) (Ok out) e) [
      | inl h ↦ (next ∷ lines, ap (λ (w : List ℕ). w ∷ next ∷ lines) (same_word line (first_line parts) h.0), h.1)
      | inr h ↦ absurd (let refused : stopped (1, 1) ≡ done out = h.1 in cc)
    ]

pub text_along : (parts : Parts) (P : ReadHistory → Type 0) → ((read : ReadHistory) (line : List ℕ) (event : Event) → P read → event_on parts line ≡ Ok event → P (with_event read line event))
    → P head → (text : List ℕ) (out : ReadHistory) → reading parts text ≡ Ok out → P out
text_along parts P step first text out e =
    let behind_head = head_ok parts (pieces 10 text) out e in
    along parts P step behind_head.0 head out first behind_head.2

rest_ok : (parts : Parts) (text : List ℕ) (out : ReadHistory) → reading parts text ≡ Ok out → out.rest ≤ length text
rest_ok parts text out e =
    let behind_head = head_ok parts (pieces 10 text) out e in
    let more = within_from parts behind_head.0 head out behind_head.2 in
    let bytes : bytes_in (pieces 10 text) ≡ 10 + bytes_in behind_head.0 = ap bytes_in behind_head.1 ∙ bytes_more (first_line parts) behind_head.0 ∙ ap (λ n. (n + 1) + bytes_in behind_head.0) (first_bytes parts) in
    omega (arith, more, bytes, bytes-pieces 10 text)

lines_ok : (parts : Parts) (text : List ℕ) (out : ReadHistory) → reading parts text ≡ Ok out → out.lines ≡ length out.history + 1
lines_ok parts text out e =
    text_along parts (λ read. read.lines ≡ length read.history + 1) (λ read line event so on. omega (arith, so, length-append read.history (event ∷ []))) refl text out e

known_ok : (parts : Parts) (text : List ℕ) (out : ReadHistory) → reading parts text ≡ Ok out → AreKnown parts out.history
known_ok parts text out e =
    text_along parts (λ read. AreKnown parts read.history) (λ read line event so on. All-push (IsKnown parts) read.history event so (event_is_known parts line event on)) (All-nil (IsKnown parts)) text out e

messages_ok : (parts : Parts) (text : List ℕ) (out : ReadHistory) → reading parts text ≡ Ok out → HaveMessages out.history
messages_ok parts text out e =
    text_along parts (λ read. HaveMessages read.history) (λ read line event so on. All-push HasMessages read.history event so (event_has_messages parts line event on)) (All-nil HasMessages) text out e

pub rest_of : (parts : Parts) (text : List ℕ) (result : Result ReadHistory HistoryRefused) → IsReading result (reading parts text) → IfOk result (λ read. read.rest ≤ length text)
rest_of parts text (Ok read) is = rest_ok parts text read is
rest_of parts text (Err refused) is = tt

pub lines_of : (parts : Parts) (text : List ℕ) (result : Result ReadHistory HistoryRefused) → IsReading result (reading parts text) → IfOk result (λ read. read.lines ≡ length read.history + 1)
lines_of parts text (Ok read) is = lines_ok parts text read is
lines_of parts text (Err refused) is = tt

pub known_of : (parts : Parts) (text : List ℕ) (result : Result ReadHistory HistoryRefused) → IsReading result (reading parts text) → IfOk result (λ read. AreKnown parts read.history)
known_of parts text (Ok read) is = known_ok parts text read is
known_of parts text (Err refused) is = tt

pub messages_of : (parts : Parts) (text : List ℕ) (result : Result ReadHistory HistoryRefused) → IsReading result (reading parts text) → IfOk result (λ read. HaveMessages read.history)
messages_of parts text (Ok read) is = messages_ok parts text read is
messages_of parts text (Err refused) is = tt

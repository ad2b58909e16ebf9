-- The text of a history, and one event more at its end.
use Rattle.std.proofs.Common.{◌≡◌, ◌∙◌, ℕ, ◌+◌, ◌<◌, List, [], ◌∷◌, ◌++◌, take, get_or, length, ap, sym, arith}
use Rattle.std.proofs.lemmas.Grind.{common_steps}
use Rattle.std.proofs.lemmas.List.{take_more}
use Rattle.std.proofs.lemmas.List.Elements.{All-push}
use Rattle.ccr_wiring.specs.declared.parts.Parts.{Parts}
use Rattle.ccr_model.specs.declared.history.Event.{Event}
use Rattle.ccr_text.specs.Spelling.{line_text}
use Rattle.ccr_trace.specs.HistoryText.{event_words, history_text}
use Rattle.ccr_trace.specs.Known.{IsShort}
use Rattle.ccr_trace.specs.Values.{HasSmallValue}
use Rattle.ccr_trace.specs.Written.{IsWritten}

history_text-event : (w : Parts) (h : List Event) (e : Event) → history_text w (h ++ e ∷ []) ≡ history_text w h ++ line_text (event_words w e)
history_text-event w h e = grind (arith, common_steps)

pub IsWritten-none : (w : Parts) (text : List ℕ) → text ≡ history_text w [] → IsWritten w [] text
IsWritten-none w text is = record { spelled = is; short = λ k e low. absurd (omega (arith, low)); small = λ k e low. absurd (omega (arith, low)) }

pub IsWritten-event : (w : Parts) (h : List Event) (e : Event) (old new : List ℕ) → IsWritten w h old → new ≡ old ++ line_text (event_words w e) → IsShort e → HasSmallValue e → IsWritten w (h ++ e ∷ []) new
IsWritten-event w h e old new written grown short small = record {
  spelled = grown ∙ (ap (λ text. text ++ line_text (event_words w e)) written.spelled ∙ sym (history_text-event w h e));
  short = All-push IsShort h e written.short short;
  small = All-push HasSmallValue h e written.small small;
}

-- those so far and the next
pub IsWritten-more : (w : Parts) (es : List Event) (i : ℕ) (d : Event) (text : List ℕ) → i < length es → IsWritten w (take i es ++ get_or es i d ∷ []) text → IsWritten w (take (i + 1) es) text
IsWritten-more w es i d text below written = rw (take_more es i d below) written

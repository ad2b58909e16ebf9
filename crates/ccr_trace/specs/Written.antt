-- What is said of a history by its text.
use Rattle.std.specs.Prelude.{◌≡◌, ℕ, ◌+◌, List, ◌∷◌, ◌++◌, length, codes, Ok}
use Rattle.ccr_wiring.specs.declared.parts.Parts.{Parts}
use Rattle.ccr_wiring.specs.Valid.{IsValid}
use Rattle.ccr_model.specs.declared.history.Event.{Event}
use Rattle.ccr_trace.specs.declared.reading.ReadHistory.{ReadHistory}
use Rattle.ccr_trace.specs.HistoryText.{history_text}
use Rattle.ccr_trace.specs.Known.{AreKnown, AreShort, HaveMessages}
use Rattle.ccr_trace.specs.Reading.{reading}
use Rattle.ccr_trace.specs.Values.{HaveSmallValues}

-- the text is that of the history, whose numbers fit their types and whose values have at most 8 numbers
pub record IsWritten (wiring : Parts) (history : List Event) (text : List ℕ) : Type 0 where
  pub spelled : text ≡ history_text wiring history
  pub short : AreShort history
  pub small : HaveSmallValues history

-- the law holds of each history of the valid wiring that names only what it has, takes a message at each firing, and has numbers that fit their types
abbrev pub WhereTellable : Parts → List Event → Type 0 → Type 0
WhereTellable wiring history law = IsValid wiring → AreKnown wiring history → HaveMessages history → AreShort history → law

-- with a report behind it the text is read as this history, to its last byte, in as many lines and a first one
abbrev pub IsReadBefore : List ℕ → Parts → List Event → List ℕ → Type 0
IsReadBefore report wiring history text = reading wiring (text ++ (codes "report 1" ++ 10 ∷ report)) ≡ Ok (record { history = history; rest = length text; lines = length history + 1 })

-- with some report behind it the text is that of the history that was read, to the byte where it ends
abbrev pub IsTextOf : Parts → List ℕ → ReadHistory → Type 0
IsTextOf wiring text read = (more : List ℕ) × (text ≡ history_text wiring read.history ++ (codes "report 1" ++ 10 ∷ more)) × (read.rest ≡ length (history_text wiring read.history))

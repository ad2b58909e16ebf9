-- The text of a history and what is read of it.
use Rattle.std.proofs.Common.{◌≡◌, ℕ, suc, ◌+◌, Bool, true, false, cond, List, [], ◌∷◌, ◌++◌, length, map, Ok, Some, inl, inr, refl, sym, ap, ◌∙◌, append_assoc, append-nil, length-append, arith}
use Rattle.std.specs.Prelude.{◌==◌, codes}
use Rattle.std.specs.List.{join_with_byte}
use Rattle.std.specs.Str.{bytes_eq}
use Rattle.std.proofs.lemmas.List.Concat.{flat_map-cons}
use Rattle.std.proofs.lemmas.List.Elements.{recursion_from_All}
use Rattle.std.proofs.lemmas.List.Splits.{join_with_byte-slice_split}
use Rattle.ccr_base.proofs.Texts.{same_word, same_text}
use Rattle.ccr_base.proofs.Booleans.{chosen}
use Rattle.ccr_wiring.specs.declared.parts.Parts.{Parts}
use Rattle.ccr_wiring.specs.Valid.{IsValid}
use Rattle.ccr_model.specs.declared.history.Event.{Event}
use Rattle.ccr_model.specs.declared.history.Event.TheVariants as events
use Rattle.ccr_text.specs.Spelling.{joined, line_text, text_of}
use Rattle.ccr_text.proofs.Digits.{AreReadAgain}
use Rattle.ccr_text.proofs.Parts.{lacks, part_before, parts_some}
use Rattle.ccr_text.proofs.Steps.{ok_is}
use Rattle.ccr_trace.specs.declared.reading.ReadHistory.{ReadHistory}
use Rattle.ccr_trace.specs.Pieces.{pieces}
use Rattle.ccr_trace.specs.HistoryText.{first_words, event_words, history_text}
use Rattle.ccr_trace.specs.Forms.{said_on}
use Rattle.ccr_trace.specs.Known.{IsKnown, HasMessages, IsShort, AreKnown, HaveMessages, AreShort}
use Rattle.ccr_trace.specs.Reading.{event_on, first_line, head, with_event, reading_from, reading_lines, reading}
use Rattle.ccr_trace.proofs.Parting.{AreGraphic, joined_lacks}
use Rattle.ccr_trace.proofs.FormsSaid.{line_told}
use Rattle.ccr_trace.proofs.FormsRead.{said_again, said_graphic}
use Rattle.ccr_trace.proofs.EventsSaid.{said_of, words_of_said, said_good, known_again, known_words}
use Rattle.ccr_trace.proofs.KnownEvents.{event_said}
use Rattle.ccr_trace.proofs.LineSteps.{reading_next, reading_done, lines_next, first_bytes}
use Rattle.ccr_trace.proofs.Outcomes.{done, behind, step_ok, head_ok}

-- the first line has no LF
first_lacks : (parts : Parts) → lacks 10 (first_line parts) ≡ true
first_lacks parts = by (parts.version == 2)
  where
    by : (test : Bool) → lacks 10 (codes "history" ++ 32 ∷ cond test (codes "2") (codes "1")) ≡ true
    by true = refl
    by false = refl

-- the lines of these events
abbrev pub events_text : Parts → List Event → List ℕ
events_text parts history = text_of (map (event_words parts) history)

-- the line `report 1`, and what stands behind it
abbrev pub report_before : List ℕ → List ℕ
report_before more = codes "report 1" ++ 10 ∷ more

not_report : (parts : Parts) (event : Event) → bytes_eq (joined (event_words parts event)) (codes "report 1") ≡ false
not_report parts (events.Post message) = refl
not_report parts (events.Fire task spot messages cuts) = refl
not_report parts (events.Admit task) = refl
not_report parts (events.Put task dropped) = refl
not_report parts (events.Start task actor) = refl
not_report parts (events.End task how) = refl

more_events : (parts : Parts) (event : Event) (history : List Event) (rest : List ℕ) → events_text parts (event ∷ history) ++ rest ≡ joined (event_words parts event) ++ 10 ∷ (events_text parts history ++ rest)
more_events parts event history rest =
    let line = joined (event_words parts event) in
    ap (λ (t : List ℕ). t ++ rest) (flat_map-cons line_text (event_words parts event) (map (event_words parts) history))
    ∙ (append_assoc (line ++ 10 ∷ []) (events_text parts history) rest ∙ append_assoc line (10 ∷ []) (events_text parts history ++ rest))

same_read : (h i : List Event) (r s l m : ℕ) → h ≡ i → r ≡ s → l ≡ m → done (record { history = h; rest = r; lines = l }) ≡ done (record { history = i; rest = s; lines = m })
same_read h i r s l m e f g = rw (e, f, g) refl

count_bytes : (parts : Parts) (event : Event) (history : List Event) → length (events_text parts (event ∷ history)) ≡ (length (joined (event_words parts event)) + 1) + length (events_text parts history)
count_bytes parts event history =
    ap length (flat_map-cons line_text (event_words parts event) (map (event_words parts) history))
    ∙ omega (arith, length-append (joined (event_words parts event) ++ 10 ∷ []) (events_text parts history), length-append (joined (event_words parts event)) (10 ∷ []))

-- the first line, and those behind it
more_lines : (parts : Parts) (history : List Event) (rest : List ℕ) → history_text parts history ++ rest ≡ first_line parts ++ 10 ∷ (events_text parts history ++ rest)
more_lines parts history rest =
    let line = first_line parts in
    ap (λ (t : List ℕ). t ++ rest) (flat_map-cons line_text (first_words parts) (map (event_words parts) history))
    ∙ (append_assoc (line ++ 10 ∷ []) (events_text parts history) rest ∙ append_assoc line (10 ∷ []) (events_text parts history ++ rest))

count_lines : (parts : Parts) (history : List Event) → length (history_text parts history) ≡ 10 + length (events_text parts history)
count_lines parts history =
    ap length (flat_map-cons line_text (first_words parts) (map (event_words parts) history))
    ∙ omega (arith, length-append (first_line parts ++ 10 ∷ []) (events_text parts history), length-append (first_line parts) (10 ∷ []), first_bytes parts)

module _ (numbers : AreReadAgain) (parts : Parts) (valid : IsValid parts) where
  event_graphic : (event : Event) → IsKnown parts event → HasMessages event → IsShort event → AreGraphic (event_words parts event)
  event_graphic event there some short = rw (← words_of_said parts event) (said_graphic numbers parts.version (said_of parts event) (said_good parts event valid there some short))

  event_again : (event : Event) → IsKnown parts event → HasMessages event → IsShort event → event_on parts (joined (event_words parts event)) ≡ Ok event
  event_again event there some short =
      let said = said_again numbers parts.version (said_of parts event) (said_good parts event valid there some short) in
      let line : said_on parts.version (joined (event_words parts event)) ≡ Some (said_of parts event) = ap (λ (w : List (List ℕ)). said_on parts.version (joined w)) (sym (words_of_said parts event)) ∙ said in
      rw (line, known_again parts event valid there) refl

  again_from : (more : List ℕ) (history : List Event) (read : ReadHistory) → AreKnown parts history → HaveMessages history → AreShort history
      → reading_from parts read (pieces 10 (events_text parts history ++ report_before more)) ≡ Ok (record { history = read.history ++ history; rest = read.rest + length (events_text parts history); lines = read.lines + length history })
  again_from more [] read there some short =
      ap (reading_from parts read) (part_before 10 (codes "report 1") more refl)
      ∙ (reading_done parts read (codes "report 1") (pieces 10 more) (parts_some 10 more) refl
      ∙ same_read read.history (read.history ++ []) read.rest (read.rest + 0) read.lines (read.lines + 0) (sym (append-nil read.history)) (omega arith) (omega arith))
  again_from more (event ∷ history) read there some short =
      let known_here = (recursion_from_All (IsKnown parts) (event ∷ history) there).0 in
      let some_here = (recursion_from_All HasMessages (event ∷ history) some).0 in
      let short_here = (recursion_from_All IsShort (event ∷ history) short).0 in
      let line = joined (event_words parts event) in
      let rest = events_text parts history ++ report_before more in
      let lines : pieces 10 (events_text parts (event ∷ history) ++ report_before more) ≡ line ∷ pieces 10 rest = ap (pieces 10) (more_events parts event history (report_before more)) ∙ part_before 10 line rest (joined_lacks (event_words parts event) (event_graphic event known_here some_here short_here)) in
      let later = again_from more history (with_event read line event) (λ k d below. there (suc k) d (omega arith)) (λ k d below. some (suc k) d (omega arith)) (λ k d below. short (suc k) d (omega arith)) in
      ap (reading_from parts read) lines
      ∙ (reading_next parts read line (pieces 10 rest) event (parts_some 10 rest) (not_report parts event) (event_again event known_here some_here short_here)
      ∙ (later
      ∙ same_read ((read.history ++ event ∷ []) ++ history) (read.history ++ event ∷ history) ((read.rest + (length line + 1)) + length (events_text parts history)) (read.rest + length (events_text parts (event ∷ history))) ((read.lines + 1) + length history) (read.lines + length (event ∷ history))
      (append_assoc read.history (event ∷ []) history) (omega (arith, count_bytes parts event history)) (omega arith)))

  -- the text of a history is read as this history
  pub history_again : (history : List Event) (more : List ℕ) → AreKnown parts history → HaveMessages history → AreShort history
      → reading parts (history_text parts history ++ report_before more) ≡ Ok (record { history = history; rest = length (history_text parts history); lines = length history + 1 })
  history_again history more there some short =
      let rest = events_text parts history ++ report_before more in
      let lines : pieces 10 (history_text parts history ++ report_before more) ≡ first_line parts ∷ pieces 10 rest = ap (pieces 10) (more_lines parts history (report_before more)) ∙ part_before 10 (first_line parts) rest (first_lacks parts) in
      ap (reading_lines parts) lines
      ∙ (lines_next parts (first_line parts) (pieces 10 rest) (parts_some 10 rest) (same_text (first_line parts))
      ∙ (again_from more history head there some short
      ∙ same_read ([] ++ history) history (10 + length (events_text parts history)) (length (history_text parts history)) (1 + length history) (length history + 1) refl (omega (arith, count_lines parts history)) (omega arith)))

-- the events of the lines that were read, and what stands behind the line `report 1`
pub record HasRead (parts : Parts) (lines : List (List ℕ)) (read out : ReadHistory) : Type 0 where
  pub events : List Event
  pub more : List ℕ
  pub history : out.history ≡ read.history ++ events
  pub text : join_with_byte 10 lines ≡ events_text parts events ++ report_before more
  pub rest : out.rest ≡ read.rest + length (events_text parts events)

told_done : (parts : Parts) (line next : List ℕ) (lines : List (List ℕ)) (read out : ReadHistory) → bytes_eq line (codes "report 1") ≡ true → read ≡ out → HasRead parts (line ∷ next ∷ lines) read out
told_done parts line next lines read out is same = record {
  events = [];
  more = join_with_byte 10 (next ∷ lines);
  history = ap (λ (r : ReadHistory). r.history) (sym same) ∙ sym (append-nil read.history);
  text = ap (λ (w : List ℕ). w ++ 10 ∷ join_with_byte 10 (next ∷ lines)) (same_word line (codes "report 1") is);
  rest = ap (λ (r : ReadHistory). r.rest) (sym same) ∙ omega arith;
}

line_is : (parts : Parts) (line : List ℕ) (event : Event) → event_on parts line ≡ Ok event → joined (event_words parts event) ≡ line
line_is parts line event on =
    let said = event_said parts line event on in
    ap joined (known_words parts said.0 event said.2) ∙ (line_told parts.version line said.0 said.1).1

told_more : (parts : Parts) (line next : List ℕ) (lines : List (List ℕ)) (read out : ReadHistory) (event : Event) → event_on parts line ≡ Ok event → HasRead parts (next ∷ lines) (with_event read line event) out → HasRead parts (line ∷ next ∷ lines) read out
told_more parts line next lines read out event on told =
    let same = line_is parts line event on in
    record {
      events = event ∷ told.events;
      more = told.more;
      history = told.history ∙ append_assoc read.history (event ∷ []) told.events;
      text = ap (λ (t : List ℕ). line ++ 10 ∷ t) told.text ∙ (ap (λ (w : List ℕ). w ++ 10 ∷ (events_text parts told.events ++ report_before told.more)) (sym same) ∙ sym (more_events parts event told.events (report_before told.more)));
      rest = omega (arith, told.rest, count_bytes parts event told.events, ap length same);
    }

told_from : (parts : Parts) (lines : List (List ℕ)) (read out : ReadHistory) → reading_from parts read lines ≡ Ok out → HasRead parts lines read out
unfolding reading_from
told_from parts [] read out e = absurd cc
told_from parts (last ∷ []) read out e = absurd cc
told_from parts (line ∷ next ∷ lines) read out e =
    elim (chosen (bytes_eq line (codes "report 1")) (done read) (behind parts read line (next ∷ lines) (event_on parts line)) (Ok out) e) [
      | inl h ↦ told_done parts line next lines read out h.0 (ok_is read out h.1)
      | inr h ↦ let on = step_ok parts read line (next ∷ lines) (event_on parts line) out h.1 in told_more parts line next lines read out on.0 on.1 (told_from parts (next ∷ lines) (with_event read line on.0) out on.2)
    ]

join_first : (parts : Parts) (read out : ReadHistory) (line : List ℕ) (rest : List (List ℕ)) → reading_from parts read rest ≡ Ok out → join_with_byte 10 (line ∷ rest) ≡ line ++ 10 ∷ join_with_byte 10 rest
unfolding reading_from
join_first parts read out line [] e = absurd cc
join_first parts read out line (next ∷ rest) e = refl

-- what was read is the text of the history, with the line `report 1` behind it
pub history_told : (parts : Parts) (text : List ℕ) (out : ReadHistory) → reading parts text ≡ Ok out
    → (more : List ℕ) × (text ≡ history_text parts out.history ++ report_before more) × (out.rest ≡ length (history_text parts out.history))
history_told parts text out e =
    let behind_head = head_ok parts (pieces 10 text) out e in
    let rest = behind_head.0 in
    let told = told_from parts rest head out behind_head.2 in
    let whole : text ≡ first_line parts ++ 10 ∷ join_with_byte 10 rest = sym (join_with_byte-slice_split 10 text) ∙ (ap (join_with_byte 10) behind_head.1 ∙ join_first parts head out (first_line parts) rest behind_head.2) in
    let events : told.events ≡ out.history = sym told.history in
    let behind_line : join_with_byte 10 rest ≡ events_text parts out.history ++ report_before told.more = told.text ∙ ap (λ (h : List Event). events_text parts h ++ report_before told.more) events in
    let bytes : out.rest ≡ 10 + length (events_text parts out.history) = told.rest ∙ ap (λ (h : List Event). 10 + length (events_text parts h)) events in
    (told.more, whole ∙ (ap (λ (t : List ℕ). first_line parts ++ 10 ∷ t) behind_line ∙ sym (more_lines parts out.history (report_before told.more))), omega (arith, bytes, count_lines parts out.history))

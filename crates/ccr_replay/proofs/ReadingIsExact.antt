-- Reading finds in a text what the grammar says of it, both ways.
use Rattle.std.proofs.Common.{◌≡◌, ◌<◌, ◌≤◌, ℕ, ◌+◌, ◌-◌, max, Bool, true, false, List, [], ◌∷◌, ◌++◌, length, take, drop, Option, Some, None, Result, Ok, Err, refl, sym, ap, ◌∙◌, subst, arith, codes, inl, inr}
use Rattle.std.specs.Prelude.{◌==◌, ◌&&◌, not, nat_le, nat_lt, if◌then◌else◌}
use Rattle.std.specs.Str.{bytes_eq}
use Rattle.std.proofs.lemmas.Bool.Decides.{nat_tests}
use Rattle.std.proofs.lemmas.Slice.Eq.{bytes_eq-Decides}
use Rattle.std.proofs.Math.Seq.{drop-length}
use Rattle.ccr_text.specs.Lines.{begin_from, begins_with, split_text, is_first_word, numbered, numbered_line, index_or_end, behind_line}
use Rattle.ccr_text.specs.Fields.{Words, ◌>>=◌, no_more, or_code, unless, word}
use Rattle.ccr_text.specs.Words.{is_clean, number_of, words_of, IsSkipped}
use Rattle.ccr_wiring.specs.declared.parts.Parts.{Parts}
use Rattle.ccr_wiretext.specs.Lines.{IsText}
use Rattle.ccr_wiretext.specs.Reading.{at_end, reading_after, reading_text, at_line as on_line}
use Rattle.ccr_wiretext.proofs.TextsRead.{text_read, text_said}
use Rattle.ccr_replay.specs.TurnGrammar.{AreTurns}
use Rattle.ccr_replay.specs.Turns.{reading_turns, turns_on}
use Rattle.ccr_replay.proofs.TurnsSaid as turns_lines
use Rattle.ccr_replay.specs.declared.records.Record.{Record}
use Rattle.ccr_replay.specs.Grammar.{AreRecord, AreSkipped, IsLastLine, IsRecordLine, Says}
use Rattle.ccr_replay.specs.Reading.{and_then, behind_first, done_in, done_index, done_on, ending, line_at, recorded_turns, part_before, reading_behind, reading_lines, reading_part, reading_record, record_behind, record_index, skipped_in, skipped_lines, skipped_on, turns_behind, recorded_wiring, workers_in, workers_of, workers_on}
use Rattle.ccr_replay.proofs.LineEnds.{split_after, found_at, fronted, parted}
use Rattle.ccr_replay.proofs.NoRecord.{no_record}
use Rattle.ccr_replay.proofs.Splits.{split_behind, ended_free, found, none_begins, part_is, passed, spans, spans_ended}
use Rattle.ccr_base.proofs.Lists.{drop_past}

-- ==== what the grammar says is read

-- ---- single lines

record_read : (number workers : ℕ) (line : List ℕ) → IsRecordLine line workers → workers_on (numbered_line number line) ≡ Ok workers
record_read number workers line is =
    let low = is.few in
    let few : nat_le workers 16 ≡ true = grind (arith, nat_tests, low) in
    ap (λ (t : Bool). (if t then Ok (drop 1 (words_of line)) else Err 1) >>= workers_in) is.clean
    ∙ ap (λ (ws : Words). workers_in (drop 1 ws)) is.form
    ∙ ap (λ (o : Option ℕ). or_code o 5 >>= λ n. unless (nat_le n 16) 10 >>= λ f. no_more [] >>= λ w. Ok n) is.value
    ∙ ap (λ (t : Bool). unless t 10 >>= λ f. no_more [] >>= λ w. Ok workers) few

record_begins : (workers : ℕ) (line : List ℕ) → IsRecordLine line workers → begins_with (codes "record") line ≡ true
record_begins workers line is = ap (is_first_word (codes "record")) is.form

last_read : (number : ℕ) (line : List ℕ) → IsLastLine line → done_on (numbered_line number line) ≡ Ok tt
last_read number line is =
    ap (λ (t : Bool). (if t then Ok (drop 1 (words_of line)) else Err 1) >>= done_in) is.clean
    ∙ ap (λ (ws : Words). done_in (drop 1 ws)) is.form

last_begins : (line : List ℕ) → IsLastLine line → begins_with (codes "done") line ≡ true
last_begins line is = ap (is_first_word (codes "done")) is.form

skipped_read : (words : Words) → IsSkipped words → skipped_in words ≡ Ok tt
skipped_read words (inl empty) = ap skipped_in empty
skipped_read words (inr comment) = ap skipped_in comment.2

all_skipped : (number : ℕ) (lines : List (List ℕ)) → AreSkipped lines → skipped_lines (numbered number lines) ≡ Ok tt
all_skipped number [] are = refl
all_skipped number (line ∷ lines) are =
    ap (λ (t : Bool). and_then (on_line number (if t then skipped_in (words_of line) else Err 1)) (λ done. skipped_lines (numbered (number + 1) lines))) are.0
    ∙ ap (λ (r : Result (Unit {0}) ℕ). and_then (on_line number r) (λ done. skipped_lines (numbered (number + 1) lines))) (skipped_read (words_of line) are.1)
    ∙ all_skipped (number + 1) lines are.2

-- no turn and no skipped line begins with `done`
turns_free : (actors : ℕ) (lines : List (List ℕ)) (turns : List ℕ) → AreTurns actors lines turns → none_begins (codes "done") lines ≡ true
turns_free actors [] turns are = refl
turns_free actors (line ∷ lines) turns (clean, inl skip) = free skip.0 ∙ turns_free actors lines turns skip.1
  where
    free : IsSkipped (words_of line) → (not (begins_with (codes "done") line) && none_begins (codes "done") lines) ≡ none_begins (codes "done") lines
    free (inl empty) = ap (λ (ws : Words). not (is_first_word (codes "done") ws) && none_begins (codes "done") lines) empty
    free (inr comment) = ap (λ (ws : Words). not (is_first_word (codes "done") ws) && none_begins (codes "done") lines) comment.2
turns_free actors (line ∷ lines) turns (clean, inr next) =
    ap (λ (ws : Words). not (is_first_word (codes "done") ws) && none_begins (codes "done") lines) next.3.form ∙ turns_free actors lines next.1 next.4

-- ---- from the line of the record on

ending_read : (before : ℕ) (last : List ℕ) (others : List (List ℕ)) → IsLastLine last → AreSkipped others → ending before (last ∷ others) ≡ Ok tt
ending_read before last others is are =
    ap (λ (r : Result (Unit {0}) ℕ). and_then (on_line (before + 1) r) (λ done. skipped_lines (numbered (before + 2) others))) (last_read (before + 1) last is)
    ∙ all_skipped (before + 2) others are

done_found : (text : List ℕ) (middle : List (List ℕ)) (last : List ℕ) (others : List (List ℕ)) → split_text text ≡ middle ++ last ∷ others → none_begins (codes "done") middle ≡ true → begins_with (codes "done") last ≡ true → done_index text ≡ (spans middle, length middle)
done_found text middle last others is free begins =
    let at : begin_from (codes "done") 0 0 (split_text text) ≡ Some (0 + spans middle, 0 + length middle) = ap (begin_from (codes "done") 0 0) is ∙ passed (codes "done") 0 0 middle (last ∷ others) free ∙ found (codes "done") last others (0 + spans middle) (0 + length middle) begins in
    let bytes : 0 + spans middle ≡ spans middle = omega arith in
    let count : 0 + length middle ≡ length middle = omega arith in
    ap (index_or_end text) at ∙ ap (λ (n : ℕ). (n, 0 + length middle)) bytes ∙ ap (λ (n : ℕ). (spans middle, n)) count

turns_read : (actors number : ℕ) (turns text : List ℕ) (middle : List (List ℕ)) (last : List ℕ) (others : List (List ℕ)) → split_text text ≡ middle ++ last ∷ others → AreTurns actors middle turns → IsLastLine last → AreSkipped others → turns_behind actors number text ≡ Ok turns
turns_read actors number turns text middle last others is are ends skipped =
    let index = done_found text middle last others is (turns_free actors middle turns are) (last_begins last ends) in
    let parts = parted text middle last others is in
    let read : reading_turns (take (spans middle) text) number actors ≡ Ok turns = ap (λ (ls : List (List ℕ)). turns_on actors (numbered (number + 1) ls)) parts.before ∙ turns_lines.read actors (number + 1) middle turns are in
    ap (λ (p : ℕ × ℕ). and_then (reading_turns (take p.0 text) number actors) (λ ts. and_then (ending (number + p.1) (split_text (drop p.0 text))) (λ done. Ok ts))) index
    ∙ ap (λ (r : Result (List ℕ) (ℕ × ℕ)). and_then r (λ ts. and_then (ending (number + length middle) (split_text (drop (spans middle) text))) (λ done. Ok ts))) read
    ∙ ap (λ (ls : List (List ℕ)). and_then (ending (number + length middle) ls) (λ done. Ok turns)) parts.behind
    ∙ ap (λ (r : Result (Unit {0}) (ℕ × ℕ)). and_then r (λ done. Ok turns)) (ending_read (number + length middle) last others ends skipped)

lines_read : (wiring : Parts) (before workers : ℕ) (turns text : List ℕ) → AreRecord (length wiring.posters) workers turns (split_text text) → reading_behind wiring before text ≡ Ok (record { wiring = wiring; workers = workers; turns = turns })
lines_read wiring before workers turns text are =
    let rest = behind_line text in
    let behind : split_text rest ≡ are.middle ++ are.last ∷ are.others = split_after text are.first (are.middle ++ are.last ∷ are.others) are.all in
    ap (reading_lines wiring before text) are.all
    ∙ ap (λ (r : Result ℕ ℕ). and_then (on_line (before + 1) r) (λ n. record_behind wiring (before + 1) n rest)) (record_read (before + 1) workers are.first are.first_line)
    ∙ ap (λ (r : Result (List ℕ) (ℕ × ℕ)). and_then r (λ ts. Ok (record { wiring = wiring; workers = workers; turns = ts }))) (turns_read (length wiring.posters + workers) (before + 1) turns rest are.middle are.last are.others behind are.turn_lines are.last_line are.skipped)

-- ---- the whole text

record_found : (text behind first : List ℕ) (more : List (List ℕ)) → none_begins (codes "record") (split_text text) ≡ true → split_text behind ≡ first ∷ more → begins_with (codes "record") first ≡ true → record_index (text ++ 10 ∷ behind) ≡ (length text + 1, length (split_text (text ++ 10 ∷ [])))
record_found text behind first more free is begins =
    let lines = split_text (text ++ 10 ∷ []) in
    let whole : split_text (text ++ 10 ∷ behind) ≡ lines ++ (first ∷ more) = split_behind text behind ∙ ap (λ (ls : List (List ℕ)). lines ++ ls) is in
    let at : begin_from (codes "record") 0 0 (split_text (text ++ 10 ∷ behind)) ≡ Some (0 + spans lines, 0 + length lines) = ap (begin_from (codes "record") 0 0) whole ∙ passed (codes "record") 0 0 lines (first ∷ more) (ended_free (codes "record") text free) ∙ found (codes "record") first more (0 + spans lines) (0 + length lines) begins in
    let bytes : 0 + spans lines ≡ length text + 1 = let e = spans_ended text in omega (arith, e) in
    let count : 0 + length lines ≡ length lines = omega arith in
    ap (index_or_end (text ++ 10 ∷ behind)) at ∙ ap (λ (n : ℕ). (n, 0 + length lines)) bytes ∙ ap (λ (n : ℕ). (length text + 1, n)) count

some_bytes : (text first : List ℕ) (lines : List (List ℕ)) → split_text text ≡ first ∷ lines → 0 < length text
some_bytes [] first lines is = absurd (cc)
some_bytes (b ∷ text) first lines is = omega arith

part_read : (text : List ℕ) (wiring : Parts) → length text ≤ 1048576 → reading_text text ≡ Ok wiring → reading_part text ≡ Ok wiring
part_read text wiring short is =
    let long : nat_lt 1048576 (length text) ≡ false = grind (arith, nat_tests, short) in
    ap (λ (t : Bool). if t then Err (line_at 1048576 text, 10) else reading_text text) long ∙ is

pub read : (text : List ℕ) (r : Record) → Says text r → reading_record text ≡ Ok r
read text r says =
    let t = says.wiring_text in
    let b = says.behind in
    let are = says.lines in
    let bytes = t ++ 10 ∷ b in
    let wiring : reading_text t ≡ Ok r.wiring = text_read t r.wiring says.wiring in
    let index = record_found t b are.first (are.middle ++ are.last ∷ are.others) (no_record t r.wiring wiring) are.all (record_begins r.workers are.first are.first_line) in
    let part : recorded_wiring bytes ≡ t = ap (λ (p : ℕ × ℕ). part_before p.0 bytes) index ∙ part_is t b (some_bytes b are.first (are.middle ++ are.last ∷ are.others) are.all) in
    let out : recorded_turns bytes ≡ b = ap (λ (p : ℕ × ℕ). drop p.0 bytes) index ∙ drop_past t 10 b in
    ap reading_record says.whole
    ∙ ap (λ (x : List ℕ). and_then (reading_part x) (λ w. reading_behind w (record_index bytes).1 (recorded_turns bytes))) part
    ∙ ap (λ (x : Result Parts (ℕ × ℕ)). and_then x (λ w. reading_behind w (record_index bytes).1 (recorded_turns bytes))) (part_read t r.wiring says.short wiring)
    ∙ ap (reading_behind r.wiring (record_index bytes).1) out
    ∙ lines_read r.wiring (record_index bytes).1 r.workers r.turns b are

-- ==== what is read is what the grammar says

and_ok : {A B : Type 0} (r : Result A (ℕ × ℕ)) (f : A → Result B (ℕ × ℕ)) (b : B) → and_then r f ≡ Ok b → (a : A) × (r ≡ Ok a) × (f a ≡ Ok b)
and_ok (Ok a) f b is = (a, refl, is)
and_ok (Err refusal) f b is = absurd (cc)

line_ok : {A : Type 0} (number : ℕ) (r : Result A ℕ) (a : A) → on_line number r ≡ Ok a → r ≡ Ok a
line_ok number (Ok x) a is = let same : x ≡ a = cc in ap Ok same
line_ok number (Err code) a is = absurd (cc)

pub never : {A : Type 0} (refusal : ℕ × ℕ) (a : A) → Err refusal ≡ Ok a → ⊥
never refusal a is = cc

-- ---- single lines

number_said : (digits : List ℕ) (others : Words) (workers : ℕ) → workers_of digits others ≡ Ok workers → (others ≡ []) × (number_of digits ≡ Some workers) × (workers ≤ 16)
number_said digits others workers is = value (number_of digits) refl is
  where
    whole : (n : ℕ) → number_of digits ≡ Some n → nat_le n 16 ≡ true → (more : Words) → (no_more more >>= λ w. Ok n) ≡ Ok workers → (more ≡ []) × (number_of digits ≡ Some workers) × (workers ≤ 16)
    whole n at few [] is =
        let same : n ≡ workers = cc in
        let low : n ≤ 16 = grind (arith, nat_tests) in
        (refl, at ∙ ap Some same, omega (arith, same, low))
    whole n at few (word ∷ more) is = absurd (cc)

    within : (n : ℕ) → number_of digits ≡ Some n → (t : Bool) → nat_le n 16 ≡ t → (unless t 10 >>= λ f. no_more others >>= λ w. Ok n) ≡ Ok workers → (others ≡ []) × (number_of digits ≡ Some workers) × (workers ≤ 16)
    within n at true few is = whole n at few others is
    within n at false few is = absurd (cc)

    value : (o : Option ℕ) → number_of digits ≡ o → (or_code o 5 >>= λ n. unless (nat_le n 16) 10 >>= λ f. no_more others >>= λ w. Ok n) ≡ Ok workers → (others ≡ []) × (number_of digits ≡ Some workers) × (workers ≤ 16)
    value None at is = absurd (cc)
    value (Some n) at is = within n at (nat_le n 16) refl is

abbrev AreWorkers : Words → ℕ → Type 0
AreWorkers words workers = (digits : List ℕ) × (words ≡ codes "1" ∷ digits ∷ []) × (number_of digits ≡ Some workers) × (workers ≤ 16)

workers_said : (words : Words) (workers : ℕ) → workers_in words ≡ Ok workers → AreWorkers words workers
workers_said [] workers is = absurd (cc)
workers_said (version ∷ []) workers is = by (bytes_eq version (codes "1")) is
  where
    by : (t : Bool) → (unless t 3 >>= λ f. word [] >>= λ d. workers_of d.0 d.1) ≡ Ok workers → AreWorkers (version ∷ []) workers
    by true is = absurd (cc)
    by false is = absurd (cc)
workers_said (version ∷ digits ∷ others) workers is = by (bytes_eq version (codes "1")) refl is
  where
    by : (t : Bool) → bytes_eq version (codes "1") ≡ t → (unless t 3 >>= λ f. workers_of digits others) ≡ Ok workers → AreWorkers (version ∷ digits ∷ others) workers
    by true one is =
        let same : version ≡ codes "1" = (bytes_eq-Decides version (codes "1")).0 one in
        let number = number_said digits others workers is in
        (digits, ap (λ v. v ∷ digits ∷ others) same ∙ ap (λ (o : Words). codes "1" ∷ digits ∷ o) number.0, number.1, number.2)
    by false one is = absurd (cc)

-- the words of a line that begins with a word
begun : (first : List ℕ) (words : Words) → is_first_word first words ≡ true → words ≡ first ∷ drop 1 words
begun first [] is = absurd (cc)
begun first (w ∷ words) is = ap (λ v. v ∷ words) ((bytes_eq-Decides w first).0 is)

cleaned : {A : Type 0} (number : ℕ) (line : List ℕ) (f : Words → Result A ℕ) (a : A) → (behind_first (numbered_line number line) >>= f) ≡ Ok a → (is_clean line ≡ true) × (f (drop 1 (words_of line)) ≡ Ok a)
cleaned {A} number line f a is = by (is_clean line) refl is
  where
    by : (t : Bool) → is_clean line ≡ t → ((if t then Ok (drop 1 (words_of line)) else Err 1) >>= f) ≡ Ok a → (is_clean line ≡ true) × (f (drop 1 (words_of line)) ≡ Ok a)
    by true clean is = (clean, is)
    by false clean is = absurd (cc)

record_said : (number workers : ℕ) (line : List ℕ) → begins_with (codes "record") line ≡ true → workers_on (numbered_line number line) ≡ Ok workers → IsRecordLine line workers
record_said number workers line begins is =
    let clean = cleaned number line workers_in workers is in
    let words = workers_said (drop 1 (words_of line)) workers clean.1 in
    record { clean = clean.0; digits = words.0; form = begun (codes "record") (words_of line) begins ∙ ap (λ (ws : Words). codes "record" ∷ ws) words.1; value = words.2; few = words.3 }

done_said : (words : Words) (u : Unit {0}) → done_in words ≡ Ok u → words ≡ codes "0" ∷ []
done_said [] u is = absurd (cc)
done_said (status ∷ others) u is = by (bytes_eq status (codes "0")) refl is
  where
    whole : (more : Words) → no_more more ≡ Ok u → more ≡ []
    whole [] is = refl
    whole (word ∷ more) is = absurd (cc)

    by : (t : Bool) → bytes_eq status (codes "0") ≡ t → (unless t 3 >>= λ z. no_more others) ≡ Ok u → status ∷ others ≡ codes "0" ∷ []
    by true nought is =
        let same : status ≡ codes "0" = (bytes_eq-Decides status (codes "0")).0 nought in
        ap (λ v. v ∷ others) same ∙ ap (λ (o : Words). codes "0" ∷ o) (whole others is)
    by false nought is = absurd (cc)

last_said : (number : ℕ) (line : List ℕ) (u : Unit {0}) → begins_with (codes "done") line ≡ true → done_on (numbered_line number line) ≡ Ok u → IsLastLine line
last_said number line u begins is =
    let clean = cleaned number line done_in u is in
    record { clean = clean.0; form = begun (codes "done") (words_of line) begins ∙ ap (λ (ws : Words). codes "done" ∷ ws) (done_said (drop 1 (words_of line)) u clean.1) }

skip_said : (words : Words) (u : Unit {0}) → skipped_in words ≡ Ok u → IsSkipped words
skip_said [] u is = inl refl
skip_said ([] ∷ others) u is = absurd (cc)
skip_said ((b ∷ bytes) ∷ others) u is = by (b == 35) refl is
  where
    by : (t : Bool) → (b == 35) ≡ t → unless t 17 ≡ Ok u → IsSkipped ((b ∷ bytes) ∷ others)
    by true hash is = let same : b ≡ 35 = grind (arith, nat_tests) in inr (bytes, others, ap (λ c. (c ∷ bytes) ∷ others) same)
    by false hash is = absurd (cc)

skipped_said : (number : ℕ) (lines : List (List ℕ)) (u : Unit {0}) → skipped_lines (numbered number lines) ≡ Ok u → AreSkipped lines
skipped_said number [] u is = tt
skipped_said number (line ∷ lines) u is =
    let first = and_ok (on_line number (skipped_on (numbered_line number line))) (λ done. skipped_lines (numbered (number + 1) lines)) u is in
    let one = by (is_clean line) refl first.0 (line_ok number (skipped_on (numbered_line number line)) first.0 first.1) in
    (one.0, one.1, skipped_said (number + 1) lines u first.2)
  where
    by : (t : Bool) → is_clean line ≡ t → (v : Unit {0}) → (if t then skipped_in (words_of line) else Err 1) ≡ Ok v → (is_clean line ≡ true) × IsSkipped (words_of line)
    by true clean v is = (clean, skip_said (words_of line) v is)
    by false clean v is = absurd (cc)

-- ---- from the line of the record on

record Ended (actors : ℕ) (turns : List ℕ) (lines : List (List ℕ)) : Type 0 where
  middle : List (List ℕ)
  last : List ℕ
  others : List (List ℕ)
  all : lines ≡ middle ++ last ∷ others
  turn_lines : AreTurns actors middle turns
  last_line : IsLastLine last
  skipped : AreSkipped others

abbrev turns_at : ℕ → ℕ → List ℕ → ℕ × ℕ → Result (List ℕ) (ℕ × ℕ)
turns_at actors number text p = and_then (reading_turns (take p.0 text) number actors) (λ ts. and_then (ending (number + p.1) (split_text (drop p.0 text))) (λ done. Ok ts))

turns_said : (actors number : ℕ) (text turns : List ℕ) → turns_behind actors number text ≡ Ok turns → Ended actors turns (split_text text)
turns_said actors number text turns is = by (begin_from (codes "done") 0 0 (split_text text)) refl is
  where
    by : (o : Option (ℕ × ℕ)) → begin_from (codes "done") 0 0 (split_text text) ≡ o → turns_at actors number text (index_or_end text o) ≡ Ok turns → Ended actors turns (split_text text)
    by None at is =
        let first = and_ok (reading_turns (take (length text) text) number actors) (λ ts. and_then (ending (number + length (split_text text)) (split_text (drop (length text) text))) (λ done. Ok ts)) turns is in
        let clash : Err (number + length (split_text text), 17) ≡ Ok turns = sym (ap (λ (t : List ℕ). and_then (ending (number + length (split_text text)) (split_text t)) (λ done. Ok first.0)) (drop-length text)) ∙ first.2 in
        absurd (never (number + length (split_text text), 17) turns clash)
    by (Some index) at is =
        let found = found_at (codes "done") (split_text text) 0 0 index.0 index.1 at in
        let front = found.front in
        let spot : index.0 ≡ spans front = let e = found.index in omega (arith, e) in
        let parts = parted text front found.line found.back found.all in
        let first = and_ok (reading_turns (take index.0 text) number actors) (λ ts. and_then (ending (number + index.1) (split_text (drop index.0 text))) (λ done. Ok ts)) turns is in
        let second = and_ok (ending (number + index.1) (split_text (drop index.0 text))) (λ done. Ok first.0) turns first.2 in
        let same : first.0 ≡ turns = let e = second.2 in cc in
        let before : split_text (take index.0 text) ≡ front = ap (λ (n : ℕ). split_text (take n text)) spot ∙ parts.before in
        let behind : split_text (drop index.0 text) ≡ found.line ∷ found.back = ap (λ (n : ℕ). split_text (drop n text)) spot ∙ parts.behind in
        let read : turns_on actors (numbered (number + 1) front) ≡ Ok first.0 = ap (λ (ls : List (List ℕ)). turns_on actors (numbered (number + 1) ls)) (sym before) ∙ first.1 in
        let end : ending (number + index.1) (found.line ∷ found.back) ≡ Ok second.0 = ap (ending (number + index.1)) (sym behind) ∙ second.1 in
        let n = number + index.1 in
        let last = and_ok (on_line (n + 1) (done_on (numbered_line (n + 1) found.line))) (λ done. skipped_lines (numbered (n + 2) found.back)) second.0 end in
        record {
          middle = front;
          last = found.line;
          others = found.back;
          all = found.all;
          turn_lines = subst (AreTurns actors front) same (turns_lines.said actors (number + 1) front first.0 read);
          last_line = last_said (n + 1) found.line last.0 found.begins (line_ok (n + 1) (done_on (numbered_line (n + 1) found.line)) last.0 last.1);
          skipped = skipped_said (n + 2) found.back second.0 last.2;
        }

record Behind (wiring : Parts) (r : Record) (lines : List (List ℕ)) : Type 0 where
  same : r.wiring ≡ wiring
  are : AreRecord (length wiring.posters) r.workers r.turns lines

lines_said : (wiring : Parts) (before : ℕ) (r : Record) (text first : List ℕ) (more : List (List ℕ)) → split_text text ≡ first ∷ more → begins_with (codes "record") first ≡ true → reading_behind wiring before text ≡ Ok r → Behind wiring r (split_text text)
lines_said wiring before r text first more splits begins is =
    let rest = behind_line text in
    let read : reading_lines wiring before text (first ∷ more) ≡ Ok r = ap (reading_lines wiring before text) (sym splits) ∙ is in
    let one = and_ok (on_line (before + 1) (workers_on (numbered_line (before + 1) first))) (λ n. record_behind wiring (before + 1) n rest) r read in
    let line = record_said (before + 1) one.0 first begins (line_ok (before + 1) (workers_on (numbered_line (before + 1) first)) one.0 one.1) in
    let two = and_ok (turns_behind (length wiring.posters + one.0) (before + 1) rest) (λ ts. Ok (record { wiring = wiring; workers = one.0; turns = ts })) r one.2 in
    let same : record { wiring = wiring; workers = one.0; turns = two.0 } ≡ r = let e = two.2 in cc in
    let end = turns_said (length wiring.posters + one.0) (before + 1) rest two.0 two.1 in
    let behind : more ≡ end.middle ++ end.last ∷ end.others = sym (split_after text first more splits) ∙ end.all in
    let are : AreRecord (length wiring.posters) one.0 two.0 (split_text text) = record {
      first = first;
      middle = end.middle;
      last = end.last;
      others = end.others;
      all = splits ∙ ap (λ (ls : List (List ℕ)). first ∷ ls) behind;
      first_line = line;
      turn_lines = end.turn_lines;
      last_line = end.last_line;
      skipped = end.skipped;
    } in
    record {
      same = ap (λ (x : Record). x.wiring) (sym same);
      are = subst (λ (x : Record). AreRecord (length wiring.posters) x.workers x.turns (split_text text)) same are;
    }

-- ---- the whole text

nothing_read : (wiring : Parts) → reading_text [] ≡ Ok wiring → ⊥
unfolding reading_after at_end
nothing_read wiring is = cc

part_said : (text : List ℕ) (wiring : Parts) → reading_part text ≡ Ok wiring → (length text ≤ 1048576) × (reading_text text ≡ Ok wiring)
part_said text wiring is = by (nat_lt 1048576 (length text)) refl is
  where
    by : (t : Bool) → nat_lt 1048576 (length text) ≡ t → (if t then Err (line_at 1048576 text, 10) else reading_text text) ≡ Ok wiring → (length text ≤ 1048576) × (reading_text text ≡ Ok wiring)
    by true long is = absurd (cc)
    by false long is = (grind (arith, nat_tests, long), is)

abbrev record_at : List ℕ → ℕ × ℕ → Result Record (ℕ × ℕ)
record_at text p = and_then (reading_part (part_before p.0 text)) (λ w. reading_behind w p.1 (drop p.0 text))

said_behind : (text : List ℕ) (r : Record) (at count : ℕ) (front : List (List ℕ)) (line : List ℕ) (back : List (List ℕ)) → split_text text ≡ front ++ line ∷ back → at ≡ spans front → begins_with (codes "record") line ≡ true → record_at text (at, count) ≡ Ok r → Says text r
said_behind text r at count [] line back splits spot begins is =
    let read = and_ok (reading_part (part_before at text)) (λ w. reading_behind w count (drop at text)) r is in
    let some = some_bytes text line back splits in
    let inside : nat_lt 0 (length text) ≡ true = grind (arith, nat_tests, some) in
    let none : part_before at text ≡ [] = ap (λ (n : ℕ). part_before n text) spot ∙ ap (λ (t : Bool). if t then take (0 - 1) text else text) inside in
    let empty : reading_part [] ≡ Ok read.0 = ap reading_part (sym none) ∙ read.1 in
    absurd (nothing_read read.0 (part_said [] read.0 empty).1)
said_behind text r at count (first ∷ front) line back splits spot begins is =
    let read = and_ok (reading_part (part_before at text)) (λ w. reading_behind w count (drop at text)) r is in
    let fr = fronted text first front line back splits in
    let t = fr.front in
    let b = drop at text in
    let w = read.0 in
    let left : drop (spans (first ∷ front)) text ≡ b = ap (λ (n : ℕ). drop n text) (sym spot) in
    let whole : text ≡ t ++ 10 ∷ b = fr.whole ∙ ap (λ (x : List ℕ). t ++ 10 ∷ x) left in
    let behind : split_text b ≡ line ∷ back = ap split_text (sym left) ∙ (parted text (first ∷ front) line back splits).behind in
    let spot_is : at ≡ length t + 1 = spot ∙ fr.long in
    let part : part_before at text ≡ t = ap (λ (n : ℕ). part_before n text) spot_is ∙ ap (part_before (length t + 1)) whole ∙ part_is t b (some_bytes b line back behind) in
    let wiring = part_said t w (ap reading_part (sym part) ∙ read.1) in
    let lines = lines_said w count r b line back behind begins read.2 in
    record {
      wiring_text = t;
      behind = b;
      whole = whole;
      short = wiring.0;
      wiring = subst (IsText t) (sym lines.same) (text_said t w wiring.1);
      lines = subst (λ (x : Parts). AreRecord (length x.posters) r.workers r.turns (split_text b)) (sym lines.same) lines.are;
    }

pub said : (text : List ℕ) (r : Record) → reading_record text ≡ Ok r → Says text r
said text r is = by (begin_from (codes "record") 0 0 (split_text text)) refl is
  where
    by : (o : Option (ℕ × ℕ)) → begin_from (codes "record") 0 0 (split_text text) ≡ o → record_at text (index_or_end text o) ≡ Ok r → Says text r
    by None at is =
        let read = and_ok (reading_part (part_before (length text) text)) (λ w. reading_behind w (length (split_text text)) (drop (length text) text)) r is in
        let clash : Err (max (length (split_text text)) 1, 16) ≡ Ok r = sym (ap (reading_behind read.0 (length (split_text text))) (drop-length text)) ∙ read.2 in
        absurd (never (max (length (split_text text)) 1, 16) r clash)
    by (Some index) at is =
        let found = found_at (codes "record") (split_text text) 0 0 index.0 index.1 at in
        let spot : index.0 ≡ spans found.front = let e = found.index in omega (arith, e) in
        said_behind text r index.0 index.1 found.front found.line found.back found.all spot found.begins is

-- A record that is written is read as the record that it was.
use Rattle.std.proofs.Common.{◌≡◌, ◌<◌, ◌≤◌, ℕ, suc, ◌+◌, ◌^◌, List, [], ◌∷◌, ◌++◌, length, map, Ok, refl, sym, ap, ◌∙◌, append-nil, arith, inr}
use Rattle.std.specs.List.{All}
use Rattle.std.proofs.lemmas.Grind.{common_steps}
use Rattle.ccr_text.specs.Lines.{split_text}
use Rattle.ccr_text.specs.Spelling.{joined, line_text, text_of, AreLines, AreWords}
use Rattle.ccr_text.proofs.Again.{joined_clean, joined_words}
use Rattle.ccr_text.proofs.Decimals.{number_again}
use Rattle.ccr_wiring.specs.declared.parts.Parts.{Parts}
use Rattle.ccr_wiring.specs.Valid.{IsValid}
use Rattle.ccr_wiring.proofs.Soundness.{sound}
use Rattle.ccr_wiretext.specs.Reading.{reading_text}
use Rattle.ccr_wiretext.proofs.AnswersTellTexts.{is_valid}
use Rattle.ccr_wiretext.proofs.TextsRead.{text_said}
use Rattle.ccr_replay.specs.TurnGrammar.{AreTurns}
use Rattle.ccr_replay.specs.Grammar.{IsLastLine, IsRecordLine, Says}
use Rattle.ccr_replay.specs.Reading.{reading_record}
use Rattle.ccr_replay.specs.Records.{done_words, record_lines, record_text, record_words, turn_words}
use Rattle.ccr_replay.proofs.ReadingIsExact.{read}
use Rattle.ccr_replay.proofs.Splits.{split_line, split_all_lines, decimal_word}

-- ---- the words that are written

record_are : (workers : ℕ) → workers < 2 ^ 64 → AreWords (record_words workers)
record_are workers fits = let word = decimal_word workers fits in (refl, refl, (refl, refl, (word.0, word.1, tt)))

turn_are : (actor : ℕ) → actor < 2 ^ 64 → AreWords (turn_words actor)
turn_are actor fits = let word = decimal_word actor fits in (refl, refl, (word.0, word.1, tt))

done_are : AreWords done_words
done_are = (refl, refl, (refl, refl, tt))

turns_are : (turns : List ℕ) → All (λ a. a < 2 ^ 64) turns → AreLines (map turn_words turns)
turns_are [] low = tt
turns_are (actor ∷ turns) low = (turn_are actor (low 0 0 (omega arith)), turns_are turns (λ k d below. low (suc k) d (omega arith)))

-- ---- what they say

record_line : (workers : ℕ) → workers ≤ 16 → IsRecordLine (joined (record_words workers)) workers
record_line workers few =
    let fits : workers < 2 ^ 64 = omega arith in
    let are = record_are workers fits in
    record { clean = joined_clean (record_words workers) are; digits = _; form = joined_words (record_words workers) are; value = number_again workers fits; few = few }

last_line : IsLastLine (joined done_words)
last_line = record { clean = joined_clean done_words done_are; form = joined_words done_words done_are }

turn_lines : (actors : ℕ) (turns : List ℕ) → All (λ a. a < actors) turns → All (λ a. a < 2 ^ 64) turns → AreTurns actors (map joined (map turn_words turns)) turns
turn_lines actors [] low fits = refl
turn_lines actors (actor ∷ turns) low fits =
    let small = fits 0 0 (omega arith) in
    let are = turn_are actor small in (
      joined_clean (turn_words actor) are,
      inr (
        actor,
        turns,
        refl,
        record { digits = _; form = joined_words (turn_words actor) are; value = number_again actor small; below = low 0 0 (omega arith) },
        turn_lines actors turns (λ k d below. low (suc k) d (omega arith)) (λ k d below. fits (suc k) d (omega arith)),
      ),
    )

-- ---- the lines of the text

text-append : (lines more : List (List (List ℕ))) → text_of (lines ++ more) ≡ text_of lines ++ text_of more
text-append lines more = grind (arith, common_steps)

last_split : split_text (text_of (done_words ∷ [])) ≡ joined done_words ∷ []
last_split = ap split_text (sym (append-nil (text_of (done_words ∷ [])))) ∙ split_all_lines (done_words ∷ []) [] (done_are, tt)

lines_split : (workers : ℕ) (turns : List ℕ) → workers ≤ 16 → All (λ a. a < 2 ^ 64) turns → split_text (text_of (record_lines workers turns)) ≡ joined (record_words workers) ∷ (map joined (map turn_words turns) ++ joined done_words ∷ [])
lines_split workers turns few fits =
    let small : workers < 2 ^ 64 = omega arith in
    let lines = map turn_words turns in
    ap (λ (t : List ℕ). split_text (line_text (record_words workers) ++ t)) (text-append lines (done_words ∷ []))
    ∙ split_line (record_words workers) (text_of lines ++ text_of (done_words ∷ [])) (record_are workers small)
    ∙ ap (λ (ls : List (List ℕ)). joined (record_words workers) ∷ ls) (split_all_lines lines (text_of (done_words ∷ [])) (turns_are turns fits))
    ∙ ap (λ (ls : List (List ℕ)). joined (record_words workers) ∷ (map joined lines ++ ls)) last_split

says : (text : List ℕ) (wiring : Parts) (workers : ℕ) (turns : List ℕ) → reading_text text ≡ Ok wiring → length text ≤ 1048576 → workers ≤ 16 → All (λ a. a < length wiring.posters + workers) turns → All (λ a. a < 2 ^ 64) turns
    → Says (record_text text workers turns) (record { wiring = wiring; workers = workers; turns = turns })
says text wiring workers turns reads short few low fits = record {
  wiring_text = text;
  behind = text_of (record_lines workers turns);
  whole = refl;
  short = short;
  wiring = text_said text wiring reads;
  lines = record {
    first = joined (record_words workers);
    middle = map joined (map turn_words turns);
    last = joined done_words;
    others = [];
    all = lines_split workers turns few fits;
    first_line = record_line workers few;
    turn_lines = turn_lines (length wiring.posters + workers) turns low fits;
    last_line = last_line;
    skipped = tt;
  };
}

-- what was written is read as the same record
pub again : (text : List ℕ) (wiring : Parts) (workers : ℕ) (turns : List ℕ) → reading_text text ≡ Ok wiring → length text ≤ 1048576 → workers ≤ 16 → All (λ a. a < length wiring.posters + workers) turns
    → reading_record (record_text text workers turns) ≡ Ok (record { wiring = wiring; workers = workers; turns = turns })
again text wiring workers turns reads short few low =
    let valid : IsValid wiring = is_valid text (Ok wiring) reads in
    let posters = (sound wiring valid).small.posters in
    read (record_text text workers turns) (record { wiring = wiring; workers = workers; turns = turns }) (says text wiring workers turns reads short few low (λ k d below. let one = low k d below in omega (arith, one, posters, few)))

-- Where the first line stands that begins with a word, in a text whose lines are known.
use Rattle.std.proofs.Common.{◌≡◌, ◌<◌, ℕ, suc, ◌+◌, ◌-◌, ◌^◌, take, Bool, true, false, List, [], ◌∷◌, ◌++◌, length, map, Some, refl, sym, ap, ◌∙◌, append_assoc, arith, inl, inr, ◌⊎◌}
use Rattle.std.specs.Prelude.{◌==◌, not, nat_lt, if◌then◌else◌, decimal}
use Rattle.std.specs.List.{list_all, onto_first}
use Rattle.std.proofs.lemmas.Bool.Decides.{nat_tests}
use Rattle.std.proofs.lemmas.Grind.{common_steps}
use Rattle.std.proofs.lemmas.Fmt.{digits_decimal, decimal_nonempty}
use Rattle.std.proofs.lemmas.List.Concat.{flat_map-cons}
use Rattle.ccr_text.specs.Lines.{begin_from, begins_with, split_text, first_line, behind_line}
use Rattle.ccr_text.specs.Spelling.{joined, line_text, text_of, AreLines, AreWords}
use Rattle.ccr_text.specs.Words.{is_graphic}
use Rattle.ccr_replay.specs.Reading.{part_before}
use Rattle.ccr_text.proofs.Again.{joined_feeds, split_off}
use Rattle.ccr_text.proofs.Decimals.{own}
use Rattle.ccr_text.proofs.FirstLine.{split_next}
use Rattle.std.proofs.lemmas.Bool.{and_parts as both}
use Rattle.std.proofs.Math.Seq.{take-append_seam}
use Rattle.ccr_base.proofs.Booleans.{not_true}
use Rattle.ccr_wiretext.proofs.PlainPosts.{digits_graphic}

-- how many bytes these lines have, each with its LF
abbrev pub spans : List (List ℕ) → ℕ
spans [] = 0
spans (line ∷ lines) = (length line + 1) + spans lines

-- no line begins with the word
abbrev pub none_begins : List ℕ → List (List ℕ) → Bool
none_begins word lines = list_all (λ line. not (begins_with word line)) lines

-- ---- lines are passed over that don't begin with the word

pub passed : (word : List ℕ) (byte number : ℕ) (lines more : List (List ℕ)) → none_begins word lines ≡ true → begin_from word byte number (lines ++ more) ≡ begin_from word (byte + spans lines) (number + length lines) more
passed word byte number [] more none = grind (arith, common_steps)
passed word byte number (line ∷ lines) more none =
    let parts = both (not (begins_with word line)) (none_begins word lines) none in
    let other : begins_with word line ≡ false = not_true (begins_with word line) parts.0 in
    let bytes : (byte + (length line + 1)) + spans lines ≡ byte + spans (line ∷ lines) = omega arith in
    let numbers : (number + 1) + length lines ≡ number + length (line ∷ lines) = omega arith in
    ap (λ (t : Bool). if t then Some (byte, number) else begin_from word (byte + (length line + 1)) (number + 1) (lines ++ more)) other
    ∙ passed word (byte + (length line + 1)) (number + 1) lines more parts.1
    ∙ ap (λ (n : ℕ). begin_from word n ((number + 1) + length lines) more) bytes
    ∙ ap (λ (n : ℕ). begin_from word (byte + spans (line ∷ lines)) n more) numbers

-- ---- a text that ends with LF, and what stands behind it

split_some : (text : List ℕ) → (first : List ℕ) × (lines : List (List ℕ)) × (split_text (text ++ 10 ∷ []) ≡ first ∷ lines)
split_some [] = ([], [], refl)
split_some (b ∷ text) = (first_line (b ∷ text ++ 10 ∷ []), split_text (behind_line (b ∷ text ++ 10 ∷ [])), split_next b (text ++ 10 ∷ []))

pub split_behind : (text more : List ℕ) → split_text (text ++ 10 ∷ more) ≡ split_text (text ++ 10 ∷ []) ++ split_text more
split_behind [] more = refl
split_behind (b ∷ text) more = go (b == 10) (split_behind text more)
  where
    go : (t : Bool) → split_text (text ++ 10 ∷ more) ≡ split_text (text ++ 10 ∷ []) ++ split_text more → (if t then ([] ∷ split_text (text ++ 10 ∷ more)) else onto_first b (split_text (text ++ 10 ∷ more))) ≡ (if t then ([] ∷ split_text (text ++ 10 ∷ [])) else onto_first b (split_text (text ++ 10 ∷ []))) ++ split_text more
    go true same = ap (λ (ls : List (List ℕ)). [] ∷ ls) same
    go false same =
        let some = split_some text in
        ap (onto_first b) same
        ∙ ap (λ (ls : List (List ℕ)). onto_first b (ls ++ split_text more)) some.2
        ∙ ap (λ (ls : List (List ℕ)). onto_first b ls ++ split_text more) (sym some.2)

spans_onto : (c : ℕ) (first : List ℕ) (lines : List (List ℕ)) → spans (onto_first c (first ∷ lines)) ≡ suc (spans (first ∷ lines))
spans_onto c first lines = omega arith

pub spans_ended : (text : List ℕ) → spans (split_text (text ++ 10 ∷ [])) ≡ length text + 1
spans_ended [] = refl
spans_ended (b ∷ text) = go (b == 10) (spans_ended text)
  where
    go : (t : Bool) → spans (split_text (text ++ 10 ∷ [])) ≡ length text + 1 → spans (if t then ([] ∷ split_text (text ++ 10 ∷ [])) else onto_first b (split_text (text ++ 10 ∷ []))) ≡ length (b ∷ text) + 1
    go true same = omega (arith, same)
    go false same =
        let some = split_some text in
        let onto : spans (onto_first b (split_text (text ++ 10 ∷ []))) ≡ suc (spans (split_text (text ++ 10 ∷ []))) = ap (λ (ls : List (List ℕ)). spans (onto_first b ls)) some.2 ∙ spans_onto b some.0 some.1 ∙ ap (λ (ls : List (List ℕ)). suc (spans ls)) (sym some.2) in
        onto ∙ omega (arith, same)

-- the lines of a text to which one LF is added are its own, and maybe an empty one
pub ended_lines : (text : List ℕ) → (split_text (text ++ 10 ∷ []) ≡ split_text text) ⊎ (split_text (text ++ 10 ∷ []) ≡ split_text text ++ [] ∷ [])
ended_lines [] = inr refl
ended_lines (b ∷ text) = go (b == 10) (ended_lines text)
  where
    onto : (ls : List (List ℕ)) → split_text (text ++ 10 ∷ []) ≡ ls ++ [] ∷ [] → (onto_first b (split_text (text ++ 10 ∷ [])) ≡ onto_first b ls) ⊎ (onto_first b (split_text (text ++ 10 ∷ [])) ≡ onto_first b ls ++ [] ∷ [])
    onto [] same = inl (ap (onto_first b) same)
    onto (l ∷ ls) same = inr (ap (onto_first b) same)

    go : (t : Bool) → (split_text (text ++ 10 ∷ []) ≡ split_text text) ⊎ (split_text (text ++ 10 ∷ []) ≡ split_text text ++ [] ∷ [])
        → ((if t then ([] ∷ split_text (text ++ 10 ∷ [])) else onto_first b (split_text (text ++ 10 ∷ []))) ≡ (if t then ([] ∷ split_text text) else onto_first b (split_text text))) ⊎ ((if t then ([] ∷ split_text (text ++ 10 ∷ [])) else onto_first b (split_text (text ++ 10 ∷ []))) ≡ (if t then ([] ∷ split_text text) else onto_first b (split_text text)) ++ [] ∷ [])
    go true (inl same) = inl (ap (λ (ls : List (List ℕ)). [] ∷ ls) same)
    go true (inr same) = inr (ap (λ (ls : List (List ℕ)). [] ∷ ls) same)
    go false (inl same) = inl (ap (onto_first b) same)
    go false (inr same) = onto (split_text text) same

-- ---- lines that are given by their words

pub split_line : (words : List (List ℕ)) (rest : List ℕ) → AreWords words → split_text (line_text words ++ rest) ≡ joined words ∷ split_text rest
split_line words rest are = ap split_text (append_assoc (joined words) (10 ∷ []) rest) ∙ split_off (joined words) rest (joined_feeds words are)

pub split_all_lines : (lines : List (List (List ℕ))) (rest : List ℕ) → AreLines lines → split_text (text_of lines ++ rest) ≡ map joined lines ++ split_text rest
split_all_lines [] rest are = refl
split_all_lines (words ∷ lines) rest are =
    ap (λ (t : List ℕ). split_text (t ++ rest)) (flat_map-cons line_text words lines)
    ∙ ap split_text (append_assoc (line_text words) (text_of lines) rest)
    ∙ split_line words (text_of lines ++ rest) are.0
    ∙ ap (λ (ls : List (List ℕ)). joined words ∷ ls) (split_all_lines lines rest are.1)

-- the digits of a number are a word
pub decimal_word : (n : ℕ) → n < 2 ^ 64 → ((length (decimal n) == 0) ≡ false) × (list_all is_graphic (decimal n) ≡ true)
decimal_word n fits =
    let some : (length (decimal n) == 0) ≡ false = grind (arith, nat_tests, decimal_nonempty n fits) in
    (some, digits_graphic (decimal n) (digits_decimal own n fits))

-- ---- the index that is found

pub found : (word : List ℕ) (line : List ℕ) (lines : List (List ℕ)) (byte number : ℕ) → begins_with word line ≡ true → begin_from word byte number (line ∷ lines) ≡ Some (byte, number)
found word line lines byte number is = ap (λ (t : Bool). if t then Some (byte, number) else begin_from word (byte + (length line + 1)) (number + 1) lines) is

none-append : (word : List ℕ) (lines : List (List ℕ)) → none_begins word lines ≡ true → none_begins word (lines ++ [] ∷ []) ≡ true
none-append word lines none = grind (arith, common_steps)

pub ended_free : (word text : List ℕ) → none_begins word (split_text text) ≡ true → none_begins word (split_text (text ++ 10 ∷ [])) ≡ true
ended_free word text none = go (ended_lines text)
  where
    go : (split_text (text ++ 10 ∷ []) ≡ split_text text) ⊎ (split_text (text ++ 10 ∷ []) ≡ split_text text ++ [] ∷ []) → none_begins word (split_text (text ++ 10 ∷ [])) ≡ true
    go (inl same) = ap (none_begins word) same ∙ none
    go (inr same) = ap (none_begins word) same ∙ none-append word (split_text text) none

pub part_is : (text behind : List ℕ) → 0 < length behind → part_before (length text + 1) (text ++ 10 ∷ behind) ≡ text
part_is text behind some =
    let inside : nat_lt (length text + 1) (length (text ++ 10 ∷ behind)) ≡ true = grind (arith, nat_tests, common_steps) in
    let index : (length text + 1) - 1 ≡ length text = omega arith in
    ap (λ (t : Bool). if t then take ((length text + 1) - 1) (text ++ 10 ∷ behind) else text ++ 10 ∷ behind) inside
    ∙ ap (λ (n : ℕ). take n (text ++ 10 ∷ behind)) index
    ∙ take-append_seam text (10 ∷ behind)

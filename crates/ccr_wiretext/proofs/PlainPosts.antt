-- A post that one scan finds is what the reader of words says.
use Rattle.std.proofs.Common.{◌≡◌, ◌≢◌, ℕ, ◌+◌, ◌<◌, Bool, true, false, cond, List, [], ◌∷◌, ◌++◌, length, Option, Some, None, Ok, ◌⊎◌, inl, inr, refl, sym, ap, subst, ◌∙◌, arith}
use Rattle.std.specs.Prelude.{◌==◌, nat_lt, codes}
use Rattle.std.specs.List.{list_all}
use Rattle.std.specs.Char.{is_ascii_digit}
use Rattle.std.specs.Option.{option_map}
use Rattle.std.proofs.lemmas.Bool.Decides.{nat_tests}
use Rattle.ccr_text.specs.Words.{is_graphic, number_of, words_of, is_clean}
use Rattle.ccr_text.specs.Lines.{split_text, first_line}
use Rattle.ccr_text.specs.Exact.{exact_number_of, number_first, parts, where_spelled}
use Rattle.ccr_text.proofs.Digits.{digit_graphic}
use Rattle.ccr_text.proofs.FirstLine.{IsTaken, alone, taken_more, taken_feed}
use Rattle.ccr_text.proofs.Parts.{cut_at}
use Rattle.ccr_text.proofs.Decimals.{digits_alone}
use Rattle.ccr_wiring.specs.declared.parts.PosterPart.{PosterPart}
use Rattle.ccr_wiretext.specs.declared.draft.Block.TheVariants as blocks
use Rattle.ccr_wiretext.specs.declared.keyword.Keyword.TheVariants as keywords
use Rattle.ccr_wiretext.specs.Keywords.{keyword}
use Rattle.ccr_wiretext.specs.Drafts.{Declared, script_count, with_post}
use Rattle.ccr_wiretext.specs.Fields.{value_in, value, port, port_of}
use Rattle.ccr_wiretext.specs.Grammar.{IsValueWord}
use Rattle.ccr_wiretext.specs.Patterns.{causes}
use Rattle.ccr_wiretext.specs.Forms.{script_form}
use Rattle.ccr_wiretext.specs.Blocks.{apart, line_in, poster_line}
use Rattle.ccr_wiretext.specs.Scanning.{MayPost, IsLineTaken}
use Rattle.ccr_wiretext.specs.Reading.{after_all, after_words}
use Rattle.ccr_wiretext.proofs.ValuesRead.{value_in_read}
use Rattle.ccr_base.proofs.Lists.{length_behind, all_weaker}

-- ---- the number before the LF

one_spelling : (word : List ℕ) (n m : ℕ) (test : Bool) → cond test (Some n) None ≡ Some m → n ≡ m
one_spelling word n m true e = cc
one_spelling word n m false e = absurd cc

-- a number in its one spelling is a number
exact_is : (word : List ℕ) (n : ℕ) → exact_number_of word ≡ Some n → number_of word ≡ Some n
exact_is word n e = by (number_of word) refl e
  where
    by : (found : Option ℕ) → number_of word ≡ found → (elim found [ None ↦ None | Some m ↦ where_spelled word m ]) ≡ Some n → number_of word ≡ Some n
    by None is some = absurd cc
    by (Some m) is some = is ∙ ap Some (one_spelling word m n _ some)

first_is : (words behind : List (List ℕ)) (n : ℕ) → number_first words ≡ Some (n, behind) → (digits : List ℕ) × (words ≡ digits ∷ behind) × (number_of digits ≡ Some n)
first_is [] behind n e = absurd cc
first_is (word ∷ words) behind n e = by (exact_number_of word) refl e
  where
    by : (found : Option ℕ) → exact_number_of word ≡ found → option_map {U = ℕ × List (List ℕ)} (λ m. (m, words)) found ≡ Some (n, behind) → (digits : List ℕ) × (word ∷ words ≡ digits ∷ behind) × (number_of digits ≡ Some n)
    by None is some = absurd cc
    by (Some m) is some =
        let same : (m, words) ≡ (n, behind) = some_is (m, words) (n, behind) some in
        (word, ap (λ (p : ℕ × List (List ℕ)). word ∷ p.1) same, exact_is word n (is ∙ ap (λ (p : ℕ × List (List ℕ)). Some p.0) same))
      where
        some_is : (x y : ℕ × List (List ℕ)) → Some x ≡ Some y → x ≡ y
        some_is x y e = cc

number_found : (bytes behind : List ℕ) (n : ℕ) → number_first (parts 10 bytes) ≡ Some (n, parts 10 behind) → (digits : List ℕ) × (bytes ≡ digits ++ 10 ∷ behind) × (number_of digits ≡ Some n)
number_found bytes behind n e =
    let first = first_is (parts 10 bytes) (parts 10 behind) n e in
    (first.0, cut_at 10 bytes first.0 behind first.1, first.2)

-- ---- the words of the line

pub digits_graphic : (digits : List ℕ) → list_all is_ascii_digit digits ≡ true → list_all is_graphic digits ≡ true
digits_graphic digits e = all_weaker is_ascii_digit is_graphic digit_graphic digits e

alone_is : (word : List ℕ) → (length word == 0) ≡ false → alone word ≡ word ∷ []
alone_is word some = rw some refl

some_length : (word : List ℕ) → word ≢ [] → (length word == 0) ≡ false
some_length [] some = absurd (some refl)
some_length (b ∷ word) some = grind (arith, nat_tests)

abbrev space : ℕ
space = 32

no_feed : space ≢ 10
no_feed = λ e. absurd cc

-- the words so far, of a line that is clean so far
abbrev IsSoFar : List (List ℕ) → List ℕ → List ℕ → Type 0
IsSoFar so rest text = IsTaken so true rest text

-- one space more
space_more : (so : List (List ℕ)) (rest text after : List ℕ) → IsSoFar so rest text → rest ≡ 32 ∷ after → IsSoFar (so ++ []) after text
space_more so rest text after taken is = taken_more so true rest text [] 32 after taken is refl refl no_feed

-- one word more, and the space behind it
word_more : (so : List (List ℕ)) (rest text word after : List ℕ) → IsSoFar so rest text → rest ≡ word ++ 32 ∷ after → list_all is_graphic word ≡ true → (length word == 0) ≡ false → IsSoFar (so ++ word ∷ []) after text
word_more so rest text word after taken is graphic some =
    subst (λ (words : List (List ℕ)). IsSoFar (so ++ words) after text) (alone_is word some) (taken_more so true rest text word 32 after taken is graphic refl no_feed)

none_yet : (text : List ℕ) → IsSoFar [] text text
none_yet text = record { words = refl; clean = refl; behind = refl; short = omega arith }

some_text : (b : ℕ) (bytes : List ℕ) → (b ∷ bytes) ≢ []
some_text b bytes = λ e. absurd cc

-- two spaces or none stand before the rest
abbrev pub IsIndented : List ℕ → List ℕ → Type 0
IsIndented text rest = (text ≡ rest) ⊎ (text ≡ codes "  " ++ rest)

begun : (text rest : List ℕ) → IsIndented text rest → IsSoFar [] rest text
begun text rest (inl same) = subst (λ (r : List ℕ). IsSoFar [] r text) same (none_yet text)
begun text rest (inr spaced) = let one = space_more [] text text (codes " " ++ rest) (none_yet text) spaced in space_more [] (codes " " ++ rest) text rest one refl

indented_some : (text : List ℕ) (b : ℕ) (bytes : List ℕ) → IsIndented text (b ∷ bytes) → text ≢ []
indented_some text b bytes (inl same) = subst (λ (t : List ℕ). t ≢ []) (sym same) (some_text b bytes)
indented_some text b bytes (inr spaced) = subst (λ (t : List ℕ). t ≢ []) (sym spaced) (some_text 32 (codes " " ++ b ∷ bytes))

-- what one scan finds is the line's
pub post_found : (text rest words port numbers behind : List ℕ) (n : ℕ) → IsIndented text rest → rest ≡ codes "post " ++ words → words ≡ port ++ 32 ∷ numbers → list_all is_graphic port ≡ true → port ≢ [] → number_first (parts 10 numbers) ≡ Some (n, parts 10 behind)
    → (digits : List ℕ) × (number_of digits ≡ Some n) × (words_of (first_line text) ≡ codes "post" ∷ port ∷ digits ∷ []) × (is_clean (first_line text) ≡ true) × (split_text text ≡ first_line text ∷ split_text behind) × (length behind < length text)
post_found text rest words port numbers behind n indented begins named graphic some number =
    let found = number_found numbers behind n number in
    let digits = found.0 in
    let alone_digits = digits_alone digits n found.2 in
    let three = word_more [] rest text (codes "post") words (begun text rest indented) begins refl refl in
    let four = word_more (codes "post" ∷ []) words text port numbers three named graphic (some_length port some) in
    let text_some : text ≢ [] = indented_some text 112 (codes "ost " ++ words) (subst (IsIndented text) begins indented) in
    let last = taken_feed (codes "post" ∷ port ∷ []) true numbers text digits behind text_some four found.1 (digits_graphic digits alone_digits.1) in
    let all : alone digits ≡ digits ∷ [] = alone_is digits alone_digits.0 in (
      digits,
      found.2,
      sym last.words ∙ ap (λ (ws : List (List ℕ)). codes "post" ∷ port ∷ ws) all,
      sym last.clean,
      last.lines,
      omega (arith, length_behind digits 10 behind, ap (λ (t : List ℕ). length t) found.1, four.short),
    )

-- ---- what the line declares

-- the word of one number is its value in each version
number_value : (version : ℕ) (digits : List ℕ) (n : ℕ) → number_of digits ≡ Some n → value_in version digits ≡ Ok (n ∷ [])
number_value version digits n e = value_in_read version digits (n ∷ []) (by (version == 2) refl)
  where
    by : (t : Bool) → (version == 2) ≡ t → IsValueWord version digits (n ∷ [])
    by true newer = inr (newer, record { digits = digits ∷ []; spelled = refl; numbers = (e, tt); some = omega arith; few = omega arith })
    by false older = inl (older, record { one = n; alone = refl; number = e })

post_form_is : (draft : Declared) (part : PosterPart) (name digits : List ℕ) (number to : ℕ) → nat_lt (script_count draft.parts + length part.posts) 10000 ≡ true → port_of draft name ≡ Some to → number_of digits ≡ Some number
    → script_form draft part (name ∷ digits ∷ []) ≡ Ok (record { port = to; value = number ∷ []; causes = [] })
unfolding script_form port value causes
post_form_is draft part name digits number to room means spelled = rw (room, means, number_value draft.parts.version digits number spelled) refl

-- where a post may stand, it does
pub post_taken : (draft : Declared) (name digits : List ℕ) (number to : ℕ) (may : MayPost draft name to) → number_of digits ≡ Some number
    → line_in draft.block draft keywords.Post (name ∷ digits ∷ []) ≡ Ok (with_post (apart draft) may.part (record { port = to; value = number ∷ []; causes = [] }))
unfolding line_in poster_line
post_taken draft name digits number to may spelled = rw (may.block, post_form_is (apart draft) may.part name digits number to may.room may.means spelled) refl

same_part : (part other : PosterPart) → blocks.Poster part ≡ blocks.Poster other → part ≡ other
same_part part other e = cc

-- the same, of what was added to the part in the block
pub post_added : (draft new : Declared) (name digits : List ℕ) (number to : ℕ) (part : PosterPart) (may : MayPost draft name to) → number_of digits ≡ Some number → draft.block ≡ blocks.Poster part
    → new ≡ with_post (apart draft) part (record { port = to; value = number ∷ []; causes = [] }) → line_in draft.block draft keywords.Post (name ∷ digits ∷ []) ≡ Ok new
post_added draft new name digits number to part may spelled block added =
    post_taken draft name digits number to may spelled
    ∙ ap Ok (ap (λ (p : PosterPart). with_post (apart draft) p (record { port = to; value = number ∷ []; causes = [] })) (same_part may.part part (sym may.block ∙ block)) ∙ sym added)

-- the line is taken in
pub plain_taken : (draft new : Declared) (text name behind : List ℕ) (number : ℕ) (digits : List ℕ) → number_of digits ≡ Some number → words_of (first_line text) ≡ codes "post" ∷ name ∷ digits ∷ [] → is_clean (first_line text) ≡ true → split_text text ≡ first_line text ∷ split_text behind → length behind < length text
    → line_in draft.block draft keywords.Post (name ∷ digits ∷ []) ≡ Ok new → IsLineTaken (Some draft) text (Some new) behind
unfolding after_all after_words line_in keyword
plain_taken draft new text name behind number digits spelled words clean lines shorter taken = record {
  lines = lines;
  shorter = shorter;
  taken = rw (clean, words, taken) refl;
}

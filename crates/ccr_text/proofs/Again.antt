-- A canonical text is split into its lines and words again.
use Rattle.std.proofs.Common.{◌≡◌, ℕ, ◌+◌, Bool, true, false, List, [], ◌∷◌, ◌++◌, refl, ap, ◌∙◌, append_assoc, append-nil, arith}
use Rattle.std.specs.Prelude.{◌==◌, ◌||◌, not}
use Rattle.std.specs.List.{list_all}
use Rattle.std.proofs.lemmas.Bool.Decides.{nat_tests}
use Rattle.std.proofs.lemmas.List.Concat.{flat_map-cons}
use Rattle.ccr_text.specs.Words.{is_graphic, is_blank, is_clean, words_of}
use Rattle.ccr_text.specs.Lines.{split_text, numbered_line, numbered, lines_of}
use Rattle.ccr_text.specs.Spelling.{joined, line_text, text_of, spelled_lines, AreWords, AreLines}
use Rattle.std.proofs.lemmas.Bool.{and_parts as both}
use Rattle.ccr_base.proofs.Lists.{all_both, all_weaker}
use Rattle.ccr_base.proofs.Booleans.{or_right}
use Rattle.ccr_text.proofs.FirstLine.{pieces_end, pieces_run}

abbrev pub not_feed : ℕ → Bool
not_feed b = not (b == 10)

-- a line without LF is split off
pub split_off : (line rest : List ℕ) → list_all not_feed line ≡ true → split_text (line ++ 10 ∷ rest) ≡ line ∷ split_text rest
split_off [] rest none = refl
split_off (b ∷ line) rest none =
    let parts = both (not_feed b) (list_all not_feed line) none in
    let other : (b == 10) ≡ false = grind (arith, nat_tests, parts.0) in
    rw (other, split_off line rest parts.1) refl

graphic_not_feed : (b : ℕ) → is_graphic b ≡ true → not_feed b ≡ true
graphic_not_feed b e = grind (arith, nat_tests)

feeds_word : (word rest : List ℕ) → list_all is_graphic word ≡ true → list_all not_feed rest ≡ true → list_all not_feed (word ++ rest) ≡ true
feeds_word word rest graphic others = all_both not_feed word rest (all_weaker is_graphic not_feed graphic_not_feed word graphic) others

clean_word : (word rest : List ℕ) → list_all is_graphic word ≡ true → is_clean rest ≡ true → is_clean (word ++ rest) ≡ true
clean_word word rest graphic others = all_both (λ b. is_blank b || is_graphic b) word rest (all_weaker is_graphic (λ b. is_blank b || is_graphic b) (λ b e. or_right (is_blank b) (is_graphic b) e) word graphic) others

pub joined_feeds : (words : List (List ℕ)) → AreWords words → list_all not_feed (joined words) ≡ true
joined_feeds [] are = refl
joined_feeds (word ∷ []) are = rw (← append-nil word) (feeds_word word [] are.1 refl)
joined_feeds (word ∷ next ∷ words) are = feeds_word word (32 ∷ joined (next ∷ words)) are.1 (joined_feeds (next ∷ words) are.2)

pub joined_clean : (words : List (List ℕ)) → AreWords words → is_clean (joined words) ≡ true
joined_clean [] are = refl
joined_clean (word ∷ []) are = rw (← append-nil word) (clean_word word [] are.1 refl)
joined_clean (word ∷ next ∷ words) are = clean_word word (32 ∷ joined (next ∷ words)) are.1 (joined_clean (next ∷ words) are.2)

pub joined_words : (words : List (List ℕ)) → AreWords words → words_of (joined words) ≡ words
joined_words [] are = refl
joined_words (word ∷ []) are = rw (pieces_end word are.1, are.0) refl
joined_words (word ∷ next ∷ words) are = rw (pieces_run word 32 (joined (next ∷ words)) are.1 refl, are.0) (ap (λ (v : List (List ℕ)). word ∷ v) (joined_words (next ∷ words) are.2))

-- each line is found again, with its words
pub lines_again : (number : ℕ) (lines : List (List (List ℕ))) → AreLines lines → numbered number (split_text (text_of lines)) ≡ spelled_lines number lines
lines_again number [] are = refl
lines_again number (words ∷ lines) are =
    let regrouped : text_of (words ∷ lines) ≡ joined words ++ 10 ∷ text_of lines = flat_map-cons line_text words lines ∙ append_assoc (joined words) (10 ∷ []) (text_of lines) in
    let first : numbered_line number (joined words) ≡ record { number = number; words = words; clean = true } = rw (joined_words words are.0, joined_clean words are.0) refl in
    ap (λ (t : List ℕ). numbered number (split_text t)) regrouped ∙ rw (split_off (joined words) (text_of lines) (joined_feeds words are.0), first, lines_again (number + 1) lines are.1) refl

pub text_again : (lines : List (List (List ℕ))) → AreLines lines → lines_of (text_of lines) ≡ spelled_lines 1 lines
text_again lines are = lines_again 1 lines are

-- Where the first line ends.
use Rattle.std.proofs.Common.{◌≡◌, ◌≢◌, ℕ, zero, suc, ◌+◌, ◌<◌, ◌≤◌, List, [], ◌∷◌, ◌++◌, get_or, take, drop, length, refl, ap, arith, ◌∙◌, Some}
use Rattle.std.proofs.lemmas.Bool.Decides.{nat_tests}
use Rattle.std.specs.Prelude.{true, false, not}
use Rattle.std.proofs.lemmas.Option.{slice_get-get_or}
use Rattle.ccr_text.specs.Lines.{split_text, has_feed}
use Rattle.ccr_text.specs.Words.{is_graphic, pieces}
use Rattle.ccr_base.proofs.Options.{parted}
use Rattle.ccr_text.proofs.Parts.{split_first, whole_split}

split_at_suc : (text : List ℕ) (i : ℕ) → ((k : ℕ) → k < i → get_or text k 0 ≢ 10) → i < length text → get_or text i 0 ≡ 10 → split_text text ≡ take i text ∷ split_text (drop (suc i) text)
split_at_suc [] i none below here = absurd (omega arith)
split_at_suc (b ∷ bytes) zero none below here = grind (arith, nat_tests)
split_at_suc (b ∷ bytes) (suc i) none below here =
    let other : b ≢ 10 = none 0 (omega arith) in
    let rest : split_text bytes ≡ take i bytes ∷ split_text (drop (suc i) bytes) = split_at_suc bytes i (λ k h. none (suc k) (omega arith)) (omega arith) here in
    grind (arith, nat_tests, rest, other)

-- the first LF stands at i
pub split_at : (text : List ℕ) (i : ℕ) → ((k : ℕ) → k < i → get_or text k 0 ≢ 10) → i < length text → get_or text i 0 ≡ 10 → split_text text ≡ take i text ∷ split_text (drop (i + 1) text)
split_at text i none below here = let e : i + 1 ≡ suc i = omega arith in rw e (split_at_suc text i none below here)

-- there is no LF
pub split_none : (b : ℕ) (bytes : List ℕ) → ((k : ℕ) → k < length (b ∷ bytes) → get_or (b ∷ bytes) k 0 ≢ 10) → split_text (b ∷ bytes) ≡ (b ∷ bytes) ∷ []
split_none b [] none = let other : b ≢ 10 = none 0 (omega arith) in grind (arith, nat_tests, other)
split_none b (c ∷ bytes) none =
    let other : b ≢ 10 = none 0 (omega arith) in
    let rest : split_text (c ∷ bytes) ≡ (c ∷ bytes) ∷ [] = split_none c bytes (λ k h. none (suc k) (omega arith)) in
    grind (arith, nat_tests, rest, other)

pub split_whole : (text : List ℕ) → text ≢ [] → ((k : ℕ) → k < length text → get_or text k 0 ≢ 10) → split_text text ≡ text ∷ []
split_whole [] some none = absurd (some refl)
split_whole (b ∷ bytes) some none = split_none b bytes none

-- no LF stands among the first bytes
pub no_feed : (text : List ℕ) (i : ℕ) → ((k : ℕ) → k < i → get_or text k 0 ≢ 10) → i ≤ length text → has_feed (take i text) ≡ false
no_feed text zero none within = refl
no_feed [] (suc i) none within = refl
no_feed (b ∷ bytes) (suc i) none within =
    let other : b ≢ 10 = none 0 (omega arith) in
    let rest : has_feed (take i bytes) ≡ false = no_feed bytes i (λ k h. none (suc k) (omega arith)) (omega arith) in
    grind (arith, nat_tests, rest, other)

pub no_feeds : (text : List ℕ) → ((k : ℕ) → k < length text → get_or text k 0 ≢ 10) → has_feed text ≡ false
no_feeds [] none = refl
no_feeds (b ∷ bytes) none =
    let other : b ≢ 10 = none 0 (omega arith) in
    let rest : has_feed bytes ≡ false = no_feeds bytes (λ k h. none (suc k) (omega arith)) in
    grind (arith, nat_tests, rest, other)

-- the text is what stands before the LF at i, the LF and what follows
pub parts_at : (text : List ℕ) (i : ℕ) → i < length text → get_or text i 0 ≡ 10 → text ≡ take i text ++ 10 ∷ drop (i + 1) text
parts_at text i below here = parted text i 10 (slice_get-get_or text i 0 below ∙ ap Some here)

-- the first byte that is not graphic stands at i
pub pieces_at : (line : List ℕ) (i : ℕ) → ((k : ℕ) → k < i → is_graphic (get_or line k 0) ≡ true) → i < length line → is_graphic (get_or line i 0) ≡ false → pieces line ≡ take i line ∷ pieces (drop (i + 1) line)
pieces_at line i graphic below here = split_first (λ b. not (is_graphic b)) line i (λ k less. ap not (graphic k less)) below (ap not here)

-- there is none
pub pieces_whole : (line : List ℕ) → ((k : ℕ) → k < length line → is_graphic (get_or line k 0) ≡ true) → pieces line ≡ line ∷ []
pieces_whole line graphic = whole_split (λ b. not (is_graphic b)) line (λ k low. ap not (graphic k low))

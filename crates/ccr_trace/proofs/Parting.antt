-- Words that have no separator are found again between separators.
use Rattle.std.proofs.Common.{◌≡◌, ℕ, suc, Bool, true, List, [], ◌∷◌, ◌++◌, map, refl, ap, ◌∙◌, arith}
use Rattle.std.specs.Prelude.{◌==◌, not}
use Rattle.std.specs.List.{list_all, join_with_byte, All}
use Rattle.std.proofs.lemmas.List.Elements.{recursion_from_All}
use Rattle.ccr_text.specs.Words.{is_graphic}
use Rattle.ccr_text.specs.Spelling.{joined}
use Rattle.ccr_text.proofs.Parts.{lacks, part_before, part_alone, lacks_tested}
use Rattle.ccr_trace.specs.Pieces.{pieces}
use Rattle.ccr_base.proofs.Lists.{all_both}

-- no byte of the words is the separator
abbrev pub AreLacking : ℕ → List (List ℕ) → Type 0
AreLacking separator [] = Unit {0}
AreLacking separator (word ∷ words) = (lacks separator word ≡ true) × AreLacking separator words

-- words that are joined are found again
pub pieces_join : (separator : ℕ) (word : List ℕ) (words : List (List ℕ)) → AreLacking separator (word ∷ words) → pieces separator (join_with_byte separator (word ∷ words)) ≡ word ∷ words
pieces_join separator word [] are = part_alone separator word are.0
pieces_join separator word (next ∷ words) are = part_before separator word (join_with_byte separator (next ∷ words)) are.0 ∙ ap (λ (w : List (List ℕ)). word ∷ w) (pieces_join separator next words are.1)

pub lacks-append : (separator : ℕ) (xs ys : List ℕ) → lacks separator xs ≡ true → lacks separator ys ≡ true → lacks separator (xs ++ ys) ≡ true
lacks-append separator xs ys e f = all_both (λ b. not (b == separator)) xs ys e f

-- the bytes of words alone
abbrev pub graphic : List ℕ → Bool
graphic word = list_all is_graphic word

abbrev pub AreGraphic : List (List ℕ) → Type 0
AreGraphic [] = Unit {0}
AreGraphic (word ∷ words) = (graphic word ≡ true) × AreGraphic words

-- a line has no LF
pub joined_lacks : (words : List (List ℕ)) → AreGraphic words → lacks 10 (joined words) ≡ true
joined_lacks [] are = refl
joined_lacks (word ∷ []) are = lacks_tested is_graphic 10 word refl are.0
joined_lacks (word ∷ next ∷ words) are = lacks-append 10 word (32 ∷ joined (next ∷ words)) (lacks_tested is_graphic 10 word refl are.0) (joined_lacks (next ∷ words) are.1)

-- the words of a line are found again
pub pieces-joined : (word : List ℕ) (words : List (List ℕ)) → AreGraphic (word ∷ words) → pieces 32 (joined (word ∷ words)) ≡ word ∷ words
pieces-joined word [] are = part_alone 32 word (lacks_tested is_graphic 32 word refl are.0)
pieces-joined word (next ∷ words) are = part_before 32 word (joined (next ∷ words)) (lacks_tested is_graphic 32 word refl are.0) ∙ ap (λ (w : List (List ℕ)). word ∷ w) (pieces-joined next words are.1)

pub graphic_both : (words more : List (List ℕ)) → AreGraphic words → AreGraphic more → AreGraphic (words ++ more)
graphic_both [] more e f = f
graphic_both (word ∷ words) more e f = (e.0, graphic_both words more e.1 f)

-- the words for these
pub graphic_map : {A : Type 0} (spell : A → List ℕ) (Good : A → Type 0) → ((x : A) → Good x → graphic (spell x) ≡ true) → (xs : List A) → All Good xs → AreGraphic (map spell xs)
graphic_map spell Good apart [] good = tt
graphic_map spell Good apart (x ∷ xs) good =
    let parts = recursion_from_All Good (x ∷ xs) good in
    (apart x parts.0, graphic_map spell Good apart xs (λ k d below. good (suc k) d (omega arith)))

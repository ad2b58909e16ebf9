-- The word of a spot is ASCII where the branches' names are.
use Rattle.std.proofs.Common.{◌≡◌, ℕ, zero, suc, Bool, true, false, List, [], ◌∷◌, refl, ◌∙◌, arith}
use Rattle.std.specs.Prelude.{◌==◌, ◌/◌, ◌%◌, if◌then◌else◌, decimal}
use Rattle.std.specs.List.{list_all}
use Rattle.std.specs.Char.{is_ascii}
use Rattle.std.specs.Fmt.{digit_glyph, digits_onto, digits}
use Rattle.std.proofs.lemmas.Bool.{and_from, and_parts as both}
use Rattle.std.proofs.lemmas.Bool.Decides.{nat_tests}
use Rattle.std.proofs.lemmas.List.Folds.{list_all-append}
use Rattle.ccr_base.specs.declared.names.Spot.{Spot}
use Rattle.ccr_base.specs.declared.names.Spot.TheVariants.{Branch, Site}
use Rattle.ccr_wiring.specs.SpotWords.{name_at, spot_word}
use Rattle.ccr_json.specs.Lines.{is_plain}

pub name_plain : (names : List (List ℕ)) (number : ℕ) → list_all is_plain names ≡ true → is_plain (name_at names number) ≡ true
name_plain [] number all = refl
name_plain (name ∷ names) zero all = (both (is_plain name) (list_all is_plain names) all).0
name_plain (name ∷ names) (suc number) all = name_plain names number (both (is_plain name) (list_all is_plain names) all).1

digit_plain : (n : ℕ) → is_ascii (digit_glyph false (n % 10)) ≡ true
digit_plain n = grind (arith, nat_tests)

onto_plain : (k n : ℕ) (bytes : List ℕ) → is_plain bytes ≡ true → is_plain (digits_onto k 10 false n bytes) ≡ true
onto_plain zero n bytes plain = plain
onto_plain (suc k) n bytes plain = by (n / 10 == 0) more (onto_plain k (n / 10) (digit_glyph false (n % 10) ∷ bytes) more)
  where
    more : is_plain (digit_glyph false (n % 10) ∷ bytes) ≡ true
    more = and_from _ _ (digit_plain n) plain

    by : (b : Bool) → is_plain (digit_glyph false (n % 10) ∷ bytes) ≡ true → is_plain (digits_onto k 10 false (n / 10) (digit_glyph false (n % 10) ∷ bytes)) ≡ true → is_plain (if b then digit_glyph false (n % 10) ∷ bytes else digits_onto k 10 false (n / 10) (digit_glyph false (n % 10) ∷ bytes)) ≡ true
    by true here later = here
    by false here later = later

pub decimal_plain : (n : ℕ) → is_plain (decimal n) ≡ true
unfolding digits
decimal_plain n = onto_plain 64 n [] refl

pub spot_plain : (names : List (List ℕ)) (spot : Spot) → list_all is_plain names ≡ true → is_plain (spot_word names spot) ≡ true
spot_plain names (Branch branch) all = name_plain names branch all
spot_plain names (Site branch site) all =
    list_all-append is_ascii (name_at names branch) (64 ∷ decimal site)
    ∙ rw (name_plain names branch all, decimal_plain site) refl

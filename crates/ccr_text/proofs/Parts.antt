-- The parts of a text between separators: where the first one ends, and words without a separator found again.
use Rattle.std.proofs.Common.{◌≡◌, ◌≢◌, ℕ, zero, suc, ◌+◌, ◌<◌, Bool, true, false, List, [], ◌∷◌, ◌++◌, get_or, take, drop, length, refl, sym, ap, ◌∙◌, arith}
use Rattle.std.specs.Prelude.{◌==◌, not}
use Rattle.std.specs.List.{list_all, join_with_byte, slice_split}
use Rattle.std.proofs.lemmas.Bool.Decides.{nat_tests}
use Rattle.std.proofs.lemmas.List.Splits.{join_with_byte-slice_split, length-slice_split, slice_split_none}
use Rattle.ccr_base.proofs.Booleans.{both, eq-self, not_true, not_false, refuted, no_both, same_number}
use Rattle.ccr_text.specs.Exact.{parts}
use Rattle.ccr_base.proofs.Lists.{all_weaker}
use Rattle.std.proofs.lemmas.Grind.{get_or_default_zero}

-- a split at what passes: the first that passes stands at i
pub split_first : (p : ℕ → Bool) (xs : List ℕ) (i : ℕ) → ((k : ℕ) → k < i → p (get_or xs k 0) ≡ false) → i < length xs → p (get_or xs i 0) ≡ true → slice_split p xs ≡ take i xs ∷ slice_split p (drop (i + 1) xs)
split_first p [] i none below here = absurd (omega arith)
split_first p (x ∷ xs) zero none below here = rw here refl
split_first p (x ∷ xs) (suc i) none below here =
    let next : suc i + 1 ≡ suc (i + 1) = omega arith in
    rw (next, none 0 (omega arith), split_first p xs i (λ k h. none (suc k) (omega arith)) (omega arith) here) refl

-- none passes
pub whole_split : (p : ℕ → Bool) (xs : List ℕ) → ((k : ℕ) → k < length xs → p (get_or xs k 0) ≡ false) → slice_split p xs ≡ xs ∷ []
whole_split p xs none = slice_split_none p xs (λ k d low. ap p (get_or_default_zero xs k d low) ∙ none k low)

-- the first separator stands at i
pub part_at : (separator : ℕ) (bytes : List ℕ) (i : ℕ) → ((k : ℕ) → k < i → get_or bytes k 0 ≢ separator) → i < length bytes → get_or bytes i 0 ≡ separator → parts separator bytes ≡ take i bytes ∷ parts separator (drop (i + 1) bytes)
part_at separator bytes i none below here =
    split_first (λ b. b == separator) bytes i (λ k less. refuted (get_or bytes k 0 == separator) (λ is. none k less (same_number (get_or bytes k 0) separator is))) below (ap (λ n. n == separator) here ∙ eq-self separator)

-- there is none
pub part_whole : (separator : ℕ) (bytes : List ℕ) → ((k : ℕ) → k < length bytes → get_or bytes k 0 ≢ separator) → parts separator bytes ≡ bytes ∷ []
part_whole separator bytes none = whole_split (λ b. b == separator) bytes (λ k low. refuted (get_or bytes k 0 == separator) (λ is. none k low (same_number (get_or bytes k 0) separator is)))

-- no byte is the separator
abbrev pub lacks : ℕ → List ℕ → Bool
lacks separator bytes = list_all (λ b. not (b == separator)) bytes

-- a word before a separator
pub part_before : (separator : ℕ) (word rest : List ℕ) → lacks separator word ≡ true → parts separator (word ++ separator ∷ rest) ≡ word ∷ parts separator rest
part_before separator [] rest e = rw (eq-self separator) refl
part_before separator (b ∷ word) rest e =
    let at = both (not (b == separator)) (lacks separator word) e in
    rw (not_true (b == separator) at.0, part_before separator word rest at.1) refl

-- a word without one
pub part_alone : (separator : ℕ) (word : List ℕ) → lacks separator word ≡ true → parts separator word ≡ word ∷ []
part_alone separator [] e = refl
part_alone separator (b ∷ word) e =
    let at = both (not (b == separator)) (lacks separator word) e in
    rw (not_true (b == separator) at.0, part_alone separator word at.1) refl

by_test : (test : ℕ → Bool) (separator b : ℕ) → test separator ≡ false → test b ≡ true → not (b == separator) ≡ true
by_test test separator b none is = not_false (b == separator) (refuted (b == separator) (λ same. no_both is (ap test (same_number b separator same) ∙ none)))

-- bytes that pass a test that the separator doesn't pass
pub lacks_tested : (test : ℕ → Bool) (separator : ℕ) (bytes : List ℕ) → test separator ≡ false → list_all test bytes ≡ true → lacks separator bytes ≡ true
lacks_tested test separator bytes none e = all_weaker test (λ b. not (b == separator)) (λ b is. by_test test separator b none is) bytes e

-- there is one part at least
pub parts_some : (separator : ℕ) (bytes : List ℕ) → (length (parts separator bytes) == 0) ≡ false
parts_some separator bytes = let some = length-slice_split (λ (b : ℕ). b == separator) bytes in grind (arith, nat_tests, some)

-- what stands before the first separator, and what behind it
pub cut_at : (separator : ℕ) (bytes word rest : List ℕ) → parts separator bytes ≡ word ∷ parts separator rest → bytes ≡ word ++ separator ∷ rest
cut_at separator bytes word rest is = sym (join_with_byte-slice_split separator bytes) ∙ (ap (join_with_byte separator) is ∙ by (parts separator rest) refl)
  where
    by : (more : List (List ℕ)) → parts separator rest ≡ more → join_with_byte separator (word ∷ more) ≡ word ++ separator ∷ rest
    by [] none = absurd (let some : (length {A = List ℕ} [] == 0) ≡ false = ap (λ (ps : List (List ℕ)). length ps == 0) (sym none) ∙ parts_some separator rest in cc)
    by (part ∷ more) are = ap (λ (back : List ℕ). word ++ separator ∷ back) (ap (join_with_byte separator) (sym are) ∙ join_with_byte-slice_split separator rest)

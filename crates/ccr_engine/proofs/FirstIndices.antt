-- The indices where a test passes, and the first of them.
use Rattle.std.proofs.Common.{◌≡◌, ◌∙◌, ℕ, zero, suc, ◌+◌, ◌<◌, Bool, true, false, List, [], ◌∷◌, ◌++◌, length, Option, None, Some, refl, ap, arith}
use Rattle.std.specs.Prelude.{◌==◌, if◌then◌else◌, option_map}
use Rattle.std.specs.Option.{option_map_or}
use Rattle.std.specs.List.{list_any}
use Rattle.std.proofs.lemmas.Bool.Decides.{nat_tests}
use Rattle.ccr_base.proofs.Booleans.{neither}
use Rattle.ccr_engine.specs.Numbered.{passes_at}
use Rattle.ccr_engine.specs.Indices.{first_index}

-- the first index is within the list
pub first_within : {T : Type 0} (test : T → Bool) (xs : List T) (k : ℕ) → first_index test xs ≡ Some k → k < length xs
first_within test [] k is = absurd (cc)
first_within test (x ∷ xs) k is = of_test (test x) is (first_within test xs)
  where
    of_option : (o : Option ℕ) → option_map suc o ≡ Some k → ((j : ℕ) → o ≡ Some j → j < length xs) → k < suc (length xs)
    of_option None none low = absurd (cc)
    of_option (Some j) some low = let one : suc j ≡ k = cc in omega (arith, one, low j refl)

    of_test : (b : Bool) → (if b then Some zero else option_map suc (first_index test xs)) ≡ Some k → ((j : ℕ) → first_index test xs ≡ Some j → j < length xs) → k < suc (length xs)
    of_test true here low = let one : 0 ≡ k = cc in omega (arith, one)
    of_test false later low = of_option (first_index test xs) later low

-- none, where it passes nowhere
pub first_never : {T : Type 0} (test : T → Bool) (xs : List T) → list_any test xs ≡ false → first_index test xs ≡ None
first_never test [] none = refl
first_never test (x ∷ xs) none =
    let outs = neither (test x) (list_any test xs) none in
    rw (outs.0, first_never test xs outs.1) refl

-- behind items where it passes nowhere
pub first_behind : {T : Type 0} (test : T → Bool) (xs ys : List T) → list_any test xs ≡ false → first_index test (xs ++ ys) ≡ option_map (λ k. length xs + k) (first_index test ys)
first_behind test [] ys none = of_option (first_index test ys)
  where
    of_option : (o : Option ℕ) → o ≡ option_map (λ k. 0 + k) o
    of_option None = refl
    of_option (Some k) = let e : k ≡ 0 + k = omega arith in ap Some e
first_behind test (x ∷ xs) ys none =
    let outs = neither (test x) (list_any test xs) none in
    rw (outs.0, first_behind test xs ys outs.1) (of_option (first_index test ys))
  where
    of_option : (o : Option ℕ) → option_map suc (option_map (λ k. length xs + k) o) ≡ option_map (λ k. suc (length xs) + k) o
    of_option None = refl
    of_option (Some k) = let e : suc (length xs + k) ≡ suc (length xs) + k = omega arith in ap Some e

-- a test that passes at one index alone
abbrev pub IsOnce : {T : Type 0} → (T → Bool) → List T → Type 0
IsOnce test xs = (n : ℕ) → passes_at test xs n ≡ option_map_or (λ k. n == k) (first_index test xs) false

never_at : {T : Type 0} (test : T → Bool) (xs : List T) → list_any test xs ≡ false → (n : ℕ) → passes_at test xs n ≡ false
never_at test [] none n = refl
never_at test (x ∷ xs) none zero = (neither (test x) (list_any test xs) none).0
never_at test (x ∷ xs) none (suc n) = never_at test xs (neither (test x) (list_any test xs) none).1 n

pub once_never : {T : Type 0} (test : T → Bool) (xs : List T) → list_any test xs ≡ false → IsOnce test xs
once_never test xs none n = rw (first_never test xs none) (never_at test xs none n)

pub once_later : {T : Type 0} (test : T → Bool) (x : T) (xs : List T) → test x ≡ false → IsOnce test xs → IsOnce test (x ∷ xs)
once_later test x xs out once zero = rw out (of_option (first_index test xs))
  where
    of_option : (o : Option ℕ) → false ≡ option_map_or (λ k. 0 == k) (option_map suc o) false
    of_option None = refl
    of_option (Some k) = grind (arith, nat_tests)
once_later test x xs out once (suc n) = rw out (once n ∙ of_option (first_index test xs))
  where
    of_option : (o : Option ℕ) → option_map_or (λ k. n == k) o false ≡ option_map_or (λ k. suc n == k) (option_map suc o) false
    of_option None = refl
    of_option (Some k) = grind (arith, nat_tests)

pub once_here : {T : Type 0} (test : T → Bool) (x : T) (xs : List T) → test x ≡ true → list_any test xs ≡ false → IsOnce test (x ∷ xs)
once_here test x xs is none zero = rw is refl
once_here test x xs is none (suc n) = let later : (suc n == 0) ≡ false = grind (arith, nat_tests) in rw (is, later) (never_at test xs none n)

pub once_behind : {T : Type 0} (test : T → Bool) (xs ys : List T) → list_any test xs ≡ false → IsOnce test ys → IsOnce test (xs ++ ys)
once_behind test [] ys none once = once
once_behind test (x ∷ xs) ys none once =
    let outs = neither (test x) (list_any test xs) none in
    once_later test x (xs ++ ys) outs.0 (once_behind test xs ys outs.1 once)

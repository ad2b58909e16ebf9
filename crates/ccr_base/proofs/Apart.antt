-- Items, and numbers, of which none stands twice.
use Rattle.std.proofs.Common.{◌≡◌, ◌∙◌, ℕ, Bool, true, false, not, ◌&&◌, ◌||◌, List, [], ◌∷◌, ◌++◌, filter, refl, sym, ap, subst}
use Rattle.std.specs.Prelude.{◌==◌, if◌then◌else◌}
use Rattle.std.specs.List.{list_any}
use Rattle.ccr_base.specs.Lists.{are_apart, has_number}
use Rattle.ccr_base.proofs.Lists.{any_parts, none_of_both}
use Rattle.ccr_base.proofs.Booleans.{both, neither, eq-self, eq_turned, no_both, not_true, or_left, refuted, same_number}

-- none of what is kept passes where none of all passes
pub none_of_kept : {X : Type 0} (p q : X → Bool) (xs : List X) → list_any q xs ≡ false → list_any q (filter p xs) ≡ false
none_of_kept p q [] none = refl
none_of_kept p q (x ∷ xs) none = let parts = neither (q x) (list_any q xs) none in by (p x) parts.0 (none_of_kept p q xs parts.1)
  where
    by : (b : Bool) → q x ≡ false → list_any q (filter p xs) ≡ false → list_any q (if b then x ∷ filter p xs else filter p xs) ≡ false
    by true here rest = rw here rest
    by false here rest = rest

-- ---- items of which none stands twice, by a test of being the same: a list is so where its first item isn't among the others, and they are so

-- some of them
pub distinct_kept : {X : Type 0} (same : X → X → Bool) (distinct : List X → Bool) → ((x : X) (xs : List X) → distinct (x ∷ xs) ≡ not (list_any (same x) xs) && distinct xs)
    → (p : X → Bool) (xs : List X) → distinct xs ≡ true → distinct (filter p xs) ≡ true
distinct_kept same distinct first p [] is = is
distinct_kept same distinct first p (x ∷ xs) is =
    let parts = both (not (list_any (same x) xs)) (distinct xs) (sym (first x xs) ∙ is) in
    by (p x) (none_of_kept p (same x) xs (not_true (list_any (same x) xs) parts.0)) (distinct_kept same distinct first p xs parts.1)
  where
    by : (b : Bool) → list_any (same x) (filter p xs) ≡ false → distinct (filter p xs) ≡ true → distinct (if b then x ∷ filter p xs else filter p xs) ≡ true
    by true out rest = first x (filter p xs) ∙ rw (out, rest) refl
    by false out rest = rest

-- one more that isn't there
pub distinct_push : {X : Type 0} (same : X → X → Bool) (distinct : List X → Bool) → ((x : X) (xs : List X) → distinct (x ∷ xs) ≡ not (list_any (same x) xs) && distinct xs) → ((x y : X) → same x y ≡ false → same y x ≡ false)
    → (xs : List X) (x : X) → distinct xs ≡ true → list_any (same x) xs ≡ false → distinct (xs ++ x ∷ []) ≡ true
distinct_push same distinct first turned [] x is out = first x [] ∙ is
distinct_push same distinct first turned (y ∷ ys) x is out =
    let parts = both (not (list_any (same y) ys)) (distinct ys) (sym (first y ys) ∙ is) in
    let outs = neither (same x y) (list_any (same x) ys) out in
    let last : list_any (same y) (x ∷ []) ≡ false = ap (λ b. b || false) (turned x y outs.0) in
    let here : list_any (same y) (ys ++ x ∷ []) ≡ false = none_of_both (same y) ys (x ∷ []) (not_true (list_any (same y) ys) parts.0) last in
    first y (ys ++ x ∷ []) ∙ rw (here, distinct_push same distinct first turned ys x parts.1 outs.1) refl

-- ---- numbers

pub apart_kept : (p : ℕ → Bool) (xs : List ℕ) → are_apart xs ≡ true → are_apart (filter p xs) ≡ true
apart_kept = distinct_kept (λ (number other : ℕ). other == number) are_apart (λ x xs. refl)

pub apart_snoc : (xs : List ℕ) (c : ℕ) → are_apart xs ≡ true → has_number xs c ≡ false → are_apart (xs ++ c ∷ []) ≡ true
apart_snoc = distinct_push (λ (number other : ℕ). other == number) are_apart (λ x xs. refl) (λ x y out. eq_turned y x out)

-- what stands in the first of two lists that are apart together doesn't stand in the second
pub apart-split : (xs ys : List ℕ) (m : ℕ) → are_apart (xs ++ ys) ≡ true → has_number xs m ≡ true → has_number ys m ≡ false
apart-split [] ys m apart is = absurd (cc)
apart-split (x ∷ xs) ys m apart is = by (x == m) refl is (apart-split xs ys m (both (not (has_number (xs ++ ys) x)) (are_apart (xs ++ ys)) apart).1)
  where
    by : (b : Bool) → (x == m) ≡ b → b || has_number xs m ≡ true → (has_number xs m ≡ true → has_number ys m ≡ false) → has_number ys m ≡ false
    by true same there rest = subst (λ k. has_number ys k ≡ false) (same_number x m same) (any_parts (λ n. n == x) xs ys (not_true (has_number (xs ++ ys) x) (both (not (has_number (xs ++ ys) x)) (are_apart (xs ++ ys)) apart).0)).1
    by false other there rest = rest there

-- a number of numbers that are apart is none of those before it
pub not_before : (found : List ℕ) (x : ℕ) (xs : List ℕ) → are_apart (found ++ x ∷ xs) ≡ true → has_number found x ≡ false
not_before found x xs apart = refuted (has_number found x) (λ is. no_both (or_left (x == x) (has_number xs x) (eq-self x)) (apart-split found (x ∷ xs) x apart is))

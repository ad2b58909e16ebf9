-- Over plain lists: what passes a test.
use Rattle.std.proofs.Common.{◌≡◌, ◌+◌, ◌≤◌, Bool, List, [], ◌∷◌, length, filter, refl, arith, false, true, ◌++◌, not, ◌||◌, Option, Some, None}
use Rattle.std.specs.Prelude.{if◌then◌else◌, ◌==◌}
use Rattle.std.proofs.lemmas.Grind.{common_steps}
use Rattle.std.proofs.lemmas.List.Sums.{length-filter, count_by-le-length}
use Rattle.std.specs.List.{list_any, filter_map}
use Rattle.ccr_base.proofs.Booleans.{neither}
use Rattle.std.proofs.lemmas.Bool.Decides.{nat_tests}

-- no more pass than there are
pub length-kept : {X : Type 0} (p : X → Bool) (xs : List X) → length (filter p xs) ≤ length xs
length-kept p xs = rw length-filter (count_by-le-length p xs)

-- two filters, either first
pub filter_swap : {X : Type 0} (p q : X → Bool) (xs : List X) → filter p (filter q xs) ≡ filter q (filter p xs)
filter_swap p q [] = refl
filter_swap p q (x ∷ xs) = of_tests (p x) (q x) refl refl (filter_swap p q xs)
  where
    of_tests : (a b : Bool) → p x ≡ a → q x ≡ b → filter p (filter q xs) ≡ filter q (filter p xs) → filter p (filter q (x ∷ xs)) ≡ filter q (filter p (x ∷ xs))
    of_tests a b pa qb h = grind (arith, common_steps, pa, qb, h)

-- what no item passes keeps none
pub none_kept : {X : Type 0} (p : X → Bool) → ((x : X) → p x ≡ false) → (xs : List X) → filter p xs ≡ []
none_kept p none [] = refl
none_kept p none (x ∷ xs) = rw (none x) (none_kept p none xs)

-- a stronger test keeps no more
pub length-filter_stronger : {X : Type 0} (p q : X → Bool) → ((x : X) → q x ≡ true → p x ≡ true) → (xs : List X) → length (filter q xs) ≤ length (filter p xs)
length-filter_stronger p q weaker [] = grind arith
length-filter_stronger p q weaker (x ∷ xs) = grind (arith, weaker x, length-filter_stronger p q weaker xs)

-- of more items no fewer are kept
pub more_kept : {X : Type 0} (p : X → Bool) (xs ys : List X) → length (filter p xs) ≤ length (filter p (xs ++ ys))
more_kept p [] ys = omega arith
more_kept p (x ∷ xs) ys = grind (arith, common_steps, more_kept p xs ys)

-- what none of the items passes keeps none of them
pub none_pass : {X : Type 0} (p : X → Bool) (xs : List X) → list_any p xs ≡ false → filter p xs ≡ []
none_pass p [] none = refl
none_pass p (x ∷ xs) none =
    let parts = neither (p x) (list_any p xs) none in
    rw parts.0 (none_pass p xs parts.1)

-- one more at the end, where it passes
pub count_push : {X : Type 0} (p : X → Bool) (xs : List X) (x : X) → length (filter p (xs ++ x ∷ [])) ≡ length (filter p xs) + (if p x then 1 else 0)
count_push p xs x = grind (arith, common_steps)

-- some are kept, where one passes
pub some_counted : {X : Type 0} (p : X → Bool) (xs : List X) → not (length (filter p xs) == 0) ≡ list_any p xs
some_counted p [] = refl
some_counted {X} p (x ∷ xs) = by (p x) (some_counted p xs)
  where
    by : (b : Bool) → not (length (filter p xs) == 0) ≡ list_any p xs → not (length (if b then x ∷ filter p xs else filter p xs) == 0) ≡ b || list_any p xs
    by true rest = grind (arith, nat_tests)
    by false rest = rest

-- no more is made of some than there are
pub length-filter_map : {X Y : Type 0} (h : X → Option Y) (xs : List X) → length (filter_map h xs) ≤ length xs
length-filter_map h [] = omega arith
length-filter_map {X} {Y} h (x ∷ xs) = by (h x) refl (length-filter_map h xs)
  where
    by : (o : Option Y) → h x ≡ o → length (filter_map h xs) ≤ length xs → length (filter_map h (x ∷ xs)) ≤ length (x ∷ xs)
    by None e more = rw e (omega (arith, more))
    by (Some y) e more = rw e (omega (arith, more))

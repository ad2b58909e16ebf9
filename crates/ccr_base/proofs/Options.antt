-- What is known of an option by what is made of it, and of a list by what stands at an index.
use Rattle.std.proofs.Common.{◌≡◌, ◌⊎◌, inl, inr, ℕ, zero, suc, ◌<◌, ◌≤◌, Bool, true, false, not, cond, List, [], ◌∷◌, ◌++◌, length, Option, Some, None, refl, ap, ◌∙◌, subst, arith, set, ◌≢◌, get_or, take, drop, ◌+◌}
use Rattle.std.specs.Prelude.{◌==◌, if◌then◌else◌, is_some, option_map, option_and_then, IfSome, nat_lt}
use Rattle.std.specs.Bool.{Decides}
use Rattle.std.specs.List.{slice_get}
use Rattle.std.specs.Option.{option_map_or, option_or}
pub use Rattle.std.proofs.lemmas.Option.{slice_get_within as some-below}
use Rattle.std.proofs.lemmas.Option.{get_or_from_slice_get}
use Rattle.std.proofs.lemmas.Bool.Decides.{nat_tests}
use Rattle.ccr_base.proofs.Booleans.{same_number, differ, no_both}

pub no_some : {X : Type 0} (o : Option X) (x : X) → o ≡ None → o ≡ Some x → ⊥
no_some o x none is = absurd (cc)

-- what is there is one, and what holds of it by one name holds by the other
pub some_is : {X : Type 0} {x y : X} → Some x ≡ Some y → x ≡ y
some_is is = cc

pub some_so : {X : Type 0} (P : X → Type 0) {x y : X} → Some x ≡ Some y → P x → P y
some_so P is holds = subst P (some_is is) holds

-- where it isn't so that there is something, there is nothing
pub not_some : {X : Type 0} (o : Option X) → is_some o ≡ false → o ≡ None
not_some None is = refl
not_some (Some x) is = absurd (cc)

-- the same, as a test says it
pub none_is : {X : Type 0} (o : Option X) → not (is_some o) ≡ true → o ≡ None
none_is None is = refl
none_is (Some x) is = absurd (cc)

-- a test that passes by an option had something there
pub some_of : {X : Type 0} (f : X → Bool) (o : Option X) → option_map_or f o false ≡ true → (x : X) × (o ≡ Some x) × (f x ≡ true)
some_of f None is = absurd (cc)
some_of f (Some x) is = (x, refl, is)

pub some_then : {X Y : Type 0} (f : X → Option Y) (o : Option X) (y : Y) → option_and_then f o ≡ Some y → (x : X) × (o ≡ Some x) × (f x ≡ Some y)
some_then f None y is = absurd (cc)
some_then f (Some x) y is = (x, refl, is)

pub some_map : {X Y : Type 0} (f : X → Y) (o : Option X) (y : Y) → option_map f o ≡ Some y → (x : X) × (o ≡ Some x)
some_map f None y is = absurd (cc)
some_map f (Some x) y is = (x, refl)

pub none_or : {X : Type 0} (a b : Option X) → option_or a b ≡ None → (a ≡ None) × (b ≡ None)
none_or None b is = (refl, is)
none_or (Some x) b is = absurd (cc)

-- one change behind the other
pub map_map : {X Y Z : Type 0} (f : Y → Z) (g : X → Y) (o : Option X) → option_map f (option_map g o) ≡ option_map (λ x. f (g x)) o
map_map f g None = refl
map_map f g (Some x) = refl

pub none_map : {X Y : Type 0} (f : X → Y) (o : Option X) → option_map f o ≡ None → o ≡ None
none_map f None is = refl
none_map f (Some x) is = absurd (cc)

-- where there is no code after a test, the test failed
pub none_cond : (test : Bool) (code : ℕ) (rest : Option ℕ) → cond test (Some code) rest ≡ None → (test ≡ false) × (rest ≡ None)
none_cond true code rest is = absurd (cc)
none_cond false code rest is = (refl, is)

pub IfSome-or : {X : Type 0} (P : X → Type 0) (a b : Option X) → IfSome a P → IfSome b P → IfSome (option_or a b) P
IfSome-or P None b p q = q
IfSome-or P (Some e) b p q = p

pub no_head : {X : Type 0} (xs : List X) → slice_get xs 0 ≡ None → xs ≡ []
no_head [] is = refl
no_head (x ∷ xs) is = absurd (cc)

pub head_rest : {X : Type 0} (xs : List X) (x : X) → slice_get xs 0 ≡ Some x → (rest : List X) × (xs ≡ x ∷ rest)
head_rest [] x is = absurd (cc)
head_rest (y ∷ xs) x is = (xs, cc)

pub none-above : {X : Type 0} (xs : List X) (n : ℕ) → slice_get xs n ≡ None → length xs ≤ n
none-above [] n is = omega arith
none-above (y ∷ xs) zero is = absurd (cc)
none-above (y ∷ xs) (suc n) is = omega (arith, none-above xs n is)

pub get-some : {X : Type 0} (xs : List X) (n : ℕ) → n < length xs → (x : X) × (slice_get xs n ≡ Some x)
get-some [] n low = absurd (omega (arith, low))
get-some (x ∷ xs) zero low = (x, refl)
get-some (x ∷ xs) (suc n) low = get-some xs n (omega (arith, low))

-- what stands in the first of two lists stands there in both together
pub get-left : {X : Type 0} (xs ys : List X) (n : ℕ) → n < length xs → slice_get (xs ++ ys) n ≡ slice_get xs n
get-left [] ys n low = absurd (omega (arith, low))
get-left (x ∷ xs) ys zero low = refl
get-left (x ∷ xs) ys (suc n) low = get-left xs ys n (omega (arith, low))

-- something stands at each index below the length, and at no other
pub is_some-get : {X : Type 0} (xs : List X) (k : ℕ) → is_some (slice_get xs k) ≡ nat_lt k (length xs)
is_some-get [] k = grind (arith, nat_tests)
is_some-get (x ∷ xs) zero = grind (arith, nat_tests)
is_some-get (x ∷ xs) (suc k) = grind (arith, nat_tests, is_some-get xs k)

-- what was put behind all others is the last
pub get-last : {X : Type 0} (xs now : List X) (n : ℕ) (x : X) → n ≡ length xs → now ≡ xs ++ x ∷ [] → slice_get now n ≡ Some x
get-last {X = X} xs now n x long is = rw (is, long) (at xs)
  where
    at : (ys : List X) → slice_get (ys ++ x ∷ []) (length ys) ≡ Some x
    at [] = refl
    at (y ∷ ys) = at ys

-- an item of a list with one more is one of the list's, or the last
pub get-push : {X : Type 0} (xs : List X) (x y : X) (k : ℕ) → slice_get (xs ++ x ∷ []) k ≡ Some y → (slice_get xs k ≡ Some y) ⊎ ((k ≡ length xs) × (x ≡ y))
get-push [] x y zero at = inr (refl, cc)
get-push [] x y (suc k) at = absurd (cc)
get-push (z ∷ xs) x y zero at = inl at
get-push (z ∷ xs) x y (suc k) at = of_either (get-push xs x y k at)
  where
    of_either : (slice_get xs k ≡ Some y) ⊎ ((k ≡ length xs) × (x ≡ y)) → (slice_get xs k ≡ Some y) ⊎ ((suc k ≡ suc (length xs)) × (x ≡ y))
    of_either (inl there) = inl there
    of_either (inr last) = inr (ap suc last.0, last.1)

-- what was put at an index stands there
pub get-set_same : {X : Type 0} (xs : List X) (k : ℕ) (x : X) → k < length xs → slice_get (set xs k x) k ≡ Some x
get-set_same [] k x low = absurd (omega (arith, low))
get-set_same (y ∷ xs) zero x low = refl
get-set_same (y ∷ xs) (suc k) x low = get-set_same xs k x (omega (arith, low))

-- and at any other what stood there
pub get-set_other : {X : Type 0} (xs : List X) (k : ℕ) (x : X) (j : ℕ) → j ≢ k → slice_get (set xs k x) j ≡ slice_get xs j
get-set_other [] k x j other = refl
get-set_other (y ∷ xs) zero x zero other = absurd (other refl)
get-set_other (y ∷ xs) zero x (suc j) other = refl
get-set_other (y ∷ xs) (suc k) x zero other = refl
get-set_other (y ∷ xs) (suc k) x (suc j) other = get-set_other xs k x j (λ e. other (ap suc e))

-- both, as a test says it
pub slice_get-set : {X : Type 0} (xs : List X) (k j : ℕ) (x : X) → k < length xs → slice_get (set xs k x) j ≡ (if j == k then Some x else slice_get xs j)
slice_get-set xs k j x low = of_test (j == k) refl
  where
    of_test : (same : Bool) → (j == k) ≡ same → slice_get (set xs k x) j ≡ (if same then Some x else slice_get xs j)
    of_test true is = ap (slice_get (set xs k x)) (same_number j k is) ∙ get-set_same xs k x low
    of_test false is = get-set_other xs k x j (differ j k is)

drop_none : {X : Type 0} (xs : List X) → xs ≡ drop 0 xs
drop_none [] = refl
drop_none (x ∷ xs) = refl

-- a list is what stands before an item, the item, and what stands behind it
pub parted : {X : Type 0} (xs : List X) (i : ℕ) (x : X) → slice_get xs i ≡ Some x → xs ≡ take i xs ++ x ∷ drop (i + 1) xs
parted [] i x at = absurd (cc)
parted (y ∷ xs) zero x at = let one : y ≡ x = cc in rw one (ap (λ zs. x ∷ zs) (drop_none xs))
parted (y ∷ xs) (suc i) x at = let e : suc i + 1 ≡ suc (i + 1) = omega arith in rw e (ap (λ zs. y ∷ zs) (parted xs i x at))

-- from an item on: the item, and what stands behind it
pub drop_at : {X : Type 0} (xs : List X) (i : ℕ) (x : X) → slice_get xs i ≡ Some x → drop i xs ≡ x ∷ drop (i + 1) xs
drop_at [] i x at = absurd (cc)
drop_at (y ∷ xs) zero x at = let one : y ≡ x = cc in rw one (ap (λ zs. x ∷ zs) (drop_none xs))
drop_at (y ∷ xs) (suc i) x at = let e : suc i + 1 ≡ suc (i + 1) = omega arith in rw e (drop_at xs i x at)

-- the rest of a list behind its first
pub drop-next : {X : Type 0} (n : ℕ) (xs : List X) (x : X) (rest : List X) → x ∷ rest ≡ drop n xs → (slice_get xs n ≡ Some x) × (rest ≡ drop (suc n) xs) × (n < length xs)
drop-next zero [] x rest is = absurd (cc)
drop-next zero (y ∷ xs) x rest is = (cc, cc, omega arith)
drop-next (suc n) [] x rest is = absurd (cc)
drop-next (suc n) (y ∷ xs) x rest is = let more = drop-next n xs x rest is in (more.0, more.1, (let low = more.2 in omega arith))

pub drop-end : {X : Type 0} (n : ℕ) (xs : List X) → [] ≡ drop n xs → length xs ≤ n
drop-end zero [] is = omega arith
drop-end zero (y ∷ xs) is = absurd (cc)
drop-end (suc n) [] is = omega arith
drop-end (suc n) (y ∷ xs) is = let more = drop-end n xs is in omega arith

-- where there is something, it is this
pub is_there : {X : Type 0} (o : Option X) → is_some o ≡ true → (x : X) × (o ≡ Some x)
is_there None is = absurd (cc)
is_there (Some x) is = (x, refl)

-- the item that was looked at isn't the one sought, so one that is stands behind it
pub passed_over : {X Y : Type 0} (f : X → Y) (xs : List X) (n k : ℕ) (here : X) (y : Y) (b : Bool) → here ≡ get_or xs n here → Decides b (f here ≡ y) → b ≡ false → n ≤ k → ((x : X) × (slice_get xs k ≡ Some x) × (f x ≡ y)) → n + 1 ≤ k
passed_over f xs n k here y b read decides other low has = of_test (n == k) refl
  where
    of_test : (same : Bool) → (n == k) ≡ same → n + 1 ≤ k
    of_test true is =
        let same : n ≡ k = same_number n k is in
        let this : here ≡ has.0 = read ∙ get_or_from_slice_get xs n has.0 here (ap (slice_get xs) same ∙ has.1) in
        absurd (no_both (decides.1 (ap f this ∙ has.2)) other)
    of_test false is = grind (arith, nat_tests, is, low)

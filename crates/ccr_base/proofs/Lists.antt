-- Of a list: what its prefix is, what each of it passes, what holds of each of it, what is made of it, and how long it is.
use Rattle.std.proofs.Common.{◌≡◌, ℕ, zero, suc, ◌+◌, ◌<◌, Bool, true, false, ◌||◌, List, [], ◌∷◌, ◌++◌, length, map, take, flat_map, Some, ap, ◌∙◌, refl, arith, append-nil, drop, sym, get_or, replicate, option_to_list, ◌≤◌, length-append}
use Rattle.std.specs.Prelude.{if◌then◌else◌, find, is_some}
use Rattle.std.specs.List.{All, AllByRecursion, list_all, list_any, slice_get, range_with_len}
use Rattle.std.proofs.Math.Seq.{take-append_seam}
use Rattle.std.proofs.lemmas.Bool.{and_from, and_parts as both, or_parts as neither}
use Rattle.ccr_base.specs.Lists.{Each}
use Rattle.ccr_base.proofs.Booleans.{no_both, refuted, or_left, or_right, either}
use Rattle.std.proofs.lemmas.List.Folds.{list_any-append}
use Rattle.std.proofs.lemmas.Grind.{flat_map-append}
use Rattle.std.proofs.lemmas.List.Elements.{All-head, All-tail, All-nil, All-cons}
use Rattle.std.proofs.Math.Bool.{or-false}

-- as many as the prefix is long are the prefix
pub take_front : {X : Type 0} (xs ys : List X) (n : ℕ) → n ≡ length xs → take n (xs ++ ys) ≡ xs
take_front xs ys n all = ap (λ m. take m (xs ++ ys)) all ∙ take-append_seam xs ys

-- one more of a list than the first so many, where there is one
pub take_next : {X : Type 0} (xs : List X) (n : ℕ) → take (n + 1) xs ≡ take n xs ++ option_to_list (slice_get xs n)
take_next [] zero = refl
take_next [] (suc n) = let e : suc n + 1 ≡ suc (n + 1) = omega arith in rw e refl
take_next (x ∷ xs) zero = refl
take_next (x ∷ xs) (suc n) = let e : suc n + 1 ≡ suc (n + 1) = omega arith in rw e (ap (λ ys. x ∷ ys) (take_next xs n))

pub take_more : {X : Type 0} (xs : List X) (i : ℕ) (x : X) → slice_get xs i ≡ Some x → take (i + 1) xs ≡ take i xs ++ x ∷ []
take_more xs i x at = take_next xs i ∙ ap (λ o. take i xs ++ option_to_list o) at

-- one more at the end passes the test too
pub all_more : {X : Type 0} (p : X → Bool) (xs : List X) (x : X) → list_all p xs ≡ true → p x ≡ true → list_all p (xs ++ x ∷ []) ≡ true
all_more p [] x all is = rw is refl
all_more p (y ∷ xs) x all is = let parts = both (p y) (list_all p xs) all in rw (parts.0, all_more p xs x parts.1 is) refl

-- what holds of each item and of one more holds of each with that at the end
pub each_push : {X : Type 0} (P : X → Type 0) (xs : List X) (x : X) → Each P xs → P x → Each P (xs ++ x ∷ [])
each_push P [] x each here = (here, tt)
each_push P (y ∷ ys) x each here = (each.0, each_push P ys x each.1 here)

-- what holds at each index holds of each item
pub each_all : {X : Type 0} (P : X → Type 0) (xs : List X) → All P xs → Each P xs
each_all P [] every = tt
each_all P (x ∷ xs) every = (every 0 x (omega arith), each_all P xs (λ k d less. every (suc k) d (omega arith)))

-- all that pass a test pass one that is met where it is
pub all_weaker : {X : Type 0} (p q : X → Bool) → ((x : X) → p x ≡ true → q x ≡ true) → (xs : List X) → list_all p xs ≡ true → list_all q xs ≡ true
all_weaker p q more [] all = refl
all_weaker p q more (x ∷ xs) all = let parts = both (p x) (list_all p xs) all in rw (more x parts.0, all_weaker p q more xs parts.1) refl

-- none of two lists passes where none of either does
pub none_of_both : {X : Type 0} (p : X → Bool) (xs ys : List X) → list_any p xs ≡ false → list_any p ys ≡ false → list_any p (xs ++ ys) ≡ false
none_of_both p xs ys first second = list_any-append p xs ys ∙ rw (first, second) refl

-- of each at most one: in all no more than the list is long
pub flat_few : {X Y : Type 0} (f : X → List Y) → ((x : X) → length (f x) ≤ 1) → (xs : List X) → length (flat_map f xs) ≤ length xs
flat_few f few [] = omega arith
flat_few f few (x ∷ xs) = let all = length-append (f x) (flat_map f xs) in let one = few x in let rest = flat_few f few xs in omega (arith, all, one, rest)

-- two tests that agree find the same
pub any_same : {X : Type 0} (p q : X → Bool) (xs : List X) → ((x : X) → p x ≡ q x) → list_any p xs ≡ list_any q xs
any_same p q [] same = refl
any_same p q (x ∷ xs) same = rw (same x, any_same p q xs same) refl

-- a test of what is made of a list is one of the list
pub list_any-map : {X Y : Type 0} (p : Y → Bool) (f : X → Y) (xs : List X) → list_any p (map f xs) ≡ list_any (λ x. p (f x)) xs
list_any-map p f [] = refl
list_any-map p f (x ∷ xs) = ap (λ b. p (f x) || b) (list_any-map p f xs)

-- what is made of what is made of a list
pub map_twice : {X Y Z : Type 0} (f : Y → Z) (g : X → Y) (xs : List X) → map f (map g xs) ≡ map (λ x. f (g x)) xs
map_twice f g [] = refl
map_twice f g (x ∷ xs) = ap (λ ys. f (g x) ∷ ys) (map_twice f g xs)

-- of what is made of a list none passes, so no item passes by what is made of it
pub none_mapped : {X Y : Type 0} (test : Y → Bool) (f : X → Y) (xs : List X) → AllByRecursion (λ y. test y ≡ false) (map f xs) → list_any (λ x. test (f x)) xs ≡ false
none_mapped test f [] none = refl
none_mapped test f (x ∷ xs) none = λ i. none.0 i || none_mapped test f xs none.1 i

-- what is made of a list and one more
pub flat_push : {X Y : Type 0} (f : X → List Y) (xs : List X) (x : X) → flat_map f (xs ++ x ∷ []) ≡ flat_map f xs ++ f x
flat_push f xs x = flat_map-append f xs (x ∷ []) ∙ ap (λ ys. flat_map f xs ++ ys) (append-nil (f x))

-- what stands behind an item is shorter than the whole
pub length_behind : {X : Type 0} (front : List X) (x : X) (after : List X) → length after < length (front ++ x ∷ after)
length_behind [] x after = omega arith
length_behind (y ∷ front) x after = omega (arith, length_behind front x after)

-- what passes in both lists passes in the two behind one another
pub all_both : {X : Type 0} (p : X → Bool) (xs ys : List X) → list_all p xs ≡ true → list_all p ys ≡ true → list_all p (xs ++ ys) ≡ true
all_both p [] ys one two = two
all_both p (x ∷ xs) ys one two = let parts = both (p x) (list_all p xs) one in and_from (p x) (list_all p (xs ++ ys)) parts.0 (all_both p xs ys parts.1 two)

-- one number more
pub range_more : (first n next : ℕ) → first + n ≡ next → range_with_len first (suc n) ≡ range_with_len first n ++ next ∷ []
range_more first zero next is = let same : first ≡ next = omega (arith, is) in ap (λ k. k ∷ []) same
range_more first (suc n) next is = ap (λ ks. first ∷ ks) (range_more (first + 1) n next (omega (arith, is)))

-- what stands behind an item
pub drop_past : {X : Type 0} (front : List X) (x : X) (back : List X) → drop (length front + 1) (front ++ x ∷ back) ≡ back
drop_past front x back = let long : length front + 1 ≡ suc (length front) = omega arith in ap (λ n. drop n (front ++ x ∷ back)) long ∙ past front
  where
    past : (ys : List _) → drop (suc (length ys)) (ys ++ x ∷ back) ≡ back
    past [] = refl
    past (y ∷ ys) = past ys

-- none of a list
pub take_none : {X : Type 0} (xs : List X) → take 0 xs ≡ []
take_none [] = refl
take_none (x ∷ xs) = refl

-- what none of two lists behind one another passes, none of either passes
pub any_parts : {X : Type 0} (p : X → Bool) (xs ys : List X) → list_any p (xs ++ ys) ≡ false → (list_any p xs ≡ false) × (list_any p ys ≡ false)
any_parts p xs ys none = neither (list_any p xs) (list_any p ys) (sym (list_any-append p xs ys) ∙ none)

-- where none passes the wider test, none passes the narrower
pub none_narrower : {X : Type 0} (narrow wide : X → Bool) (xs : List X) → ((x : X) → narrow x ≡ true → wide x ≡ true) → list_any wide xs ≡ false → list_any narrow xs ≡ false
none_narrower narrow wide [] within none = refl
none_narrower narrow wide (x ∷ xs) within none =
    let outs = neither (wide x) (list_any wide xs) none in
    let here : narrow x ≡ false = refuted (narrow x) (λ is. no_both (within x is) outs.0) in
    rw here (none_narrower narrow wide xs within outs.1)

-- what passes in the first of two lists passes in both together, and in the second
pub any_left : {X : Type 0} (p : X → Bool) (xs ys : List X) → list_any p xs ≡ true → list_any p (xs ++ ys) ≡ true
any_left p xs ys is = list_any-append p xs ys ∙ or_left (list_any p xs) (list_any p ys) is

pub any_right : {X : Type 0} (p : X → Bool) (xs ys : List X) → list_any p ys ≡ true → list_any p (xs ++ ys) ≡ true
any_right p xs ys is = list_any-append p xs ys ∙ or_right (list_any p xs) (list_any p ys) is

-- what holds of all of a list holds of an item in it
pub all_inside : {X : Type 0} (P : X → Type 0) (front : List X) (x : X) (back : List X) → All P (front ++ x ∷ back) → P x
all_inside P [] x back all = All-head P x back all
all_inside P (y ∷ front) x back all = all_inside P front x back (All-tail P y (front ++ x ∷ back) all)

-- noughts alone read as noughts, past their end too
pub zeros_in : (n k : ℕ) → get_or (replicate n zero) k zero ≡ zero
zeros_in zero k = refl
zeros_in (suc n) zero = refl
zeros_in (suc n) (suc k) = zeros_in n k

-- where none passes it, the element at an index doesn't
pub none_at : {X : Type 0} (p : X → Bool) (xs : List X) (i : ℕ) (x : X) → list_any p xs ≡ false → slice_get xs i ≡ Some x → p x ≡ false
none_at p [] i x none at = absurd cc
none_at p (y ∷ xs) zero x none at = let e : y ≡ x = cc in ap p (sym e) ∙ (neither (p y) (list_any p xs) none).0
none_at p (y ∷ xs) (suc i) x none at = none_at p xs i x (neither (p y) (list_any p xs) none).1 at

-- one more item is tested
pub any_more : {X : Type 0} (p : X → Bool) (xs : List X) (i : ℕ) (x : X) → slice_get xs i ≡ Some x → list_any p (take (i + 1) xs) ≡ list_any p (take i xs) || p x
any_more p xs i x at = ap (list_any p) (take_more xs i x at) ∙ list_any-append p (take i xs) (x ∷ []) ∙ ap (λ b. list_any p (take i xs) || b) (or-false (p x))

-- what holds of each item holds at each index
pub all_from_each : {X : Type 0} (P : X → Type 0) (xs : List X) → Each P xs → All P xs
all_from_each P [] h = All-nil P
all_from_each P (x ∷ xs) h = All-cons P x xs h.0 (all_from_each P xs h.1)

-- a search finds one exactly where one passes
pub is_some-find : {X : Type 0} (p : X → Bool) (xs : List X) → is_some (find p xs) ≡ list_any p xs
is_some-find p [] = refl
is_some-find p (x ∷ xs) = of_test (p x) (is_some-find p xs)
  where
    of_test : (b : Bool) → is_some (find p xs) ≡ list_any p xs → is_some (if b then Some x else find p xs) ≡ b || list_any p xs
    of_test true rest = refl
    of_test false rest = rest

-- an item that passes, at its index
pub any_at : {X : Type 0} (p : X → Bool) (xs : List X) (n : ℕ) (x : X) → slice_get xs n ≡ Some x → p x ≡ true → list_any p xs ≡ true
any_at p [] n x at passes = absurd (cc)
any_at p (y ∷ xs) zero x at passes = let one : y ≡ x = cc in or_left (p y) (list_any p xs) (ap p one ∙ passes)
any_at p (y ∷ xs) (suc n) x at passes = or_right (p y) (list_any p xs) (any_at p xs n x at passes)

-- one of a list passes, where all pass another test
pub any_meets : {X : Type 0} (p q : X → Bool) (xs : List X) → list_any p xs ≡ true → list_all q xs ≡ true → (x : X) × (p x ≡ true) × (q x ≡ true)
any_meets p q [] is all = absurd (cc)
any_meets {X} p q (y ∷ xs) is all = let parts = both (q y) (list_all q xs) all in either (p y) (list_any p xs) is ((x : X) × (p x ≡ true) × (q x ≡ true)) (λ e. (y, e, parts.0)) (λ more. any_meets p q xs more parts.1)

-- Who is a member of a list.
use Rattle.std.proofs.Common.{◌≡◌, ℕ, zero, suc, Bool, true, false, ◌||◌, ◌⊎◌, inl, inr, List, [], ◌∷◌, ◌++◌, map, flat_map, filter, take, Some, refl, sym, ap, ◌∙◌, arith, length, ◌≤◌, ⊎_elim, ◌+◌}
use Rattle.std.specs.Prelude.{if◌then◌else◌, find}
use Rattle.std.specs.List.{Contains, slice_get, list_all, list_any, position_or_len}
use Rattle.ccr_base.proofs.Booleans.{both}
use Rattle.ccr_base.proofs.Lists.{any_at, is_some-find}
use Rattle.std.proofs.lemmas.List.Folds.{find_at}
use Rattle.std.proofs.lemmas.List.Sums.{passes_at_first}
use Rattle.std.proofs.lemmas.Option.{get_or_from_slice_get}
use Rattle.ccr_base.proofs.Options.{some-below, is_there}
use Rattle.ccr_base.proofs.Filters.{length-kept, filter_swap}

-- x is a member
abbrev pub Among : {X : Type 0} → X → List X → Type 0
Among x [] = ⊥
Among x (y ∷ ys) = (x ≡ y) ⊎ Among x ys

pub Among-left : {X : Type 0} (x : X) (xs ys : List X) → Among x xs → Among x (xs ++ ys)
Among-left x [] ys h = absurd h
Among-left x (y ∷ xs) ys (inl e) = inl e
Among-left x (y ∷ xs) ys (inr h) = inr (Among-left x xs ys h)

pub Among-right : {X : Type 0} (x : X) (xs ys : List X) → Among x ys → Among x (xs ++ ys)
Among-right x [] ys h = h
Among-right x (y ∷ xs) ys h = inr (Among-right x xs ys h)

pub Among-either : {X : Type 0} (x : X) (xs ys : List X) → Among x (xs ++ ys) → Among x xs ⊎ Among x ys
Among-either x [] ys h = inr h
Among-either x (y ∷ xs) ys (inl e) = inl (inl e)
Among-either x (y ∷ xs) ys (inr h) = elim (Among-either x xs ys h) [ inl l ↦ inl (inr l) | inr r ↦ inr r ]

-- what holds of each of two lists holds of each of both
pub both_among : {X : Type 0} (P : X → Type 0) (xs ys : List X) → ((x : X) → Among x xs → P x) → ((x : X) → Among x ys → P x) → (x : X) → Among x (xs ++ ys) → P x
both_among P xs ys left right x is = ⊎_elim (left x) (right x) (Among-either x xs ys is)

pub Among-at : {X : Type 0} (xs : List X) (i : ℕ) (x : X) → slice_get xs i ≡ Some x → Among x xs
Among-at [] i x is = absurd (cc)
Among-at (y ∷ xs) zero x is = inl (cc)
Among-at (y ∷ xs) (suc i) x is = inr (Among-at xs i x is)

-- the index of a member
pub index_of : {X : Type 0} (xs : List X) (x : X) → Among x xs → (i : ℕ) × (slice_get xs i ≡ Some x)
index_of [] x among = absurd among
index_of (y ∷ xs) x (inl same) = (0, ap Some (sym same))
index_of (y ∷ xs) x (inr more) = let rest = index_of xs x more in (suc rest.0, rest.1)

-- who is among the first is among all
pub Among-take : {X : Type 0} (k : ℕ) (xs : List X) (x : X) → Among x (take k xs) → Among x xs
Among-take zero xs x is = absurd is
Among-take (suc k) [] x is = absurd is
Among-take (suc k) (y ∷ xs) x (inl same) = inl same
Among-take (suc k) (y ∷ xs) x (inr more) = inr (Among-take k xs x more)

-- a member of those that pass is a member, and passes
pub Among-filter : {X : Type 0} (p : X → Bool) (xs : List X) (x : X) → Among x (filter p xs) → Among x xs × (p x ≡ true)
Among-filter p [] x is = absurd is
Among-filter p (y ∷ xs) x is = by_test (p y) refl is (Among-filter p xs x)
  where
    by_test : (b : Bool) → p y ≡ b → Among x (if b then y ∷ filter p xs else filter p xs) → (Among x (filter p xs) → Among x xs × (p x ≡ true)) → Among x (y ∷ xs) × (p x ≡ true)
    by_test true e (inl same) rest = (inl same, ap p same ∙ e)
    by_test true e (inr more) rest = let it = rest more in (inr it.0, it.1)
    by_test false e more rest = let it = rest more in (inr it.0, it.1)

-- a member that passes is among those that pass
pub kept_among : {X : Type 0} (p : X → Bool) (xs : List X) (x : X) → Among x xs → p x ≡ true → Among x (filter p xs)
kept_among p [] x is passes = absurd is
kept_among p (y ∷ ys) x (inl same) passes = let here : p y ≡ true = ap p (sym same) ∙ passes in rw here (inl same)
kept_among p (y ∷ ys) x (inr more) passes = by (p y) (kept_among p ys x more passes)
  where
    by : (b : Bool) → Among x (filter p ys) → Among x (if b then y ∷ filter p ys else filter p ys)
    by true rest = inr rest
    by false rest = rest

-- where a member doesn't pass, fewer are kept than there are
pub fewer_kept : {X : Type 0} (q : X → Bool) (xs : List X) (x : X) → Among x xs → q x ≡ false → length (filter q xs) + 1 ≤ length xs
fewer_kept q [] x is fails = absurd is
fewer_kept q (y ∷ ys) x (inl same) fails = let out : q y ≡ false = ap q (sym same) ∙ fails in let few = length-kept q ys in rw out (omega (arith, few))
fewer_kept q (y ∷ ys) x (inr more) fails = by (q y) (fewer_kept q ys x more fails)
  where
    by : (b : Bool) → length (filter q ys) + 1 ≤ length ys → length (if b then y ∷ filter q ys else filter q ys) + 1 ≤ length (y ∷ ys)
    by true less = omega (arith, less)
    by false less = omega (arith, less)

-- and fewer pass both tests than one of them
pub fewer_both : {X : Type 0} (p q : X → Bool) (xs : List X) (x : X) → Among x xs → p x ≡ true → q x ≡ false → length (filter p (filter q xs)) + 1 ≤ length (filter p xs)
fewer_both p q xs x is passes fails = let same = ap length (filter_swap p q xs) in let less = fewer_kept q (filter p xs) x (kept_among p xs x is passes) fails in omega (arith, same, less)

pub Among-kept : {X : Type 0} (p : X → Bool) (xs : List X) (x : X) → Among x (filter p xs) → Among x xs
Among-kept p xs x is = (Among-filter p xs x is).0

-- who is found is a member
pub found_among : {X : Type 0} (p : X → Bool) (xs : List X) (x : X) → find p xs ≡ Some x → Among x xs
found_among p xs x is = Among-at xs (position_or_len p xs) x (sym (find_at p xs) ∙ is)

-- what is made of a member is among what is made of all
pub Among-map : {X Y : Type 0} (f : X → Y) (xs : List X) (x : X) → Among x xs → Among (f x) (map f xs)
Among-map f [] x is = absurd is
Among-map f (y ∷ xs) x (inl e) = inl (ap f e)
Among-map f (y ∷ xs) x (inr is) = inr (Among-map f xs x is)

-- a member of a list and one more is of the list, or the one
pub Among-last : {X : Type 0} (x y : X) (xs : List X) → Among x (xs ++ y ∷ []) → Among x xs ⊎ (x ≡ y)
Among-last x y [] (inl e) = inr e
Among-last x y [] (inr h) = absurd h
Among-last x y (z ∷ xs) (inl e) = inl (inl e)
Among-last x y (z ∷ xs) (inr h) = elim (Among-last x y xs h) [ inl l ↦ inl (inr l) | inr r ↦ inr r ]

-- a member, as std says it
pub Contains-among : {X : Type 0} (xs : List X) (x : X) → Among x xs → Contains xs x
Contains-among [] x among = absurd among
Contains-among (y ∷ xs) x (inl same) = (0, omega arith, sym same)
Contains-among (y ∷ xs) x (inr more) = let rest = Contains-among xs x more in (suc rest.0, omega (arith, rest.1), rest.2)

-- a test that each member passes
pub all_from : {X : Type 0} (p : X → Bool) (xs : List X) → ((x : X) → Among x xs → p x ≡ true) → list_all p xs ≡ true
all_from p [] each = refl
all_from p (x ∷ xs) each = rw (each x (inl refl), all_from p xs (λ y is. each y (inr is))) refl

-- each of a list that all pass passes
pub all_pass : {X : Type 0} (p : X → Bool) (xs : List X) (x : X) → list_all p xs ≡ true → Among x xs → p x ≡ true
all_pass p [] x all is = absurd is
all_pass p (y ∷ xs) x all (inl e) = ap p e ∙ (both (p y) (list_all p xs) all).0
all_pass p (y ∷ xs) x all (inr more) = all_pass p xs x (both (p y) (list_all p xs) all).1 more

-- who is found passes
pub find_passes : {X : Type 0} (p : X → Bool) (xs : List X) (x : X) → find p xs ≡ Some x → p x ≡ true
find_passes p xs x is =
    let at = sym (find_at p xs) ∙ is in
    ap p (sym (get_or_from_slice_get xs (position_or_len p xs) x x at)) ∙ passes_at_first p xs x (some-below xs (position_or_len p xs) x at)

-- what is among what is made of all is made of a member
pub Among-mapped : {X Y : Type 0} (f : X → Y) (xs : List X) (y : Y) → Among y (map f xs) → (x : X) × Among x xs × (f x ≡ y)
Among-mapped f [] y is = absurd is
Among-mapped f (x ∷ xs) y (inl e) = (x, inl refl, sym e)
Among-mapped f (x ∷ xs) y (inr is) = let found = Among-mapped f xs y is in (found.0, inr found.1, found.2)

-- and what is among the lists made of all is of the list made of a member
pub spread_some : {X Y : Type 0} (make : X → List Y) (xs : List X) (n : Y) → Among n (flat_map make xs) → (x : X) × Among x xs × Among n (make x)
spread_some make [] n is = absurd is
spread_some make (x ∷ xs) n is = of_side (Among-either n (make x) (flat_map make xs) is) (spread_some make xs n)
  where
    of_side : Among n (make x) ⊎ Among n (flat_map make xs) → (Among n (flat_map make xs) → (y : _) × Among y xs × Among n (make y)) → (y : _) × Among y (x ∷ xs) × Among n (make y)
    of_side (inl here) later = (x, inl refl, here)
    of_side (inr there) later = let it = later there in (it.0, inr it.1, it.2)

-- of those that pass there is one, where a member passes
pub some_kept : {X : Type 0} (p : X → Bool) (xs : List X) (x : X) → Among x xs → p x ≡ true → 1 ≤ length (filter p xs)
some_kept p [] x is passes = absurd is
some_kept p (y ∷ xs) x (inl e) passes = let here : p y ≡ true = ap p (sym e) ∙ passes in rw here (omega arith)
some_kept p (y ∷ xs) x (inr more) passes = by_test (p y) (some_kept p xs x more passes)
  where
    by_test : (b : Bool) → 1 ≤ length (filter p xs) → 1 ≤ length (if b then y ∷ filter p xs else filter p xs)
    by_test true rest = omega arith
    by_test false rest = rest

-- a list of which some pass has a member that passes, and the other way
pub some_among : {X : Type 0} (test : X → Bool) (xs : List X) → list_any test xs ≡ true → (x : X) × Among x xs × (test x ≡ true)
some_among test [] any = absurd cc
some_among test (x ∷ xs) any = by (test x) refl any (some_among test xs)
  where
    by : (b : Bool) → test x ≡ b → b || list_any test xs ≡ true → (list_any test xs ≡ true → (y : _) × Among y xs × (test y ≡ true)) → (y : _) × Among y (x ∷ xs) × (test y ≡ true)
    by true e is more = (x, inl refl, e)
    by false e is more = let found = more is in (found.0, inr found.1, found.2)

pub any_among : {X : Type 0} (test : X → Bool) (xs : List X) (x : X) → Among x xs → test x ≡ true → list_any test xs ≡ true
any_among test xs x is passes = let at = index_of xs x is in any_at test xs at.0 x at.1 passes

-- where a member passes, a search finds one
pub found_some : {X : Type 0} (p : X → Bool) (xs : List X) (x : X) → Among x xs → p x ≡ true → (y : X) × (find p xs ≡ Some y)
found_some p xs x is passes = is_there (find p xs) (is_some-find p xs ∙ any_among p xs x is passes)

-- two tests that agree on each member keep the same
pub same_filter : {X : Type 0} (p q : X → Bool) (xs : List X) → ((x : X) → Among x xs → p x ≡ q x) → filter p xs ≡ filter q xs
same_filter p q [] same = refl
same_filter p q (x ∷ xs) same = let here = same x (inl refl) in let rest = same_filter p q xs (λ y is. same y (inr is)) in rw (here, rest) refl

-- and find the same
pub same_any : {X : Type 0} (p q : X → Bool) (xs : List X) → ((x : X) → Among x xs → p x ≡ q x) → list_any p xs ≡ list_any q xs
same_any p q [] same = refl
same_any p q (x ∷ xs) same = let here = same x (inl refl) in let rest = same_any p q xs (λ y is. same y (inr is)) in rw (here, rest) refl

-- a test that each member passes keeps all
pub filter_all : {X : Type 0} (p : X → Bool) (xs : List X) → ((x : X) → Among x xs → p x ≡ true) → filter p xs ≡ xs
filter_all p [] all = refl
filter_all p (x ∷ xs) all = rw (all x (inl refl), filter_all p xs (λ y is. all y (inr is))) refl

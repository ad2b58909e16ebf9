-- Lists, weights and places.
use Rattle.std.proofs.Common.{Bool, true, false, ◌≡◌, ◌≢◌, ℕ, zero, suc, ◌+◌, ◌*◌, ◌^◌, ◌<◌, ◌≤◌, max, cond, eqb, eq-eqb, ne_eqb, List, [], ◌∷◌, ◌++◌, map, length, get_or, set, sym, refl, ap, ◌∙◌, subst, inl, inr, ◌⊎◌, arith, Some, None}
use mathlib.Core.Option.{some, some-injective, some-ne-none}
use Rattle.std.specs.Prelude.{slice_get, All}
use Rattle.std.specs.List.{AllZip, count_by, range_with_len}
use Rattle.std.proofs.lemmas.List.Elements.{All-nil, All-cons}
use Rattle.std.proofs.lemmas.List.Recursion.{is_count_by}
use Rattle.std.proofs.lemmas.Option.{same_Some}
use Rattle.ccr_base.proofs.Options.{no_some}
use mathlib.Core.Logic.{dite}
use native.Mathlib.Decide.{ℕ_discrete}
use lib.ListN.{get_elem?}
use Rattle.ccr_turns.specs.Histories.{history_stamps, left_by, Given, Place, entries}
use Rattle.ccr_turns.specs.Logs.{log_stamps, Stamped, log_entry, at_place, told}
use Rattle.ccr_turns.specs.Lists.{total, below, Rises, last_of}
use Rattle.ccr_base.proofs.Lists.{range_more}
use Rattle.ccr_turns.specs.declared.history.Held.{Held}
use Rattle.ccr_turns.specs.declared.history.LogEntry.{LogEntry}

read : {A : Type 0} (xs : List A) (i : ℕ) (a : A) → get_elem? xs i ≡ some a → get_or xs i a ≡ a
read [] i a at = refl
read (x ∷ xs) zero a at = some-injective x a at
read (x ∷ xs) (suc i) a at = read xs i a at

pub total-set : {A : Type 0} (f : A → ℕ) (vs : List A) (j : ℕ) (v w : A) → get_elem? vs j ≡ some v → total f (set vs j w) + f v ≡ total f vs + f w
total-set f [] j v w e = absurd (some-ne-none v (sym e))
total-set f (x ∷ xs) zero v w e = omega (arith, ap f (some-injective x v e))
total-set f (x ∷ xs) (suc j) v w e = omega (arith, total-set f xs j v w e)

pub there : {A : Type 0} (l : List A) (i : ℕ) → i < length l → (a : A) × (get_elem? l i ≡ some a)
there [] i h = absurd (omega arith)
there (x ∷ xs) zero h = (x, refl)
there (x ∷ xs) (suc i) h = there xs i (omega arith)

pub within : {A : Type 0} (l : List A) (i : ℕ) (a : A) → get_elem? l i ≡ some a → i < length l
within [] i a e = absurd (some-ne-none a (sym e))
within (x ∷ xs) zero a e = omega arith
within (x ∷ xs) (suc i) a e = let h = within xs i a e in omega arith

pub few_entries : {N X : Type 0} (places : List (Place N X)) → ((i : ℕ) (p : Place N X) → get_elem? places i ≡ some p → length p.1 < 2 ^ 64) → entries places ≤ length places * 2 ^ 64
few_entries [] h = omega arith
few_entries (p ∷ ps) h = let a = h 0 p refl in let b = few_entries ps (λ i q e. h (suc i) q e) in omega arith

-- what two reads at one place find is the same
pub Some-at : {A : Type 0} (l : List A) (i j : ℕ) (a b : A) → get_elem? l i ≡ some a → j ≡ i → get_elem? l j ≡ some b → a ≡ b
Some-at l i j a b at same at' = some-injective a b (sym at ∙ (ap (get_elem? l) (sym same) ∙ at'))

pub term_le : {A : Type 0} (f : A → ℕ) (l : List A) (j : ℕ) (v : A) → get_elem? l j ≡ some v → f v ≤ total f l
term_le f [] j v e = absurd (some-ne-none v (sym e))
term_le f (x ∷ xs) zero v e = omega (arith, ap f (some-injective x v e))
term_le f (x ∷ xs) (suc j) v e = omega (arith, term_le f xs j v e)

pub terms_le : {A : Type 0} (f : A → ℕ) (l : List A) (j k : ℕ) (v u : A) → k ≢ j → get_elem? l j ≡ some v → get_elem? l k ≡ some u → f v + f u ≤ total f l
terms_le f [] j k v u n e d = absurd (some-ne-none v (sym e))
terms_le f (x ∷ xs) zero zero v u n e d = absurd (n refl)
terms_le f (x ∷ xs) zero (suc k) v u n e d = omega (arith, ap f (some-injective x v e), term_le f xs k u d)
terms_le f (x ∷ xs) (suc j) zero v u n e d = omega (arith, ap f (some-injective x u d), term_le f xs j v e)
terms_le f (x ∷ xs) (suc j) (suc k) v u n e d = omega (arith, terms_le f xs j k v u (λ h. n (ap suc h)) e d)

abbrev pub only : ℕ → ℕ → ℕ
only k x = cond (eqb x k) 1 0

pub only-same : (k x : ℕ) → x ≡ k → only k x ≡ 1
only-same k x e = ap (λ b. cond b 1 0) (eq-eqb x k e)

pub below-only : (k n : ℕ) → (below (only k) n ≤ 1) × (n ≤ k → below (only k) n ≡ 0)
below-only k zero = (omega arith, λ _. refl)
below-only k (suc n) =
    let before = below-only k n in
    dite (ℕ_discrete n k)
    (λ e. let none-yet = before.1 (omega arith) in let one : only k n ≡ 1 = only-same k n e in (omega arith, λ h. absurd (omega arith)))
    (λ ne. let zero-here : only k n ≡ 0 = ap (λ b. cond b 1 0) (ne_eqb n k ne) in (omega (arith, before.0), λ h. omega (arith, before.1 (omega arith))))

pub rises_more : (a : ℕ) (xs : List ℕ) (y : ℕ) → Rises a xs → last_of a xs < y → Rises a (xs ++ y ∷ [])
rises_more a [] y r l = (l, tt)
rises_more a (x ∷ xs) y r l = (r.0, rises_more x xs y r.1 l)

pub last_more : (a : ℕ) (xs : List ℕ) (y : ℕ) → last_of a (xs ++ y ∷ []) ≡ y
last_more a [] y = refl
last_more a (x ∷ xs) y = last_more x xs y

module _ {N X : Type 0} where
  pub stamped_more : (a : ℕ) (ms : List (LogEntry N X)) (m : LogEntry N X) → Stamped a ms → m.stamp ≡ max m.earlier (last_of a (log_stamps ms)) + 1 → Stamped a (ms ++ m ∷ [])
  stamped_more a [] m s e = (e, tt)
  stamped_more a (x ∷ xs) m s e = (s.0, stamped_more x.stamp xs m s.1 e)

  pub at_place_here : (p : ℕ) (ms : List (LogEntry N X)) (m : LogEntry N X) → m.place ≡ p → at_place p (ms ++ m ∷ []) ≡ at_place p ms ++ m ∷ []
  at_place_here p [] m e = ap (λ b. cond b (m ∷ []) []) (eq-eqb m.place p e)
  at_place_here p (x ∷ xs) m e = dite (ℕ_discrete x.place p)
      (λ y. let t = eq-eqb x.place p y in rw t (ap (λ (l : List (LogEntry N X)). x ∷ l) (at_place_here p xs m e)))
      (λ n. let t = ne_eqb x.place p n in rw t (at_place_here p xs m e))

  pub at_place_else : (p : ℕ) (ms : List (LogEntry N X)) (m : LogEntry N X) → m.place ≢ p → at_place p (ms ++ m ∷ []) ≡ at_place p ms
  at_place_else p [] m e = ap (λ b. cond b (m ∷ []) []) (ne_eqb m.place p e)
  at_place_else p (x ∷ xs) m e = ap (λ (l : List (LogEntry N X)). cond (eqb x.place p) (x ∷ l) l) (at_place_else p xs m e)

module _ {N X : Type 0} (after : X → N → X) where
  pub left_by_more : (x : X) (es : List (Held N)) (e : Held N) → left_by after x (es ++ e ∷ []) ≡ after (left_by after x es) e.note
  left_by_more x [] e = refl
  left_by_more x (d ∷ ds) e = left_by_more (after x d.note) ds e

  pub told_here : (p k : ℕ) (x : X) (a : ℕ) (es : List (Held N)) (e : Held N) → e.seat ≡ k → told after p k x a (es ++ e ∷ []) ≡ told after p k x a es ++ log_entry p e.stamp e.note (left_by after x es) (last_of a (history_stamps es)) ∷ []
  told_here p k x a [] e is = ap (λ b. cond b (log_entry p e.stamp e.note x a ∷ []) []) (eq-eqb e.seat k is)
  told_here p k x a (d ∷ ds) e is = dite (ℕ_discrete d.seat k)
      (λ y. let t = eq-eqb d.seat k y in rw t (ap (λ (l : List (LogEntry N X)). log_entry p d.stamp d.note x a ∷ l) (told_here p k (after x d.note) d.stamp ds e is)))
      (λ n. let t = ne_eqb d.seat k n in rw t (told_here p k (after x d.note) d.stamp ds e is))

  pub told_else : (p k : ℕ) (x : X) (a : ℕ) (es : List (Held N)) (e : Held N) → e.seat ≢ k → told after p k x a (es ++ e ∷ []) ≡ told after p k x a es
  told_else p k x a [] e is = ap (λ b. cond b (log_entry p e.stamp e.note x a ∷ []) []) (ne_eqb e.seat k is)
  told_else p k x a (d ∷ ds) e is = ap (λ (l : List (LogEntry N X)). cond (eqb d.seat k) (log_entry p d.stamp d.note x a ∷ l) l) (told_else p k (after x d.note) d.stamp ds e is)

module _ {N X A R : Type 0} (after : X → N → X) (may : X → A → R → N → Type 0) where
  pub given_more : (x : X) (es : List (Held N)) (e : Held N) → Given after may x es → ((ask : A) × (reply : R) × may (left_by after x es) ask reply e.note) → Given after may x (es ++ e ∷ [])
  given_more x [] e g h = (h, tt)
  given_more x (d ∷ ds) e g h = (g.0, given_more (after x d.note) ds e g.1 h)

pub only-one : {A : Type 0} (x : A) (k : ℕ) (y : A) → get_elem? (x ∷ []) k ≡ some y → x ≡ y
only-one x zero y e = some-injective x y e
only-one x (suc k) y e = absurd (some-ne-none y (sym e))

abbrev pub first_of : {A : Type 0} → A → List (ℕ × A) → A
first_of d [] = d
first_of d (x ∷ xs) = x.1

abbrev last_or : {A : Type 0} → A → List A → A
last_or d [] = d
last_or d (x ∷ xs) = last_or x xs

last_or-more : {A : Type 0} (d : A) (xs : List A) (y : A) → last_or d (xs ++ y ∷ []) ≡ y
last_or-more d [] y = refl
last_or-more d (x ∷ xs) y = last_or-more x xs y

pub last_same : {A : Type 0} (xs : List A) (x y : A) → xs ++ x ∷ [] ≡ xs ++ y ∷ [] → x ≡ y
last_same xs x y e = sym (last_or-more x xs x) ∙ (ap (last_or x) e ∙ last_or-more x xs y)

pub at_append : {A : Type 0} (xs ys : List A) (k : ℕ) (a : A) → get_elem? (xs ++ ys) k ≡ some a → (get_elem? xs k ≡ some a) ⊎ ((i : ℕ) × (get_elem? ys i ≡ some a))
at_append [] ys k a e = inr (k, e)
at_append (x ∷ xs) ys zero a e = inl e
at_append (x ∷ xs) ys (suc k) a e = at_append xs ys k a e

pub total-append : {A : Type 0} (f : A → ℕ) (xs ys : List A) → total f (xs ++ ys) ≡ total f xs + total f ys
total-append f [] ys = omega arith
total-append f (x ∷ xs) ys = omega (arith, total-append f xs ys)

pub total-one : {A : Type 0} (xs : List A) → total (λ _. 1) xs ≡ length xs
total-one [] = refl
total-one (x ∷ xs) = omega (arith, total-one xs)

pub below-one : (n : ℕ) → below (λ _. 1) n ≡ n
below-one zero = refl
below-one (suc n) = omega (arith, below-one n)

pub all-zero : {A : Type 0} (g : A → ℕ) (xs : List A) → ((k : ℕ) (u : A) → get_elem? xs k ≡ some u → g u ≡ 0) → total g xs ≡ 0
all-zero g [] h = refl
all-zero g (x ∷ xs) h = let a = h 0 x refl in let b = all-zero g xs (λ k u e. h (suc k) u e) in omega arith

pub one-counts : {A : Type 0} (g : A → ℕ) (xs : List A) (j : ℕ) (v : A) → get_elem? xs j ≡ some v → ((k : ℕ) (u : A) → k ≢ j → get_elem? xs k ≡ some u → g u ≡ 0) → total g xs ≡ g v
one-counts g [] j v e h = absurd (some-ne-none v (sym e))
one-counts g (x ∷ xs) zero v e h = let a = all-zero g xs (λ k u at. h (suc k) u (λ z. omega arith) at) in let b = ap g (some-injective x v e) in omega arith
one-counts g (x ∷ xs) (suc j) v e h = let a = h 0 x (λ z. omega arith) refl in let b = one-counts g xs j v e (λ k u ne at. h (suc k) u (λ z. ne (omega arith)) at) in omega arith

pub no-total : {A : Type 0} (g : A → ℕ) (xs : List A) → length xs ≡ 0 → total g xs ≡ 0
no-total g [] e = refl
no-total g (x ∷ xs) e = absurd (omega arith)

-- what holds of each element holds of one that was read
pub all_at : {A : Type 0} (P : A → Type 0) (xs : List A) (i : ℕ) (a : A) → All P xs → get_elem? xs i ≡ some a → P a
all_at P xs i a all at = subst P (read xs i a at) (all i a (within xs i a at))

pub all_from : {A : Type 0} (P : A → Type 0) (xs : List A) → ((i : ℕ) (a : A) → get_elem? xs i ≡ some a → P a) → All P xs
all_from P [] h = All-nil P
all_from P (x ∷ xs) h = All-cons P x xs (h 0 x refl) (all_from P xs (λ i a at. h (suc i) a at))

-- two lists, element by element
pub zip_from : {A B : Type 0} (R : A → B → Type 0) (xs : List A) (ys : List B) → length xs ≡ length ys → ((i : ℕ) (x : A) (y : B) → get_elem? xs i ≡ some x → get_elem? ys i ≡ some y → R x y) → AllZip R xs ys
zip_from R [] [] long h = tt
zip_from R [] (y ∷ ys) long h = absurd (omega arith)
zip_from R (x ∷ xs) [] long h = absurd (omega arith)
zip_from R (x ∷ xs) (y ∷ ys) long h = (h 0 x y refl refl, zip_from R xs ys (omega arith) (λ i a b at at'. h (suc i) a b at at'))

pub zip_at : {A B : Type 0} (R : A → B → Type 0) (xs : List A) (ys : List B) (i : ℕ) (x : A) → AllZip R xs ys → get_elem? xs i ≡ some x → (y : B) × (get_elem? ys i ≡ some y) × R x y
zip_at R [] ys i x all at = absurd (some-ne-none x (sym at))
zip_at R (a ∷ xs) [] i x all at = absurd all
zip_at R (a ∷ xs) (b ∷ ys) zero x all at = (b, refl, subst (λ z. R z b) (some-injective a x at) all.0)
zip_at R (a ∷ xs) (b ∷ ys) (suc i) x all at = zip_at R xs ys i x all.1 at

pub zip_length : {A B : Type 0} (R : A → B → Type 0) (xs : List A) (ys : List B) → AllZip R xs ys → length xs ≡ length ys
zip_length R [] [] all = refl
zip_length R [] (y ∷ ys) all = absurd all
zip_length R (x ∷ xs) [] all = absurd all
zip_length R (x ∷ xs) (y ∷ ys) all = ap suc (zip_length R xs ys all.1)

pub zip_more : {A B : Type 0} (R : A → B → Type 0) (xs : List A) (ys : List B) (x : A) (y : B) → AllZip R xs ys → R x y → AllZip R (xs ++ x ∷ []) (ys ++ y ∷ [])
zip_more R [] [] x y all r = (r, tt)
zip_more R [] (b ∷ ys) x y all r = absurd all
zip_more R (a ∷ xs) [] x y all r = absurd all
zip_more R (a ∷ xs) (b ∷ ys) x y all r = (all.0, zip_more R xs ys x y all.1 r)

-- a read by `slice_get`
pub there_by_slice : {A : Type 0} (xs : List A) (i : ℕ) (a : A) → slice_get xs i ≡ Some a → get_elem? xs i ≡ some a
there_by_slice [] i a at = absurd (no_some None a refl at)
there_by_slice (x ∷ xs) zero a at = ap some (same_Some x a at)
there_by_slice (x ∷ xs) (suc i) a at = there_by_slice xs i a at

pub below-only-one : (k n : ℕ) → k < n → below (only k) n ≡ 1
below-only-one k zero h = absurd (omega arith)
below-only-one k (suc n) h = dite (ℕ_discrete n k)
    (λ e. let none-yet = (below-only k n).1 (omega arith) in let one : only k n ≡ 1 = only-same k n e in omega arith)
    (λ ne. let zero-here : only k n ≡ 0 = ap (λ b. cond b 1 0) (ne_eqb n k ne) in let before = below-only-one k n (omega arith) in omega arith)

one-or-none : (b : Bool) (t : ℕ) → cond b 1 0 + t ≡ cond b (1 + t) t
one-or-none true t = refl
one-or-none false t = omega arith

-- how many have the number n
pub count-map : {A B : Type 0} (g : A → B) (f : B → ℕ) (n : ℕ) (xs : List A) → total (λ b. only n (f b)) (map g xs) ≡ count_by (λ a. eqb (f (g a)) n) xs
count-map g f n xs = is_count_by (λ (l : List _). total (λ b. only n (f b)) (map g l)) (λ a. eqb (f (g a)) n) refl (λ y ys. one-or-none (eqb (f (g y)) n) (total (λ b. only n (f b)) (map g ys))) xs

pub range-more : (n : ℕ) → range_with_len 0 (n + 1) ≡ range_with_len 0 n ++ n ∷ []
range-more n = let e : n + 1 ≡ suc n = omega arith in let z : 0 + n ≡ n = omega arith in ap (range_with_len 0) e ∙ range_more 0 n n z

module _ {N X : Type 0} where
  pub stamps_rise : (a : ℕ) (ms : List (LogEntry N X)) → Stamped a ms → Rises a (log_stamps ms)
  stamps_rise a [] s = tt
  stamps_rise a (m ∷ ms) s = (let e = s.0 in omega arith, stamps_rise m.stamp ms s.1)

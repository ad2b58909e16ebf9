-- After the sort each place's acts stand as in its history.
use Rattle.std.proofs.Common.{Bool, true, false, not, ◌&&◌, ◌≡◌, ◌≢◌, ℕ, zero, suc, ◌+◌, ◌<◌, ◌≤◌, cond, eqb, eq-eqb, ne_eqb, List, [], ◌∷◌, ◌++◌, map, length, filter, sym, refl, ap, ◌∙◌, subst, arith, Some, append-nil}
use mathlib.Core.Logic.{dite}
use native.Mathlib.Decide.{ℕ_discrete}
use Rattle.std.specs.Prelude.{slice_get}
use Rattle.ccr_turns.specs.Histories.{history_stamps}
use Rattle.ccr_turns.specs.Lists.{Rises}
use Rattle.ccr_base.specs.Lists.{Each}
use Rattle.ccr_base.proofs.Lists.{all_from_each}
use Rattle.std.specs.Prelude.{All}
use Rattle.ccr_turns.specs.declared.history.Held.{Held}
use Rattle.ccr_runs.specs.declared.acts.Act.{Act}
use Rattle.ccr_runs.specs.Merges.{Climbs, act_stamps, history_at, held, tag, tagged, IsBefore, IsByPlace}
use Rattle.std.specs.List.Sorted.{ties, IsNonDecreasingBy}
use Rattle.std.specs.Ordering.{is_lt, nat_cmp}
use Rattle.std.proofs.lemmas.Bool.Decides.{nat_tests}
use Rattle.std.proofs.lemmas.List.Elements.{filter_agree}
use Rattle.ccr_runs.proofs.Telling.{climbs_from}

pub tie : (x y : ℕ) → not (is_lt (nat_cmp x y)) && not (is_lt (nat_cmp y x)) ≡ eqb y x
tie x y = grind (arith, nat_tests)

module _ {N : Type 0} where
  abbrev at_stamp : ℕ → List (Held N) → List (Held N)
  at_stamp s [] = []
  at_stamp s (h ∷ hs) = cond (eqb h.stamp s) (h ∷ at_stamp s hs) (at_stamp s hs)

  now : (s : ℕ) (h : Held N) (hs : List (Held N)) → h.stamp ≡ s → at_stamp s (h ∷ hs) ≡ h ∷ at_stamp s hs
  now s h hs e = ap (λ b. cond b (h ∷ at_stamp s hs) (at_stamp s hs)) (eq-eqb h.stamp s e)

  other : (s : ℕ) (h : Held N) (hs : List (Held N)) → h.stamp ≢ s → at_stamp s (h ∷ hs) ≡ at_stamp s hs
  other s h hs n = ap (λ b. cond b (h ∷ at_stamp s hs) (at_stamp s hs)) (ne_eqb h.stamp s n)

  lowest : (a s : ℕ) (hs : List (Held N)) (h : Held N) (rest : List (Held N)) → Climbs a (history_stamps hs) → at_stamp s hs ≡ h ∷ rest → a ≤ s
  lowest a s [] h rest c e = absurd (cc)
  lowest a s (x ∷ xs) h rest c e = dite (ℕ_discrete x.stamp s)
      (λ y. let l = c.0 in omega arith)
      (λ n. let l = c.0 in let g = lowest x.stamp s xs h rest c.1 (sym (other s x xs n) ∙ e) in omega arith)

  above_all : (a s : ℕ) (hs : List (Held N)) (h : Held N) (rest : List (Held N)) → Rises a (history_stamps hs) → at_stamp s hs ≡ h ∷ rest → a < s
  above_all a s [] h rest c e = absurd (cc)
  above_all a s (x ∷ xs) h rest c e = dite (ℕ_discrete x.stamp s)
      (λ y. let l = c.0 in omega arith)
      (λ n. let l = c.0 in let g = above_all x.stamp s xs h rest c.1 (sym (other s x xs n) ∙ e) in omega arith)

  -- a list that doesn't fall and one that rises are the same where they are so at each stamp
  pub same_histories : (a b : ℕ) (xs ys : List (Held N)) → Climbs a (history_stamps xs) → Rises b (history_stamps ys) → ((d : Held N) → at_stamp d.stamp xs ≡ at_stamp d.stamp ys) → xs ≡ ys
  same_histories a b [] [] c r h = refl
  same_histories a b [] (y ∷ ys) c r h = let e = h y ∙ now y.stamp y ys refl in absurd (cc)
  same_histories a b (x ∷ xs) [] c r h = let e = sym (now x.stamp x xs refl) ∙ h x in absurd (cc)
  same_histories a b (x ∷ xs) (y ∷ ys) c r h = dite (ℕ_discrete x.stamp y.stamp)
      (λ e.
      let both : x ∷ at_stamp y.stamp xs ≡ y ∷ at_stamp y.stamp ys = sym (now y.stamp x xs e) ∙ (h y ∙ now y.stamp y ys refl) in
      let first : x ≡ y = cc in
      let rest : at_stamp y.stamp xs ≡ at_stamp y.stamp ys = cc in
      let tails : (d : Held N) → at_stamp d.stamp xs ≡ at_stamp d.stamp ys = λ d. dite (ℕ_discrete y.stamp d.stamp)
      (λ z. subst (λ q. at_stamp q xs ≡ at_stamp q ys) z rest)
      (λ z. sym (other d.stamp x xs (λ w. z (sym e ∙ w))) ∙ (h d ∙ other d.stamp y ys z)) in
      let after = same_histories x.stamp y.stamp xs ys c.1 r.1 tails in
      λ i. first i ∷ after i)
      (λ z.
      let theirs : at_stamp y.stamp xs ≡ y ∷ at_stamp y.stamp ys = sym (other y.stamp x xs z) ∙ (h y ∙ now y.stamp y ys refl) in
      let ours : at_stamp x.stamp ys ≡ x ∷ at_stamp x.stamp xs = sym (other x.stamp y ys (λ w. z (sym w))) ∙ (sym (h x) ∙ now x.stamp x xs refl) in
      let p = lowest x.stamp y.stamp xs y (at_stamp y.stamp ys) c.1 theirs in
      let q = above_all y.stamp x.stamp ys x (at_stamp x.stamp xs) r.1 ours in
      absurd (omega arith))

  -- the place's part of those of one stamp
  stamped_part : (p s : ℕ) (es : List (Act N)) → at_stamp s (history_at p es) ≡ history_at p (filter (λ e. eqb e.stamp s) es)
  stamped_part p s [] = refl
  stamped_part p s (e ∷ es) = by_tests (stamped_part p s es) (eqb e.place p) (eqb e.stamp s) refl refl
    where
      by_tests : at_stamp s (history_at p es) ≡ history_at p (filter (λ e. eqb e.stamp s) es) → (x y : Bool) → x ≡ eqb e.place p → y ≡ eqb e.stamp s → at_stamp s (cond x (held e ∷ history_at p es) (history_at p es)) ≡ history_at p (cond y (e ∷ filter (λ e. eqb e.stamp s) es) (filter (λ e. eqb e.stamp s) es))
      by_tests again true true x y = rw (sym x, sym y) (λ i. held e ∷ again i)
      by_tests again true false x y = rw (sym y) again
      by_tests again false true x y = rw (sym x) again
      by_tests again false false x y = again

  history-climbs : (a p : ℕ) (es : List (Act N)) → Climbs a (act_stamps es) → Climbs a (history_stamps (history_at p es))
  history-climbs a p [] c = tt
  history-climbs a p (e ∷ es) c = by_test (history-climbs e.stamp p es c.1) (eqb e.place p)
    where
      by_test : Climbs e.stamp (history_stamps (history_at p es)) → (b : Bool) → Climbs a (history_stamps (cond b (held e ∷ history_at p es) (history_at p es)))
      by_test again true = (c.0, again)
      by_test again false = climbs_from e.stamp a _ c.0 again

  history-append : (p : ℕ) (es fs : List (Act N)) → history_at p (es ++ fs) ≡ history_at p es ++ history_at p fs
  history-append p [] fs = refl
  history-append p (e ∷ es) fs = by_test (eqb e.place p) (history-append p es fs)
    where
      by_test : (b : Bool) → history_at p (es ++ fs) ≡ history_at p es ++ history_at p fs → cond b (held e ∷ history_at p (es ++ fs)) (history_at p (es ++ fs)) ≡ cond b (held e ∷ history_at p es) (history_at p es) ++ history_at p fs
      by_test true again = λ i. held e ∷ again i
      by_test false again = again

  history-tagged : (p : ℕ) (hs : List (Held N)) → history_at p (map (tag p) hs) ≡ hs
  history-tagged p [] = refl
  history-tagged p (h ∷ hs) = ap (λ b. cond b (h ∷ history_at p (map (tag p) hs)) (history_at p (map (tag p) hs))) (eq-eqb p p refl) ∙ (λ i. h ∷ history-tagged p hs i)

  history-apart : (p q : ℕ) (hs : List (Held N)) → q ≢ p → history_at p (map (tag q) hs) ≡ []
  history-apart p q [] n = refl
  history-apart p q (h ∷ hs) n = ap (λ b. cond b (h ∷ history_at p (map (tag q) hs)) (history_at p (map (tag q) hs))) (ne_eqb q p n) ∙ history-apart p q hs n

  climbs_of : (x : Act N) (xs : List (Act N)) → IsNonDecreasingBy (λ (e : Act N). e.stamp) (x ∷ xs) → Climbs x.stamp (act_stamps xs)
  climbs_of x [] h = tt
  climbs_of x (y ∷ ys) h = (h 0 1 x (omega arith) (omega arith), climbs_of y ys (λ i j d a b. h (suc i) (suc j) d (omega arith) (omega arith)))

  pub climbs : (xs : List (Act N)) → IsNonDecreasingBy (λ (e : Act N). e.stamp) xs → Climbs 0 (act_stamps xs)
  climbs [] h = tt
  climbs (x ∷ xs) h = (omega arith, climbs_of x xs h)

none_there : {O N : Type 0} (p q : ℕ) (kept : List (O × List (Held N))) → p < q → history_at p (tagged q kept) ≡ []
none_there p q [] l = refl
none_there p q (k ∷ ks) l = history-append p (map (tag q) k.1) (tagged (suc q) ks) ∙ (λ i. history-apart p q k.1 (λ e. omega arith) i ++ none_there p (suc q) ks (omega arith) i)

part_from : {O N : Type 0} (q i : ℕ) (kept : List (O × List (Held N))) (left : O × List (Held N)) → slice_get kept i ≡ Some left → history_at (q + i) (tagged q kept) ≡ left.1
part_from q i [] left at = absurd (cc)
part_from q zero (k ∷ ks) left at =
    let same : k ≡ left = cc in
    let z : q + 0 ≡ q = omega arith in
    ap (λ p. history_at p (tagged q (k ∷ ks))) z ∙ (history-append q (map (tag q) k.1) (tagged (suc q) ks) ∙ ((λ j. history-tagged q k.1 j ++ none_there q (suc q) ks (omega arith) j) ∙ (append-nil k.1 ∙ ap (λ (l : _). l.1) same)))
part_from q (suc i) (k ∷ ks) left at =
    let z : q + suc i ≡ suc q + i = omega arith in
    ap (λ p. history_at p (tagged q (k ∷ ks))) z ∙ (history-append (suc q + i) (map (tag q) k.1) (tagged (suc q) ks) ∙ (λ j. history-apart (suc q + i) q k.1 (λ e. omega arith) j ++ part_from (suc q) i ks left at j))

module _ {O N : Type 0} where
  -- a list of the same acts at each stamp that doesn't fall has each place's history as it was
  pub parts : (kept : List (O × List (Held N))) (es : List (Act N)) → Climbs 0 (act_stamps es) → ((x : Act N) → filter (ties (λ (a b : Act N). is_lt (nat_cmp a.stamp b.stamp)) x) es ≡ filter (ties (λ (a b : Act N). is_lt (nat_cmp a.stamp b.stamp)) x) (tagged 0 kept))
      → (p : ℕ) (left : O × List (Held N)) → slice_get kept p ≡ Some left → Rises 0 (history_stamps left.1) → history_at p es ≡ left.1
  parts kept es c stable p left at rises =
      let z : 0 + p ≡ p = omega arith in
      let its : history_at p (tagged 0 kept) ≡ left.1 = ap (λ q. history_at q (tagged 0 kept)) (sym z) ∙ part_from 0 p kept left at in
      same_histories 0 0 (history_at p es) left.1 (history-climbs 0 p es c) rises (λ d.
      let x : Act N = tag p d in
      let tests = λ (y : Act N). tie x.stamp y.stamp in
      stamped_part p d.stamp es
      ∙ (ap (history_at p) (sym (filter_agree (ties (λ (a b : Act N). is_lt (nat_cmp a.stamp b.stamp)) x) (λ y. eqb y.stamp d.stamp) tests es) ∙ (stable x ∙ filter_agree (ties (λ (a b : Act N). is_lt (nat_cmp a.stamp b.stamp)) x) (λ y. eqb y.stamp d.stamp) tests (tagged 0 kept)))
      ∙ (sym (stamped_part p d.stamp (tagged 0 kept)) ∙ ap (at_stamp d.stamp) its)))

pub tagged_inside : {O N : Type 0} (n q : ℕ) (kept : List (O × List (Held N))) → q + length kept ≤ n → Each (λ (e : Act N). e.place < n) (tagged q kept)
tagged_inside {N = N} n q [] l = tt
tagged_inside {N = N} n q (k ∷ ks) l = each_append (map (tag q) k.1) (tagged (suc q) ks) (each_tagged k.1) (tagged_inside n (suc q) ks (omega arith))
  where
    each_tagged : (hs : List (Held N)) → Each (λ (e : Act N). e.place < n) (map (tag q) hs)
    each_tagged [] = tt
    each_tagged (h ∷ hs) = (omega arith, each_tagged hs)

    each_append : (es fs : List (Act N)) → Each (λ (e : Act N). e.place < n) es → Each (λ (e : Act N). e.place < n) fs → Each (λ (e : Act N). e.place < n) (es ++ fs)
    each_append [] fs a b = b
    each_append (e ∷ es) fs a b = (a.0, each_append es fs a.1 b)

pub all_inside : {O N : Type 0} (kept : List (O × List (Held N))) → All (λ (e : Act N). e.place < length kept) (tagged 0 kept)
all_inside kept = all_from_each (λ (e : Act _). e.place < length kept) (tagged 0 kept) (tagged_inside (length kept) 0 kept (omega arith))

-- ---- acts of one stamp stand by their places

abbrev act_places : {N : Type 0} → List (Act N) → List ℕ
act_places {N = N} es = map (λ (e : Act N). e.place) es

abbrev of_stamp : {N : Type 0} → ℕ → List (Act N) → List (Act N)
of_stamp {N = N} s es = filter (λ (e : Act N). eqb e.stamp s) es

module _ {N : Type 0} where
  places_of_stamp : (a s : ℕ) (es : List (Act N)) → Climbs a (act_places es) → Climbs a (act_places (of_stamp s es))
  places_of_stamp a s [] c = tt
  places_of_stamp a s (e ∷ es) c = by_test (places_of_stamp e.place s es c.1) (eqb e.stamp s)
    where
      by_test : Climbs e.place (act_places (of_stamp s es)) → (b : Bool) → Climbs a (act_places (cond b (e ∷ of_stamp s es) (of_stamp s es)))
      by_test again true = (c.0, again)
      by_test again false = climbs_from e.place a _ c.0 again

  places_listed : (a q : ℕ) (hs : List (Held N)) (rest : List (Act N)) → a ≤ q → Climbs q (act_places rest) → Climbs a (act_places (map (tag q) hs ++ rest))
  places_listed a q [] rest low c = climbs_from q a _ low c
  places_listed a q (h ∷ hs) rest low c = (low, places_listed q q hs rest (omega arith) c)

  -- the acts of each stamp stand by their places, above some bound
  abbrev AreByPlace : List (Act N) → Type 0
  AreByPlace es = (x : Act N) → (a : ℕ) × Climbs a (act_places (of_stamp x.stamp es))

  behind : (e : Act N) (es : List (Act N)) → AreByPlace (e ∷ es) → AreByPlace es
  behind e es all x = by_test (eqb e.stamp x.stamp) (all x)
    where
      by_test : (b : Bool) → (a : ℕ) × Climbs a (act_places (cond b (e ∷ of_stamp x.stamp es) (of_stamp x.stamp es))) → (a : ℕ) × Climbs a (act_places (of_stamp x.stamp es))
      by_test true (a, c) = (e.place, c.1)
      by_test false (a, c) = (a, c)

  before : (e : Act N) (es : List (Act N)) → AreByPlace (e ∷ es) → IsBefore e es
  before e [] all = tt
  before e (f ∷ fs) all = λ same.
      let (a, c) = all e in
      let one = subst (λ b. Climbs a (act_places (cond b (e ∷ of_stamp e.stamp (f ∷ fs)) (of_stamp e.stamp (f ∷ fs))))) (eq-eqb e.stamp e.stamp refl) c in
      let two = subst (λ b. Climbs e.place (act_places (cond b (f ∷ of_stamp e.stamp fs) (of_stamp e.stamp fs)))) (eq-eqb f.stamp e.stamp (sym same)) one.1 in
      two.0

  by_place : (es : List (Act N)) → AreByPlace es → IsByPlace es
  by_place [] all = tt
  by_place (e ∷ es) all = (before e es all, by_place es (behind e es all))

places_tagged : {O N : Type 0} (q : ℕ) (kept : List (O × List (Held N))) → Climbs q (act_places (tagged q kept))
places_tagged q [] = tt
places_tagged q (k ∷ ks) = places_listed q q k.1 (tagged (suc q) ks) (omega arith) (climbs_from (suc q) q _ (omega arith) (places_tagged (suc q) ks))

-- a list of the same acts at each stamp, in the same order, has those of one stamp by their places
pub by_places : {O N : Type 0} (kept : List (O × List (Held N))) (es : List (Act N)) → ((x : Act N) → filter (ties (λ (a b : Act N). is_lt (nat_cmp a.stamp b.stamp)) x) es ≡ filter (ties (λ (a b : Act N). is_lt (nat_cmp a.stamp b.stamp)) x) (tagged 0 kept)) → IsByPlace es
by_places {O} {N} kept es stable = by_place es (λ x.
    let test = ties (λ (a b : Act N). is_lt (nat_cmp a.stamp b.stamp)) x in
    let tests = λ (y : Act N). tie x.stamp y.stamp in
    let same : of_stamp x.stamp es ≡ of_stamp x.stamp (tagged 0 kept) = sym (filter_agree test (λ y. eqb y.stamp x.stamp) tests es) ∙ (stable x ∙ filter_agree test (λ y. eqb y.stamp x.stamp) tests (tagged 0 kept)) in
    (0, subst (λ (l : List (Act N)). Climbs 0 (act_places l)) (sym same) (places_of_stamp 0 x.stamp (tagged 0 kept) (places_tagged 0 kept))))

-- Lists in the order of their stamps: there is one, and what is shown of a list in order is in order.
use Rattle.std.proofs.Common.{Bool, true, false, ◌≡◌, ◌≢◌, ℕ, suc, ◌<◌, ◌≤◌, cond, eqb, leb, eq-eqb, ne_eqb, List, [], ◌∷◌, ◌++◌, map, filter, sym, refl, ap, ◌∙◌, arith, length, subst, Some}
use mathlib.Core.Logic.{dite}
use native.Mathlib.Decide.{ℕ_discrete}
use Rattle.std.specs.Prelude.{All, flat_map, slice_get}
use Rattle.std.specs.List.Sorted.{ties, IsNonDecreasingBy}
use Rattle.std.specs.Ordering.{is_lt, nat_cmp}
use Rattle.std.proofs.lemmas.Bool.{leb-true, leb-false}
use Rattle.std.proofs.lemmas.List.Elements.{filter-append, filter_agree}
use Rattle.ccr_turns.specs.Histories.{history_stamps}
use Rattle.ccr_turns.specs.Lists.{Rises}
use Rattle.ccr_base.specs.Lists.{Each}
use Rattle.ccr_base.proofs.Lists.{all_from_each}
use Rattle.ccr_turns.specs.declared.history.Held.{Held}
use Rattle.ccr_runs.specs.declared.acts.Act.{Act}
use Rattle.ccr_runs.specs.Merges.{Climbs, IsByPlace, act_stamps, history_at, tagged}
use Rattle.ccr_runs.specs.Orders.{put_in, in_order, merged}
use Rattle.ccr_runs.proofs.Sorting.{by_places, parts, tagged_inside, tie}
use Rattle.ccr_runs.proofs.Telling.{climbs_from}

module _ {X : Type 0} (stamp : X → ℕ) where
  -- those of one stamp
  abbrev of : ℕ → List X → List X
  of s xs = filter (λ x. eqb (stamp x) s) xs

  now : (s : ℕ) (x : X) (xs : List X) → stamp x ≡ s → of s (x ∷ xs) ≡ x ∷ of s xs
  now s x xs e = ap (λ b. cond b (x ∷ of s xs) (of s xs)) (eq-eqb (stamp x) s e)

  other : (s : ℕ) (x : X) (xs : List X) → stamp x ≢ s → of s (x ∷ xs) ≡ of s xs
  other s x xs n = ap (λ b. cond b (x ∷ of s xs) (of s xs)) (ne_eqb (stamp x) s n)

  put_of : (s : ℕ) (x : X) (ys : List X) → of s (put_in stamp x ys) ≡ of s (x ∷ ys)
  put_of s x [] = refl
  put_of s x (y ∷ ys) = by_test (put_of s x ys) (leb (stamp x) (stamp y)) refl
    where
      by_test : of s (put_in stamp x ys) ≡ of s (x ∷ ys) → (b : Bool) → leb (stamp x) (stamp y) ≡ b → of s (cond b (x ∷ y ∷ ys) (y ∷ put_in stamp x ys)) ≡ of s (x ∷ y ∷ ys)
      by_test again true e = refl
      by_test again false e =
          let above : stamp y < stamp x = leb-false (stamp x) (stamp y) e in
          dite (ℕ_discrete (stamp x) s)
          (λ m.
          let apart : stamp y ≢ s = λ z. omega arith in
          other s y (put_in stamp x ys) apart ∙ (again ∙ (now s x ys m ∙ (ap (λ (l : List X). x ∷ l) (sym (other s y ys apart)) ∙ sym (now s x (y ∷ ys) m)))))
          (λ n. ap (λ (l : List X). cond (eqb (stamp y) s) (y ∷ l) l) (again ∙ other s x ys n) ∙ sym (other s x (y ∷ ys) n))

  -- those of each stamp stand as they stood
  pub order_of : (s : ℕ) (xs : List X) → of s (in_order stamp xs) ≡ of s xs
  order_of s [] = refl
  order_of s (x ∷ xs) = put_of s x (in_order stamp xs) ∙ ap (λ (l : List X). cond (eqb (stamp x) s) (x ∷ l) l) (order_of s xs)

  put_climbs : (a : ℕ) (x : X) (ys : List X) → a ≤ stamp x → Climbs a (map stamp ys) → Climbs a (map stamp (put_in stamp x ys))
  put_climbs a x [] low c = (low, tt)
  put_climbs a x (y ∷ ys) low c = by_test (λ l. put_climbs (stamp y) x ys l c.1) (leb (stamp x) (stamp y)) refl
    where
      by_test : (stamp y ≤ stamp x → Climbs (stamp y) (map stamp (put_in stamp x ys))) → (b : Bool) → leb (stamp x) (stamp y) ≡ b → Climbs a (map stamp (cond b (x ∷ y ∷ ys) (y ∷ put_in stamp x ys)))
      by_test again true e = (low, (leb-true (stamp x) (stamp y) e, c.1))
      by_test again false e = let above : stamp y < stamp x = leb-false (stamp x) (stamp y) e in (c.0, again (omega arith))

  pub order_climbs : (xs : List X) → Climbs 0 (map stamp (in_order stamp xs))
  order_climbs [] = tt
  order_climbs (x ∷ xs) = put_climbs 0 x (in_order stamp xs) (omega arith) (order_climbs xs)

  lowest : (a s : ℕ) (xs : List X) (x : X) (rest : List X) → Climbs a (map stamp xs) → of s xs ≡ x ∷ rest → a ≤ s
  lowest a s [] x rest c e = absurd (cc)
  lowest a s (y ∷ ys) x rest c e = dite (ℕ_discrete (stamp y) s)
      (λ m. let l = c.0 in omega arith)
      (λ n. let l = c.0 in let g = lowest (stamp y) s ys x rest c.1 (sym (other s y ys n) ∙ e) in omega arith)

  climbs_of : (x : X) (xs : List X) → IsNonDecreasingBy stamp (x ∷ xs) → Climbs (stamp x) (map stamp xs)
  climbs_of x [] h = tt
  climbs_of x (y ∷ ys) h = (h 0 1 x (omega arith) (omega arith), climbs_of y ys (λ i j d a b. h (suc i) (suc j) d (omega arith) (omega arith)))

  pub climbing : (xs : List X) → IsNonDecreasingBy stamp xs → Climbs 0 (map stamp xs)
  climbing [] h = tt
  climbing (x ∷ xs) h = (omega arith, climbs_of x xs h)

  -- two lists that don't fall are the same where they are so at each stamp
  pub same_ordered : (a b : ℕ) (xs ys : List X) → Climbs a (map stamp xs) → Climbs b (map stamp ys) → ((d : X) → of (stamp d) xs ≡ of (stamp d) ys) → xs ≡ ys
  same_ordered a b [] [] c r h = refl
  same_ordered a b [] (y ∷ ys) c r h = let e = h y ∙ now (stamp y) y ys refl in absurd (cc)
  same_ordered a b (x ∷ xs) [] c r h = let e = sym (now (stamp x) x xs refl) ∙ h x in absurd (cc)
  same_ordered a b (x ∷ xs) (y ∷ ys) c r h = dite (ℕ_discrete (stamp x) (stamp y))
      (λ e.
      let both : x ∷ of (stamp y) xs ≡ y ∷ of (stamp y) ys = sym (now (stamp y) x xs e) ∙ (h y ∙ now (stamp y) y ys refl) in
      let first : x ≡ y = cc in
      let rest : of (stamp y) xs ≡ of (stamp y) ys = cc in
      let tails : (d : X) → of (stamp d) xs ≡ of (stamp d) ys = λ d. dite (ℕ_discrete (stamp y) (stamp d))
      (λ z. subst (λ q. of q xs ≡ of q ys) z rest)
      (λ z. sym (other (stamp d) x xs (λ w. z (sym e ∙ w))) ∙ (h d ∙ other (stamp d) y ys z)) in
      let after = same_ordered (stamp x) (stamp y) xs ys c.1 r.1 tails in
      λ i. first i ∷ after i)
      (λ z.
      let theirs : of (stamp y) xs ≡ y ∷ of (stamp y) ys = sym (other (stamp y) x xs z) ∙ (h y ∙ now (stamp y) y ys refl) in
      let ours : of (stamp x) ys ≡ x ∷ of (stamp x) xs = sym (other (stamp x) y ys (λ w. z (sym w))) ∙ (sym (h x) ∙ now (stamp x) x xs refl) in
      let p = lowest (stamp x) (stamp y) xs y (of (stamp y) ys) c.1 theirs in
      let q = lowest (stamp y) (stamp x) ys x (of (stamp x) xs) r.1 ours in
      absurd (omega arith))

  -- so there is one list in order
  pub ordered_is : (xs ys : List X) → Climbs 0 (map stamp ys) → ((d : X) → of (stamp d) ys ≡ of (stamp d) xs) → ys ≡ in_order stamp xs
  ordered_is xs ys c h = same_ordered 0 0 ys (in_order stamp xs) c (order_climbs xs) (λ d. h d ∙ sym (order_of (stamp d) xs))

  each_put : (P : X → Type 0) (x : X) (ys : List X) → P x → Each P ys → Each P (put_in stamp x ys)
  each_put P x [] one all = (one, tt)
  each_put P x (y ∷ ys) one all = by_test (each_put P x ys one all.1) (leb (stamp x) (stamp y))
    where
      by_test : Each P (put_in stamp x ys) → (b : Bool) → Each P (cond b (x ∷ y ∷ ys) (y ∷ put_in stamp x ys))
      by_test again true = (one, all)
      by_test again false = (all.0, again)

  pub each_ordered : (P : X → Type 0) (xs : List X) → Each P xs → Each P (in_order stamp xs)
  each_ordered P [] all = tt
  each_ordered P (x ∷ xs) all = each_put P x (in_order stamp xs) all.0 (each_ordered P xs all.1)

  -- a stable sort by the stamp puts them in order
  pub sorted_is : (xs ys : List X) → Climbs 0 (map stamp ys) → ((d : X) → filter (ties (λ (a b : X). is_lt (nat_cmp (stamp a) (stamp b))) d) ys ≡ filter (ties (λ (a b : X). is_lt (nat_cmp (stamp a) (stamp b))) d) xs) → ys ≡ in_order stamp xs
  sorted_is xs ys c h = ordered_is xs ys c (λ d.
      let test = ties (λ (a b : X). is_lt (nat_cmp (stamp a) (stamp b))) d in
      let tests = λ (y : X). tie (stamp d) (stamp y) in
      sym (agree test (λ y. eqb (stamp y) (stamp d)) tests ys) ∙ (h d ∙ agree test (λ y. eqb (stamp y) (stamp d)) tests xs))
    where
      agree : (f g : X → Bool) → ((x : X) → f x ≡ g x) → (l : List X) → filter f l ≡ filter g l
      agree f g e [] = refl
      agree f g e (x ∷ l) = λ i. cond (e x i) (x ∷ agree f g e l i) (agree f g e l i)

-- what is shown of each element has its stamp
module _ {X Y : Type 0} (f : X → ℕ) (g : Y → ℕ) (shows : X → List Y) (keeps : (x : X) → Each (λ y. g y ≡ f x) (shows x)) where
  all_of : (s t : ℕ) (ys : List Y) → Each (λ y. g y ≡ t) ys → t ≡ s → of g s ys ≡ ys
  all_of s t [] all e = refl
  all_of s t (y ∷ ys) all e = now g s y ys (all.0 ∙ e) ∙ (λ i. y ∷ all_of s t ys all.1 e i)

  none_of : (s t : ℕ) (ys : List Y) → Each (λ y. g y ≡ t) ys → t ≢ s → of g s ys ≡ []
  none_of s t [] all n = refl
  none_of s t (y ∷ ys) all n = let h = all.0 in other g s y ys (λ z. n (sym h ∙ z)) ∙ none_of s t ys all.1 n

  shown_of : (s : ℕ) (xs : List X) → of g s (flat_map shows xs) ≡ flat_map shows (of f s xs)
  shown_of s [] = refl
  shown_of s (x ∷ xs) = filter-append (λ y. eqb (g y) s) (shows x) (flat_map shows xs) ∙ dite (ℕ_discrete (f x) s)
      (λ e. (λ i. all_of s (f x) (shows x) (keeps x) e i ++ shown_of s xs i) ∙ ap (flat_map shows) (sym (now f s x xs e)))
      (λ n. (λ i. none_of s (f x) (shows x) (keeps x) n i ++ shown_of s xs i) ∙ ap (flat_map shows) (sym (other f s x xs n)))

  led : (a t : ℕ) (ys rest : List Y) → Each (λ y. g y ≡ t) ys → a ≤ t → Climbs t (map g rest) → Climbs a (map g (ys ++ rest))
  led a t [] rest all low c = climbs_from t a _ low c
  led a t (y ∷ ys) rest all low c = let h = all.0 in (omega arith, led (g y) t ys rest all.1 (omega arith) c)

  shown_climbs : (a : ℕ) (xs : List X) → Climbs a (map f xs) → Climbs a (map g (flat_map shows xs))
  shown_climbs a [] c = tt
  shown_climbs a (x ∷ xs) c = led a (f x) (shows x) (flat_map shows xs) (keeps x) c.0 (shown_climbs (f x) xs c.1)

  -- what is shown of a list in order is in order what is shown of the list
  pub shown_in_order : (xs : List X) → flat_map shows (in_order f xs) ≡ in_order g (flat_map shows xs)
  shown_in_order xs = ordered_is g (flat_map shows xs) (flat_map shows (in_order f xs)) (shown_climbs 0 (in_order f xs) (order_climbs f xs)) (λ d.
      shown_of (g d) (in_order f xs) ∙ (ap (flat_map shows) (order_of f (g d) xs) ∙ sym (shown_of (g d) xs)))

-- ---- the merged acts of places

module _ {O N : Type 0} (kept : List (O × List (Held N))) where
  same_ties : (x : Act N) → filter (ties (λ (a b : Act N). is_lt (nat_cmp a.stamp b.stamp)) x) (merged kept) ≡ filter (ties (λ (a b : Act N). is_lt (nat_cmp a.stamp b.stamp)) x) (tagged 0 kept)
  same_ties x =
      let test = ties (λ (a b : Act N). is_lt (nat_cmp a.stamp b.stamp)) x in
      let tests = λ (y : Act N). tie x.stamp y.stamp in
      filter_agree test (λ y. eqb y.stamp x.stamp) tests (merged kept) ∙ (order_of (λ (e : Act N). e.stamp) x.stamp (tagged 0 kept) ∙ sym (filter_agree test (λ y. eqb y.stamp x.stamp) tests (tagged 0 kept)))

  pub merged_climbs : Climbs 0 (act_stamps (merged kept))
  merged_climbs = order_climbs (λ (e : Act N). e.stamp) (tagged 0 kept)

  pub merged_parts : (p : ℕ) (left : O × List (Held N)) → slice_get kept p ≡ Some left → Rises 0 (history_stamps left.1) → history_at p (merged kept) ≡ left.1
  merged_parts p left at rises = parts kept (merged kept) merged_climbs same_ties p left at rises

  pub merged_by_place : IsByPlace (merged kept)
  merged_by_place = by_places kept (merged kept) same_ties

  pub merged_inside : All (λ (e : Act N). e.place < length kept) (merged kept)
  merged_inside = all_from_each (λ (e : Act N). e.place < length kept) (merged kept) (each_ordered (λ (e : Act N). e.stamp) (λ (e : Act N). e.place < length kept) (tagged 0 kept) (tagged_inside (length kept) 0 kept (omega arith)))

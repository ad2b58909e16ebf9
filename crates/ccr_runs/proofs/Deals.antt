-- The merged acts, dealt out from the histories of their places.
use Rattle.std.proofs.Common.{◌≡◌, ◌≢◌, ◌∙◌, ℕ, zero, suc, ◌<◌, Bool, true, false, cond, leb, eq-eqb, ne_eqb, List, [], ◌∷◌, ◌++◌, map, length, drop, refl, ap, sym, subst, arith, length-set, Global}
use Rattle.std.specs.declared.collections.VecDeque.{VecDeque}
use Rattle.std.specs.Prelude.{All, Some, slice_get, slice_set}
use Rattle.std.proofs.Math.ListN.{get_or}
use Rattle.std.proofs.lemmas.List.{length-map}
use mathlib.Core.Logic.{dite}
use native.Mathlib.Decide.{ℕ_discrete}
use Rattle.ccr_turns.specs.Lists.{Rises}
use Rattle.ccr_base.specs.Lists.{Each}
use Rattle.ccr_turns.specs.Histories.{history_stamps}
use Rattle.ccr_turns.proofs.Rows.{all_at, there_by_slice}
use Rattle.ccr_turns.specs.declared.history.Held.{Held}
use Rattle.ccr_runs.specs.declared.acts.Act.{Act}
use Rattle.ccr_runs.specs.declared.ordering.StampedItem.{StampedItem}
use Rattle.ccr_runs.specs.Deals.{left_at, first_at, without_first, dealt, HasEach, key, place_of}
use Rattle.ccr_runs.specs.Merges.{held, tag, tagged, history_at}
use Rattle.ccr_runs.specs.Orders.{put_in, in_order, merged}
use Rattle.ccr_runs.proofs.InOrder.{each_ordered, merged_parts}
use Rattle.ccr_runs.proofs.Sorting.{tagged_inside}
use Rattle.ccr_base.proofs.Options.{get-set_same, get-set_other}
use Rattle.std.specs.Option.{unwrap_or}

module _ {N : Type 0} where
  -- the keys stand in the order of their acts
  put_key : (x : Act N) (ys : List (Act N)) → put_in (λ (one : StampedItem ℕ). one.stamp) (key x) (map key ys) ≡ map key (put_in (λ (act : Act N). act.stamp) x ys)
  put_key x [] = refl
  put_key x (y ∷ ys) = by_test (put_key x ys) (leb x.stamp y.stamp)
    where
      by_test : put_in (λ (one : StampedItem ℕ). one.stamp) (key x) (map key ys) ≡ map key (put_in (λ (act : Act N). act.stamp) x ys) → (b : Bool)
          → cond b (key x ∷ key y ∷ map key ys) (key y ∷ put_in (λ (one : StampedItem ℕ). one.stamp) (key x) (map key ys)) ≡ map key (cond b (x ∷ y ∷ ys) (y ∷ put_in (λ (act : Act N). act.stamp) x ys))
      by_test again true = refl
      by_test again false = ap (λ (l : List (StampedItem ℕ)). key y ∷ l) again

  pub order_keys : (xs : List (Act N)) → in_order (λ (one : StampedItem ℕ). one.stamp) (map key xs) ≡ map key (in_order (λ (act : Act N). act.stamp) xs)
  order_keys [] = refl
  order_keys (x ∷ xs) = ap (put_in (λ (one : StampedItem ℕ). one.stamp) (key x)) (order_keys xs) ∙ put_key x (in_order (λ (act : Act N). act.stamp) xs)

  pub key_places : (xs : List (Act N)) → map (λ (one : StampedItem ℕ). one.item) (map key xs) ≡ map place_of xs
  key_places [] = refl
  key_places (x ∷ xs) = ap (λ (l : List ℕ). x.place ∷ l) (key_places xs)

  -- one history in the place of another
  set_same : (histories : List (List (Held N))) (k : ℕ) (history : List (Held N)) → k < length histories → left_at (slice_set histories k history) k ≡ history
  set_same histories k history low = ap (λ o. unwrap_or o []) (get-set_same histories k history low)

  set_other : (histories : List (List (Held N))) (k n : ℕ) (history : List (Held N)) → k ≢ n → left_at (slice_set histories k history) n ≡ left_at histories n
  set_other histories k n history apart = ap (λ o. unwrap_or o []) (get-set_other histories k history n (λ e. apart (sym e)))

  -- acts of which each place's part is what is left there are what is dealt
  abbrev ArePartsOf : List (Act N) → List (List (Held N)) → Type 0
  ArePartsOf acts histories = (place : ℕ) → place < length histories → history_at place acts ≡ left_at histories place

  module _ (act : Act N) (acts : List (Act N)) (histories : List (List (Held N))) (low : act.place < length histories) (parts : ArePartsOf (act ∷ acts) histories) where
    there : left_at histories act.place ≡ held act ∷ history_at act.place acts
    there = sym (parts act.place low) ∙ ap (λ b. cond b (held act ∷ history_at act.place acts) (history_at act.place acts)) (eq-eqb act.place act.place refl)

    behind : ArePartsOf acts (without_first histories act.place)
    behind place under =
        let left = drop 1 (left_at histories act.place) in
        let size = length-set histories act.place left in
        dite (ℕ_discrete act.place place)
        (λ same. ap (λ p. history_at p acts) (sym same) ∙ (ap (drop 1) (sym there) ∙ (sym (set_same histories act.place left low) ∙ ap (λ p. left_at (without_first histories act.place) p) same)))
        (λ apart.
        sym (ap (λ b. cond b (held act ∷ history_at place acts) (history_at place acts)) (ne_eqb act.place place apart))
        ∙ (parts place (omega (arith, under, size)) ∙ sym (set_other histories act.place place left apart)))

  lower : (histories : List (List (Held N))) (place : ℕ) (acts : List (Act N)) → Each (λ (a : Act N). a.place < length histories) acts → Each (λ (a : Act N). a.place < length (without_first histories place)) acts
  lower histories place [] low = tt
  lower histories place (a ∷ acts) low = (let size = length-set histories place (drop 1 (left_at histories place)) in let under = low.0 in omega (arith, under, size), lower histories place acts low.1)

  pub all_dealt : (acts : List (Act N)) (histories : List (List (Held N))) → Each (λ (act : Act N). act.place < length histories) acts → ArePartsOf acts histories → dealt (map place_of acts) histories ≡ acts
  all_dealt [] histories low parts = refl
  all_dealt (act ∷ acts) histories low parts =
      ap (λ l. first_at act.place l ++ dealt (map place_of acts) (without_first histories act.place)) (there act acts histories low.0 parts)
      ∙ ap (λ l. act ∷ l) (all_dealt acts (without_first histories act.place) (lower histories act.place acts low.1) (behind act acts histories low.0 parts))

  pub all_have : (acts : List (Act N)) (histories : List (List (Held N))) → Each (λ (act : Act N). act.place < length histories) acts → ArePartsOf acts histories → HasEach (map place_of acts) histories
  all_have [] histories low parts = tt
  all_have (act ∷ acts) histories low parts =
      let some = ap length (there act acts histories low.0 parts) in
      (low.0, omega (arith, some), all_have acts (without_first histories act.place) (lower histories act.place acts low.1) (behind act acts histories low.0 parts))

  -- the next entry is moved out
  module _ (place : ℕ) (places order : List ℕ) (histories new : List (List (Held N))) (h : Held N) (rest : List (Held N)) (is : order ≡ place ∷ places) (at : left_at histories place ≡ h ∷ rest) (now : new ≡ slice_set histories place rest) where
    pub next_dealt : dealt order histories ≡ tag place h ∷ dealt places new
    next_dealt = ap (λ o. dealt o histories) is ∙ (ap (λ l. first_at place l ++ dealt places (slice_set histories place (drop 1 l))) at ∙ ap (λ l. tag place h ∷ dealt places l) (sym now))

    pub next_has : HasEach order histories → HasEach places new
    next_has all = subst (λ l. HasEach places l) (ap (λ l. slice_set histories place (drop 1 l)) at ∙ sym now) (subst (λ o. HasEach o histories) is all).2

  -- the lists of queues
  pub left_in : (queues : List (VecDeque (Held N) Global)) (place : ℕ) (d : VecDeque (Held N) Global) → place < length queues → left_at (map (λ queue. queue.items) queues) place ≡ (get_or queues place d).items
  left_in [] place d low = absurd (omega (arith, low))
  left_in (queue ∷ queues) zero d low = refl
  left_in (queue ∷ queues) (suc place) d low = left_in queues place d (omega (arith, low))

  pub set_in : (queues : List (VecDeque (Held N) Global)) (place : ℕ) (queue : VecDeque (Held N) Global) → map (λ queue. queue.items) (slice_set queues place queue) ≡ slice_set (map (λ queue. queue.items) queues) place queue.items
  set_in [] place queue = refl
  set_in (other ∷ queues) zero queue = refl
  set_in (other ∷ queues) (suc place) queue = ap (λ l. other.items ∷ l) (set_in queues place queue)

  pub count_in : (queues : List (VecDeque (Held N) Global)) → length (map (λ queue. queue.items) queues) ≡ length queues
  count_in queues = length-map queues (λ queue. queue.items)

-- ---- what closed locks kept

module _ {O N : Type 0} (kept : List (O × List (Held N))) (rising : All (λ (left : O × List (Held N)). Rises 0 (history_stamps left.1)) kept) where
  histories_in : (kept : List (O × List (Held N))) → length (map (λ (left : O × List (Held N)). left.1) kept) ≡ length kept
  histories_in kept = length-map kept (λ (left : O × List (Held N)). left.1)

  read : (kept : List (O × List (Held N))) (place : ℕ) → place < length kept → (left : O × List (Held N)) × (slice_get kept place ≡ Some left) × (left_at (map (λ (left : O × List (Held N)). left.1) kept) place ≡ left.1)
  read [] place low = absurd (omega (arith, low))
  read (left ∷ kept) zero low = (left, refl, refl)
  read (left ∷ kept) (suc place) low = read kept place (omega (arith, low))

  inside : Each (λ (act : Act N). act.place < length (map (λ (left : O × List (Held N)). left.1) kept)) (merged kept)
  inside = each_ordered (λ (act : Act N). act.stamp) (λ (act : Act N). act.place < length (map (λ (left : O × List (Held N)). left.1) kept)) (tagged 0 kept) (tagged_inside (length (map (λ (left : O × List (Held N)). left.1) kept)) 0 kept (let count = histories_in kept in omega (arith, count)))

  parts_in : ArePartsOf (merged kept) (map (λ (left : O × List (Held N)). left.1) kept)
  parts_in place low =
      let count = histories_in kept in
      let found = read kept place (omega (arith, low, count)) in
      merged_parts kept place found.0 found.1 (all_at (λ (left : O × List (Held N)). Rises 0 (history_stamps left.1)) kept place found.0 rising (there_by_slice kept place found.0 found.1)) ∙ sym found.2

  pub dealt_merged : dealt (map place_of (merged kept)) (map (λ (left : O × List (Held N)). left.1) kept) ≡ merged kept
  dealt_merged = all_dealt (merged kept) (map (λ (left : O × List (Held N)). left.1) kept) inside parts_in

  pub has_merged : HasEach (map place_of (merged kept)) (map (λ (left : O × List (Held N)). left.1) kept)
  has_merged = all_have (merged kept) (map (λ (left : O × List (Held N)). left.1) kept) inside parts_in

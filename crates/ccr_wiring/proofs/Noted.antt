-- Lists of spots, one for each number, and what they gain.
use Rattle.std.proofs.Common.{◌≡◌, ◌∙◌, ℕ, zero, suc, ◌+◌, ◌<◌, ◌≤◌, Bool, true, false, List, [], ◌∷◌, ◌++◌, length, take, Option, None, Some, refl, ap, sym, arith, length-set, append_assoc, append-nil, drop, subst}
use Rattle.std.specs.Prelude.{◌==◌, ◌||◌, ◌&&◌, not, if◌then◌else◌, slice_set}
use Rattle.std.specs.List.{slice_get}
use Rattle.std.proofs.Math.ListN.{get_or}
use Rattle.std.proofs.lemmas.Bool.Decides.{nat_tests}
use Rattle.std.proofs.lemmas.Option.{slice_get-get_or}
use Rattle.ccr_base.specs.declared.names.Spot.{Spot}
use Rattle.ccr_base.specs.declared.patterns.Slot.{Slot}
use Rattle.ccr_base.proofs.Booleans.{and_false}
use Rattle.ccr_base.specs.Lists.{has_number, are_apart}
use Rattle.ccr_base.proofs.Options.{some-below, parted, slice_get-set}
use Rattle.ccr_base.proofs.Lists.{any_more}
use Rattle.ccr_wiring.specs.Repeats.{slot_ports}
use Rattle.ccr_wiring.specs.Takers.{more_for, IsNoted}
use Rattle.ccr_base.proofs.Apart.{not_before}

-- the spot at the end of the list of one number
pub noted_one : (lists : List (List Spot)) (k : ℕ) (spot : Spot) (d now : List Spot) → k < length lists → now ≡ get_or lists k d ++ spot ∷ [] → IsNoted (λ n. k == n) spot lists (slice_set lists k now)
noted_one lists k spot d now within more = record {
  size = length-set lists k now;
  each = λ n list there. slice_get-set lists k n now within ∙ ap (λ b. if b then Some now else slice_get lists n) (turned n) ∙ of_test n list there (k == n) refl;
}
  where
    turned : (n : ℕ) → (n == k) ≡ (k == n)
    turned n = grind (arith, nat_tests)

    of_test : (n : ℕ) (list : List Spot) → slice_get lists n ≡ Some list → (b : Bool) → (k == n) ≡ b → (if b then Some now else slice_get lists n) ≡ Some (list ++ (if b then spot ∷ [] else []))
    of_test n list there true same =
        let one : k ≡ n = grind (arith, nat_tests, same) in
        let was : Some (get_or lists k d) ≡ Some list = sym (slice_get-get_or lists k d within) ∙ (ap (λ i. slice_get lists i) one ∙ there) in
        ap Some more ∙ ap (λ o. grown o) was
      where
        grown : Option (List Spot) → Option (List Spot)
        grown None = None
        grown (Some l) = Some (l ++ spot ∷ [])
    of_test n list there false differs = there ∙ ap Some (sym (append-nil list))

-- into no list
pub noted_none : (test : ℕ → Bool) (spot : Spot) (lists : List (List Spot)) → ((n : ℕ) → n < length lists → test n ≡ false) → IsNoted test spot lists lists
noted_none test spot lists never = record {
  size = refl;
  each = λ n list there. there ∙ ap Some (sym (append-nil list) ∙ ap (λ b. list ++ (if b then spot ∷ [] else [])) (sym (never n (some-below lists n list there))));
}

pub noted_past : (lists : List (List Spot)) (k : ℕ) (spot : Spot) → length lists ≤ k → IsNoted (λ n. k == n) spot lists lists
noted_past lists k spot past = noted_none (λ n. k == n) spot lists (λ n low. grind (arith, nat_tests, low, past))

-- one after the other, where no number passes both tests
pub noted_or : (p q r : ℕ → Bool) (spot : Spot) (old mid new : List (List Spot)) → ((n : ℕ) → r n ≡ p n || q n) → ((n : ℕ) → p n && q n ≡ false) → IsNoted p spot old mid → IsNoted q spot mid new → IsNoted r spot old new
noted_or p q r spot old mid new both apart first second = record {
  size = second.size ∙ first.size;
  each = λ n list there. second.each n (list ++ more_for p spot n) (first.each n list there) ∙ ap Some (append_assoc list (more_for p spot n) (more_for q spot n) ∙ ap (λ l. list ++ l) (of_tests (p n) (q n) (apart n) ∙ ap (λ b. if b then spot ∷ [] else []) (sym (both n))));
}
  where
    of_tests : (a b : Bool) → a && b ≡ false → (if a then spot ∷ [] else []) ++ (if b then spot ∷ [] else []) ≡ (if a || b then spot ∷ [] else [])
    of_tests true true apart = grind (arith, apart)
    of_tests true false apart = refl
    of_tests false b apart = refl

-- a number that comes later isn't among those before it
never_before : (ports : List ℕ) (i port : ℕ) → are_apart ports ≡ true → slice_get ports i ≡ Some port → has_number (take i ports) port ≡ false
never_before ports i port apart there = not_before (take i ports) port (drop (i + 1) ports) (subst (λ ns. are_apart ns ≡ true) (parted ports i port there) apart)

pub slots_next : (ports : List ℕ) (i port : ℕ) (spot : Spot) (old mid new : List (List Spot)) → are_apart ports ≡ true → slice_get ports i ≡ Some port → IsNoted (has_number (take i ports)) spot old mid → IsNoted (λ n. port == n) spot mid new → IsNoted (has_number (take (suc i) ports)) spot old new
slots_next ports i port spot old mid new apart there first second =
    noted_or (has_number (take i ports)) (λ n. port == n) (has_number (take (suc i) ports)) spot old mid new (λ n. let on : suc i ≡ i + 1 = omega arith in ap (λ k. has_number (take k ports) n) on ∙ any_more (λ m. m == n) ports i port there) (λ n. once n (port == n) refl) first second
  where
    once : (n : ℕ) (b : Bool) → (port == n) ≡ b → has_number (take i ports) n && b ≡ false
    once n true same =
        let one : port ≡ n = grind (arith, nat_tests, same) in
        let never : has_number (take i ports) n ≡ false = ap (λ m. has_number (take i ports) m) (sym one) ∙ never_before ports i port apart there in
        rw never refl
    once n false differs = and_false (has_number (take i ports) n)

-- the same of the port of a slot
pub slot_next : (slots : List Slot) (i : ℕ) (d : Slot) (spot : Spot) (old mid new : List (List Spot)) → are_apart (slot_ports slots) ≡ true → i < length slots → IsNoted (has_number (take i (slot_ports slots))) spot old mid → IsNoted (λ n. (get_or slots i d).port == n) spot mid new → IsNoted (has_number (take (i + 1) (slot_ports slots))) spot old new
slot_next slots i d spot old mid new apart low first second = rw (next i) (slots_next (slot_ports slots) i (get_or slots i d).port spot old mid new apart (there slots i low) first second)
  where
    next : (i : ℕ) → i + 1 ≡ suc i
    next i = omega arith

    there : (slots : List Slot) (i : ℕ) → i < length slots → slice_get (slot_ports slots) i ≡ Some (get_or slots i d).port
    there [] i low = absurd (omega (arith, low))
    there (slot ∷ slots) zero low = refl
    there (slot ∷ slots) (suc i) low = there slots i (omega (arith, low))

-- the two ports of a gather
pub gather_noted : (a b : ℕ) (spot : Spot) (old mid new : List (List Spot)) → not (a == b) ≡ true → IsNoted (λ n. a == n) spot old mid → IsNoted (λ n. b == n) spot mid new → IsNoted (has_number (a ∷ b ∷ [])) spot old new
gather_noted a b spot old mid new differ first second = noted_or (λ n. a == n) (λ n. b == n) (has_number (a ∷ b ∷ [])) spot old mid new (λ n. both (a == n) (b == n)) (λ n. once n (a == n) (b == n) refl refl) first second
  where
    both : (p q : Bool) → p || (q || false) ≡ p || q
    both true q = refl
    both false true = refl
    both false false = refl

    once : (n : ℕ) (p q : Bool) → (a == n) ≡ p → (b == n) ≡ q → p && q ≡ false
    once n true true one other =
        let same : a ≡ b = grind (arith, nat_tests, one, other) in
        absurd (grind (arith, nat_tests, differ, same))
    once n true false one other = refl
    once n false q one other = refl

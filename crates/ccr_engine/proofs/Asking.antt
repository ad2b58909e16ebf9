-- The first number that has an event, where none has but those of a set.
use Rattle.std.proofs.Common.{◌≡◌, ◌∙◌, ℕ, zero, suc, ◌+◌, ◌<◌, Bool, true, false, List, [], ◌∷◌, length, Option, None, Some, refl, sym, subst, arith}
use Rattle.std.specs.Prelude.{nat_lt, if◌then◌else◌}
use Rattle.std.specs.List.{slice_get}
use Rattle.std.specs.Option.{option_or}
use Rattle.std.proofs.lemmas.Bool.Decides.{nat_tests}
use Rattle.ccr_model.specs.declared.history.Event.{Event}
use Rattle.ccr_base.proofs.Booleans.{neither}
use Rattle.ccr_base.proofs.Options.{no_head}
use Rattle.ccr_base.specs.Lists.{has_number}
use Rattle.ccr_engine.specs.Ready.{IsLeast}
use Rattle.ccr_engine.specs.Numbered.{Gains, IsNoneBut}

-- the event of the first number that has one: as many numbers as there are items, of which the first has this one
abbrev pub first_of : {X : Type 0} → (ℕ → Option Event) → ℕ → List X → Option Event
first_of at n [] = None
first_of at n (x ∷ xs) = option_or (at n) (first_of at (n + 1) xs)

-- the number at the index is the first that has one
first_at : {X : Type 0} (at : ℕ → Option Event) (n k : ℕ) (xs : List X) (e : Event) → ((j : ℕ) → j < k → at (n + j) ≡ None) → k < length xs → at (n + k) ≡ Some e → first_of at n xs ≡ Some e
first_at at n k [] e none low is = absurd (omega (arith, low))
first_at at n zero (x ∷ xs) e none low is =
    let here : n + 0 ≡ n = omega arith in
    let first : at n ≡ Some e = subst (λ m. at m ≡ Some e) here is in
    rw first refl
first_at at n (suc k) (x ∷ xs) e none low is =
    let here : n + 0 ≡ n = omega arith in
    let first : at n ≡ None = subst (λ m. at m ≡ None) here (none 0 (omega arith)) in
    let on : (j : ℕ) → n + suc j ≡ (n + 1) + j = λ j. omega arith in
    rw first (first_at at (n + 1) k xs e (λ j below. subst (λ m. at m ≡ None) (on j) (none (suc j) (omega (arith, below)))) (omega (arith, low)) (subst (λ m. at m ≡ Some e) (on k) is))

-- no number has one
first_none : {X : Type 0} (at : ℕ → Option Event) (n : ℕ) (xs : List X) → ((j : ℕ) → j < length xs → at (n + j) ≡ None) → first_of at n xs ≡ None
first_none at n [] none = refl
first_none at n (x ∷ xs) none =
    let here : n + 0 ≡ n = omega arith in
    let first : at n ≡ None = subst (λ m. at m ≡ None) here (none 0 (omega arith)) in
    let on : (j : ℕ) → n + suc j ≡ (n + 1) + j = λ j. omega arith in
    rw first (first_none at (n + 1) xs (λ j below. subst (λ m. at m ≡ None) (on j) (none (suc j) (omega (arith, below)))))

from_zero : (j : ℕ) → j ≡ 0 + j
from_zero j = omega arith

-- a number that is asked, where there is one
asked_some : (r : Option Event) (i count : ℕ) (e : Event) → (if nat_lt i count then r else None) ≡ Some e → (i < count) × (r ≡ Some e)
asked_some r i count e is = of_test (nat_lt i count) refl is
  where
    of_test : (b : Bool) → nat_lt i count ≡ b → (if b then r else None) ≡ Some e → (i < count) × (r ≡ Some e)
    of_test true low is = (grind (arith, nat_tests, low), is)
    of_test false low is = absurd (cc)

-- the least has an event: it is the first
pub asked_stops : {X : Type 0} (at : ℕ → Option Event) (xs : List X) (numbers : List ℕ) (i : ℕ) (r : Option Event) (e : Event) → IsNoneBut at (length xs) numbers → IsLeast numbers i → r ≡ (if nat_lt i (length xs) then at i else None) → r ≡ Some e → Some e ≡ first_of at 0 xs
asked_stops at xs numbers i r e known least asked is =
    let there = asked_some (at i) i (length xs) e (sym asked ∙ is) in
    sym (first_at at 0 i xs e (λ j below. subst (λ m. at m ≡ None) (from_zero j) (known j (least.low j below) (omega (arith, below, there.0)))) there.0 (subst (λ m. at m ≡ Some e) (from_zero i) there.1))

-- none is left to be asked
pub asked_ends : {X : Type 0} (at : ℕ → Option Event) (xs : List X) (numbers : List ℕ) → IsNoneBut at (length xs) numbers → slice_get numbers 0 ≡ None → None ≡ first_of at 0 xs
asked_ends at xs numbers known none =
    let empty = no_head numbers none in
    sym (first_none at 0 xs (λ j below. subst (λ m. at m ≡ None) (from_zero j) (known j (rw empty refl) below)))

-- none but the old had an event, and none but those that come in has one that had none
pub none_but-gains : (was is : ℕ → Option Event) (touched : ℕ → Bool) (count : ℕ) (old new : List ℕ) → ((n : ℕ) → touched n ≡ false → was n ≡ None → is n ≡ None) → IsNoneBut was count old → Gains touched old new → IsNoneBut is count new
none_but-gains was is touched count old new keeps known gains n out low =
    let outs = neither (touched n) (has_number old n) (sym (gains.members n) ∙ out) in
    keeps n outs.0 (known n outs.1 low)

-- the events by another table
pub none_but-same : (at other : ℕ → Option Event) (count : ℕ) (numbers : List ℕ) → ((n : ℕ) → n < count → at n ≡ other n) → IsNoneBut other count numbers → IsNoneBut at count numbers
none_but-same at other count numbers same known n out low = same n low ∙ known n out low

-- Of messages without the first that a predicate takes.
use Rattle.std.proofs.Common.{◌≡◌, ℕ, suc, Bool, true, false, List, [], ◌∷◌, refl, ap, arith}
use Rattle.std.specs.Prelude.{All, ◌-◌, ◌&&◌, nat_lt, if◌then◌else◌}
use Rattle.std.proofs.lemmas.Bool.Decides.{nat_tests}
use Rattle.std.proofs.lemmas.List.Elements.{All-cons, All-head, All-tail}
use Rattle.ccr_base.specs.declared.messages.Msg.{Msg}
use Rattle.ccr_base.specs.declared.patterns.Pred.{Pred}
use Rattle.ccr_base.specs.Selection.{holds, without_first}

-- without none of them they are all
pub without_first-none : (pred : Pred) (ms : List Msg) → without_first 0 pred ms ≡ ms
without_first-none pred [] = refl
without_first-none pred (m ∷ ms) = of_test (holds pred m.value) (without_first-none pred ms)
  where
    of_test : (b : Bool) → without_first 0 pred ms ≡ ms → (if b && nat_lt 0 0 then without_first (0 - 1) pred ms else m ∷ without_first 0 pred ms) ≡ m ∷ ms
    of_test true rest = ap (λ l. m ∷ l) rest
    of_test false rest = ap (λ l. m ∷ l) rest

-- what holds of them all holds of those that are left
pub all_without : (P : Msg → Type 0) (n : ℕ) (pred : Pred) (ms : List Msg) → All P ms → All P (without_first n pred ms)
all_without P n pred [] all = all
all_without P n pred (m ∷ ms) all =
    let rest : All P ms = All-tail P m ms all in
    elim (holds pred m.value && nat_lt 0 n) as (λ b. All P (if b then without_first (n - 1) pred ms else m ∷ without_first n pred ms)) [ true ↦ all_without P (n - 1) pred ms rest | false ↦ All-cons P m (without_first n pred ms) (All-head P m ms all) (all_without P n pred ms rest) ]

-- one of at least one to take out
pub step-some : (n : ℕ) (pred : Pred) (x : Msg) (ms : List Msg) → without_first (suc n) pred (x ∷ ms) ≡ (if holds pred x.value then without_first n pred ms else x ∷ without_first (suc n) pred ms)
step-some n pred x ms = by (holds pred x.value)
  where
    above : nat_lt 0 (suc n) ≡ true
    above = grind (arith, nat_tests)

    less : suc n - 1 ≡ n
    less = omega arith

    by : (b : Bool) → (if b && nat_lt 0 (suc n) then without_first (suc n - 1) pred ms else x ∷ without_first (suc n) pred ms) ≡ (if b then without_first n pred ms else x ∷ without_first (suc n) pred ms)
    by true = rw (above, less) refl
    by false = refl

-- A number of two digits, by the base m: n * m + k with k < m.
use Rattle.std.proofs.Common.{◌≡◌, ℕ, ◌+◌, ◌*◌, ◌<◌, ◌≤◌, Bool, true, false, ◌&&◌, ◌⊎◌, inl, inr, refl, ap, subst, arith}
use Rattle.std.specs.Prelude.{◌==◌}
use Rattle.std.proofs.Math.Nat.{mul-le-mul_right}
use Rattle.std.proofs.lemmas.Bool.{cases_lt}
use Rattle.ccr_base.proofs.Booleans.{eq-self, no_both, refuted, same_number}

-- the first digit decides which is less
pub radix : (n b m k l : ℕ) → n < b → k < m → n * m + k < b * m + l
radix n b m k l less few =
    let more : (n + 1) * m ≤ b * m = mul-le-mul_right m (omega (arith, less)) in
    let split : (n + 1) * m ≡ n * m + m = grind arith in
    omega (arith, more, split, few)

-- both digits are those of the number
pub same_digits : (m n k b l : ℕ) → k < m → l < m → (n * m + k == b * m + l) ≡ (n == b) && (k == l)
same_digits m n k b l low less = of_tests (n == b) (k == l) refl refl
  where
    first : n * m + k ≡ b * m + l → n ≡ b
    first is = by (cases_lt n b) (cases_lt b n)
      where
        by : (n < b) ⊎ (b ≤ n) → (b < n) ⊎ (n ≤ b) → n ≡ b
        by (inl under) other = let apart = radix n b m k l under low in absurd (omega (arith, apart, is))
        by (inr over) (inl above) = let apart = radix b n m l k above less in absurd (omega (arith, apart, is))
        by (inr over) (inr under) = omega (arith, over, under)

    second : n ≡ b → n * m + k ≡ b * m + l → k ≡ l
    second same is = let one : n * m ≡ b * m = ap (λ d. d * m) same in omega (arith, one, is)

    of_tests : (c d : Bool) → (n == b) ≡ c → (k == l) ≡ d → (n * m + k == b * m + l) ≡ c && d
    of_tests true true same alike = rw (same_number n b same, same_number k l alike) (eq-self (b * m + l))
    of_tests false d other alike = refuted (n * m + k == b * m + l) (λ is. (let one : n ≡ b = first (same_number (n * m + k) (b * m + l) is) in no_both (subst (λ e. (n == e) ≡ true) one (eq-self n)) other))
    of_tests true false same other = refuted (n * m + k == b * m + l) (λ is. (let one : k ≡ l = second (same_number n b same) (same_number (n * m + k) (b * m + l) is) in no_both (subst (λ e. (k == e) ≡ true) one (eq-self k)) other))

-- Over Booleans: what a test says, and that it can't be both.
use Rattle.std.proofs.Common.{◌≡◌, ◌≢◌, ◌⊎◌, inl, inr, ℕ, ◌<◌, Bool, true, false, cond, not, ◌&&◌, ◌||◌, refl, subst, arith}
use Rattle.std.specs.Prelude.{◌==◌}
use Rattle.std.proofs.lemmas.Bool.Decides.{nat_tests}
pub use Rattle.std.proofs.lemmas.Bool.{and_parts as both, or_parts as neither, or_left, or_right, not-true as not_true, not-false as not_refuted, not_from_false as not_false, false_from_ne_true as refuted}
pub use Rattle.std.proofs.Math.Bool.{and-false as and_false}

-- one or the other
pub either : (a b : Bool) → a || b ≡ true → (C : Type 0) → (a ≡ true → C) → (b ≡ true → C) → C
either true b is C one other = one refl
either false b is C one other = other is

pub or_assoc : (a b c : Bool) → a || (b || c) ≡ (a || b) || c
or_assoc true b c = refl
or_assoc false b c = refl

-- one of two is one of three, whether the third stands before them or between
pub or_before : (a b c : Bool) → b || c ≡ true → (a || b) || c ≡ true
or_before true b c now = refl
or_before false b c now = now

pub or_between : (a b c : Bool) → b || c ≡ true → b || (a || c) ≡ true
or_between a true c now = refl
or_between true false c now = refl
or_between false false c now = now

-- not one, nor anything else
pub none_or_false : (a : Bool) → a ≡ false → a || false ≡ false
none_or_false a none = rw none refl

-- one, or nothing else
pub or_none : (a : Bool) → a || false ≡ true → a ≡ true
or_none true is = refl
or_none false is = absurd (cc)

pub and_not : (a b : Bool) → a ≡ true → b ≡ false → a && not b ≡ true
and_not a b is out = rw (is, out) refl

pub no_both : {b : Bool} → b ≡ true → b ≡ false → ⊥
no_both within out = absurd (cc (within, out))

pub eq-self : (n : ℕ) → (n == n) ≡ true
eq-self n = grind (arith, nat_tests)

-- equal by the test, equal
pub same_number : (a b : ℕ) → (a == b) ≡ true → a ≡ b
same_number a b is = grind (arith, nat_tests, is)

-- not equal by the test, in either order, and not equal
pub eq_turned : (a b : ℕ) → (a == b) ≡ false → (b == a) ≡ false
eq_turned a b is = grind (arith, nat_tests, is)

pub differ : (a b : ℕ) → (a == b) ≡ false → a ≢ b
differ a b is same = let k : (a == b) ≡ true = subst (λ r. (a == r) ≡ true) same (eq-self a) in absurd (cc)

-- the higher of two numbers isn't the lower
pub above_differs : (a b : ℕ) → b < a → (a == b) ≡ false
above_differs a b low = grind (arith, nat_tests, low)

pub not_not : (b : Bool) → not (not b) ≡ b
not_not true = refl
not_not false = refl

-- what a test decides is one of the two
pub chosen : {A : Type 0} (test : Bool) (x y z : A) → cond test x y ≡ z → ((test ≡ true) × (x ≡ z)) ⊎ ((test ≡ false) × (y ≡ z))
chosen true x y z e = inl (refl, e)
chosen false x y z e = inr (refl, e)

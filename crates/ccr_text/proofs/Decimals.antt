-- A number that is written is read again.
use Rattle.std.proofs.Common.{◌≡◌, ℕ, ◌^◌, ◌<◌, true, false, List, length, Some, refl, arith, Bool, cond, None}
use Rattle.std.specs.Prelude.{◌==◌, nat_lt, decimal, ◌&&◌, not}
use Rattle.std.specs.List.{list_all}
use Rattle.std.specs.Char.{is_ascii_digit}
use Rattle.std.proofs.lemmas.Bool.Decides.{nat_tests}
use Rattle.std.proofs.lemmas.Fmt.{digits_decimal, digits_value-decimal, decimal_nonempty}
use Rattle.std.proofs.lemmas.Str.Parse.{IsDigitsTest, IsNumeralModel, numerals_by_fold}
use Rattle.ccr_text.specs.Words.{value_after, number_of, is_digits}
use Rattle.std.proofs.lemmas.Bool.{and_parts as both}
use Rattle.ccr_base.proofs.Booleans.{not_true}

abbrev AreDigits : List ℕ → Type 0
AreDigits digits = list_all is_ascii_digit digits ≡ true

tests_digits : IsDigitsTest AreDigits
tests_digits = record {
  empty = refl;
  parts = λ c cs h. let p = both (is_ascii_digit c) (list_all is_ascii_digit cs) h in (grind (arith, nat_tests, p.0), p.1);
  more = λ c cs digit h. let d : is_ascii_digit c ≡ true = grind (arith, nat_tests, digit) in rw (d, h) refl;
}

pub own : IsNumeralModel AreDigits (value_after 0)
own = numerals_by_fold AreDigits tests_digits value_after (record { empty = λ n. refl; more = λ n c cs digit. refl })

-- a number that is written is read again
pub number_again : (n : ℕ) → n < 2 ^ 64 → number_of (decimal n) ≡ Some n
number_again n fits =
    let digits : list_all is_ascii_digit (decimal n) ≡ true = digits_decimal own n fits in
    let value : value_after 0 (decimal n) ≡ n = digits_value-decimal own n fits in
    let some : (length (decimal n) == 0) ≡ false = grind (arith, nat_tests, decimal_nonempty n fits) in
    let small : nat_lt n (2 ^ 64) ≡ true = grind (arith, nat_tests) in
    rw (some, digits, value, small) refl

-- what reads as a number is digits alone, one at least
pub digits_alone : (digits : List ℕ) (n : ℕ) → number_of digits ≡ Some n → ((length digits == 0) ≡ false) × (list_all is_ascii_digit digits ≡ true)
digits_alone digits n e = by (is_digits digits) (nat_lt (value_after 0 digits) (2 ^ 64)) refl e
  where
    by : (a b : Bool) → is_digits digits ≡ a → cond (a && b) (Some (value_after 0 digits)) None ≡ Some n → ((length digits == 0) ≡ false) × (list_all is_ascii_digit digits ≡ true)
    by true b is some = let parts = both (not (length digits == 0)) (list_all is_ascii_digit digits) is in (not_true (length digits == 0) parts.0, parts.1)
    by false b is some = absurd cc

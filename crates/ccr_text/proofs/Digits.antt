-- Values of digits.
use Rattle.std.proofs.Common.{◌≡◌, ℕ, ◌+◌, ◌-◌, ◌*◌, ◌^◌, ◌<◌, ◌≤◌, Bool, true, false, List, [], ◌∷◌, length, Option, Some, None, refl, arith}
use Rattle.std.specs.Prelude.{◌&&◌, nat_lt, if◌then◌else◌, ◌==◌, decimal}
use Rattle.std.specs.List.{list_all}
use Rattle.std.specs.Char.{is_ascii_digit}
use Rattle.std.proofs.lemmas.Bool.Decides.{nat_tests}
use Rattle.ccr_text.specs.Words.{is_graphic, value_after, number_of, with_digit}

-- the digits of each number are read as that number
abbrev pub AreReadAgain : Type 0
AreReadAgain = (n : ℕ) → n < 2 ^ 64 → number_of (decimal n) ≡ Some n

-- a digit is a byte of words
pub digit_graphic : (b : ℕ) → is_ascii_digit b ≡ true → is_graphic b ≡ true
digit_graphic b e = grind (arith, nat_tests, e)

-- further digits do not make it less
pub value_after-above : (digits : List ℕ) (n : ℕ) → n ≤ value_after n digits
value_after-above [] n = omega arith
value_after-above (d ∷ digits) n = omega (arith, value_after-above digits (n * 10 + (d - 48)))

-- reading digit by digit, as long as the value fits
abbrev pub read_after : Option ℕ → List ℕ → Option ℕ
read_after None digits = None
read_after (Some n) [] = Some n
read_after (Some n) (d ∷ digits) = read_after (with_digit n d) digits

abbrev pub value_from : ℕ → List ℕ → Option ℕ
value_from n digits = if list_all is_ascii_digit digits && nat_lt (value_after n digits) (2 ^ 64) then Some (value_after n digits) else None

pub read_after-is : (digits : List ℕ) (n : ℕ) → n < 2 ^ 64 → read_after (Some n) digits ≡ value_from n digits
read_after-is [] n fits = grind (arith, nat_tests)
read_after-is (d ∷ digits) n fits = of_test (is_ascii_digit d) (nat_lt (n * 10 + (d - 48)) (2 ^ 64)) (n * 10 + (d - 48)) refl (λ h. read_after-is digits (n * 10 + (d - 48)) h)
  where
    of_test : (b t : Bool) (m : ℕ) → t ≡ nat_lt m (2 ^ 64) → (m < 2 ^ 64 → read_after (Some m) digits ≡ value_from m digits)
        → read_after (if b && t then Some m else None) digits ≡ (if (b && list_all is_ascii_digit digits) && nat_lt (value_after m digits) (2 ^ 64) then Some (value_after m digits) else None)
    of_test true true m is next = next (grind (arith, nat_tests))
    of_test true false m is next =
        let above = value_after-above digits m in
        grind (arith, nat_tests, above)
    of_test false t m is next = refl

pub read_word : (word : List ℕ) → (length word == 0) ≡ false → read_after (Some 0) word ≡ number_of word
read_word word some = grind (arith, nat_tests, read_after-is word 0 (omega arith))

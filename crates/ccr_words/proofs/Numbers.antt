-- Numbers that are read.
use Rattle.std.proofs.Common.{◌≡◌, ◌∙◌, ℕ, ◌<◌, ◌≤◌, ◌^◌, ◌&&◌, Bool, true, false, cond, refl, sym, ap, arith, rules, List, length, Some, None, Err, nat_lt}
use Rattle.std.specs.Prelude.{nat_le}
use Rattle.std.specs.List.{list_all}
use Rattle.std.specs.Char.{is_ascii_digit}
use Rattle.std.specs.Str.Parse.{ParsesUnsigned, digits_value}
use Rattle.std.proofs.lemmas.Str.Parse.{IsDigitsTest, IsNumeralModel, numerals_by_value, parse_digits}
use Rattle.std.proofs.lemmas.Bool.Decides.{nat_tests}
use Rattle.ccr_words.specs.Table.{is_number, number}

tells : IsDigitsTest (λ ds. list_all is_ascii_digit ds ≡ true)
tells = search rules

own : IsNumeralModel (λ ds. list_all is_ascii_digit ds ≡ true) (digits_value 10)
own = numerals_by_value _ tells

digits_in : (text : List ℕ) → is_number text ≡ true → (0 < length text) × (list_all is_ascii_digit text ≡ true)
digits_in text is = go (nat_lt 0 (length text)) refl is
  where
    go : (b : Bool) → nat_lt 0 (length text) ≡ b → (b && list_all is_ascii_digit text) ≡ true → (0 < length text) × (list_all is_ascii_digit text ≡ true)
    go true e h = (grind (arith, nat_tests), h)
    go false e h = absurd (cc)

number-is : (low high : ℕ) (text : List ℕ) (v : ℕ) → is_number text ≡ true → v ≡ digits_value 10 text → number low high text ≡ cond (nat_le low v && nat_le v high) (Some v) None
number-is low high text v is same = ap (λ b. cond (b && (nat_le low (digits_value 10 text) && nat_le (digits_value 10 text) high)) (Some (digits_value 10 text)) None) is ∙ ap (λ n. cond (nat_le low n && nat_le n high) (Some n) None) (sym same)

out_of : (v low high : ℕ) → high < v → cond (nat_le low v && nat_le v high) (Some v) None ≡ None
out_of v low high lt = grind (arith, nat_tests)

large_if : (v : ℕ) → (v < 2 ^ 32 → ⊥) → 2 ^ 32 ≤ v
large_if v h = omega arith

pub read_err : {E : Type 0} (e : E) (low high : ℕ) (text : List ℕ) → is_number text ≡ true → high < 2 ^ 32 → ParsesUnsigned 32 10 text (Err e) → number low high text ≡ None
read_err e low high text is fits h =
    let digits = digits_in text is in
    let bad = parse_digits own 32 text (Err e) h digits.1 in
    let large : 2 ^ 32 ≤ digits_value 10 text = large_if (digits_value 10 text) (λ lt. bad (digits.0, lt)) in
    number-is low high text (digits_value 10 text) is refl ∙ out_of (digits_value 10 text) low high (omega arith)

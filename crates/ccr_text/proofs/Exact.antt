-- The one spelling of a number: its digits, of which a zero stands alone.
use Rattle.std.proofs.Common.{◌≡◌, ◌≢◌, ℕ, zero, suc, ◌^◌, ◌<◌, Bool, true, false, List, [], ◌∷◌, length, get_or, Option, Some, None, refl, sym, ap, ◌∙◌, arith}
use Rattle.std.specs.Prelude.{◌==◌, ◌&&◌, not, nat_lt, decimal, if◌then◌else◌}
use Rattle.std.specs.Option.{option_and_then}
use Rattle.std.specs.Str.{bytes_eq}
use Rattle.std.specs.List.{list_all}
use Rattle.std.specs.Char.{is_ascii_digit}
use Rattle.std.proofs.lemmas.Bool.Decides.{nat_tests}
use Rattle.std.proofs.lemmas.Fmt.{decimal_digit, first_decimal, decimal-digits_value}
use Rattle.std.proofs.lemmas.Slice.Eq.{bytes_eq-Decides}
use Rattle.ccr_text.specs.Words.{value_after, is_digits, number_of}
use Rattle.ccr_text.specs.Exact.{where_spelled, exact_number_of, parts, number_first, may_begin, first_part}
use Rattle.ccr_text.proofs.Digits.{read_after, read_word}
use Rattle.ccr_text.proofs.Decimals.{own}
use Rattle.std.proofs.lemmas.Bool.{and_parts as both}
use Rattle.ccr_base.proofs.Texts.{same_text}

abbrev one : ℕ → Option ℕ
one x = Some x

some_is : (x y : ℕ) → one x ≡ one y → x ≡ y
some_is x y e = cc

-- decimal digits whose first may begin a number
begins_some : (word : List ℕ) → may_begin word ≡ true → (length word == 0) ≡ false
begins_some [] e = absurd cc
begins_some (b ∷ word) e = grind (arith, nat_tests)

begins_alone : (word : List ℕ) → may_begin word ≡ true → get_or word 0 0 ≡ 48 → length word ≡ 1
begins_alone [] e zero_first = absurd cc
begins_alone (b ∷ []) e zero_first = refl
begins_alone (b ∷ c ∷ word) e zero_first = absurd (let same : (b == 48) ≡ true = grind (arith, nat_tests, zero_first) in let clash : true ≡ false = sym e ∙ ap not same in cc)

-- digits with a zero in front of further ones are not those of a number
zero_decimal : (n : ℕ) → n < 2 ^ 64 → may_begin (decimal n) ≡ true
zero_decimal zero small = rw (decimal_digit 0 (omega arith)) refl
zero_decimal (suc n) small = by (decimal (suc n)) (first_decimal (suc n) (omega arith) small)
  where
    by : (digits : List ℕ) → 48 < get_or digits 0 0 → may_begin digits ≡ true
    by [] above = absurd (omega arith)
    by (b ∷ []) above = refl
    by (b ∷ c ∷ digits) above = grind (arith, nat_tests, above)

-- a number of n < 2 ^ 64
pub number_is : (word : List ℕ) (n : ℕ) → number_of word ≡ Some n → (list_all is_ascii_digit word ≡ true) × (value_after 0 word ≡ n) × (n < 2 ^ 64)
number_is word n e = by (is_digits word && nat_lt (value_after 0 word) (2 ^ 64)) refl e
  where
    by : (t : Bool) → (is_digits word && nat_lt (value_after 0 word) (2 ^ 64)) ≡ t → (if t then Some (value_after 0 word) else None) ≡ Some n → (list_all is_ascii_digit word ≡ true) × (value_after 0 word ≡ n) × (n < 2 ^ 64)
    by false is e' = absurd cc
    by true is e' =
        let are = both (is_digits word) (nat_lt (value_after 0 word) (2 ^ 64)) is in
        let digits = both (not (length word == 0)) (list_all is_ascii_digit word) are.0 in
        let same : value_after 0 word ≡ n = some_is (value_after 0 word) n e' in
        (digits.1, same, grind (arith, nat_tests, are.1, same))

-- the spelling of a number
spelled : (word : List ℕ) (n : ℕ) → number_of word ≡ Some n → bytes_eq word (decimal n) ≡ may_begin word
spelled word n e = by (may_begin word) refl
  where
    is : (list_all is_ascii_digit word ≡ true) × (value_after 0 word ≡ n) × (n < 2 ^ 64)
    is = number_is word n e

    same_when : (t : Bool) → bytes_eq word (decimal n) ≡ t → may_begin word ≡ false → t ≡ false
    same_when false eq begins = refl
    same_when true eq begins = absurd (let clash : true ≡ false = sym (zero_decimal n is.2) ∙ ap may_begin (sym ((bytes_eq-Decides word (decimal n)).0 eq)) ∙ begins in cc)

    by : (t : Bool) → may_begin word ≡ t → bytes_eq word (decimal n) ≡ t
    by false begins = same_when (bytes_eq word (decimal n)) refl begins
    by true begins =
        let some : 0 < length word = grind (arith, nat_tests, begins_some word begins) in
        let digits : decimal (value_after 0 word) ≡ word = decimal-digits_value own word is.0 some (begins_alone word begins) (omega (arith, is.1, is.2)) in
        ap (bytes_eq word) (ap decimal (sym is.1) ∙ digits) ∙ same_text word

-- a number in its one spelling is known by its first two bytes
pub exact_begins : (word : List ℕ) → exact_number_of word ≡ (if may_begin word then number_of word else None)
exact_begins word = by (number_of word) refl
  where
    none : (t : Bool) → ◌≡◌ {A = Option ℕ} None (if t then None else None)
    none true = refl
    none false = refl

    by : (found : Option ℕ) → number_of word ≡ found → option_and_then (where_spelled word) found ≡ (if may_begin word then found else None)
    by None e = none (may_begin word)
    by (Some n) e = rw (spelled word n e) refl

-- read digit by digit
pub exact_read : (word : List ℕ) → may_begin word ≡ true → exact_number_of word ≡ read_after (Some 0) word
exact_read word begins = exact_begins word ∙ rw begins (sym (read_word word (begins_some word begins)))

pub exact_some : (word : List ℕ) → may_begin word ≡ true → exact_number_of word ≡ number_of word
exact_some word begins = exact_begins word ∙ rw begins refl

pub exact_none : (word : List ℕ) → may_begin word ≡ false → exact_number_of word ≡ None
exact_none word begins = exact_begins word ∙ rw begins refl

-- what stands behind the first separator
abbrev pub other_parts : ℕ → List ℕ → List (List ℕ)
other_parts separator [] = []
other_parts separator (b ∷ bytes) = if b == separator then parts separator bytes else other_parts separator bytes

-- the first part and those behind it
parts_are : (separator : ℕ) (bytes : List ℕ) → parts separator bytes ≡ first_part separator bytes ∷ other_parts separator bytes
parts_are separator [] = refl
parts_are separator (b ∷ bytes) = by (b == separator) refl (parts_are separator bytes)
  where
    by : (t : Bool) → (b == separator) ≡ t → parts separator bytes ≡ first_part separator bytes ∷ other_parts separator bytes → parts separator (b ∷ bytes) ≡ first_part separator (b ∷ bytes) ∷ other_parts separator (b ∷ bytes)
    by true e rest = rw e refl
    by false e rest = rw (e, rest) refl

-- the number of the digits that were read, and the parts behind them
pub first_found : (separator : ℕ) (bytes : List ℕ) (n : ℕ) (others : List (List ℕ)) → may_begin (first_part separator bytes) ≡ true → read_after (Some 0) (first_part separator bytes) ≡ Some n → other_parts separator bytes ≡ others
    → number_first (parts separator bytes) ≡ Some (n, others)
first_found separator bytes n others begins read rest =
    rw (parts_are separator bytes, exact_read (first_part separator bytes) begins, read, rest) refl

-- a byte that is no digit, or a number of 2 ^ 64 and more
pub first_fails : (separator : ℕ) (bytes : List ℕ) → may_begin (first_part separator bytes) ≡ true → read_after (Some 0) (first_part separator bytes) ≡ None → number_first (parts separator bytes) ≡ None
first_fails separator bytes begins read = rw (parts_are separator bytes, exact_read (first_part separator bytes) begins, read) refl

-- no digit, or a zero in front of further bytes
pub first_begins : (separator : ℕ) (bytes : List ℕ) → may_begin (first_part separator bytes) ≡ false → number_first (parts separator bytes) ≡ None
first_begins separator bytes begins = rw (parts_are separator bytes, exact_none (first_part separator bytes) begins) refl

-- the separator stands first
pub at_separator : (separator b : ℕ) (rest behind : List ℕ) → rest ≡ b ∷ behind → b ≡ separator → (first_part separator rest ≡ []) × (other_parts separator rest ≡ parts separator behind)
at_separator separator b rest behind is same =
    let test : (b == separator) ≡ true = grind (arith, nat_tests, same) in
    (ap (first_part separator) is ∙ rw test refl, ap (other_parts separator) is ∙ rw test refl)

-- another byte stands first
pub at_other : (separator b : ℕ) (rest behind : List ℕ) → rest ≡ b ∷ behind → b ≢ separator → (first_part separator rest ≡ b ∷ first_part separator behind) × (other_parts separator rest ≡ other_parts separator behind)
at_other separator b rest behind is other =
    let test : (b == separator) ≡ false = grind (arith, nat_tests, other) in
    (ap (first_part separator) is ∙ rw test refl, ap (other_parts separator) is ∙ rw test refl)

-- no byte is left
pub at_end : (separator : ℕ) (rest : List ℕ) → length rest ≡ 0 → (first_part separator rest ≡ []) × (other_parts separator rest ≡ [])
at_end separator [] none = (refl, refl)
at_end separator (b ∷ rest) none = absurd (omega arith)

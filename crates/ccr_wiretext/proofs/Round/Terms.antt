-- Names, numbers, policies, expressions and predicates: their canonical words are words, and say them.
use Rattle.std.proofs.Common.{◌≡◌, ℕ, ◌^◌, ◌<◌, ◌≤◌, Bool, true, false, cond, List, [], ◌∷◌, ◌++◌, length, map, Some, None, inl, inr, refl, arith}
use Rattle.std.specs.Prelude.{◌==◌, ◌&&◌, not, nat_lt, codes, decimal}
use Rattle.std.specs.List.{list_all, list_any}
use Rattle.std.specs.Char.{is_ascii_digit, is_ascii_alphabetic}
use Rattle.std.proofs.lemmas.Bool.Decides.{nat_tests}
use Rattle.ccr_base.specs.declared.policies.Policy.{Policy}
use Rattle.ccr_base.specs.declared.policies.Policy.TheVariants as policies
use Rattle.ccr_base.specs.declared.handlers.Expr.{Expr}
use Rattle.ccr_base.specs.declared.handlers.Expr.TheVariants as exprs
use Rattle.ccr_base.specs.declared.patterns.Pred.{Pred}
use Rattle.ccr_base.specs.declared.patterns.Pred.TheVariants as preds
use Rattle.ccr_base.proofs.Booleans.{not_true}
use Rattle.ccr_base.proofs.Lists.{all_weaker, all_both}
use Rattle.ccr_text.specs.Words.{is_graphic, value_after, is_digits, may_be_in_name, is_name_of}
use Rattle.ccr_text.specs.Spelling.{AreWords}
use Rattle.ccr_text.specs.Fields.{Words}
use Rattle.ccr_text.proofs.Digits.{digit_graphic, AreReadAgain}
use Rattle.ccr_wiring.specs.Versions.{is_long}
use Rattle.ccr_wiretext.specs.Values.{IsNumeral, IsValue, IsExprValued, IsPredValued}
use Rattle.ccr_wiretext.specs.Grammar.{IsPlain, IsNumber, IsWithin, IsPolicy, AreNumbers, IsOne, IsValueWord, IsExpr, IsPred}
use Rattle.ccr_wiretext.specs.Spelling.{policy_words, expr_words, pred_words}
use Rattle.ccr_text.specs.Exact.{value_word}
use Rattle.ccr_wiretext.proofs.Each.{both}
use Rattle.ccr_base.specs.Lists.{Each}
use Rattle.ccr_wiretext.proofs.Fit.{PolicyFit, OldFit, ExprFit}
use Rattle.ccr_base.proofs.Lists.{each_all}

-- some bytes, and only bytes of words
abbrev pub IsWord : List ℕ → Type 0
IsWord word = ((length word == 0) ≡ false) × (list_all is_graphic word ≡ true)

-- one word more
pub word_more : (word : List ℕ) (words : Words) → IsWord word → AreWords words → AreWords (word ∷ words)
word_more word words is are = (is.0, is.1, are)

pub words_on : (xs ys : Words) → AreWords xs → AreWords ys → AreWords (xs ++ ys)
words_on [] ys first second = second
words_on (word ∷ xs) ys first second = (first.0, first.1, words_on xs ys first.2 second)

all_none : (f g : ℕ → Bool) → ((b : ℕ) → f b ≡ true → g b ≡ false) → (bytes : List ℕ) → list_all f bytes ≡ true → list_any g bytes ≡ false
all_none f g none [] e = refl
all_none f g none (b ∷ bytes) e = let parts = both (f b) (list_all f bytes) e in rw (none b parts.0, all_none f g none bytes parts.1) refl

letter_graphic : (b : ℕ) → is_ascii_alphabetic b ≡ true → is_graphic b ≡ true
letter_graphic b e = grind (arith, nat_tests, e)

name_byte_graphic : (b : ℕ) → may_be_in_name b ≡ true → is_graphic b ≡ true
name_byte_graphic b e = grind (arith, nat_tests, e)

letter_plain : (b : ℕ) → is_ascii_alphabetic b ≡ true → (b == 47) ≡ false
letter_plain b e = grind (arith, nat_tests, e)

name_plain_byte : (b : ℕ) → may_be_in_name b ≡ true → (b == 47) ≡ false
name_plain_byte b e = grind (arith, nat_tests, e)

-- the parts of a name
named_parts : (first : ℕ) (others : List ℕ) → is_name_of (first ∷ others) ≡ true → (is_ascii_alphabetic first ≡ true) × (list_all may_be_in_name others ≡ true)
named_parts first others e =
    let parts = both (is_ascii_alphabetic first && nat_lt (length others) 16) (list_all may_be_in_name others) e in
    ((both (is_ascii_alphabetic first) (nat_lt (length others) 16) parts.0).0, parts.1)

pub name_word : (name : List ℕ) → is_name_of name ≡ true → IsWord name
name_word [] e = absurd cc
name_word (first ∷ others) e =
    let parts = named_parts first others e in
    (grind (arith, nat_tests), rw (letter_graphic first parts.0, all_weaker may_be_in_name is_graphic name_byte_graphic others parts.1) refl)

pub name_plain : (name : List ℕ) → is_name_of name ≡ true → IsPlain name
name_plain [] e = absurd cc
name_plain (first ∷ others) e =
    let parts = named_parts first others e in
    rw (letter_plain first parts.0, all_none may_be_in_name (λ b. b == 47) name_plain_byte others parts.1) refl

digits_word : (digits : List ℕ) (n : ℕ) → IsNumber digits n → IsWord digits
digits_word digits n e = by (is_digits digits && nat_lt (value_after 0 digits) (2 ^ 64)) refl e
  where
    by : (t : Bool) → (is_digits digits && nat_lt (value_after 0 digits) (2 ^ 64)) ≡ t → cond t (Some (value_after 0 digits)) None ≡ Some n → IsWord digits
    by true is h =
        let parts = both (is_digits digits) (nat_lt (value_after 0 digits) (2 ^ 64)) is in
        let digit = both (not (length digits == 0)) (list_all is_ascii_digit digits) parts.0 in
        (not_true (length digits == 0) digit.0, all_weaker is_ascii_digit is_graphic digit_graphic digits digit.1)
    by false is h = absurd cc

pub number_word : AreReadAgain → (n : ℕ) → n < 2 ^ 64 → IsWord (decimal n)
number_word again n fits = digits_word (decimal n) n (again n fits)

-- a number between two bounds
pub within_says : AreReadAgain → (low high n : ℕ) → low ≤ n → n ≤ high → high < 2 ^ 64 → IsWithin low high (decimal n) n
within_says again low high n above below small = record { value = again n (omega arith); above = above; below = below }

-- a keyword and a number
keyed_words : AreReadAgain → (text : List ℕ) (n : ℕ) → IsWord text → n < 2 ^ 64 → AreWords (text ∷ decimal n ∷ [])
keyed_words again text n is fits = word_more text (decimal n ∷ []) is (word_more (decimal n) [] (number_word again n fits) tt)

pub policy_says : AreReadAgain → (p : Policy) → PolicyFit p → IsPolicy (policy_words p) p
policy_says again policies.Unbounded fit = refl
policy_says again (policies.Discard n) fit = (decimal n, refl, within_says again 1 1000 n fit.0 fit.1 (omega arith))
policy_says again (policies.Throttle n) fit = (decimal n, refl, within_says again 1 1000 n fit.0 fit.1 (omega arith))

pub policy_clean : AreReadAgain → (p : Policy) → PolicyFit p → AreWords (policy_words p)
policy_clean again policies.Unbounded fit = (refl, refl, tt)
policy_clean again (policies.Discard n) fit = keyed_words again (codes "discard") n (refl, refl) (omega (arith, fit.1))
policy_clean again (policies.Throttle n) fit = keyed_words again (codes "throttle") n (refl, refl) (omega (arith, fit.1))

-- ---- values

numbers_again : AreReadAgain → (value : List ℕ) → Each IsNumeral value → AreNumbers (map decimal value) value
numbers_again again [] each = tt
numbers_again again (n ∷ value) each = (again n each.0, numbers_again again value each.1)

-- two words with a comma between them
with_comma : (xs ys : List ℕ) → IsWord xs → IsWord ys → IsWord (xs ++ 44 ∷ ys)
with_comma [] ys first second = absurd (let h : true ≡ false = first.0 in cc)
with_comma (b ∷ xs) ys first second = (grind (arith, nat_tests), all_both is_graphic (b ∷ xs) (44 ∷ ys) first.1 second.1)

joined_word : AreReadAgain → (value : List ℕ) → Each IsNumeral value → 1 ≤ length value → IsWord (value_word value)
joined_word again [] each some = absurd (omega arith)
joined_word again (n ∷ []) each some = number_word again n each.0
joined_word again (n ∷ m ∷ value) each some = with_comma (decimal n) (value_word (m ∷ value)) (number_word again n each.0) (joined_word again (m ∷ value) each.1 (omega arith))

value_parts : (value : List ℕ) → IsValue value → Each IsNumeral value × (1 ≤ length value) × (length value ≤ 8)
unfolding IsValue
value_parts value valued = (each_all IsNumeral value valued.0, valued.1, valued.2)

pub value_clean : AreReadAgain → (value : List ℕ) → IsValue value → IsWord (value_word value)
value_clean again value valued = let parts = value_parts value valued in joined_word again value parts.0 parts.1

one_number : AreReadAgain → (value : List ℕ) → is_long value ≡ false → Each IsNumeral value → 1 ≤ length value → IsOne (value_word value) value
one_number again [] short each some = absurd (omega arith)
one_number again (n ∷ []) short each some = record { one = n; alone = refl; number = again n each.0 }
one_number again (n ∷ m ∷ value) short each some = absurd (let h : length (n ∷ m ∷ value) ≤ 1 = grind (arith, nat_tests, short) in omega arith)

pub value_says : AreReadAgain → (version : ℕ) (value : List ℕ) → OldFit version (is_long value) → IsValue value → IsValueWord version (value_word value) value
value_says again version value fit valued = by (version == 2) refl fit (value_parts value valued)
  where
    by : (t : Bool) → (version == 2) ≡ t → (not t && is_long value) ≡ false → Each IsNumeral value × (1 ≤ length value) × (length value ≤ 8) → IsValueWord version (value_word value) value
    by false e old parts = inl (e, one_number again value old parts.0 parts.1)
    by true e old parts = inr (e, record { digits = map decimal value; spelled = refl; numbers = numbers_again again value parts.0; some = parts.1; few = parts.2 })

newer_is : (b : Bool) → (not b && true) ≡ false → b ≡ true
newer_is true e = refl
newer_is false e = absurd cc

pub expr_says : AreReadAgain → (version : ℕ) (value : Expr) → ExprFit version value → IsExprValued value → IsExpr version (expr_words value) value
expr_says again version (exprs.Number value) fit valued = (value_word value, refl, value_says again version value fit valued)
expr_says again version (exprs.Part message index) fit valued = record {
  newer = newer_is (version == 2) fit.0;
  first = decimal message;
  second = decimal index;
  spelled = refl;
  counted = within_says again 0 65535 message (omega arith) fit.1 (omega arith);
  within = within_says again 0 7 index (omega arith) fit.2 (omega arith);
}
expr_says again version (exprs.Arg k) fit valued = (decimal k, refl, within_says again 0 65535 k (omega arith) fit (omega arith))
expr_says again version exprs.Sum fit valued = refl
expr_says again version exprs.Count fit valued = refl

pub expr_clean : AreReadAgain → (version : ℕ) (value : Expr) → ExprFit version value → IsExprValued value → AreWords (expr_words value)
expr_clean again version (exprs.Number value) fit valued = word_more (value_word value) [] (value_clean again value valued) tt
expr_clean again version (exprs.Part message index) fit valued =
    word_more (codes "part") (decimal message ∷ decimal index ∷ []) (refl, refl)
    (word_more (decimal message) (decimal index ∷ []) (number_word again message (omega (arith, fit.1))) (word_more (decimal index) [] (number_word again index (omega (arith, fit.2))) tt))
expr_clean again version (exprs.Arg k) fit valued = keyed_words again (codes "arg") k (refl, refl) (omega (arith, fit))
expr_clean again version exprs.Sum fit valued = (refl, refl, tt)
expr_clean again version exprs.Count fit valued = (refl, refl, tt)

pub pred_says : AreReadAgain → (p : Pred) → IsPredValued p → IsPred (pred_words p) p
pred_says again preds.Any valued = refl
pred_says again (preds.Eq n) valued = (decimal n, refl, again n valued)
pred_says again (preds.Lt n) valued = (decimal n, refl, again n valued)
pred_says again (preds.Ge n) valued = (decimal n, refl, again n valued)

pub pred_clean : AreReadAgain → (p : Pred) → IsPredValued p → AreWords (pred_words p)
pred_clean again preds.Any valued = (refl, refl, tt)
pred_clean again (preds.Eq n) valued = keyed_words again (codes "eq") n (refl, refl) valued
pred_clean again (preds.Lt n) valued = keyed_words again (codes "lt") n (refl, refl) valued
pred_clean again (preds.Ge n) valued = keyed_words again (codes "ge") n (refl, refl) valued

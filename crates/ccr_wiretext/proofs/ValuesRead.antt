-- The word of a value: what is read is in the grammar, and what is in the grammar is read.
use Rattle.std.proofs.Common.{◌≡◌, ℕ, ◌≤◌, Bool, true, false, cond, List, [], ◌∷◌, ◌++◌, length, Some, None, Ok, Err, inl, inr, refl, sym, ap, subst, ◌∙◌, arith, append_assoc, append-nil}
use Rattle.std.specs.Prelude.{◌==◌, ◌&&◌, nat_lt, nat_le, decimal, flat_map}
use Rattle.std.specs.List.{All, join_with_byte}
use Rattle.std.specs.Char.{is_ascii_digit}
use Rattle.std.specs.Str.{bytes_eq}
use Rattle.std.proofs.lemmas.Bool.Decides.{nat_tests}
use Rattle.std.proofs.lemmas.List.Elements.{All-cons}
use Rattle.std.proofs.lemmas.List.Splits.{join_with_byte-slice_split}
use Rattle.ccr_base.specs.Values.{value_of_numbers}
use Rattle.ccr_base.proofs.Texts.{same_word}
use Rattle.ccr_base.proofs.Booleans.{chosen}
use Rattle.ccr_text.specs.Words.{number_of}
use Rattle.ccr_text.specs.Fields.{or_code}
use Rattle.ccr_wiretext.specs.Fields.{pieces, numbers_after, several, single, value_in}
use Rattle.ccr_wiretext.specs.Grammar.{IsNumber, AreNumbers, IsList, IsOne, IsValueWord}
use Rattle.ccr_text.specs.Exact.{value_word}
use Rattle.ccr_text.proofs.Parts.{lacks, part_before, part_alone, lacks_tested}
use Rattle.ccr_text.proofs.Decimals.{digits_alone}
use Rattle.ccr_wiretext.specs.Values.{IsNumeral}
use Rattle.ccr_wiretext.proofs.ReadTellsSteps.{bind_ok, ok_is, or_code_ok}

-- ---- pieces that are joined

number_no_comma : (digits : List ℕ) (n : ℕ) → IsNumber digits n → lacks 44 digits ≡ true
number_no_comma digits n e = lacks_tested is_ascii_digit 44 digits refl (digits_alone digits n e).1

pieces_joined : (digits : List (List ℕ)) (value : List ℕ) → AreNumbers digits value → 1 ≤ length value → pieces (join_with_byte 44 digits) ≡ digits
pieces_joined [] [] are some = absurd (omega arith)
pieces_joined [] (n ∷ value) are some = absurd are
pieces_joined (d ∷ digits) [] are some = absurd are
pieces_joined (d ∷ []) (n ∷ value) are some = part_alone 44 d (number_no_comma d n are.0)
pieces_joined (d ∷ e ∷ digits) (n ∷ []) are some = absurd are.1
pieces_joined (d ∷ e ∷ digits) (n ∷ m ∷ value) are some =
    part_before 44 d (join_with_byte 44 (e ∷ digits)) (number_no_comma d n are.0) ∙ ap (λ (v : List (List ℕ)). d ∷ v) (pieces_joined (e ∷ digits) (m ∷ value) are.1 (omega arith))

-- ---- numbers

numbers_said : (found : List ℕ) (digits : List (List ℕ)) (all : List ℕ) → numbers_after found digits ≡ Ok all → (more : List ℕ) × (all ≡ found ++ more) × AreNumbers digits more
unfolding numbers_after
numbers_said found [] all e = ([], sym (ok_is found all e) ∙ sym (append-nil found), tt)
numbers_said found (piece ∷ digits) all e =
    let one = bind_ok (or_code (number_of piece) 5) (λ n. numbers_after (found ++ n ∷ []) digits) all e in
    let rest = numbers_said (found ++ one.0 ∷ []) digits all one.2 in
    (one.0 ∷ rest.0, rest.1 ∙ append_assoc found (one.0 ∷ []) rest.0, (or_code_ok _ 5 one.0 one.1, rest.2))

numbers_read : (found : List ℕ) (digits : List (List ℕ)) (more : List ℕ) → AreNumbers digits more → numbers_after found digits ≡ Ok (found ++ more)
unfolding numbers_after
numbers_read found [] [] are = rw (append-nil found) refl
numbers_read found [] (n ∷ more) are = absurd are
numbers_read found (piece ∷ digits) [] are = absurd are
numbers_read found (piece ∷ digits) (n ∷ more) are = rw (are.0, numbers_read (found ++ n ∷ []) digits more are.1, append_assoc found (n ∷ []) more) refl

-- 1 to 8 numbers are a value
value_ok : (numbers value : List ℕ) → or_code (value_of_numbers numbers) 10 ≡ Ok value → (numbers ≡ value) × (1 ≤ length numbers) × (length numbers ≤ 8)
value_ok numbers value e = by (nat_lt 0 (length numbers) && nat_le (length numbers) 8) refl e
  where
    by : (t : Bool) → (nat_lt 0 (length numbers) && nat_le (length numbers) 8) ≡ t → or_code (cond t (Some numbers) None) 10 ≡ Ok value → (numbers ≡ value) × (1 ≤ length numbers) × (length numbers ≤ 8)
    by true is h = (ok_is numbers value h, grind (arith, nat_tests, is), grind (arith, nat_tests, is))
    by false is h = absurd cc

several_said : (word value : List ℕ) → several word ≡ Ok value → IsList word value
unfolding several
several_said word value e =
    let numbers = bind_ok (numbers_after [] (pieces word)) (λ numbers. or_code (value_of_numbers numbers) 10) value e in
    let said = numbers_said [] (pieces word) numbers.0 numbers.1 in
    let whole = value_ok numbers.0 value numbers.2 in
    subst (IsList word) whole.0 (record {
      digits = pieces word;
      spelled = sym (join_with_byte-slice_split 44 word);
      numbers = subst (AreNumbers (pieces word)) (sym said.1) said.2;
      some = whole.1;
      few = whole.2;
    })

several_read : (word value : List ℕ) → IsList word value → several word ≡ Ok value
unfolding several
several_read word value said =
    let parts : pieces word ≡ said.digits = ap pieces said.spelled ∙ pieces_joined said.digits value said.numbers said.some in
    let some = said.some in
    let few = said.few in
    let test : (nat_lt 0 (length value) && nat_le (length value) 8) ≡ true = grind (arith, nat_tests, some, few) in
    rw (parts, numbers_read [] said.digits value said.numbers, test) refl

single_said : (word value : List ℕ) → single word ≡ Ok value → IsOne word value
unfolding single
single_said word value e =
    let one = bind_ok (or_code (number_of word) 5) (λ n. Ok (n ∷ [])) value e in
    record { one = one.0; alone = sym (ok_is (one.0 ∷ []) value one.2); number = or_code_ok _ 5 one.0 one.1 }

single_read : (word value : List ℕ) → IsOne word value → single word ≡ Ok value
unfolding single
single_read word value said = rw (said.number, said.alone) refl

-- VALUE
pub value_in_said : (version : ℕ) (word value : List ℕ) → value_in version word ≡ Ok value → IsValueWord version word value
unfolding value_in
value_in_said version word value e = elim (chosen (version == 2) (several word) (single word) (Ok value) e) [
  | inl newer ↦ inr (newer.0, several_said word value newer.1)
  | inr older ↦ inl (older.0, single_said word value older.1)
]

pub value_in_read : (version : ℕ) (word value : List ℕ) → IsValueWord version word value → value_in version word ≡ Ok value
unfolding value_in
value_in_read version word value (inl (older, said)) = rw older (single_read word value said)
value_in_read version word value (inr (newer, said)) = rw newer (several_read word value said)

-- a word that is no value is no value's word
pub no_value : (version : ℕ) (word value text : List ℕ) → IsValueWord version word value → several text ≡ Err 5 → single text ≡ Err 5 → bytes_eq word text ≡ false
no_value version word value text said list one = by (bytes_eq word text) refl said
  where
    by : (t : Bool) → bytes_eq word text ≡ t → IsValueWord version word value → t ≡ false
    by false e said = refl
    by true e (inl (older, said)) = absurd (let h : Err 5 ≡ Ok value = sym one ∙ ap single (sym (same_word word text e)) ∙ single_read word value said in cc)
    by true e (inr (newer, said)) = absurd (let h : Err 5 ≡ Ok value = sym list ∙ ap several (sym (same_word word text e)) ∙ several_read word value said in cc)

-- ---- how a value is written

-- the first number, and the others with a comma before each
pub value_spelled : (n : ℕ) (numbers : List ℕ) → value_word (n ∷ numbers) ≡ decimal n ++ flat_map (λ (m : ℕ). 44 ∷ decimal m) numbers
value_spelled n [] = sym (append-nil (decimal n))
value_spelled n (m ∷ numbers) = ap (λ (v : List ℕ). decimal n ++ 44 ∷ v) (value_spelled m numbers)

pub value_put : (old : List ℕ) (first : ℕ) (others : List ℕ) → (old ++ decimal first) ++ flat_map (λ (m : ℕ). 44 ∷ decimal m) others ≡ old ++ value_word (first ∷ others)
value_put old first others = append_assoc old (decimal first) (flat_map (λ (m : ℕ). 44 ∷ decimal m) others) ∙ ap (λ (v : List ℕ). old ++ v) (sym (value_spelled first others))

pub numerals_more : (first : ℕ) (others : List ℕ) → IsNumeral first → All IsNumeral others → All IsNumeral (first ∷ others)
numerals_more first others here more = All-cons IsNumeral first others here more

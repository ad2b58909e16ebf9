-- Numbers of a value, read one behind another.
use Rattle.std.proofs.Common.{◌≡◌, ℕ, suc, ◌≤◌, true, false, List, [], ◌∷◌, ◌++◌, length, Option, Some, None, refl, sym, ap, ◌∙◌, length-append, arith}
use Rattle.std.specs.Prelude.{nat_le, nat_lt}
use Rattle.std.proofs.lemmas.Bool.Decides.{nat_tests}
use Rattle.ccr_base.specs.Values.{value_of_numbers}
use Rattle.ccr_trace.specs.Pieces.{pieces}
use Rattle.ccr_trace.specs.Fields.{◌>>=◌, each, exact_number, where_few, values_in}
use Rattle.ccr_trace.proofs.ReadTellsSteps.{bind_some, some_is}
use Rattle.ccr_trace.proofs.Each.{behind_found, each_fails, each_none}
use Rattle.ccr_text.proofs.Parts.{parts_some}

-- as many values as words
pub length-each : {A : Type 0} (read : List ℕ → Option A) (words : List (List ℕ)) (values : List A) → each read words ≡ Some values → length values ≡ length words
unfolding each
length-each read [] values e = ap length (sym (some_is [] values e))
length-each read (word ∷ words) values e =
    let first = bind_some (read word) _ values e in
    let rest = bind_some (each read words) _ values first.2 in
    ap length (sym (some_is (first.0 ∷ rest.0) values rest.2)) ∙ ap suc (length-each read words rest.0 rest.1)

-- the value of these numbers, where they are few enough
abbrev valued : ℕ → Option (List ℕ) → Option (List ℕ)
valued most numbers = numbers >>= where_few most

-- one number more than there may be
pub one_too_many : (most : ℕ) (word : List ℕ) (found : List ℕ) (piece : List ℕ) (rest : List (List ℕ)) → length found ≡ most
    → behind_found found (each exact_number (piece ∷ rest)) ≡ each exact_number (pieces 44 word) → values_in most word ≡ None
one_too_many most word found piece rest full so = ap (valued most) (sym so) ∙ by (each exact_number (piece ∷ rest)) refl
  where
    by : (numbers : Option (List ℕ)) → each exact_number (piece ∷ rest) ≡ numbers → valued most (behind_found found numbers) ≡ None
    by None is = refl
    by (Some numbers) is =
        let count = length-each exact_number (piece ∷ rest) numbers is in
        let many : nat_le (length (found ++ numbers)) most ≡ false = grind (arith, nat_tests, count, full, length-append found numbers) in
        rw many refl

-- a piece that is no number
pub no_number : (most : ℕ) (word : List ℕ) (found : List ℕ) (piece : List ℕ) (rest : List (List ℕ)) → behind_found found (each exact_number (piece ∷ rest)) ≡ each exact_number (pieces 44 word)
    → exact_number piece ≡ None → values_in most word ≡ None
no_number most word found piece rest so none = ap (valued most) (sym so ∙ each_fails exact_number found piece rest none)

-- no piece is left
pub all_read : (word : List ℕ) (found : List ℕ) → length found ≤ 8 → behind_found found (each exact_number []) ≡ each exact_number (pieces 44 word) → value_of_numbers found ≡ values_in 8 word
all_read word found few so =
    let is : each exact_number (pieces 44 word) ≡ Some found = sym so ∙ each_none exact_number found in
    let count = length-each exact_number (pieces 44 word) found is in
    let pieces_are = parts_some 44 word in
    let some : nat_lt 0 (length found) ≡ true = grind (arith, nat_tests, count, pieces_are) in
    let fits : nat_le (length found) 8 ≡ true = grind (arith, nat_tests, few) in
    rw (is, some, fits) refl

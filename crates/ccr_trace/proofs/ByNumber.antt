-- Names by their numbers, and numbers by their names.
use Rattle.std.proofs.Common.{◌≡◌, ℕ, zero, suc, ◌<◌, Bool, true, false, cond, List, [], ◌∷◌, length, Some, None, refl, sym, ap, ◌∙◌, arith, get_or}
use Rattle.std.specs.Prelude.{not, nat_lt}
use Rattle.std.specs.List.{list_any, position_or_len}
use Rattle.std.specs.Str.{bytes_eq}
use Rattle.std.proofs.lemmas.Bool.Decides.{nat_tests}
use Rattle.ccr_text.specs.Words.{is_name_of}
use Rattle.ccr_wiring.specs.Names.{has_name, has_repeated}
use Rattle.ccr_trace.specs.Words.{name_at}
use Rattle.ccr_trace.specs.Said.{IsName}
use Rattle.ccr_trace.specs.Known.{number_in}
use Rattle.std.proofs.lemmas.Bool.{or_parts as neither}
use Rattle.ccr_base.proofs.Texts.{same_word, same_text}
use Rattle.std.proofs.lemmas.Option.{unwrap_or-slice_get, cond_some}
use Rattle.std.proofs.lemmas.List.Sums.{passes_at_first}

abbrev pub index_of : List (List ℕ) → List ℕ → ℕ
index_of names word = position_or_len (λ name. bytes_eq word name) names

here : (name : List ℕ) (names : List (List ℕ)) (word : List ℕ) → bytes_eq word name ≡ true → index_of (name ∷ names) word ≡ 0
here name names word e = rw e refl

later : (name : List ℕ) (names : List (List ℕ)) (word : List ℕ) → bytes_eq word name ≡ false → index_of (name ∷ names) word ≡ suc (index_of names word)
later name names word e = rw e (omega arith)

-- the name at the index where it is found
found_at : (names : List (List ℕ)) (word : List ℕ) → index_of names word < length names → name_at names (index_of names word) ≡ word
found_at names word below = unwrap_or-slice_get names (index_of names word) [] ∙ sym (same_word word (get_or names (index_of names word) []) (passes_at_first (λ name. bytes_eq word name) names [] below))

pub number_of_index : (p count n : ℕ) → cond (nat_lt p count) (Some p) None ≡ Some n → (p ≡ n) × (p < count)
number_of_index p count n e = let found = cond_some (nat_lt p count) p n e in (found.1, let is = found.0 in grind (arith, nat_tests, is))

-- a number that is found is that of the name
pub name_at-number : (names : List (List ℕ)) (word : List ℕ) (n : ℕ) → number_in names word ≡ Some n → name_at names n ≡ word
name_at-number names word n e =
    let index = number_of_index (index_of names word) (length names) n e in
    ap (name_at names) (sym index.0) ∙ found_at names word index.1

other_at : (names : List (List ℕ)) (n : ℕ) (name : List ℕ) → n < length names → has_name names name ≡ false → bytes_eq (name_at names n) name ≡ false
other_at [] n name below none = absurd (omega arith)
other_at (x ∷ names) zero name below none = (neither (bytes_eq x name) (has_name names name) none).0
other_at (x ∷ names) (suc n) name below none = other_at names n name (omega arith) (neither (bytes_eq x name) (has_name names name) none).1

index_again : (names : List (List ℕ)) (n : ℕ) → has_repeated names ≡ false → n < length names → index_of names (name_at names n) ≡ n
index_again [] n apart below = absurd (omega arith)
index_again (x ∷ names) zero apart below = here x names x (same_text x)
index_again (x ∷ names) (suc n) apart below =
    let parts = neither (has_name names x) (has_repeated names) apart in
    later x names (name_at names n) (other_at names n x (omega arith) parts.0) ∙ ap suc (index_again names n parts.1 (omega arith))

-- where the names differ, the number is found by its name
pub number_in-name : (names : List (List ℕ)) (n : ℕ) → has_repeated names ≡ false → n < length names → number_in names (name_at names n) ≡ Some n
number_in-name names n apart below =
    let within : nat_lt n (length names) ≡ true = grind (arith, nat_tests, below) in
    rw (index_again names n apart below, within) refl

-- the name is of the form of a name
pub name_formed : (names : List (List ℕ)) (n : ℕ) → list_any (λ name. not (is_name_of name)) names ≡ false → n < length names → IsName (name_at names n)
name_formed [] n none below = absurd (omega arith)
name_formed (x ∷ names) zero none below = formed (is_name_of x) refl (neither (not (is_name_of x)) _ none).0
  where
    formed : (t : Bool) → is_name_of x ≡ t → not (is_name_of x) ≡ false → is_name_of x ≡ true
    formed true is e = is
    formed false is e = absurd (let clash : true ≡ false = ap not (sym is) ∙ e in cc)
name_formed (x ∷ names) (suc n) none below = name_formed names n (neither (not (is_name_of x)) (list_any (λ name. not (is_name_of name)) names) none).1 (omega arith)

-- What a field or form that was read tells of its steps.
use Rattle.std.proofs.Common.{◌≡◌, ℕ, ◌<◌, ◌≤◌, Bool, true, false, List, [], ◌∷◌, length, map, Option, Some, refl, sym, ap, ◌∙◌, ◌^◌, arith}
use Rattle.std.specs.Prelude.{nat_lt, nat_le, decimal}
use Rattle.std.specs.Str.{bytes_eq}
use Rattle.std.proofs.lemmas.Bool.Decides.{nat_tests}
use Rattle.std.proofs.lemmas.List.{length-map}
use Rattle.ccr_base.proofs.Texts.{same_word}
use Rattle.ccr_base.proofs.Options.{some_then}
use Rattle.ccr_trace.specs.Fields.{◌>>=◌, where_spelled, where_short, where_few}
use Rattle.ccr_trace.specs.Pieces.{pieces}
use Rattle.ccr_trace.specs.Forms.{word, no_more, only, field, is_some_of}
use Rattle.ccr_text.specs.Fields.{Words}
use Rattle.ccr_text.proofs.Parts.{parts_some}
use Rattle.std.proofs.lemmas.Option.{cond_some}

pub bind_some : {A B : Type 0} (found : Option A) (next : A → Option B) (y : B) → (found >>= next) ≡ Some y → (x : A) × (found ≡ Some x) × (next x ≡ Some y)
bind_some found next y e = some_then next found y e

abbrev pub only_one : {A : Type 0} → A → Option A
only_one x = Some x

pub some_is : {A : Type 0} (x y : A) → only_one x ≡ only_one y → x ≡ y
some_is x y e = cc

pub only_some : (test : Bool) (u : Unit {0}) → only test ≡ Some u → test ≡ true
only_some true u e = refl
only_some false u e = absurd cc

pub word_some : (words : Words) (x : List ℕ × Words) → word words ≡ Some x → words ≡ x.0 ∷ x.1
word_some [] x e = absurd cc
word_some (w ∷ words) x e = ap (λ (p : List ℕ × Words). p.0 ∷ p.1) (some_is (w, words) x e)

pub no_more_some : (words : Words) (u : Unit {0}) → no_more words ≡ Some u → words ≡ []
no_more_some [] u e = refl
no_more_some (w ∷ words) u e = absurd cc

-- the word of a field
pub field_some : {A : Type 0} (read : List ℕ → Option A) (words : Words) (x : A × Words) → field read words ≡ Some x → (w : List ℕ) × (words ≡ w ∷ x.1) × (read w ≡ Some x.0)
field_some read [] x e = absurd cc
field_some read (w ∷ words) x e =
    let found = bind_some (read w) _ x e in
    let same = some_is (found.0, words) x found.2 in
    (w, ap (λ (p : _ × Words). w ∷ p.1) same, found.1 ∙ ap (λ (p : _ × Words). Some p.0) same)

pub some_of : {A : Type 0} (values : List A) → is_some_of values ≡ true → 0 < length values
some_of [] e = absurd cc
some_of (x ∷ values) e = omega arith

pub is_some_of-some : {A : Type 0} (values : List A) → 0 < length values → is_some_of values ≡ true
is_some_of-some [] e = absurd (omega arith)
is_some_of-some (x ∷ values) e = grind (arith, nat_tests)

pub spelled_is : (w : List ℕ) (n m : ℕ) → where_spelled w n ≡ Some m → (n ≡ m) × (decimal m ≡ w)
spelled_is w n m e = let found = cond_some (bytes_eq w (decimal n)) n m e in (found.1, ap decimal (sym found.1) ∙ sym (same_word w (decimal n) found.0))

pub short_is : (n m : ℕ) → where_short n ≡ Some m → (n ≡ m) × (m < 2 ^ 32)
short_is n m e = let found = cond_some (nat_lt n (2 ^ 32)) n m e in (found.1, let is = found.0 in let same = found.1 in grind (arith, nat_tests, is, same))

pub few_is : (most : ℕ) (numbers value : List ℕ) → where_few most numbers ≡ Some value → (numbers ≡ value) × (length numbers ≤ most)
few_is most numbers value e = let found = cond_some (nat_le (length numbers) most) numbers value e in (found.1, let is = found.0 in grind (arith, nat_tests, is))

-- what is spelled by the pieces is one at least
pub some_pieces : {A : Type 0} (separator : ℕ) (bytes : List ℕ) (values : List A) (spell : A → List ℕ) → map spell values ≡ pieces separator bytes → 0 < length values
some_pieces separator bytes values spell same =
    let some = parts_some separator bytes in
    let many : length values ≡ length (pieces separator bytes) = sym (length-map values spell) ∙ ap length same in
    grind (arith, nat_tests, some, many)

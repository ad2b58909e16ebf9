-- What a step of reading tells where it refuses nothing.
use Rattle.std.proofs.Common.{◌≡◌, ℕ, ◌<◌, Bool, true, false, List, [], ◌∷◌, Option, Some, None, Ok, refl, ap, arith, Result}
use Rattle.std.specs.Prelude.{nat_lt}
use Rattle.std.proofs.lemmas.Bool.Decides.{nat_tests}
use Rattle.ccr_text.specs.Fields.{Words, unless, or_code, limited, word, no_more}

pub unless_ok : (b : Bool) (code : ℕ) (y : Unit {0}) → unless b code ≡ Ok y → b ≡ true
unless_ok true code y e = refl
unless_ok false code y e = absurd cc

pub or_code_ok : {A : Type 0} (o : Option A) (code : ℕ) (x : A) → or_code o code ≡ Ok x → o ≡ Some x
or_code_ok None code x e = absurd cc
or_code_ok (Some y) code x e = cc

pub word_ok : (words : Words) (x : List ℕ × Words) → word words ≡ Ok x → words ≡ x.0 ∷ x.1
word_ok [] x e = absurd cc
word_ok (w ∷ words) x e = let same : (w, words) ≡ x = cc in ap (λ (p : List ℕ × Words). p.0 ∷ p.1) same

pub no_more_ok : (words : Words) (y : Unit {0}) → no_more words ≡ Ok y → words ≡ []
no_more_ok [] y e = refl
no_more_ok (w ∷ words) y e = absurd cc

pub limit_ok : (limit count : ℕ) (y : Unit {0}) → limited limit count ≡ Ok y → count < limit
limit_ok limit count y e = let test = unless_ok (nat_lt count limit) 10 y e in grind (arith, nat_tests, test)

-- where two results that refuse nothing are one, so are their values
pub ok_is : {A E : Type 0} (x y : A) → ◌≡◌ {A = Result A E} (Ok x) (Ok y) → x ≡ y
ok_is x y e = cc

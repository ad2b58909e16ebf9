-- The declared names stay apart and known.
use Rattle.std.proofs.Common.{◌≡◌, ℕ, Bool, true, false, cond, List, [], ◌∷◌, ◌++◌, Some, None, refl, subst}
use Rattle.std.specs.Str.{bytes_eq}
use Rattle.ccr_text.specs.Words.{is_name_of}
use Rattle.ccr_text.specs.Names.{meaning_of}
use Rattle.ccr_text.proofs.Meanings.{meaning_none}
use Rattle.ccr_wiring.specs.Names.{has_name, has_repeated}
use Rattle.ccr_wiretext.specs.declared.named.Named.{Named}
use Rattle.ccr_wiretext.specs.Names.{Naming}
use Rattle.ccr_wiretext.specs.Grammar.{IsNew}
use Rattle.ccr_wiretext.proofs.Each.{each_insert, neither, none_inserted}
use Rattle.ccr_base.specs.Lists.{Each}
use Rattle.ccr_base.proofs.Booleans.{refuted, no_both}
use Rattle.ccr_base.proofs.Texts.{same_word, same_text}

differ_back : (a b : List ℕ) → bytes_eq a b ≡ false → bytes_eq b a ≡ false
differ_back a b e = refuted (bytes_eq b a) (λ is. no_both (subst (λ v. bytes_eq v b ≡ true) (same_word b a is) (same_text b)) e)

-- names of which no two are equal, with another one among them
repeated_insert : (xs ys : List (List ℕ)) (name : List ℕ) → has_repeated (xs ++ ys) ≡ false → has_name (xs ++ ys) name ≡ false → has_repeated (xs ++ name ∷ ys) ≡ false
repeated_insert [] ys name apart new = rw (new, apart) refl
repeated_insert (x ∷ xs) ys name apart new =
    let aparts = neither (has_name (xs ++ ys) x) (has_repeated (xs ++ ys)) apart in
    let news = neither (bytes_eq x name) (has_name (xs ++ ys) name) new in
    rw (none_inserted (λ other. bytes_eq other x) xs ys name aparts.0 (differ_back x name news.0), repeated_insert xs ys name aparts.1 news.1) refl

-- the names of the parts, as the table of names knows them
pub record NamesApart (names : Naming) (declared : List (List ℕ)) : Type 0 where
  pub apart : has_repeated declared ≡ false
  pub formed : Each (λ name. is_name_of name ≡ true) declared
  pub fresh : (name : List ℕ) → meaning_of names name ≡ None → has_name declared name ≡ false

-- one name more, at its index among the names of the parts
pub name_added : (names : Naming) (xs ys : List (List ℕ)) (name : List ℕ) (what : Named) → NamesApart names (xs ++ ys) → IsNew names name → NamesApart (names ++ (name, what) ∷ []) (xs ++ name ∷ ys)
name_added names xs ys name what apart new = record {
  apart = repeated_insert xs ys name apart.apart (apart.fresh name new.new);
  formed = each_insert (λ name. is_name_of name ≡ true) xs ys name apart.formed new.formed;
  fresh = λ word none. let parts = meaning_none names name word what none in none_inserted (λ other. bytes_eq other word) xs ys name (apart.fresh word parts.0) (differ_back word name parts.1);
}

-- what each name stands for
pub named_each : (P : Named → Type 0) (names : Naming) (word : List ℕ) (what : Named) → Each (λ (entry : List ℕ × Named). P entry.1) names → meaning_of names word ≡ Some what → P what
named_each P [] word what each e = absurd cc
named_each P (entry ∷ names) word what each e = by (bytes_eq word entry.0) e (named_each P names word what each.1)
  where
    by : (t : Bool) → cond t (Some entry.1) (meaning_of names word) ≡ Some what → (meaning_of names word ≡ Some what → P what) → P what
    by true h next = subst P (let same : entry.1 ≡ what = cc in same) each.0
    by false h next = next h

-- Joined lists of causes: none stands twice, and each is one of the two.
use Rattle.std.proofs.Common.{◌≡◌, ℕ, Bool, true, false, List, [], ◌∷◌, ◌++◌, refl}
use Rattle.std.specs.Prelude.{if◌then◌else◌}
use Rattle.std.specs.List.{list_all}
use Rattle.std.proofs.lemmas.Bool.{and_from, and_parts}
use Rattle.ccr_base.specs.Lists.{has_number, are_apart}
use Rattle.ccr_base.proofs.Lists.{all_both}
use Rattle.ccr_cause.specs.Causes.{union, with_cause}
use Rattle.ccr_base.proofs.Apart.{apart_snoc}

pub with_apart : (causes : List ℕ) (c : ℕ) → are_apart causes ≡ true → are_apart (with_cause causes c) ≡ true
with_apart causes c apart = by (has_number causes c) refl
  where
    by : (b : Bool) → has_number causes c ≡ b → are_apart (if b then causes else causes ++ c ∷ []) ≡ true
    by true is = apart
    by false is = apart_snoc causes c apart is

-- what passes in the list and of the cause passes there
pub with_all : (p : ℕ → Bool) (causes : List ℕ) (c : ℕ) → list_all p causes ≡ true → p c ≡ true → list_all p (with_cause causes c) ≡ true
with_all p causes c all one = by (has_number causes c)
  where
    by : (b : Bool) → list_all p (if b then causes else causes ++ c ∷ []) ≡ true
    by true = all
    by false = all_both p causes (c ∷ []) all (and_from (p c) true one refl)

-- none stands twice in what is joined
pub union_apart : (causes more : List ℕ) → are_apart causes ≡ true → are_apart (union causes more) ≡ true
union_apart causes [] apart = apart
union_apart causes (c ∷ more) apart = union_apart (with_cause causes c) more (with_apart causes c apart)

-- what passes in both passes there
pub union_all : (p : ℕ → Bool) (causes more : List ℕ) → list_all p causes ≡ true → list_all p more ≡ true → list_all p (union causes more) ≡ true
union_all p causes [] all rest = all
union_all p causes (c ∷ more) all rest = let parts = and_parts (p c) (list_all p more) rest in union_all p (with_cause causes c) more (with_all p causes c all parts.0) parts.1

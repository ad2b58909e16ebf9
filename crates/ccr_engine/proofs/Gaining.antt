-- What sets of numbers gain.
use Rattle.std.proofs.Common.{◌≡◌, ◌∙◌, ℕ, zero, suc, ◌<◌, Bool, true, false, ◌||◌, List, [], ◌∷◌, length, take, Option, None, Some, refl, ap, arith, sym}
use Rattle.std.specs.List.{slice_get, list_any}
use Rattle.std.specs.Option.{option_map_or}
use Rattle.std.proofs.Math.ListN.{get_or}
use Rattle.std.proofs.lemmas.Option.{slice_get-get_or}
use Rattle.ccr_base.specs.Lists.{has_number}
use Rattle.ccr_engine.specs.Numbered.{Gains, passes_at}

-- one test in the place of another
pub gains-same : (p q : ℕ → Bool) (old new : List ℕ) → ((n : ℕ) → p n ≡ q n) → Gains p old new → Gains q old new
gains-same p q old new same gains = record { members = λ n. gains.members n ∙ ap (λ b. b || has_number old n) (same n); least = gains.least }

pub gains-none : (p : ℕ → Bool) (old : List ℕ) → ((n : ℕ) → p n ≡ false) → Gains p old old
gains-none p old never = record { members = λ n. rw (never n) refl; least = λ least. least }

-- one test after the other
pub gains-both : (p q r : ℕ → Bool) (old mid new : List ℕ) → ((n : ℕ) → r n ≡ p n || q n) → Gains p old mid → Gains q mid new → Gains r old new
gains-both p q r old mid new both first second = record {
  members = λ n. second.members n ∙ (ap (λ b. q n || b) (first.members n) ∙ (turned (p n) (q n) (has_number old n) ∙ ap (λ b. b || has_number old n) (sym (both n))));
  least = λ least. second.least (first.least least);
}
  where
    turned : (a b c : Bool) → b || (a || c) ≡ (a || b) || c
    turned true true c = refl
    turned true false c = refl
    turned false b c = refl

-- the item at an index is read
pub read : {T : Type 0} (ss xs : List T) (i : ℕ) (d : T) → ss ≡ xs → i < length ss → slice_get xs i ≡ Some (get_or ss i d)
read ss xs i d same lt = rw (← same) (slice_get-get_or ss i d lt)

-- over items: tests in the place of others
pub passes-same : {T : Type 0} (p q : T → Bool) (xs : List T) → ((x : T) → p x ≡ q x) → (n : ℕ) → passes_at p xs n ≡ passes_at q xs n
passes-same p q xs same n = of_option (slice_get xs n)
  where
    of_option : (o : Option _) → option_map_or p o false ≡ option_map_or q o false
    of_option None = refl
    of_option (Some x) = same x

pub passes-never : {T : Type 0} (p : T → Bool) (xs : List T) → ((x : T) → p x ≡ false) → (n : ℕ) → passes_at p xs n ≡ false
passes-never p xs never n = of_option (slice_get xs n)
  where
    of_option : (o : Option _) → option_map_or p o false ≡ false
    of_option None = refl
    of_option (Some x) = never x

-- none of the first passes, where none does at their indices
pub none_before : {T : Type 0} (test : T → Bool) (xs : List T) (n : ℕ) → ((index : ℕ) → index < n → passes_at test xs index ≡ false) → list_any test (take n xs) ≡ false
none_before test [] zero out = refl
none_before test [] (suc n) out = refl
none_before test (x ∷ xs) zero out = refl
none_before test (x ∷ xs) (suc n) out =
    let here : test x ≡ false = out 0 (omega arith) in
    rw here (none_before test xs n (λ index low. out (suc index) (omega (arith, low))))

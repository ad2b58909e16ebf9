-- What makes a value single: one number at most.
use Rattle.std.proofs.Common.{inl, inr, ◌≡◌, ℕ, ◌≤◌, Bool, true, false, not, ◌&&◌, List, [], ◌∷◌, length, map, Option, Some, None, refl, ap, subst, arith}
use Rattle.std.specs.Prelude.{◌==◌, if◌then◌else◌, nat_lt, nat_le, slice_get, unwrap_or}
use Rattle.std.specs.List.{range_with_len}
use Rattle.std.proofs.lemmas.Bool.Decides.{nat_tests}
use Rattle.std.proofs.lemmas.List.{length-map}
use Rattle.std.proofs.lemmas.List.FromFn.{length-range_with_len}
use Rattle.ccr_base.specs.declared.handlers.Expr.{Expr}
use Rattle.ccr_base.specs.declared.handlers.Expr.TheVariants.{Number, Arg, Part, Sum, Count}
use Rattle.ccr_base.specs.Values.{same_value, value_of_numbers}
use Rattle.ccr_handler.specs.Evaluating.{longest, sum_at, value_of}
use Rattle.ccr_wiring.specs.declared.parts.Parts.{Parts}
use Rattle.ccr_wiring.specs.Valid.{IsValid}
use Rattle.ccr_wiring.specs.Versions.{expr_is_newer, is_long, is_newer}
use Rattle.ccr_wiring.proofs.Validity.{no_codes}
use Rattle.ccr_base.proofs.SameNames.{same_values}
use Rattle.ccr_model.proofs.Members.{Among, Among-at}
use Rattle.ccr_trace.specs.Known.{IsOfVersion}
use Rattle.ccr_trace.specs.Values.{IsSingle, IsSmallValue}

-- each of the values has one number at most
abbrev pub AreSingle : List (List ℕ) → Type 0
AreSingle values = (value : List ℕ) → Among value values → IsSingle value

-- a value that version 1 has too
pub not_long : (value : List ℕ) → is_long value ≡ false → IsSingle value
unfolding IsSingle
not_long value none = grind (arith, nat_tests, none)

-- a value that is the same as a single one
pub same_single : (value other : List ℕ) → same_value value other ≡ true → IsSingle other → IsSingle value
unfolding IsSingle
same_single value other is single = omega (arith, ap length (same_values value other is), single)

-- a sum is as long as the longest value
longest_single : (values : List (List ℕ)) → AreSingle values → longest values ≤ 1
unfolding IsSingle
longest_single [] single = omega arith
longest_single (value ∷ values) single = omega (arith, single value (inl refl), longest_single values (λ v there. single v (inr there)))

zero_single : IsSingle (0 ∷ [])
unfolding IsSingle
zero_single = omega arith

or_zero : (numbers : List ℕ) → IsSingle numbers → IsSingle (unwrap_or (value_of_numbers numbers) (0 ∷ []))
or_zero numbers single = by (nat_lt 0 (length numbers) && nat_le (length numbers) 8)
  where
    by : (b : Bool) → IsSingle (unwrap_or (if b then Some numbers else None) (0 ∷ []))
    by true = single
    by false = zero_single

sums_single : (values : List (List ℕ)) → AreSingle values → IsSingle (map (sum_at values) (range_with_len 0 (longest values)))
unfolding IsSingle
sums_single values single = omega (arith, length-map (range_with_len 0 (longest values)) (sum_at values), length-range_with_len 0 (longest values), longest_single values single)

one_single : (number : ℕ) → IsSingle (number ∷ [])
unfolding IsSingle
one_single number = omega arith

-- the value of an expression of version 1 is single where those that it reads are
pub value_single : (expr : Expr) (values : List (List ℕ)) → expr_is_newer expr ≡ false → AreSingle values → IsSingle (value_of expr values)
value_single (Number value) values none single = not_long value none
value_single (Arg k) values none single = by (slice_get values k) refl
  where
    by : (o : Option (List ℕ)) → slice_get values k ≡ o → IsSingle (unwrap_or o (0 ∷ []))
    by None at = zero_single
    by (Some value) at = single value (Among-at values k value at)
value_single (Part k index) values none single = absurd cc
value_single Sum values none single = or_zero (map (sum_at values) (range_with_len 0 (longest values))) (sums_single values single)
value_single Count values none single = one_single (length values)

module _ (w : Parts) (valid : IsValid w) where
  -- in another version than 2 nothing of version 2 stands in the wiring
  old : (w.version == 2) ≡ false → is_newer w ≡ false
  old other =
      let codes = no_codes w valid in
      let one : (w.version == 1) ≡ true = by (w.version == 1) (subst (λ b. not (w.version == 1) && not b ≡ false) other codes.version) in
      subst (λ b. b && is_newer w ≡ false) one codes.newer
    where
      by : (b : Bool) → not b && not false ≡ false → b ≡ true
      by true is = refl
      by false is = absurd cc

  -- a value is of the wiring's version where it is small, and single if nothing of version 2 stands in the wiring
  pub of_version : (value : List ℕ) → IsSmallValue value → (is_newer w ≡ false → IsSingle value) → IsOfVersion w value
  unfolding IsSingle
  of_version value small single = by (w.version == 2) refl
    where
      by : (b : Bool) → (w.version == 2) ≡ b → length value ≤ (if b then 8 else 1)
      by true is = small
      by false is = single (old is)

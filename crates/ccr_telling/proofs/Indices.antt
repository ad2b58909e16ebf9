-- Each spot has an index of its own.
use Rattle.std.proofs.Common.{◌≡◌, ℕ, suc, ◌+◌, ◌*◌, ◌<◌, Bool, true, false, ◌&&◌, Option, Some, None, refl, sym, ◌∙◌, arith}
use Rattle.std.specs.Prelude.{◌==◌, nat_lt, if◌then◌else◌}
use Rattle.std.specs.Option.{option_map_or}
use Rattle.std.proofs.lemmas.Bool.Decides.{nat_tests}
use Rattle.ccr_base.specs.declared.names.Spot.{Spot}
use Rattle.ccr_base.specs.declared.names.Spot.TheVariants.{Branch, Site}
use Rattle.ccr_base.specs.Names.{same_spot}
use Rattle.ccr_wiring.specs.Wirings.{branch_of, segment_of}
use Rattle.ccr_base.proofs.Booleans.{refuted}
use Rattle.ccr_base.proofs.TwoDigits.{same_digits}
use Rattle.ccr_telling.specs.Tallies.{index_of}

-- the index of a spot that has one
pub placed_at : (s : Spot) (p : ℕ) → index_of s ≡ Some p → (p ≡ branch_of s * 17 + segment_of s) × (segment_of s < 17)
placed_at (Branch b) p is = let one : b * 17 ≡ p = cc in (omega (arith, one), omega arith)
placed_at (Site b k) p is = by (nat_lt k 16) refl is
  where
    by : (c : Bool) → nat_lt k 16 ≡ c → (if c then Some (b * 17 + (k + 1)) else None) ≡ Some p → (p ≡ b * 17 + suc k) × (suc k < 17)
    by true low at = let one : b * 17 + (k + 1) ≡ p = cc in (omega (arith, one), grind (arith, nat_tests, low))
    by false past at = absurd (cc)

spots_apart : (s q : Spot) → same_spot s q ≡ (branch_of s == branch_of q) && (segment_of s == segment_of q)
spots_apart (Branch b) (Branch c) = grind (arith, nat_tests)
spots_apart (Branch b) (Site c l) = grind (arith, nat_tests)
spots_apart (Site b k) (Branch c) = grind (arith, nat_tests)
spots_apart (Site b k) (Site c l) = grind (arith, nat_tests)

-- whether a spot has the index of another is whether it is that one
pub own_index : (s q : Spot) (p : ℕ) → index_of q ≡ Some p → option_map_or (λ r. r == p) (index_of s) false ≡ same_spot s q
own_index s q p at = by (index_of s) refl
  where
    there : (p ≡ branch_of q * 17 + segment_of q) × (segment_of q < 17)
    there = placed_at q p at

    by : (o : Option ℕ) → index_of s ≡ o → option_map_or (λ r. r == p) o false ≡ same_spot s q
    by (Some r) here =
        let its = placed_at s r here in
        rw (its.0, there.0) (same_digits 17 (branch_of s) (segment_of s) (branch_of q) (segment_of q) its.1 there.1 ∙ sym (spots_apart s q))
    by None none = sym (refuted (same_spot s q) (λ is. absurd (other s q is none at)))
      where
        other : (s q : Spot) → same_spot s q ≡ true → index_of s ≡ None → index_of q ≡ Some p → ⊥
        other (Branch b) (Branch c) is here there = cc
        other (Branch b) (Site c l) is here there = cc
        other (Site b k) (Branch c) is here there = cc
        other (Site b k) (Site c l) is here there = let one : k ≡ l = grind (arith, nat_tests, is) in let same : b ≡ c = grind (arith, nat_tests, is) in cc

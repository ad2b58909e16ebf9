-- Where a place stands in a list of places.
use Rattle.std.proofs.Common.{◌≡◌, ℕ, zero, suc, ◌+◌, ◌<◌, ◌≤◌, true, false, List, [], ◌∷◌, length, get_or, drop, refl, arith}
use Rattle.std.specs.Prelude.{if◌then◌else◌}
use native.Mathlib.Numerals.{unary_clauses}
use Rattle.ccr_base.specs.declared.names.Place.{Place}
use Rattle.ccr_runs.specs.EntryRuns.{same_place}
use Rattle.ccr_runs.specs.Played.{position_of}

-- its number is one of the list's
pub position_below : (place : Place) (all : List Place) → 1 ≤ length all → position_of place all < length all
position_below place [] some = absurd (omega arith)
position_below place (x ∷ []) some = omega arith
position_below place (x ∷ y ∷ more) some =
    let later = position_below place (y ∷ more) (omega arith) in
    elim (same_place x place) as (λ b. (if b then 0 else suc (position_of place (y ∷ more))) < length (x ∷ y ∷ more)) [ true ↦ omega arith | false ↦ omega (arith, later) ]

-- the last stands for those that aren't there
pub position_at_end : (place : Place) (all : List Place) (n : ℕ) → length all ≤ n + 1 → position_of place (drop n all) ≡ 0
position_at_end place [] zero short = refl
position_at_end place [] (suc n) short = refl
position_at_end place (x ∷ []) zero short = refl
position_at_end place (x ∷ y ∷ more) zero short = absurd (omega arith)
position_at_end place (x ∷ xs) (suc n) short = position_at_end place xs n (omega arith)

-- the place itself
pub position_here : (place : Place) (all : List Place) (n : ℕ) (other : Place) → n + 1 < length all → same_place (get_or all n other) place ≡ true → position_of place (drop n all) ≡ 0
position_here place [] n other more_follow same = absurd (omega arith)
position_here place (x ∷ []) n other more_follow same = absurd (omega arith)
position_here place (x ∷ y ∷ more) zero other more_follow same = rw same refl
position_here place (x ∷ y ∷ more) (suc n) other more_follow same = position_here place (y ∷ more) n other (omega arith) same

-- one more than from the next on
pub position_on : (place : Place) (all : List Place) (n : ℕ) (other : Place) → n + 1 < length all → same_place (get_or all n other) place ≡ false → position_of place (drop n all) ≡ 1 + position_of place (drop (n + 1) all)
position_on place [] n other more_follow same = absurd (omega arith)
position_on place (x ∷ []) n other more_follow same = absurd (omega arith)
position_on place (x ∷ y ∷ more) zero other more_follow same = rw same (omega arith)
position_on place (x ∷ y ∷ more) (suc n) other more_follow same = simp unary_clauses (simp unary_clauses at (position_on place (y ∷ more) n other (omega arith) same))

-- The spots of a valid wiring have indices.
use Rattle.std.proofs.Common.{◌≡◌, ℕ, ◌+◌, ◌*◌, ◌≤◌, ◌<◌, true, List, [], ◌∷◌, length, map, Some, refl, ap, arith}
use Rattle.std.specs.Prelude.{nat_lt}
use Rattle.std.proofs.lemmas.Bool.Decides.{nat_tests}
use Rattle.std.proofs.lemmas.List.{map-append}
use Rattle.ccr_base.specs.declared.names.Spot.{Spot}
use Rattle.ccr_base.specs.declared.names.Spot.TheVariants.{Branch, Site}
use Rattle.ccr_wiring.specs.declared.parts.Parts.{Parts}
use Rattle.ccr_wiring.specs.Wirings.{Placement, actions_of, awaited, placements, sites_from, spots, spots_from}
use Rattle.ccr_wiring.specs.Valid.{IsValid, HasFewActions}
use Rattle.ccr_wiring.proofs.Soundness.{sound}
use Rattle.ccr_telling.specs.Tallies.{all_indices, index_of}
use Rattle.ccr_engine.proofs.SpotIndices.{few_awaited}

-- two counts of spots are the same where a spot has an index
abbrev pub AreSame : (Spot → ℕ) → (Spot → ℕ) → Type 0
AreSame f g = (spot : Spot) (index : ℕ) → index_of spot ≡ Some index → index < all_indices → f spot ≡ g spot

branch_same : (f g : Spot → ℕ) → AreSame f g → (b : ℕ) → b < 256 → f (Branch b) ≡ g (Branch b)
branch_same f g same b low = same (Branch b) (b * 17) refl (omega (arith, low))

site_same : (f g : Spot → ℕ) → AreSame f g → (b k : ℕ) → b < 256 → k < 16 → f (Site b k) ≡ g (Site b k)
site_same f g same b k low less = same (Site b k) (b * 17 + (k + 1)) at (omega (arith, low, less))
  where
    at : index_of (Site b k) ≡ Some (b * 17 + (k + 1))
    at = let is : nat_lt k 16 ≡ true = grind (arith, nat_tests, less) in rw is refl

sites_same : (f g : Spot → ℕ) → AreSame f g → (b k : ℕ) (ports : List ℕ) → b < 256 → k + length ports ≤ 16 → map f (sites_from b k ports) ≡ map g (sites_from b k ports)
sites_same f g same b k [] low few = refl
sites_same f g same b k (port ∷ ports) low few =
    let here = site_same f g same b k low (omega (arith, few)) in
    rw here (ap (λ rest. g (Site b k) ∷ rest) (sites_same f g same b (k + 1) ports low (omega (arith, few))))

spots_same_from : (w : Parts) → HasFewActions w → (f g : Spot → ℕ) → AreSame f g → (b : ℕ) (ss : List Placement) → b + length ss ≤ 256 → map f (spots_from w b ss) ≡ map g (spots_from w b ss)
spots_same_from w few f g same b [] low = refl
spots_same_from w few f g same b (s ∷ ss) low =
    let ports = awaited (actions_of w s.branch.handler) in
    let short = few s.branch.handler in
    let awaits = few_awaited (actions_of w s.branch.handler) in
    let here = branch_same f g same b (omega (arith, low)) in
    let sites = sites_same f g same b 0 ports (omega (arith, low)) (omega (arith, short, awaits)) in
    let rest = spots_same_from w few f g same (b + 1) ss (omega (arith, low)) in
    rw (map-append f (sites_from b 0 ports) (spots_from w (b + 1) ss), map-append g (sites_from b 0 ports) (spots_from w (b + 1) ss), here, sites, rest) refl

pub spots_same : (w : Parts) → IsValid w → (f g : Spot → ℕ) → AreSame f g → map f (spots w) ≡ map g (spots w)
spots_same w valid f g same = let its = sound w valid in spots_same_from w its.few_actions f g same 0 (placements w) (omega (arith, its.small.branches))

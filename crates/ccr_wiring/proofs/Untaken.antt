-- No spot takes from a port that the wiring hasn't, and no branch has such a queue.
use Rattle.std.proofs.Common.{◌≡◌, ◌∙◌, ℕ, zero, suc, ◌<◌, ◌≤◌, Bool, true, false, List, [], ◌∷◌, length, Option, None, Some, refl, sym, ap, arith}
use Rattle.std.specs.Prelude.{◌==◌, filter, nat_lt, unwrap_or}
use Rattle.std.specs.List.{slice_get}
use Rattle.std.specs.Option.{option_map_or}
use Rattle.std.proofs.lemmas.Bool.Decides.{nat_tests}
use Rattle.ccr_base.specs.declared.names.Spot.{Spot}
use Rattle.ccr_base.specs.declared.names.Spot.TheVariants.{Branch, Site}
use Rattle.ccr_wiring.specs.declared.parts.Parts.{Parts}
use Rattle.ccr_wiring.specs.Spots.{pattern_ports}
use Rattle.std.proofs.lemmas.Option.{slice_get_past}
use Rattle.ccr_base.specs.Lists.{has_number}
use Rattle.ccr_base.proofs.Filters.{none_kept}
use Rattle.ccr_wiring.specs.Takers.{takes_from, spots_at, is_for, branches_of, AreListed}
use Rattle.ccr_wiring.specs.Valid.{IsValid}
use Rattle.ccr_wiring.specs.Wirings.{Placement, placement, site_port, spots}
use Rattle.ccr_wiring.proofs.Soundness.{sound}

-- numbers below the bound don't have one that isn't
below : (ports : List ℕ) (bound port : ℕ) → ((index other : ℕ) → slice_get ports index ≡ Some other → other < bound) → bound ≤ port → has_number ports port ≡ false
below [] bound port low past = refl
below (other ∷ ports) bound port low past =
    let first = low zero other refl in
    let rest = below ports bound port (λ index. low (suc index)) past in
    grind (arith, nat_tests, first, past, rest)

pub untaken : (wiring : Parts) (port : ℕ) → IsValid wiring → length wiring.ports ≤ port → spots_at wiring port ≡ []
untaken wiring port valid past = none_kept (takes_from wiring port) at (spots wiring)
  where
    at : (spot : Spot) → takes_from wiring port spot ≡ false
    at (Branch branch) = of_branch (placement wiring branch) refl
      where
        of_branch : (found : Option Placement) → placement wiring branch ≡ found → option_map_or (λ (s : Placement). has_number (pattern_ports s.branch.pattern) port) found false ≡ false
        of_branch None is = refl
        of_branch (Some s) is = below (pattern_ports s.branch.pattern) (length wiring.ports) port (λ index other. (sound wiring valid).pattern_ports branch s index other is) past
    at (Site branch site) = of_site (site_port wiring branch site) refl
      where
        of_site : (found : Option ℕ) → site_port wiring branch site ≡ found → option_map_or (λ other. other == port) found false ≡ false
        of_site None is = refl
        of_site (Some other) is = let low = (sound wiring valid).site_ports branch site other is in grind (arith, nat_tests, low, past)

pub unqueued : (wiring : Parts) (queue : ℕ) → IsValid wiring → length wiring.queues ≤ queue → branches_of wiring queue ≡ []
unqueued wiring queue valid past = none_kept (is_for wiring queue) at (spots wiring)
  where
    at : (spot : Spot) → is_for wiring queue spot ≡ false
    at (Branch branch) = of_branch (placement wiring branch) refl
      where
        of_branch : (found : Option Placement) → placement wiring branch ≡ found → option_map_or (λ (s : Placement). s.branch.queue == queue) found false ≡ false
        of_branch None is = refl
        of_branch (Some s) is = let low = (sound wiring valid).queues branch s is in grind (arith, nat_tests, low, past)
    at (Site branch site) = refl

-- the list of a number, empty where there is none
pub listed_at : (test : ℕ → Spot → Bool) (count : ℕ) (seen : List Spot) (lists : List (List Spot)) (number : ℕ) → AreListed test count seen lists → (count ≤ number → filter (test number) seen ≡ []) → unwrap_or (slice_get lists number) [] ≡ filter (test number) seen
listed_at test count seen lists number listed past = of_test (nat_lt number count) refl
  where
    of_test : (b : Bool) → nat_lt number count ≡ b → unwrap_or (slice_get lists number) [] ≡ filter (test number) seen
    of_test true low = ap (λ o. unwrap_or o []) (listed.each number (grind (arith, nat_tests, low)))
    of_test false high =
        let least : count ≤ number = grind (arith, nat_tests, high) in
        let size = listed.size in
        ap (λ o. unwrap_or o []) (slice_get_past lists number (omega (arith, least, size))) ∙ sym (past least)

-- A branch's domain has the number of an arbiter.
use Rattle.std.proofs.Common.{◌≡◌, ℕ, ◌≤◌, ◌<◌, Bool, true, false, List, [], ◌∷◌, length, Option, Some, None, refl, ◌∙◌, arith}
use Rattle.std.specs.Prelude.{option_map, if◌then◌else◌}
use Rattle.std.specs.List.{slice_get}
use Rattle.ccr_wiring.specs.declared.parts.DomainPart.{DomainPart}
use Rattle.ccr_wiring.specs.declared.parts.Parts.{Parts}
use Rattle.ccr_wiring.specs.Domains.{least_with, domain_of}
use Rattle.ccr_wiring.specs.Wirings.{Placement, placement, placements_from, in_domain}
use Rattle.ccr_wiring.proofs.DomainsOfOwnKind.{placement_of_arbiter, least-low}
use Rattle.ccr_wiring.proofs.Positions.{placement-domain}
use Rattle.ccr_base.proofs.Options.{some-below}
use Rattle.ccr_base.specs.Lists.{has_number}

-- a domain has no number above that of an arbiter in it
domain-low : (domains : List DomainPart) (arbiter : ℕ) → domain_of domains arbiter ≤ arbiter
domain-low [] arbiter = omega arith
domain-low (part ∷ parts) arbiter = of_test (has_number part.members arbiter) (domain-low parts arbiter)
  where
    of_test : (b : Bool) → domain_of parts arbiter ≤ arbiter → (if b then least_with arbiter part.members else domain_of parts arbiter) ≤ arbiter
    of_test true rest = least-low arbiter part.members
    of_test false rest = rest

-- the number of a branch's domain is that of one of the arbiters
pub placement-within : (w : Parts) (branch : ℕ) (s : Placement) → placement w branch ≡ Some s → s.domain < length w.arbiters
placement-within w branch s at = of_placement (slice_get (placements_from 0 w.arbiters) branch) refl (placement-domain w branch ∙ at)
  where
    of_placement : (o : Option Placement) → slice_get (placements_from 0 w.arbiters) branch ≡ o → option_map (in_domain w.domains) o ≡ Some s → s.domain < length w.arbiters
    of_placement None there is = absurd (cc)
    of_placement (Some r) there is =
        let placed = placement_of_arbiter 0 w.arbiters branch r there in
        let number : domain_of w.domains r.domain ≡ s.domain = cc in
        omega (arith, domain-low w.domains r.domain, placed.number, some-below w.arbiters placed.index placed.arbiter placed.at, number)

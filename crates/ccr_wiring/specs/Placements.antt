-- Where each branch stands, and the branch behind a reference.
use Rattle.std.specs.Prelude.{ℕ, zero, suc, ◌+◌, List, [], ◌∷◌, ◌++◌, length, Option}
use Rattle.std.specs.List.{slice_get}
use Rattle.std.specs.Option.{option_map, option_and_then}
use Rattle.ccr_wiring.specs.declared.parts.ArbiterPart.{ArbiterPart}
use Rattle.ccr_wiring.specs.declared.parts.BranchPart.{BranchPart}
use Rattle.ccr_wiring.specs.declared.parts.DomainPart.{DomainPart}
use Rattle.ccr_wiring.specs.declared.parts.Parts.{Parts}
use Rattle.ccr_wiring.specs.declared.placements.Position.{Position}
use Rattle.ccr_wiring.specs.declared.placements.PlacementOf.{PlacementOf}
use Rattle.ccr_wiring.specs.Domains.{domain_of}
use Rattle.ccr_wiring.specs.Wirings.{Placement}

-- the branch behind the reference, with its domain
abbrev pub placement_seen : PlacementOf → Placement
placement_seen s = record { domain = s.domain; kind = s.kind; branch = s.branch.now }

-- the positions of so many branches of one arbiter
abbrev pub positions_in : ℕ → ℕ → ℕ → List Position
positions_in arbiter domain zero = []
positions_in arbiter domain (suc count) = positions_in arbiter domain count ++ record { arbiter = arbiter; domain = domain; branch = count } ∷ []

-- the positions of the branches of the arbiters, of which the first has this number
abbrev pub positions_from : List DomainPart → ℕ → List ArbiterPart → List Position
positions_from domains number [] = []
positions_from domains number (arbiter ∷ arbiters) = positions_in number (domain_of domains number) (length arbiter.branches) ++ positions_from domains (number + 1) arbiters

-- where each branch stands, in the order of their numbers
abbrev pub positions : Parts → List Position
positions wiring = positions_from wiring.domains 0 wiring.arbiters

-- the branch at the position, where this is its arbiter
abbrev pub placement_among : Position → ArbiterPart → Option Placement
placement_among position arbiter = option_map (λ (branch : BranchPart). record { domain = position.domain; kind = arbiter.kind; branch = branch }) (slice_get arbiter.branches position.branch)

-- the branch at the position
abbrev pub placement_at : List ArbiterPart → Position → Option Placement
placement_at arbiters position = option_and_then (placement_among position) (slice_get arbiters position.arbiter)

-- Which ports the spots name.
use Rattle.std.specs.Prelude.{ℕ, ◌+◌, Bool, ◌==◌, nat_lt, List, [], ◌∷◌, ◌++◌, flat_map, count_by}
use Rattle.std.specs.List.{list_any}
use Rattle.ccr_base.specs.Bounds.{most_spots}
use Rattle.ccr_base.specs.declared.names.Spot.{Spot}
use Rattle.ccr_base.specs.declared.names.Spot.TheVariants.{Branch}
use Rattle.ccr_base.specs.declared.patterns.Pattern.{Pattern}
use Rattle.ccr_base.specs.declared.patterns.Pattern.TheVariants.{Slots, Gather}
use Rattle.ccr_wiring.specs.declared.parts.ArbiterPart.{ArbiterPart}
use Rattle.ccr_wiring.specs.declared.parts.BranchPart.{BranchPart}
use Rattle.ccr_wiring.specs.declared.parts.Parts.{Parts}
use Rattle.ccr_wiring.specs.Wirings.{awaited, actions_of, sites_from}
use Rattle.ccr_wiring.specs.Repeats.{slot_ports}

-- the ports of a pattern, in its order
abbrev pub pattern_ports : Pattern → List ℕ
pattern_ports (Slots slots) = slot_ports slots
pattern_ports (Gather total first second) = first ∷ second ∷ []

-- the ports that a branch and its sites name: each port of its pattern, and the awaited port of each site
abbrev pub branch_named : Parts → BranchPart → List ℕ
branch_named parts branch = pattern_ports branch.pattern ++ awaited (actions_of parts branch.handler)

-- the ports that branches and their sites name
abbrev pub branches_named : Parts → List BranchPart → List ℕ
branches_named parts branches = flat_map (branch_named parts) branches

-- the ports that the branches of arbiters and their sites name
abbrev pub arbiters_named : Parts → List ArbiterPart → List ℕ
arbiters_named parts arbiters = flat_map (λ (arbiter : ArbiterPart). branches_named parts arbiter.branches) arbiters

-- the ports that spots name, once for each spot
abbrev pub named_ports : Parts → List ℕ
named_ports parts = arbiters_named parts parts.arbiters

-- how often a port stands in a list
abbrev pub times : ℕ → List ℕ → ℕ
times port ports = count_by (λ other. other == port) ports

-- whether some port stands there more than 16 times
abbrev pub has_crowded : List ℕ → Bool
has_crowded ports = list_any (λ port. nat_lt most_spots (times port ports)) ports

-- more than 16 spots name one port
abbrev pub has_crowded_port : Parts → Bool
has_crowded_port parts = has_crowded (named_ports parts)

-- branches of which the first has this number, each followed by its sites
abbrev pub branch_spots : Parts → ℕ → List BranchPart → List Spot
branch_spots parts number [] = []
branch_spots parts number (branch ∷ branches) = Branch number ∷ sites_from number 0 (awaited (actions_of parts branch.handler)) ++ branch_spots parts (number + 1) branches

-- the branches of the arbiters, in order
abbrev pub all_branches : List ArbiterPart → List BranchPart
all_branches arbiters = flat_map (λ (arbiter : ArbiterPart). arbiter.branches) arbiters

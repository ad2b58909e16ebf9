-- The names of the branches, and the word for a spot.
use Rattle.std.specs.Prelude.{ℕ, List, [], ◌∷◌, ◌++◌, map, flat_map, decimal, unwrap_or}
use Rattle.std.specs.List.{slice_get}
use Rattle.ccr_base.specs.declared.names.Spot.{Spot}
use Rattle.ccr_base.specs.declared.names.Spot.TheVariants.{Branch, Site}
use Rattle.ccr_wiring.specs.declared.parts.ArbiterPart.{ArbiterPart}
use Rattle.ccr_wiring.specs.declared.parts.BranchPart.{BranchPart}
use Rattle.ccr_wiring.specs.declared.parts.Parts.{Parts}

-- the name at a number, or none
abbrev pub name_at : List (List ℕ) → ℕ → List ℕ
name_at names number = unwrap_or (slice_get names number) []

-- the names of the arbiter's branches
abbrev pub branch_names_of : ArbiterPart → List (List ℕ)
branch_names_of arbiter = map (λ (part : BranchPart). part.name) arbiter.branches

-- the names of the branches, which are numbered through all arbiters
abbrev pub branch_names : Parts → List (List ℕ)
branch_names parts = flat_map branch_names_of parts.arbiters

-- a branch's name, or NAME@K for its site K
abbrev pub spot_word : List (List ℕ) → Spot → List ℕ
spot_word branches (Branch branch) = name_at branches branch
spot_word branches (Site branch site) = name_at branches branch ++ 64 ∷ decimal site

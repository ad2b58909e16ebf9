-- The index of a spot, and the indices of the branches.
use Rattle.std.specs.Prelude.{ℕ, zero, suc, ◌+◌, Bool, List, [], ◌∷◌, Option, None, Some, option_map, if◌then◌else◌}
use Rattle.ccr_base.specs.declared.names.Spot.{Spot}
use Rattle.ccr_base.specs.declared.names.Spot.TheVariants.{Branch, Site}

-- the index of the first item that passes the test
abbrev pub first_index : {T : Type 0} → (T → Bool) → List T → Option ℕ
first_index test [] = None
first_index test (item ∷ items) = if test item then Some zero else option_map suc (first_index test items)

-- the indices of the branches, where the first spot has this index
abbrev pub branch_indices : ℕ → List Spot → List ℕ
branch_indices index [] = []
branch_indices index (Branch branch ∷ seen) = index ∷ branch_indices (index + 1) seen
branch_indices index (Site branch site ∷ seen) = branch_indices (index + 1) seen

-- The branches that lacked room when they were asked, by their queues.
use Rattle.std.specs.Prelude.{◌≡◌, ℕ, ◌==◌, Bool, true, false, nat_lt, List, length, Option, None, Some, option_map}
use Rattle.std.specs.List.{list_any}
use Rattle.std.specs.Option.{option_map_or}
use Rattle.ccr_base.specs.declared.names.Spot.{Spot}
use Rattle.ccr_base.specs.declared.names.Spot.TheVariants.{Branch, Site}
use Rattle.ccr_base.specs.Lists.{has_number}
use Rattle.ccr_wiring.specs.declared.parts.Parts.{Parts}
use Rattle.ccr_wiring.specs.Wirings.{Placement, placement, spots}
use Rattle.ccr_ledger.specs.Rows.{row}
use Rattle.ccr_ledger.specs.Books.{Books}
use Rattle.ccr_ledger.specs.Asked.{room}
use Rattle.ccr_engine.specs.Ready.{IsLeastFirst}
use Rattle.ccr_engine.specs.Numbered.{passes_at}

-- the queue of a branch; a site has none
abbrev pub branch_queue : Parts → Spot → Option ℕ
branch_queue wiring (Branch branch) = option_map (λ (s : Placement). s.branch.queue) (placement wiring branch)
branch_queue wiring (Site branch site) = None

-- whether the spot is a branch on the queue
abbrev pub is_on : Parts → ℕ → Spot → Bool
is_on wiring queue spot = option_map_or (λ other. other == queue) (branch_queue wiring spot) false

-- whether the index is blocked at some queue
abbrev pub is_blocked : List (List ℕ) → ℕ → Bool
is_blocked blocked index = list_any (λ indices. has_number indices index) blocked

-- for each queue of the wiring indices of branches on it, the least first
pub record AreBlocked (wiring : Parts) (blocked : List (List ℕ)) : Type 0 where
  pub size : length blocked ≡ length wiring.queues
  pub on_queue : (queue index : ℕ) → has_number (row blocked queue) index ≡ true → passes_at (is_on wiring queue) (spots wiring) index ≡ true
  pub lowest : (queue : ℕ) → IsLeastFirst (row blocked queue)

-- whether the index is before the limit; each is where there is none
abbrev pub is_before : Option ℕ → ℕ → Bool
is_before None index = true
is_before (Some limit) index = nat_lt index limit

-- no blocked branch before the limit has room
abbrev pub IsFullBefore : Parts → Books → List (List ℕ) → Option ℕ → Type 0
IsFullBefore wiring books blocked limit = (queue index : ℕ) → has_number (row blocked queue) index ≡ true → is_before limit index ≡ true → passes_at (room wiring books) (spots wiring) index ≡ false

-- asking a spot leaves all blocked that was, and no more room to the blocked ones
pub record Blocks (wiring : Parts) (books : Books) (old new : List (List ℕ)) : Type 0 where
  pub blocked : AreBlocked wiring new
  pub more : (index : ℕ) → is_blocked old index ≡ true → is_blocked new index ≡ true
  pub full : (limit : Option ℕ) → IsFullBefore wiring books old limit → IsFullBefore wiring books new limit

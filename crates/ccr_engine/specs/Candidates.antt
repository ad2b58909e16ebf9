-- The spots among which the first that can fire is searched for.
use Rattle.std.specs.Prelude.{◌≡◌, ℕ, ◌<◌, true, false, List, Option, Some, IfSome, option_map}
use Rattle.std.specs.List.{slice_get}
use Rattle.ccr_base.specs.declared.names.TaskId.{TaskId}
use Rattle.ccr_base.specs.Lists.{has_number}
use Rattle.ccr_wiring.specs.declared.parts.Parts.{Parts}
use Rattle.ccr_wiring.specs.Wirings.{spots}
use Rattle.ccr_ledger.specs.Rows.{row}
use Rattle.ccr_ledger.specs.Books.{Books}
use Rattle.ccr_ledger.specs.Asked.{room}
use Rattle.ccr_engine.specs.declared.search.Found.{Found}
use Rattle.ccr_engine.specs.Ready.{IsLeastFirst}
use Rattle.ccr_engine.specs.Numbered.{passes_at}
use Rattle.ccr_engine.specs.Blocked.{AreBlocked, is_before, is_blocked}
use Rattle.ccr_engine.specs.Parts.{could_fire_in, fires_in, IsStillIn}

-- no spot can fire, room aside, but the touched ones, of which the least is the first, and those that are blocked at their queues
pub record AreCandidates (wiring : Parts) (books : Books) (touched : List ℕ) (blocked : List (List ℕ)) : Type 0 where
  pub still : IsStillIn wiring books touched blocked
  pub lowest : IsLeastFirst touched
  pub by_queue : AreBlocked wiring blocked

-- no spot before the limit can fire
abbrev pub IsNoneBefore : Parts → TaskId → Books → Option ℕ → Type 0
IsNoneBefore wiring task books limit = (index : ℕ) → is_before limit index ≡ true → passes_at (fires_in wiring task books) (spots wiring) index ≡ false

-- none of the branches that were blocked and aren't any more can fire, room aside
abbrev pub IsLeftInVain : Parts → Books → List (List ℕ) → List (List ℕ) → Type 0
IsLeftInVain wiring books old new = (index : ℕ) → is_blocked old index ≡ true → is_blocked new index ≡ false → passes_at (could_fire_in wiring books) (spots wiring) index ≡ false

-- its index, if there is one
abbrev pub index_of : Option Found → Option ℕ
index_of found = option_map (λ (one : Found). one.index) found

-- the index is the least that is blocked at the queue, and its branch has room
pub record IsOpen (wiring : Parts) (books : Books) (blocked : List (List ℕ)) (one : Found) : Type 0 where
  pub least : slice_get (row blocked one.queue) 0 ≡ Some one.index
  pub roomy : passes_at (room wiring books) (spots wiring) one.index ≡ true

-- of the branches that are blocked at so many of the first queues, the first that has room, if any
pub record IsFirstOpen (wiring : Parts) (books : Books) (blocked : List (List ℕ)) (count : ℕ) (found : Option Found) : Type 0 where
  pub is_open : IfSome found (IsOpen wiring books blocked)
  pub full : (queue index : ℕ) → queue < count → has_number (row blocked queue) index ≡ true → is_before (index_of found) index ≡ true → passes_at (room wiring books) (spots wiring) index ≡ false

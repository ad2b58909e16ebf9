-- Lanes: for a predicate, the keys of the messages that satisfy it, oldest first.
use Rattle.std.specs.Prelude.{◌≡◌, ⊤, ℕ, ◌+◌, ◌^◌, Bool, true, not, ◌&&◌, ◌||◌, nat_lt, List, [], ◌∷◌, ◌++◌, length, Option, Some, if◌then◌else◌}
use Rattle.std.specs.List.{slice_get, list_all}
use Rattle.std.specs.Option.{option_map_or}
use Rattle.ccr_base.specs.declared.messages.Msg.{Msg}
use Rattle.ccr_base.specs.declared.patterns.Pred.{Pred}
use Rattle.ccr_base.specs.Selection.{holds}
use Rattle.ccr_port.specs.declared.links.Link.{Link}
use Rattle.ccr_port.specs.Chains.{behind_of, before_of, keys_from, has_key, without_key, IsChain}

-- the predicate of a lane and its keys; there is room for the keys below this number
pub record KeyLaneState : Type 0 where
  pub pred : Pred
  pub keys : List ℕ
  pub room : ℕ

-- the keys of the messages that satisfy the predicate
abbrev pub fitting_keys : Pred → List (ℕ × Msg) → List ℕ
fitting_keys pred [] = []
fitting_keys pred (entry ∷ entries) = if holds pred entry.1.value then entry.0 ∷ fitting_keys pred entries else fitting_keys pred entries

-- each lane has the keys of the messages that satisfy its predicate
abbrev pub AreLanes : List (ℕ × Msg) → List KeyLaneState → Type 0
AreLanes entries [] = ⊤
AreLanes entries (lane ∷ lanes) = (lane.keys ≡ fitting_keys lane.pred entries) × AreLanes entries lanes

-- a lane of the predicate stands at the number
abbrev pub HasLane : List KeyLaneState → ℕ → Pred → Type 0
HasLane lanes number pred = (lane : KeyLaneState) × (slice_get lanes number ≡ Some lane) × (lane.pred ≡ pred)

-- whether a key that isn't in the lane has room in it
abbrev pub can_enter : ℕ → KeyLaneState → Bool
can_enter key lane = nat_lt key lane.room && (not (has_key key lane.keys) && nat_lt (length lane.keys + 1) (2 ^ 32))

-- whether the key is in the lane, where the value satisfies its predicate
abbrev pub can_leave : ℕ → List ℕ → KeyLaneState → Bool
can_leave key value lane = not (holds lane.pred value) || has_key key lane.keys

-- the key stands last
abbrev pub appended : ℕ → KeyLaneState → KeyLaneState
appended key lane = record lane { keys = lane.keys ++ key ∷ [] }

-- the key is gone
abbrev pub unlinked : ℕ → KeyLaneState → KeyLaneState
unlinked key lane = record lane { keys = without_key key lane.keys }

-- the key stands last, where the value satisfies the predicate
abbrev pub entered : ℕ → List ℕ → KeyLaneState → KeyLaneState
entered key value lane = if holds lane.pred value then appended key lane else lane

-- the key is gone, where the value satisfies the predicate
abbrev pub left : ℕ → List ℕ → KeyLaneState → KeyLaneState
left key value lane = if holds lane.pred value then unlinked key lane else lane

-- whether the point is below the number, where it is a key
abbrev pub is_below : ℕ → Option ℕ → Bool
is_below number point = option_map_or (λ key. nat_lt key number) point true

-- the keys from the first on
abbrev pub lane_keys : List Link → Option ℕ → ℕ → List ℕ
lane_keys links first count = keys_from (behind_of (slice_get links) first) count first

-- so many keys are linked from the first to the last, each with its link
pub record IsLinkedLane (links : List Link) (first last : Option ℕ) (count : ℕ) : Type 0 where
  pub chain : IsChain (behind_of (slice_get links) first) (before_of (slice_get links) last) (lane_keys links first count)
  pub long : length (lane_keys links first count) ≡ count
  pub low : list_all (λ key. nat_lt key (length links)) (lane_keys links first count) ≡ true

-- the same predicates and keys, lane by lane; the rooms may differ
abbrev pub AreSame : List KeyLaneState → List KeyLaneState → Type 0
AreSame [] [] = ⊤
AreSame [] (lane ∷ lanes) = ⊥
AreSame (other ∷ others) [] = ⊥
AreSame (other ∷ others) (lane ∷ lanes) = (lane.pred ≡ other.pred) × (lane.keys ≡ other.keys) × AreSame others lanes

-- whether each lane has room for the key
abbrev pub have_room : ℕ → List KeyLaneState → Bool
have_room key lanes = list_all (λ (lane : KeyLaneState). nat_lt key lane.room) lanes

-- Indices of messages, and the lanes that find the oldest that satisfy a predicate.
use Rattle.std.specs.Prelude.{◌≡◌, ℕ, ◌+◌, ◌-◌, Bool, true, false, nat_lt, List, [], ◌∷◌, ◌++◌, length, filter, flat_map, take, Option, Some, None, is_some, option_to_list, option_map, option_and_then, if◌then◌else◌}
use Rattle.std.specs.List.{slice_get, list_all}
use Rattle.std.specs.Option.{option_map_or}
use Rattle.ccr_base.specs.declared.names.MsgId.{MsgId}
use Rattle.ccr_base.specs.declared.messages.Msg.{Msg}
use Rattle.ccr_base.specs.declared.patterns.Pred.{Pred}
use Rattle.ccr_base.specs.Selection.{holds}

-- the predicate of a lane, its indices, and how many messages that satisfy the predicate are there
pub record IndexLaneState : Type 0 where
  pub pred : Pred
  pub indices : List ℕ
  pub count : ℕ

-- the messages that are still there
abbrev pub present : List (Option Msg) → List Msg
present items = flat_map option_to_list items

-- whether the message of the index is still there
abbrev pub is_here : List (Option Msg) → ℕ → Bool
is_here items index = option_map_or is_some (slice_get items index) false

-- whether there is a message that satisfies the predicate
abbrev pub fits : Pred → Option Msg → Bool
fits pred item = option_map_or (λ (m : Msg). holds pred m.value) item false

-- the indices of the messages that satisfy the predicate, where the first has this index
abbrev pub fitting_indices : ℕ → Pred → List (Option Msg) → List ℕ
fitting_indices index pred [] = []
fitting_indices index pred (item ∷ items) = if fits pred item then index ∷ fitting_indices (index + 1) pred items else fitting_indices (index + 1) pred items

-- the lane with the index last and one message more, where the value satisfies its predicate
abbrev pub entered : ℕ → List ℕ → IndexLaneState → IndexLaneState
entered index value lane = if holds lane.pred value then record lane { indices = lane.indices ++ index ∷ []; count = lane.count + 1 } else lane

-- the lane with one message less, where the value satisfies its predicate
abbrev pub lost : List ℕ → IndexLaneState → IndexLaneState
lost value lane = if holds lane.pred value then record lane { count = lane.count - 1 } else lane

-- the lane with the index last, where a message is there and satisfies its predicate
abbrev pub entered_item : ℕ → Option Msg → IndexLaneState → IndexLaneState
entered_item index None lane = lane
entered_item index (Some m) lane = entered index m.value lane

-- the indices of a lane whose messages are still there are those that fit, and it counts these
pub record IsLane (items : List (Option Msg)) (lane : IndexLaneState) : Type 0 where
  pub low : list_all (λ index. nat_lt index (length items)) lane.indices ≡ true
  pub whole : filter (is_here items) lane.indices ≡ fitting_indices 0 lane.pred items
  pub counted : lane.count ≡ length (fitting_indices 0 lane.pred items)

-- each of the lanes
abbrev pub AreLanes : List (Option Msg) → List IndexLaneState → Type 0
AreLanes items [] = Unit {0}
AreLanes items (lane ∷ lanes) = IsLane items lane × AreLanes items lanes

-- a lane of the predicate stands at the number
abbrev pub HasLane : List IndexLaneState → ℕ → Pred → Type 0
HasLane lanes number pred = (lane : IndexLaneState) × (slice_get lanes number ≡ Some lane) × (lane.pred ≡ pred)

-- a lane whose first indices, so many, are these stands at the number
abbrev pub HasPrefix : List IndexLaneState → ℕ → List ℕ → ℕ → Type 0
HasPrefix lanes number prefix most = (lane : IndexLaneState) × (slice_get lanes number ≡ Some lane) × (take most lane.indices ≡ prefix)

-- the name of the message of the index, while it is there
abbrev pub name_at : List (Option Msg) → ℕ → Option MsgId
name_at items index = option_and_then (λ item. option_map (λ (m : Msg). m.id) item) (slice_get items index)

-- the names of the messages of the indices
abbrev pub names_at : List (Option Msg) → List ℕ → List MsgId
names_at items indices = flat_map (λ index. option_to_list (name_at items index)) indices

-- Which messages a firing may take.
use Rattle.std.specs.Prelude.{ℕ, ◌+◌, ◌-◌, Bool, true, false, ◌==◌, ◌&&◌, ◌||◌, nat_lt, List, [], ◌∷◌, ◌++◌, length, take, Option, Some, None, option_and_then, if◌then◌else◌}
use Rattle.std.specs.Option.{option_map_or}
use Rattle.ccr_base.specs.declared.names.MsgId.{MsgId}
use Rattle.ccr_base.specs.declared.messages.Msg.{Msg}
use Rattle.ccr_base.specs.declared.patterns.Slot.{Slot}
use Rattle.ccr_base.specs.declared.patterns.Pattern.{Pattern}
use Rattle.ccr_base.specs.declared.patterns.Pattern.TheVariants.{Slots, Gather}
use Rattle.ccr_base.specs.declared.names.Spot.{Spot}
use Rattle.ccr_base.specs.declared.names.Spot.TheVariants.{Branch, Site}
use Rattle.ccr_wiring.specs.declared.parts.Parts.{Parts}
use Rattle.ccr_model.specs.declared.history.Event.{Event}
use Rattle.ccr_base.specs.Selection.{selection}
use Rattle.ccr_base.specs.Names.{same_message, same_lists}
pub use Rattle.ccr_base.specs.Names.{names_of}
use Rattle.ccr_model.specs.Posts.{held}
use Rattle.ccr_wiring.specs.Wirings.{Placement, placement, site_port}

-- both, one behind the other; none where one is missing
abbrev pub joined : Option (List Msg) → Option (List Msg) → Option (List Msg)
joined (Some front) (Some back) = Some (front ++ back)
joined _ _ = None

-- slot by slot, each from what its port holds; none where a slot has too few
abbrev pub selection_of_slots : (ℕ → List Msg) → List Slot → Option (List Msg)
selection_of_slots held_at [] = Some []
selection_of_slots held_at (slot ∷ slots) = joined (selection slot (held_at slot.port)) (selection_of_slots held_at slots)

-- whether the names are those of a first part of the messages
abbrev pub are_first : List Msg → List MsgId → Bool
are_first messages [] = true
are_first [] (name ∷ names) = false
are_first (m ∷ messages) (name ∷ names) = same_message m.id name && are_first messages names

-- whether the names are those of a first part of one list, followed by a first part of the other
abbrev pub are_split : List Msg → List Msg → List MsgId → Bool
are_split first second [] = true
are_split [] second (name ∷ names) = are_first second (name ∷ names)
are_split (m ∷ first) second (name ∷ names) = are_first second (name ∷ names) || (same_message m.id name && are_split first second names)

-- whether the names are a selection of the pattern: of slots the one selection, of a gather any split that gives its total
abbrev pub is_selection_of : (ℕ → List Msg) → Pattern → List MsgId → Bool
is_selection_of held_at (Slots slots) names = option_map_or (λ messages. same_lists same_message (names_of messages) names) (selection_of_slots held_at slots) false
is_selection_of held_at (Gather total first second) names = (length names == total) && are_split (held_at first) (held_at second) names

-- the one oldest message
abbrev pub are_oldest : List Msg → List MsgId → Bool
are_oldest messages names = (length names == 1) && are_first messages names

-- whether a firing at the spot may take the messages of these names: of a branch a selection of its pattern, of a site the one oldest message of the awaited port
abbrev pub is_selection : Parts → List Event → Spot → List MsgId → Bool
is_selection wiring history (Branch branch) names = option_map_or (λ (s : Placement). is_selection_of (held history) s.branch.pattern names) (placement wiring branch) false
is_selection wiring history (Site branch site) names = option_map_or (λ port. are_oldest (held history port) names) (site_port wiring branch site) false

-- of a gather as many as can be had from the lower-numbered port
abbrev pub engine_gather : ℕ → ℕ → ℕ → List Msg → List Msg → Option (List Msg)
engine_gather total first second a b =
    if nat_lt (length a + length b) total then None else
    if nat_lt first second then Some (take total a ++ take (total - length a) b) else Some (take (total - length b) a ++ take total b)

-- the selection that one thread makes of the pattern
abbrev pub engine_selection_of : (ℕ → List Msg) → Pattern → Option (List Msg)
engine_selection_of held_at (Slots slots) = selection_of_slots held_at slots
engine_selection_of held_at (Gather total first second) = engine_gather total first second (held_at first) (held_at second)

-- the oldest message alone
abbrev pub oldest : List Msg → Option (List Msg)
oldest [] = None
oldest (m ∷ messages) = Some (m ∷ [])

-- the selection that one thread makes at the spot
abbrev pub engine_selection : Parts → List Event → Spot → Option (List Msg)
engine_selection wiring history (Branch branch) = option_and_then (λ (s : Placement). engine_selection_of (held history) s.branch.pattern) (placement wiring branch)
engine_selection wiring history (Site branch site) = option_and_then (λ port. oldest (held history port)) (site_port wiring branch site)

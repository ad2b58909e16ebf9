-- Which spots can fire: those that are live and have room, and whose ports hold enough.
use Rattle.std.specs.Prelude.{ℕ, ◌+◌, Bool, false, ◌&&◌, nat_lt, nat_le, List, length}
use Rattle.std.specs.List.{list_all}
use Rattle.std.specs.Option.{option_map_or}
use Rattle.ccr_base.specs.declared.messages.Msg.{Msg}
use Rattle.ccr_base.specs.declared.patterns.Slot.{Slot}
use Rattle.ccr_base.specs.declared.patterns.Pattern.{Pattern}
use Rattle.ccr_base.specs.declared.patterns.Pattern.TheVariants.{Slots, Gather}
use Rattle.ccr_base.specs.declared.names.Spot.{Spot}
use Rattle.ccr_base.specs.declared.names.Spot.TheVariants.{Branch, Site}
use Rattle.ccr_base.specs.Selection.{is_choosable}
use Rattle.ccr_wiring.specs.declared.parts.Parts.{Parts}
use Rattle.ccr_wiring.specs.Wirings.{Placement, placement, site_port}
use Rattle.ccr_model.specs.declared.history.Event.{Event}
use Rattle.ccr_model.specs.Posts.{held}
use Rattle.ccr_model.specs.Live.{is_live, has_room}

-- whether the ports hold enough for the pattern: for each slot, or for the gather in both its ports together
abbrev pub has_enough : (ℕ → List Msg) → Pattern → Bool
has_enough held_at (Slots slots) = list_all (λ (slot : Slot). is_choosable slot (held_at slot.port)) slots
has_enough held_at (Gather total first second) = nat_le total (length (held_at first) + length (held_at second))

-- whether there is something for the spot to take: of a branch enough for its pattern, of a site a message of the awaited port
abbrev pub can_take : Parts → List Event → Spot → Bool
can_take wiring history (Branch branch) = option_map_or (λ (s : Placement). has_enough (held history) s.branch.pattern) (placement wiring branch) false
can_take wiring history (Site branch site) = option_map_or (λ port. nat_lt 0 (length (held history port))) (site_port wiring branch site) false

-- whether the spot can fire
abbrev pub can_fire : Parts → List Event → Spot → Bool
can_fire wiring history spot = is_live wiring history spot && has_room wiring history spot && can_take wiring history spot

-- How many events may come.
use Rattle.std.specs.Prelude.{◌≡◌, ℕ, ◌+◌, ◌-◌, ◌*◌, Bool, true, ◌&&◌, nat_le, List, length, Some}
use Rattle.std.specs.List.{list_any}
use Rattle.ccr_base.specs.declared.patterns.Slot.{Slot}
use Rattle.ccr_base.specs.declared.patterns.Pattern.{Pattern}
use Rattle.ccr_base.specs.declared.patterns.Pattern.TheVariants.{Slots, Gather}
use Rattle.ccr_wiring.specs.declared.parts.Parts.{Parts}
use Rattle.ccr_wiring.specs.Wirings.{Placement, placement}
use Rattle.ccr_wiring.specs.Limits.{posts_in_all}
use Rattle.ccr_model.specs.declared.history.Event.{Event}

-- whether a selection by the pattern has at least one message
abbrev pub takes_some : Pattern → Bool
takes_some (Slots slots) = list_any (λ (slot : Slot). nat_le 1 slot.least && nat_le 1 slot.most) slots
takes_some (Gather total first second) = nat_le 1 total

-- no branch fires on nothing
abbrev pub TakesSome : Parts → Type 0
TakesSome wiring = (branch : ℕ) (s : Placement) → placement wiring branch ≡ Some s → takes_some s.branch.pattern ≡ true

-- each message that may be posted makes at most six events: its post, and the firing that takes it with the admission, the put, the start and the end of that task
unfoldable pub event_bound : Parts → ℕ
event_bound wiring = 6 * (posts_in_all wiring.posters + wiring.budget)

-- no more events than these come
abbrev pub potential : Parts → List Event → ℕ
potential wiring history = event_bound wiring - length history

-- Which spots may fire once more.
use Rattle.std.specs.Prelude.{ℕ, Bool, true, false, not, ◌==◌, ◌&&◌, nat_lt, List, length}
use Rattle.std.specs.Option.{option_map_or}
use Rattle.ccr_base.specs.declared.names.TaskId.{TaskId}
use Rattle.ccr_base.specs.declared.names.Spot.{Spot}
use Rattle.ccr_base.specs.declared.names.Spot.TheVariants.{Branch, Site}
use Rattle.ccr_wiring.specs.declared.parts.Parts.{Parts}
use Rattle.ccr_base.specs.declared.policies.Group.{Group}
use Rattle.ccr_base.specs.declared.policies.Group.TheVariants.{Once, Always, Choice}
use Rattle.ccr_base.specs.declared.policies.Policy.{Policy}
use Rattle.ccr_base.specs.declared.policies.Policy.TheVariants.{Throttle}
use Rattle.ccr_model.specs.declared.history.Event.{Event}
use Rattle.ccr_wiring.specs.Wirings.{Placement, placement, policy_of}
use Rattle.ccr_model.specs.Firings.{fired_at}
use Rattle.ccr_model.specs.Sites.{suspended}
use Rattle.ccr_model.specs.Tasks.{fired_by, is_teardown, coming}

-- no task at all
abbrev pub is_none_of : List TaskId → Bool
is_none_of tasks = length tasks == 0

-- an always branch: at any time; once: until it fired; of a choice: until a branch of the choice fired; of an Interleave: until a teardown of its domain fired
abbrev pub is_live_in : Parts → List Event → ℕ → ℕ → Group → Bool
is_live_in wiring history branch domain Always = true
is_live_in wiring history branch domain Once = is_none_of (fired_at history (Branch branch))
is_live_in wiring history branch domain Choice = is_none_of (fired_by wiring (λ s. s.domain == domain) history)
is_live_in wiring history branch domain _ = is_none_of (fired_by wiring (λ s. (s.domain == domain) && is_teardown s.branch.group) history)

-- whether the spot may fire once more: a branch by its group, a site while a task is suspended there
abbrev pub is_live : Parts → List Event → Spot → Bool
is_live wiring history (Branch branch) = option_map_or (λ (s : Placement). is_live_in wiring history branch s.domain s.branch.group) (placement wiring branch) false
is_live wiring history (Site branch site) = not (is_none_of (suspended history (Site branch site)))

-- on a throttle queue: while fewer of its tasks than its number are on their way or queued
abbrev pub has_room_in : Parts → List Event → ℕ → Policy → Bool
has_room_in wiring history queue (Throttle n) = nat_lt (length (coming wiring history queue)) n
has_room_in wiring history queue _ = true

-- whether the queue lets the spot fire
abbrev pub has_room : Parts → List Event → Spot → Bool
has_room wiring history (Branch branch) = option_map_or (λ (s : Placement). has_room_in wiring history s.branch.queue (policy_of wiring s.branch.queue)) (placement wiring branch) true
has_room wiring history (Site branch site) = true

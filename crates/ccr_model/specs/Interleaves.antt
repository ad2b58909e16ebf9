-- Branches of a domain of Interleaves, and the tasks of its roots. A domain is one Interleave, or those that are combined with it.
use Rattle.std.specs.Prelude.{ℕ, Bool, false, not, ◌==◌, ◌&&◌, List}
use Rattle.std.specs.Option.{option_map_or}
use Rattle.ccr_base.specs.declared.names.TaskId.{TaskId}
use Rattle.ccr_base.specs.declared.names.Spot.{Spot}
use Rattle.ccr_wiring.specs.declared.parts.Parts.{Parts}
use Rattle.ccr_wiring.specs.Wirings.{Placement}
use Rattle.ccr_model.specs.declared.history.Event.{Event}
use Rattle.ccr_model.specs.TaskData.{placement_of}
use Rattle.ccr_model.specs.Tasks.{is_interleave, is_teardown, is_concurrent, is_branch_where, fired_by}

-- whether the branch is one of the domain's Interleaves
abbrev pub is_placement_in : ℕ → Placement → Bool
is_placement_in domain s = is_interleave s.kind && (s.domain == domain)

-- whether the branch is a teardown branch of the domain
abbrev pub is_teardown_in : ℕ → Placement → Bool
is_teardown_in domain s = is_placement_in domain s && is_teardown s.branch.group

-- whether the branch is an exclusive or teardown branch of the domain, that is one that isn't concurrent
abbrev pub is_exclusive_in : ℕ → Placement → Bool
is_exclusive_in domain s = is_placement_in domain s && not (is_concurrent s.branch.group)

-- whether the spot is a teardown branch of the domain
abbrev pub tears_down : Parts → ℕ → Spot → Bool
tears_down wiring domain spot = is_branch_where wiring (is_teardown_in domain) spot

-- the tasks that branches of the domain fired, in order
abbrev pub fired_in : Parts → List Event → ℕ → List TaskId
fired_in wiring history domain = fired_by wiring (is_placement_in domain) history

-- whether the task fired at a branch of the domain or at one of its sites
abbrev pub is_of_interleave : Parts → List Event → ℕ → TaskId → Bool
is_of_interleave wiring history domain task = option_map_or (is_placement_in domain) (placement_of wiring history task) false

-- whether it fired at a teardown branch of the domain or at one of its sites
abbrev pub is_of_teardown : Parts → List Event → ℕ → TaskId → Bool
is_of_teardown wiring history domain task = option_map_or (is_teardown_in domain) (placement_of wiring history task) false

-- whether it fired at an exclusive or teardown branch of the domain or at one of its sites
abbrev pub is_of_exclusive : Parts → List Event → ℕ → TaskId → Bool
is_of_exclusive wiring history domain task = option_map_or (is_exclusive_in domain) (placement_of wiring history task) false

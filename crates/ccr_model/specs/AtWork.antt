-- Who is at work: queued, running or suspended.
use Rattle.std.specs.Prelude.{Bool, false, ◌||◌, List}
use Rattle.std.specs.Option.{option_map_or}
use Rattle.ccr_base.specs.declared.names.TaskId.{TaskId}
use Rattle.ccr_base.specs.Names.{has_task}
use Rattle.ccr_wiring.specs.declared.parts.Parts.{Parts}
use Rattle.ccr_wiring.specs.Wirings.{Placement, next_site}
use Rattle.ccr_model.specs.declared.history.Event.{Event}
use Rattle.ccr_model.specs.Firings.{spot_of}
use Rattle.ccr_model.specs.Sites.{suspended}
use Rattle.ccr_model.specs.TaskData.{placement_of}
use Rattle.ccr_model.specs.Tasks.{queued, running}

-- whether the task is queued, in the queue of its branch
abbrev pub is_queued : Parts → List Event → TaskId → Bool
is_queued wiring history task = option_map_or (λ (s : Placement). has_task (queued wiring history s.branch.queue) task) (placement_of wiring history task) false

-- whether the task is suspended, at the site behind its segment
abbrev pub is_suspended : List Event → TaskId → Bool
is_suspended history task = option_map_or (λ spot. has_task (suspended history (next_site spot)) task) (spot_of history task) false

-- whether the task is queued, runs or is suspended
abbrev pub is_at_work : Parts → List Event → TaskId → Bool
is_at_work wiring history task = is_queued wiring history task || has_task (running history) task || is_suspended history task

-- Who is suspended, and whom a firing at a site resumes.
use Rattle.std.specs.Prelude.{ℕ, zero, suc, Bool, false, List, [], ◌∷◌, length, drop, filter, Option, if◌then◌else◌}
use Rattle.std.specs.List.{slice_get}
use Rattle.std.specs.Option.{option_map_or}
use Rattle.ccr_base.specs.declared.names.TaskId.{TaskId}
use Rattle.ccr_base.specs.declared.names.Spot.{Spot}
use Rattle.ccr_base.specs.declared.names.Spot.TheVariants.{Site}
use Rattle.ccr_model.specs.declared.history.Event.{Event}
use Rattle.ccr_model.specs.declared.history.Event.TheVariants.{Fire}
use Rattle.ccr_base.specs.Names.{same_task, same_spot}
use Rattle.ccr_wiring.specs.Wirings.{next_site, branch_of, segment_of}
use Rattle.ccr_model.specs.Firings.{fired_at, spot_of, yielded}

-- whether a yield of the task suspends it at the site
abbrev pub yields_at : List Event → Spot → TaskId → Bool
yields_at history site task = option_map_or (λ spot. same_spot (next_site spot) site) (spot_of history task) false

-- the tasks that ended as yield at the site, by their ends
abbrev pub yielded_at : List Event → Spot → List TaskId
yielded_at history site = filter (yields_at history site) (yielded history)

-- those that no firing at the site has resumed: each firing resumes the first
abbrev pub suspended : List Event → Spot → List TaskId
suspended history site = drop (length (fired_at history site)) (yielded_at history site)

-- whether the event is the firing of the task
abbrev pub is_firing_of : TaskId → Event → Bool
is_firing_of task (Fire other spot messages cuts) = same_task other task
is_firing_of task _ = false

-- the events before the firing of the task
abbrev pub before : TaskId → List Event → List Event
before task [] = []
before task (event ∷ events) = if is_firing_of task event then [] else event ∷ before task events

-- the task for which this one, fired at the site, goes on: the first that was suspended there
abbrev pub resumed : List Event → Spot → TaskId → Option TaskId
resumed history site task = slice_get (suspended (before task history) site) 0

-- the root of a task that runs the segment of the branch
abbrev pub root_at : List Event → ℕ → ℕ → TaskId → TaskId
root_at history branch zero task = task
root_at history branch (suc site) task = option_map_or (λ (u : TaskId). root_at history branch site u) (resumed history (Site branch site) task) task

-- the task that the branch fired, of which this one is a segment: itself, or the root of the one that it goes on for
abbrev pub root_of : List Event → TaskId → TaskId
root_of history task = option_map_or (λ spot. root_at history (branch_of spot) (segment_of spot) task) (spot_of history task) task

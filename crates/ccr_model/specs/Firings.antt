-- What stands in the history of tasks.
use Rattle.std.specs.Prelude.{Bool, List, [], ◌∷◌, map, filter, flat_map, find, Option, option_map, option_to_list}
use Rattle.ccr_base.specs.declared.names.TaskId.{TaskId}
use Rattle.ccr_base.specs.declared.names.MsgId.{MsgId}
use Rattle.ccr_base.specs.declared.names.Spot.{Spot}
use Rattle.ccr_model.specs.declared.history.Event.{Event}
use Rattle.ccr_model.specs.declared.history.Event.TheVariants.{Fire, Admit, Put, Start, End}
use Rattle.ccr_model.specs.declared.history.EndHow.TheVariants.{Done, Failed, Yield, Shed}
use Rattle.ccr_base.specs.Names.{same_task, same_spot}

-- a firing: its task, where, the messages that it took and the tasks that it cut
pub record Firing : Type 0 where
  pub task : TaskId
  pub spot : Spot
  pub messages : List MsgId
  pub cuts : List TaskId

-- the firing that the event is, if it is one
abbrev pub firing_of : Event → List Firing
firing_of (Fire task spot messages cuts) = record { task = task; spot = spot; messages = messages; cuts = cuts } ∷ []
firing_of _ = []

-- all firings, in order
abbrev pub firings : List Event → List Firing
firings history = flat_map firing_of history

-- the tasks of the firings that pass the test, in order
abbrev pub fired_where : (Firing → Bool) → List Event → List TaskId
fired_where test history = map (λ (f : Firing). f.task) (filter test (firings history))

-- the tasks that fired, in order
abbrev pub fired : List Event → List TaskId
fired history = map (λ (f : Firing). f.task) (firings history)

-- the tasks that fired at the spot, in order
abbrev pub fired_at : List Event → Spot → List TaskId
fired_at history spot = fired_where (λ f. same_spot f.spot spot) history

-- the firing of the task
abbrev pub firing_named : List Event → TaskId → Option Firing
firing_named history task = find (λ (f : Firing). same_task f.task task) (firings history)

-- where the task fired
abbrev pub spot_of : List Event → TaskId → Option Spot
spot_of history task = option_map (λ (f : Firing). f.spot) (firing_named history task)

-- the tasks that firings cut, in order
abbrev pub cut : List Event → List TaskId
cut history = flat_map (λ (f : Firing). f.cuts) (firings history)

-- the task that the event admits
abbrev pub admitted_by : Event → List TaskId
admitted_by (Admit task) = task ∷ []
admitted_by _ = []

-- the tasks that were admitted, over or not
abbrev pub ever_admitted : List Event → List TaskId
ever_admitted history = flat_map admitted_by history

-- the task that the event puts
abbrev pub put_by : Event → List TaskId
put_by (Put task dropped) = task ∷ []
put_by _ = []

-- the tasks that were put into their queues, in order
abbrev pub put : List Event → List TaskId
put history = flat_map put_by history

-- the task that the event drops
abbrev pub dropped_by : Event → List TaskId
dropped_by (Put task dropped) = option_to_list dropped
dropped_by _ = []

-- the tasks that puts dropped, in order
abbrev pub dropped : List Event → List TaskId
dropped history = flat_map dropped_by history

-- the task that the event starts
abbrev pub started_by : Event → List TaskId
started_by (Start task actor) = task ∷ []
started_by _ = []

-- the tasks that started, in order
abbrev pub started : List Event → List TaskId
started history = flat_map started_by history

-- the task that the event ends
abbrev pub ended_by : Event → List TaskId
ended_by (End task how) = task ∷ []
ended_by _ = []

-- the tasks that ended in any way, in order
abbrev pub ended : List Event → List TaskId
ended history = flat_map ended_by history

-- the task that the event suspends
abbrev pub yielded_by : Event → List TaskId
yielded_by (End task Yield) = task ∷ []
yielded_by _ = []

-- the tasks that ended suspended, in order
abbrev pub yielded : List Event → List TaskId
yielded history = flat_map yielded_by history

-- the segment whose root is over by the event: it ended done, failed or shed, or was dropped
abbrev pub last_by : Event → List TaskId
last_by (End task Done) = task ∷ []
last_by (End task (Failed value)) = task ∷ []
last_by (End task Shed) = task ∷ []
last_by (Put task dropped) = option_to_list dropped
last_by _ = []

-- the segments after which their root is over, in order
abbrev pub last_segments : List Event → List TaskId
last_segments history = flat_map last_by history

-- Which task a put drops, and how often.
use Rattle.std.specs.Prelude.{◌≡◌, ℕ, List, length, filter, Some}
use Rattle.std.specs.List.{slice_get}
use Rattle.ccr_base.specs.declared.names.TaskId.{TaskId}
use Rattle.ccr_base.specs.declared.policies.Policy.TheVariants.{Discard}
use Rattle.ccr_wiring.specs.declared.parts.Parts.{Parts}
use Rattle.ccr_model.specs.declared.history.Event.{Event}
use Rattle.ccr_model.specs.declared.history.Event.TheVariants.{Put}
use Rattle.ccr_base.specs.Names.{same_task}
use Rattle.ccr_wiring.specs.Wirings.{Placement, policy_of}
use Rattle.ccr_model.specs.Firings.{dropped}
use Rattle.ccr_model.specs.TaskData.{placement_of}
use Rattle.ccr_model.specs.Tasks.{queued}
use Rattle.ccr_laws.specs.Occurring.{Occurs}

-- how often puts drop the task
abbrev pub times_dropped : List Event → TaskId → ℕ
times_dropped history task = length (filter (same_task task) (dropped history))

-- some put drops the task
pub record IsDroppedByPut (history : List Event) (task : TaskId) : Type 0 where
  pub past : List Event
  pub by : TaskId
  pub stands : Occurs history past (Put by (Some task))

-- a put of the task, after this past, drops the other by policy alone: their queue is `discard most`, it held that many tasks, and the other was the oldest
pub record DropsOldest (wiring : Parts) (past : List Event) (task other : TaskId) : Type 0 where
  pub its : Placement
  pub with_placement : placement_of wiring past task ≡ Some its
  pub most : ℕ
  pub policy : policy_of wiring its.branch.queue ≡ Discard most
  pub full : length (queued wiring past its.branch.queue) ≡ most
  pub oldest : slice_get (queued wiring past its.branch.queue) 0 ≡ Some other

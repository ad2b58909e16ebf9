-- The fate of a message, by where it and the task that took it stand.
use Rattle.std.specs.Prelude.{◌≡◌, ℕ, true, List, Some, Contains}
use Rattle.ccr_base.specs.declared.names.MsgId.{MsgId}
use Rattle.ccr_base.specs.declared.names.TaskId.{TaskId}
use Rattle.ccr_base.specs.declared.names.Spot.{Spot}
use Rattle.ccr_base.specs.declared.messages.Msg.{Msg}
use Rattle.ccr_wiring.specs.declared.parts.Parts.{Parts}
use Rattle.ccr_model.specs.declared.history.Event.{Event}
use Rattle.ccr_model.specs.declared.history.Event.TheVariants.{Fire, End}
use Rattle.ccr_model.specs.declared.history.EndHow.{EndHow}
use Rattle.ccr_model.specs.declared.history.TaskState.{TaskState}
use Rattle.ccr_model.specs.declared.history.TaskState.TheVariants as states
use Rattle.ccr_model.specs.declared.history.Fate.{Fate}
use Rattle.ccr_model.specs.declared.history.Fate.TheVariants.{Held, Taken}
use Rattle.ccr_base.specs.Names.{has_task, has_message}
use Rattle.ccr_model.specs.Posts.{held}
use Rattle.ccr_model.specs.Firings.{cut, dropped}
use Rattle.ccr_model.specs.Tasks.{waiting, queued, running}
use Rattle.ccr_model.specs.Rules.{may_put}
use Rattle.ccr_model.specs.Fates.{fate}
use Rattle.ccr_laws.specs.Occurring.{Occurs}

-- a message of this name is held at its port
pub record IsHeld (history : List Event) (name : MsgId) : Type 0 where
  pub message : Msg
  pub named : message.id ≡ name
  pub among : Contains (held history message.port) message

-- a firing of the task names the message
pub record IsTakenBy (history : List Event) (name : MsgId) (task : TaskId) : Type 0 where
  pub past : List Event
  pub spot : Spot
  pub messages : List MsgId
  pub cuts : List TaskId
  pub stands : Occurs history past (Fire task spot messages cuts)
  pub named : has_message messages name ≡ true

-- the task waits for its admission in some domain of Interleaves
pub record Waits (wiring : Parts) (history : List Event) (task : TaskId) : Type 0 where
  pub interleave : ℕ
  pub among : has_task (waiting wiring history interleave) task ≡ true

-- the task is in some queue
pub record IsQueued (wiring : Parts) (history : List Event) (task : TaskId) : Type 0 where
  pub queue : ℕ
  pub among : has_task (queued wiring history queue) task ≡ true

-- the task ended in this way
pub record HasEnded (history : List Event) (task : TaskId) (how : EndHow) : Type 0 where
  pub past : List Event
  pub stands : Occurs history past (End task how)

-- where a task stands: it waits, was cut, may be put, is queued, was dropped, runs, or ended in this way
abbrev pub IsIn : Parts → List Event → TaskId → TaskState → Type 0
IsIn wiring history task states.Waiting = Waits wiring history task
IsIn wiring history task states.Cut = has_task (cut history) task ≡ true
IsIn wiring history task states.Ready = may_put wiring history task ≡ true
IsIn wiring history task states.Queued = IsQueued wiring history task
IsIn wiring history task states.Dropped = has_task (dropped history) task ≡ true
IsIn wiring history task states.Running = has_task (running history) task ≡ true
IsIn wiring history task (states.Ended how) = HasEnded history task how

-- a held message is one that its port holds; a taken one is named by a firing of the task, which stands in this state
abbrev pub HasFate : Parts → List Event → MsgId → Fate → Type 0
HasFate wiring history name Held = IsHeld history name
HasFate wiring history name (Taken task state) = IsTakenBy history name task × IsIn wiring history task state

-- the message has one fate and no other, and it is the one that is told of it
pub record HasOneFate (wiring : Parts) (history : List Event) (name : MsgId) : Type 0 where
  pub its : Fate
  pub has : HasFate wiring history name its
  pub alone : (other : Fate) → HasFate wiring history name other → other ≡ its
  pub told : fate wiring history name ≡ Some its

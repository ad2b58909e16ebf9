-- What holds at the end of a history whose wiring awaits nothing.
use Rattle.std.specs.Prelude.{◌≡◌, ℕ, false, List, [], Some}
use Rattle.ccr_base.specs.declared.names.TaskId.{TaskId}
use Rattle.ccr_base.specs.Names.{has_task}
use Rattle.ccr_wiring.specs.declared.parts.Parts.{Parts}
use Rattle.ccr_wiring.specs.Wirings.{Placement, placement, awaited, actions_of}
use Rattle.ccr_model.specs.declared.history.Event.{Event}
use Rattle.ccr_model.specs.Legal.{IsLegal, IsQuiet}
use Rattle.ccr_model.specs.Tasks.{waiting, admitted, queued, running}
use Rattle.ccr_model.specs.Rules.{may_put}

-- no handler of a branch awaits
abbrev pub HasNoAwaits : Parts → Type 0
HasNoAwaits wiring = (branch : ℕ) (s : Placement) → placement wiring branch ≡ Some s → awaited (actions_of wiring s.branch.handler) ≡ []

-- no task waits, is ready, is queued or runs, and each admitted root is over
pub record IsStill (wiring : Parts) (history : List Event) : Type 0 where
  pub waits : (interleave : ℕ) → waiting wiring history interleave ≡ []
  pub ready : (task : TaskId) → may_put wiring history task ≡ false
  pub in_queues : (queue : ℕ) (task : TaskId) → has_task (queued wiring history queue) task ≡ false
  pub runs : running history ≡ []
  pub lasts : (interleave : ℕ) → admitted wiring history interleave ≡ []

-- behind each legal history of the wiring behind which nothing more is allowed it is so
abbrev pub EndsStill : Parts → Type 0
EndsStill wiring = (history : List Event) → IsLegal wiring history → IsQuiet wiring history → IsStill wiring history

-- What references stand for.
use Rattle.std.specs.Prelude.{Bool, ◌==◌, ◌&&◌, List, map}
use Rattle.std.specs.Borrow.{Bor}
use Rattle.ccr_base.specs.declared.messages.Msg.{Msg}
use Rattle.ccr_wiring.specs.Wirings.{Placement}
use Rattle.ccr_model.specs.declared.data.TaskLoad.{TaskLoad}
use Rattle.ccr_model.specs.declared.tasks.Branches.{Branches}
use Rattle.ccr_model.specs.declared.tasks.Branches.TheVariants.{OfInterleave, OfDomain, TeardownsOf, OfQueue}
use Rattle.ccr_model.specs.TaskData.{Load}
use Rattle.ccr_model.specs.Tasks.{is_interleave, is_teardown}
pub use Rattle.ccr_wiring.specs.Placements.{placement_seen}

-- the messages behind the references
abbrev pub seen : List (Bor Msg) → List Msg
seen messages = map (λ (message : Bor Msg). message.now) messages

-- what the task starts with
abbrev pub load_seen : TaskLoad → Load
load_seen l = record { values = l.values; causes = l.causes }

-- whether the branch is one of those that are meant
abbrev pub means : Branches → Placement → Bool
means (OfInterleave number) s = is_interleave s.kind && (s.domain == number)
means (OfDomain number) s = s.domain == number
means (TeardownsOf number) s = (s.domain == number) && is_teardown s.branch.group
means (OfQueue queue) s = s.branch.queue == queue

-- The data of a task: where it belongs, its values and its causes.
use Rattle.std.specs.Prelude.{ℕ, zero, suc, List, [], ◌++◌, map, flat_map, Option, option_and_then}
use Rattle.std.specs.Option.{option_map_or}
use Rattle.ccr_base.specs.declared.names.TaskId.{TaskId}
use Rattle.ccr_base.specs.declared.messages.Msg.{Msg}
use Rattle.ccr_base.specs.declared.names.Spot.TheVariants.{Site}
use Rattle.ccr_handler.specs.declared.segments.Play.{Play}
use Rattle.ccr_handler.specs.declared.segments.PlayEnd.TheVariants.{Done}
use Rattle.ccr_wiring.specs.declared.parts.Parts.{Parts}
use Rattle.ccr_model.specs.declared.history.Event.{Event}
use Rattle.ccr_model.specs.Posts.{messages_named}
use Rattle.ccr_wiring.specs.Wirings.{Placement, placement, branch_of, segment_of}
use Rattle.ccr_model.specs.Firings.{Firing, firing_named, spot_of}
use Rattle.ccr_cause.specs.Causes.{union}
use Rattle.ccr_handler.specs.Playing.{branch_play}
use Rattle.ccr_model.specs.Sites.{before, resumed}

-- what a segment starts with
pub record Load : Type 0 where
  pub values : List (List ℕ)
  pub causes : List ℕ

-- the messages that the firing of the task took, in the order in which it names them
abbrev pub messages_of : List Event → TaskId → List Msg
messages_of history task = option_map_or (λ (f : Firing). messages_named (before task history) f.messages) (firing_named history task) []

-- the branch at which, or at whose site, the task fired
abbrev pub placement_of : Parts → List Event → TaskId → Option Placement
placement_of wiring history task = option_and_then (λ spot. placement wiring (branch_of spot)) (spot_of history task)

-- the play of a segment of the branch with this load
abbrev pub play_at : Parts → ℕ → ℕ → Load → Play
play_at wiring branch segment load = branch_play wiring branch segment load.values load.causes

-- the load with the messages' values and causes behind it
abbrev pub with_messages : Load → List Msg → Load
with_messages load messages = record { values = load.values ++ map (λ (m : Msg). m.value) messages; causes = union load.causes (flat_map (λ (m : Msg). m.causes) messages) }

-- nothing
abbrev pub no_load : Load
no_load = record { values = []; causes = [] }

-- what a segment leaves to the next
abbrev pub load_after : Parts → ℕ → ℕ → Load → Load
load_after wiring branch segment load = record load { causes = (play_at wiring branch segment load).causes }

-- what a task that runs this segment of the branch starts with: its messages, behind what the segment before left
abbrev pub load_at : Parts → List Event → ℕ → ℕ → TaskId → Load
load_at wiring history branch zero task = with_messages no_load (messages_of history task)
load_at wiring history branch (suc site) task =
    with_messages
    (option_map_or (λ (u : TaskId). load_after wiring branch site (load_at wiring history branch site u)) (resumed history (Site branch site) task) no_load)
    (messages_of history task)

-- the values and causes that the task starts with
abbrev pub load_of : Parts → List Event → TaskId → Load
load_of wiring history task = option_map_or (λ spot. load_at wiring history (branch_of spot) (segment_of spot) task) (spot_of history task) no_load

-- the play of a task that never fired
abbrev pub no_play : Play
no_play = record { posts = []; end = Done; causes = [] }

-- what the task posts, how it ends, and its causes at the end
abbrev pub play_of : Parts → List Event → TaskId → Play
play_of wiring history task = option_map_or (λ spot. play_at wiring (branch_of spot) (segment_of spot) (load_at wiring history (branch_of spot) (segment_of spot) task)) (spot_of history task) no_play

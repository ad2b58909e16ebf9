-- What a report counts at a port and at a queue.
use Rattle.std.specs.Prelude.{ℕ, List, map, filter, flat_map, Option, option_to_list, option_and_then}
use Rattle.std.specs.List.{slice_get}
use Rattle.ccr_base.specs.declared.names.TaskId.{TaskId}
use Rattle.ccr_base.specs.declared.names.Spot.{Spot}
use Rattle.ccr_base.specs.declared.messages.Msg.{Msg}
use Rattle.ccr_base.specs.Names.{has_message}
use Rattle.ccr_wiring.specs.declared.parts.Parts.{Parts}
use Rattle.ccr_wiring.specs.declared.parts.ArbiterPart.{ArbiterPart}
use Rattle.ccr_wiring.specs.declared.parts.BranchPart.{BranchPart}
use Rattle.ccr_wiring.specs.Wirings.{branch_of}
use Rattle.ccr_model.specs.declared.history.Event.{Event}
use Rattle.ccr_model.specs.Posts.{posted, taken}
use Rattle.ccr_model.specs.Firings.{dropped}
use Rattle.ccr_model.specs.Tasks.{is_for_queue}

-- the port's messages that firings took
abbrev pub taken_at : List Event → ℕ → List Msg
taken_at history port = filter (λ message. has_message (taken history) message.id) (posted history port)

-- the tasks that the queue dropped
abbrev pub dropped_at : Parts → List Event → ℕ → List TaskId
dropped_at wiring history queue = filter (is_for_queue wiring history queue) (dropped history)

-- the ports of messages
abbrev pub ports_of : List Msg → List ℕ
ports_of messages = map (λ (message : Msg). message.port) messages

-- the task's queue, by where it fired and by the queues of the branches
abbrev pub queue_by : (TaskId → Option Spot) → List ℕ → TaskId → Option ℕ
queue_by spot_at queues task = option_and_then (λ spot. slice_get queues (branch_of spot)) (spot_at task)

-- the queues of tasks, in order, by the same
abbrev pub queues_by : (TaskId → Option Spot) → List ℕ → List TaskId → List ℕ
queues_by spot_at queues tasks = flat_map (λ task. option_to_list (queue_by spot_at queues task)) tasks

-- the queues of the arbiter's branches
abbrev pub queues_in : ArbiterPart → List ℕ
queues_in arbiter = map (λ (part : BranchPart). part.queue) arbiter.branches

-- the queues of the branches, in their order
abbrev pub branch_queues : Parts → List ℕ
branch_queues wiring = flat_map queues_in wiring.arbiters

-- What became of a message.
use Rattle.std.specs.Prelude.{List, [], ◌∷◌, find, flat_map, Option, option_map, if◌then◌else◌}
use Rattle.std.specs.Option.{option_map_or}
use Rattle.ccr_base.specs.declared.names.TaskId.{TaskId}
use Rattle.ccr_base.specs.declared.names.MsgId.{MsgId}
use Rattle.ccr_base.specs.declared.messages.Msg.{Msg}
use Rattle.ccr_wiring.specs.declared.parts.Parts.{Parts}
use Rattle.ccr_model.specs.declared.history.Event.{Event}
use Rattle.ccr_model.specs.declared.history.Event.TheVariants.{End}
use Rattle.ccr_model.specs.declared.history.EndHow.{EndHow}
use Rattle.ccr_model.specs.declared.history.TaskState.{TaskState}
use Rattle.ccr_model.specs.declared.history.TaskState.TheVariants as states
use Rattle.ccr_model.specs.declared.history.Fate.{Fate}
use Rattle.ccr_model.specs.declared.history.Fate.TheVariants.{Held, Taken}
use Rattle.ccr_base.specs.Names.{same_task, has_task, has_message}
use Rattle.ccr_model.specs.Posts.{message_named}
use Rattle.ccr_model.specs.Firings.{Firing, firings, cut, put, dropped, started}
use Rattle.ccr_model.specs.Rules.{may_put}

-- how the task ended, where the event is its end
abbrev pub end_of : TaskId → Event → List EndHow
end_of task (End other how) = if same_task other task then how ∷ [] else []
end_of task _ = []

-- a started task runs until it ends
abbrev pub state_of_started : List EndHow → TaskState
state_of_started [] = states.Running
state_of_started (how ∷ more) = states.Ended how

-- ready: it may be put
abbrev pub state_of : Parts → List Event → TaskId → TaskState
state_of wiring history task =
    if has_task (cut history) task then states.Cut else
    if has_task (dropped history) task then states.Dropped else
    if has_task (started history) task then state_of_started (flat_map (end_of task) history) else
    if has_task (put history) task then states.Queued else
    if may_put wiring history task then states.Ready else states.Waiting

-- the task that took the message
abbrev pub taker : List Event → MsgId → Option TaskId
taker history name = option_map (λ (f : Firing). f.task) (find (λ (f : Firing). has_message f.messages name) (firings history))

-- held, or taken by a task that is now in this state
abbrev pub fate_of : Parts → List Event → MsgId → Fate
fate_of wiring history name = option_map_or (λ task. Taken task (state_of wiring history task)) (taker history name) Held

-- the fate of a posted message; none where no post has the name
abbrev pub fate : Parts → List Event → MsgId → Option Fate
fate wiring history name = option_map (λ (m : Msg). fate_of wiring history name) (message_named history name)

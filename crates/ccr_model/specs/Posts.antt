-- What stands in the history of messages: posted, taken, held.
use Rattle.std.specs.Prelude.{ℕ, Bool, true, false, not, ◌==◌, List, [], ◌∷◌, filter, flat_map, length, find, filter_map, Option}
use Rattle.ccr_base.specs.declared.names.TaskId.{TaskId}
use Rattle.ccr_base.specs.declared.names.MsgId.{MsgId}
use Rattle.ccr_base.specs.declared.names.MsgId.TheVariants.{Script, Task}
use Rattle.ccr_base.specs.declared.messages.Msg.{Msg}
use Rattle.ccr_model.specs.declared.history.Event.{Event}
use Rattle.ccr_model.specs.declared.history.Event.TheVariants.{Post, Fire}
use Rattle.ccr_base.specs.Names.{same_task, same_message, has_message}

-- the message that the event posts
abbrev pub post_of : Event → List Msg
post_of (Post message) = message ∷ []
post_of _ = []

-- all messages, in the order of their posts
abbrev pub posts : List Event → List Msg
posts history = flat_map post_of history

-- the messages posted to the port, oldest first
abbrev pub posted : List Event → ℕ → List Msg
posted history port = filter (λ message. message.port == port) (posts history)

-- the names that the event takes
abbrev pub taken_by : Event → List MsgId
taken_by (Fire task spot messages cuts) = messages
taken_by _ = []

-- the names of the messages that firings took, in order
abbrev pub taken : List Event → List MsgId
taken history = flat_map taken_by history

-- what the port holds, oldest first: posted to it and not taken
abbrev pub held : List Event → ℕ → List Msg
held history port = filter (λ message. not (has_message (taken history) message.id)) (posted history port)

-- whether the name is of the poster's script
abbrev pub is_script_of : ℕ → MsgId → Bool
is_script_of poster (Script actor index) = actor == poster
is_script_of poster (Task task index) = false

-- whether the name is of a post of a task
abbrev pub is_task_message : MsgId → Bool
is_task_message (Script actor index) = false
is_task_message (Task task index) = true

-- whether the name is of a post of this task
abbrev pub is_message_of : TaskId → MsgId → Bool
is_message_of task (Script actor index) = false
is_message_of task (Task other index) = same_task task other

-- how many of the messages the script of the poster made
abbrev pub made_by_poster : List Msg → ℕ → ℕ
made_by_poster messages poster = length (filter (λ (message : Msg). is_script_of poster message.id) messages)

-- how many of the messages tasks made
abbrev pub task_messages : List Msg → ℕ
task_messages messages = length (filter (λ (message : Msg). is_task_message message.id) messages)

-- how many posts of its script the poster has made
abbrev pub posts_of_poster : List Event → ℕ → ℕ
posts_of_poster history poster = length (filter (λ (message : Msg). is_script_of poster message.id) (posts history))

-- how many posts the task has made
abbrev pub posts_of_task : List Event → TaskId → ℕ
posts_of_task history task = length (filter (λ (message : Msg). is_message_of task message.id) (posts history))

-- how many posts all tasks have made
abbrev pub posts_of_tasks : List Event → ℕ
posts_of_tasks history = length (filter (λ (message : Msg). is_task_message message.id) (posts history))

-- the message of this name
abbrev pub message_named : List Event → MsgId → Option Msg
message_named history name = find (λ (message : Msg). same_message message.id name) (posts history)

-- the messages of these names, in the order of the names
abbrev pub messages_named : List Event → List MsgId → List Msg
messages_named history names = filter_map (message_named history) names

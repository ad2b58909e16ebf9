-- The text of a history: a line for each event.
use Rattle.std.specs.Prelude.{ℕ, List, [], ◌∷◌, ◌++◌, map, flat_map, codes, decimal, ◌==◌, Option, Some, None, if◌then◌else◌}
use Rattle.ccr_base.specs.declared.messages.Msg.{Msg}
use Rattle.ccr_base.specs.declared.names.TaskId.{TaskId}
use Rattle.ccr_wiring.specs.declared.parts.Parts.{Parts}
use Rattle.ccr_model.specs.declared.history.Event.{Event}
use Rattle.ccr_model.specs.declared.history.Event.TheVariants as events
use Rattle.ccr_model.specs.declared.history.EndHow.{EndHow}
use Rattle.ccr_model.specs.declared.history.EndHow.TheVariants as ends
use Rattle.ccr_text.specs.Spelling.{text_of}
use Rattle.ccr_trace.specs.Words.{task_word, message_word, name_at, cause_names, branch_names, spot_word}
use Rattle.ccr_text.specs.Exact.{value_word}

-- each word behind a space
abbrev pub behind : List (List ℕ) → List ℕ
behind words = flat_map (λ word. 32 ∷ word) words

-- the cuts stand behind the word cut, which stands only where there are some
abbrev pub cut_words : List TaskId → List (List ℕ)
cut_words [] = []
cut_words (task ∷ tasks) = codes "cut" ∷ map task_word (task ∷ tasks)

-- the task that the put drops, where it drops one
abbrev pub dropped_words : Option TaskId → List (List ℕ)
dropped_words None = []
dropped_words (Some task) = codes "drop" ∷ task_word task ∷ []

-- how the task ended
abbrev pub end_words : EndHow → List (List ℕ)
end_words ends.Done = codes "done" ∷ []
end_words (ends.Failed value) = codes "failed" ∷ value_word value ∷ []
end_words ends.Yield = codes "yield" ∷ []
end_words ends.Shed = codes "shed" ∷ []

-- the words of a post's line
abbrev pub post_words : Parts → Msg → List (List ℕ)
post_words parts message = codes "post" ∷ message_word message.id ∷ name_at parts.ports message.port ∷ value_word message.value ∷ map (name_at (cause_names parts)) message.causes

-- the words of an event's line
abbrev pub event_words : Parts → Event → List (List ℕ)
event_words parts (events.Post message) = post_words parts message
event_words parts (events.Fire task spot messages cuts) = codes "fire" ∷ task_word task ∷ spot_word (branch_names parts) spot ∷ (map message_word messages ++ cut_words cuts)
event_words parts (events.Admit task) = codes "admit" ∷ task_word task ∷ []
event_words parts (events.Put task dropped) = codes "put" ∷ task_word task ∷ dropped_words dropped
event_words parts (events.Start task actor) = codes "start" ∷ task_word task ∷ decimal actor ∷ []
event_words parts (events.End task how) = codes "end" ∷ task_word task ∷ end_words how

-- the version of the wiring: 2, or else 1
abbrev pub version_word : ℕ → List ℕ
version_word version = if version == 2 then codes "2" else codes "1"

-- the words of the first line
abbrev pub first_words : Parts → List (List ℕ)
first_words parts = codes "history" ∷ version_word parts.version ∷ []

-- the first line of a history, and a line for each event
abbrev pub history_lines : Parts → List Event → List (List (List ℕ))
history_lines parts history = first_words parts ∷ map (event_words parts) history

-- the history's lines
abbrev pub history_text : Parts → List Event → List ℕ
history_text parts history = text_of (history_lines parts history)

-- The words for names, and for what an event names.
use Rattle.std.specs.Prelude.{ℕ, List, ◌∷◌, ◌++◌, flat_map, decimal}
use Rattle.ccr_base.specs.declared.names.TaskId.{TaskId}
use Rattle.ccr_base.specs.declared.names.MsgId.{MsgId}
use Rattle.ccr_base.specs.declared.names.MsgId.TheVariants.{Script, Task}
use Rattle.ccr_wiring.specs.declared.parts.Parts.{Parts}
use Rattle.ccr_wiring.specs.Names.{cause_names as names_of_causes}
pub use Rattle.ccr_wiring.specs.SpotWords.{name_at, branch_names_of, branch_names, spot_word}

-- tA.K
abbrev pub task_word : TaskId → List ℕ
task_word task = 116 ∷ (decimal task.actor ++ 46 ∷ decimal task.attempt)

-- sA.K or tA.K.I
abbrev pub message_word : MsgId → List ℕ
message_word (Script actor place) = 115 ∷ (decimal actor ++ 46 ∷ decimal place)
message_word (Task task place) = task_word task ++ 46 ∷ decimal place

-- the bytes of a task's word with its space, and of a message's, at most
abbrev pub most_task_bytes : ℕ
most_task_bytes = 23

abbrev pub most_message_bytes : ℕ
most_message_bytes = 34

-- numbers, each behind a comma
abbrev pub other_numbers : List ℕ → List ℕ
other_numbers numbers = flat_map (λ n. 44 ∷ decimal n) numbers

-- the names of the causes
abbrev pub cause_names : Parts → List (List ℕ)
cause_names parts = names_of_causes parts.causes

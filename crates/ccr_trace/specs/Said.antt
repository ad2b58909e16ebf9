-- What a line of a history says, with ports, causes and spots as the words for them, and the one spelling of it.
use Rattle.std.specs.Prelude.{◌≡◌, ℕ, ◌^◌, ◌<◌, ◌≤◌, ◌==◌, true, List, [], ◌∷◌, ◌++◌, length, map, codes, decimal, Option, Some, None, if◌then◌else◌}
use Rattle.std.specs.List.{All}
use Rattle.ccr_base.specs.Bounds.{most_value_numbers}
use Rattle.ccr_base.specs.declared.names.TaskId.{TaskId}
use Rattle.ccr_base.specs.declared.names.MsgId.{MsgId}
use Rattle.ccr_base.specs.declared.names.MsgId.TheVariants as ids
use Rattle.ccr_model.specs.declared.history.EndHow.{EndHow}
use Rattle.ccr_model.specs.declared.history.EndHow.TheVariants as ends
use Rattle.ccr_text.specs.Words.{is_name_of}
use Rattle.ccr_text.specs.Spelling.{joined}
use Rattle.ccr_trace.specs.Words.{task_word, message_word}
use Rattle.ccr_text.specs.Exact.{value_word}
use Rattle.ccr_trace.specs.HistoryText.{cut_words, dropped_words, end_words}

-- a branch's name, or NAME@K for its site K
pub record SpotName : Type 0 where
  pub name : List ℕ
  pub site : Option ℕ

pub data Said : Type 0 where
  Post : MsgId → List ℕ → List ℕ → List (List ℕ) → Said
  Fire : TaskId → SpotName → List MsgId → List TaskId → Said
  Admit : TaskId → Said
  Put : TaskId → Option TaskId → Said
  Start : TaskId → ℕ → Said
  End : TaskId → EndHow → Said

-- the site behind `@`, where there is one
abbrev pub site_word : Option ℕ → List ℕ
site_word None = []
site_word (Some site) = 64 ∷ decimal site

-- the word for the spot
abbrev pub spot_name_word : SpotName → List ℕ
spot_name_word spot = spot.name ++ site_word spot.site

-- the words of the line
abbrev pub said_words : Said → List (List ℕ)
said_words (Post id port value causes) = codes "post" ∷ message_word id ∷ port ∷ value_word value ∷ causes
said_words (Fire task spot messages cuts) = codes "fire" ∷ task_word task ∷ spot_name_word spot ∷ (map message_word messages ++ cut_words cuts)
said_words (Admit task) = codes "admit" ∷ task_word task ∷ []
said_words (Put task dropped) = codes "put" ∷ task_word task ∷ dropped_words dropped
said_words (Start task actor) = codes "start" ∷ task_word task ∷ decimal actor ∷ []
said_words (End task how) = codes "end" ∷ task_word task ∷ end_words how

-- the line without its LF
abbrev pub spelled : Said → List ℕ
spelled said = joined (said_words said)

-- what numbers and names may stand in a line
abbrev pub IsTask : TaskId → Type 0
IsTask task = (task.actor < 2 ^ 32) × (task.attempt < 2 ^ 32)

-- the numbers of the name fit 32 bits
abbrev pub IsMessage : MsgId → Type 0
IsMessage (ids.Script actor place) = (actor < 2 ^ 32) × (place < 2 ^ 32)
IsMessage (ids.Task task place) = IsTask task × (place < 2 ^ 32)

-- the word is a name
abbrev pub IsName : List ℕ → Type 0
IsName word = is_name_of word ≡ true

-- the site fits 32 bits, where there is one
abbrev pub IsSite : Option ℕ → Type 0
IsSite None = Unit {0}
IsSite (Some site) = site < 2 ^ 32

-- the numbers of the dropped task fit 32 bits, where there is one
abbrev pub IsDropped : Option TaskId → Type 0
IsDropped None = Unit {0}
IsDropped (Some task) = IsTask task

-- how many numbers a value has at most: 8 in version 2, else one
abbrev pub most_numbers : ℕ → ℕ
most_numbers version = if version == 2 then most_value_numbers else 1

-- a number at least, and each below 2 ^ 64
abbrev pub HasNumbers : List ℕ → Type 0
HasNumbers value = (0 < length value) × All (λ n. n < 2 ^ 64) value

-- a value of a wiring of this version
abbrev pub IsValue : ℕ → List ℕ → Type 0
IsValue version value = HasNumbers value × (length value ≤ most_numbers version)

-- the value of a failure is one of the version
abbrev pub IsEnd : ℕ → EndHow → Type 0
IsEnd version (ends.Failed value) = IsValue version value
IsEnd version ends.Done = Unit {0}
IsEnd version ends.Yield = Unit {0}
IsEnd version ends.Shed = Unit {0}

-- names are of the form of names, numbers fit, values are of the wiring's version, and a firing has a message at least
abbrev pub IsSaid : ℕ → Said → Type 0
IsSaid version (Post id port value causes) = IsMessage id × IsName port × IsValue version value × All IsName causes
IsSaid version (Fire task spot messages cuts) = IsTask task × IsName spot.name × IsSite spot.site × (0 < length messages) × All IsMessage messages × All IsTask cuts
IsSaid version (Admit task) = IsTask task
IsSaid version (Put task dropped) = IsTask task × IsDropped dropped
IsSaid version (Start task actor) = IsTask task × (actor < 2 ^ 32)
IsSaid version (End task how) = IsTask task × IsEnd version how

-- What a line says, field by field: nothing where it has none of the forms.
use Rattle.std.specs.Prelude.{ℕ, Bool, not, List, [], ◌∷◌, length, ◌==◌, codes, Option, Some, None, if◌then◌else◌}
use Rattle.std.specs.List.{list_all}
use Rattle.std.specs.Str.{bytes_eq}
use Rattle.ccr_base.specs.declared.names.TaskId.{TaskId}
use Rattle.ccr_base.specs.declared.names.MsgId.{MsgId}
use Rattle.ccr_model.specs.declared.history.EndHow.{EndHow}
use Rattle.ccr_model.specs.declared.history.EndHow.TheVariants as ends
use Rattle.ccr_text.specs.Words.{is_name_of}
use Rattle.ccr_text.specs.Fields.{Words}
use Rattle.ccr_trace.specs.Pieces.{pieces}
use Rattle.ccr_trace.specs.Said.{Said, Post, Fire, Admit, Put, Start, End}
use Rattle.ccr_trace.specs.Fields.{◌>>=◌, each, short_number, value_of, name_of, task_of, message_of, spot_of}

-- goes on where the test holds
abbrev pub only : Bool → Option (Unit {0})
only test = if test then Some tt else None

-- the first word, and those behind it
abbrev pub word : Words → Option (List ℕ × Words)
word [] = None
word (first ∷ words) = Some (first, words)

-- nothing stands behind
abbrev pub no_more : Words → Option (Unit {0})
no_more [] = Some tt
no_more (first ∷ words) = None

-- the field of one word, and the words behind it
abbrev pub field : {A : Type 0} → (List ℕ → Option A) → Words → Option (A × Words)
field read words = do
  first ← word words
  value ← read first.0
  Some (value, first.1)

-- whether there is at least one
abbrev pub is_some_of : {A : Type 0} → List A → Bool
is_some_of values = not (length values == 0)

-- TASK .., one at least
unfoldable pub cuts : Words → Option (List TaskId)
cuts words = do
  tasks ← each task_of words
  some ← only (is_some_of tasks)
  Some tasks

-- MSG .., and the tasks behind the word cut
unfoldable pub fired : Words → Option (List MsgId × List TaskId)
fired [] = Some ([], [])
fired (first ∷ words) =
    if bytes_eq first (codes "cut") then (cuts words >>= λ tasks. Some ([], tasks))
    else (message_of first >>= λ message. fired words >>= λ rest. Some (message ∷ rest.0, rest.1))

-- post MSG PORT VALUE CAUSE ..
unfoldable pub post_said : ℕ → Words → Option Said
post_said version words = do
  message ← field message_of words
  port ← field name_of message.1
  value ← field (value_of version) port.1
  named ← only (list_all is_name_of value.1)
  Some (Post message.0 port.0 value.0 value.1)

-- fire TASK SPOT MSG .., with cut TASK .. behind it where there are cuts
unfoldable pub fire_said : Words → Option Said
fire_said words = do
  task ← field task_of words
  spot ← field spot_of task.1
  rest ← fired spot.1
  some ← only (is_some_of rest.0)
  Some (Fire task.0 spot.0 rest.0 rest.1)

-- admit TASK
unfoldable pub admit_said : Words → Option Said
admit_said words = do
  task ← field task_of words
  done ← no_more task.1
  Some (Admit task.0)

-- nothing, or drop TASK
unfoldable pub dropped_said : Words → Option (Option TaskId)
dropped_said [] = Some None
dropped_said (first ∷ words) = do
  drop ← only (bytes_eq first (codes "drop"))
  task ← field task_of words
  done ← no_more task.1
  Some (Some task.0)

-- put TASK, or put TASK drop TASK
unfoldable pub put_said : Words → Option Said
put_said words = do
  task ← field task_of words
  dropped ← dropped_said task.1
  Some (Put task.0 dropped)

-- start TASK ACTOR
unfoldable pub start_said : Words → Option Said
start_said words = do
  task ← field task_of words
  actor ← field short_number task.1
  done ← no_more actor.1
  Some (Start task.0 actor.0)

-- done, yield or shed
abbrev pub plain_end : List ℕ → Option EndHow
plain_end first =
    if bytes_eq first (codes "done") then Some ends.Done
    else if bytes_eq first (codes "yield") then Some ends.Yield
    else if bytes_eq first (codes "shed") then Some ends.Shed
    else None

-- failed VALUE
abbrev pub failed : ℕ → Words → Option (EndHow × Words)
failed version words = field (value_of version) words >>= λ value. Some (ends.Failed value.0, value.1)

-- how a segment ends, and the words behind it
unfoldable pub how_said : ℕ → Words → Option (EndHow × Words)
how_said version words = do
  first ← word words
  if bytes_eq first.0 (codes "failed") then failed version first.1 else (plain_end first.0 >>= λ how. Some (how, first.1))

-- end TASK done, end TASK failed VALUE, end TASK yield, end TASK shed
unfoldable pub end_said : ℕ → Words → Option Said
end_said version words = do
  task ← field task_of words
  how ← how_said version task.1
  done ← no_more how.1
  Some (End task.0 how.0)

-- the form by its first word, in a wiring of this version
unfoldable pub form_said : ℕ → List ℕ → Words → Option Said
form_said version first words =
    if bytes_eq first (codes "post") then post_said version words
    else if bytes_eq first (codes "fire") then fire_said words
    else if bytes_eq first (codes "admit") then admit_said words
    else if bytes_eq first (codes "put") then put_said words
    else if bytes_eq first (codes "start") then start_said words
    else if bytes_eq first (codes "end") then end_said version words
    else None

-- what a line, without its LF, says in a wiring of this version
abbrev pub said_on : ℕ → List ℕ → Option Said
said_on version line = do
  first ← word (pieces 32 line)
  form_said version first.0 first.1

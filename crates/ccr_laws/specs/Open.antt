-- What is posted from outside.
use Rattle.std.specs.Prelude.{◌≡◌, ℕ, true, List, Some}
use Rattle.std.specs.List.{slice_get}
use Rattle.ccr_base.specs.Lists.{has_number}
use Rattle.ccr_base.specs.Names.{has_task}
use Rattle.ccr_base.specs.declared.names.MsgId.TheVariants.{Script, Task}
use Rattle.ccr_base.specs.declared.names.TaskId.{TaskId}
use Rattle.ccr_base.specs.declared.messages.Msg.{Msg}
use Rattle.ccr_wiring.specs.declared.parts.Parts.{Parts}
use Rattle.ccr_wiring.specs.Openness.{open_poster}
use Rattle.ccr_model.specs.declared.history.Event.{Event}
use Rattle.ccr_model.specs.declared.history.Event.TheVariants.{Post}
use Rattle.ccr_model.specs.Posts.{posts_of_task}
use Rattle.ccr_model.specs.Rules.{is_open_post, open_ports}
use Rattle.ccr_model.specs.Tasks.{running}
use Rattle.ccr_laws.specs.Occurring.{Occurs}
use Rattle.ccr_laws.specs.Scripts.{posts_by}

-- what was posted under the poster's name is numbered from 0, and each went to one of these ports
pub record KeepsPorts (history : List Event) (number : ℕ) (ports : List ℕ) : Type 0 where
  pub names : (index : ℕ) (m : Msg) → slice_get (posts_by history number) index ≡ Some m → m.id ≡ Script number index
  pub within : (index : ℕ) (m : Msg) → slice_get (posts_by history number) index ≡ Some m → has_number ports m.port ≡ true

-- it holds of each open poster of the wiring
abbrev pub OfOpen : Parts → (ℕ → List ℕ → Type 0) → Type 0
OfOpen wiring law = (number : ℕ) (ports : List ℕ) → open_poster wiring number ≡ Some ports → law number ports

-- the task runs, has made so many posts, and may post it from outside
pub record PostsOpenly (wiring : Parts) (past : List Event) (task : TaskId) (index : ℕ) (ports : List ℕ) (message : Msg) : Type 0 where
  pub runs : has_task (running past) task ≡ true
  pub counted : index ≡ posts_of_task past task
  pub post : is_open_post wiring past task ports message ≡ true

-- each post of a task of an open handler
abbrev pub PostOpenly : Parts → List Event → Type 0
PostOpenly wiring history =
    (past : List Event) (message : Msg) (task : TaskId) (index : ℕ) (ports : List ℕ)
    → Occurs history past (Post message)
    → message.id ≡ Task task index
    → open_ports wiring past task ≡ Some ports
    → PostsOpenly wiring past task index ports message

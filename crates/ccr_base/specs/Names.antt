-- When two names are the same, and the names of messages.
use Rattle.std.specs.Prelude.{Bool, true, false, not, ◌==◌, ◌&&◌, List, [], ◌∷◌, Option, Some, None, map, filter}
use Rattle.std.specs.List.{list_any}
use Rattle.ccr_base.specs.declared.names.TaskId.{TaskId}
use Rattle.ccr_base.specs.declared.names.MsgId.{MsgId}
use Rattle.ccr_base.specs.declared.names.MsgId.TheVariants.{Script, Task}
use Rattle.ccr_base.specs.declared.names.Spot.{Spot}
use Rattle.ccr_base.specs.declared.names.Spot.TheVariants.{Branch, Site}
use Rattle.ccr_base.specs.declared.messages.Msg.{Msg}

-- whether the two name one task: the actor and its attempt
abbrev pub same_task : TaskId → TaskId → Bool
same_task s t = (s.actor == t.actor) && (s.attempt == t.attempt)

-- whether the two name one message: its maker and its index among that maker's posts
abbrev pub same_message : MsgId → MsgId → Bool
same_message (Script a k) (Script b l) = (a == b) && (k == l)
same_message (Task s i) (Task t j) = same_task s t && (i == j)
same_message (Script a k) (Task t j) = false
same_message (Task s i) (Script b l) = false

-- whether the two are one branch, or one await site of one branch
abbrev pub same_spot : Spot → Spot → Bool
same_spot (Branch b) (Branch c) = b == c
same_spot (Site b k) (Site c l) = (b == c) && (k == l)
same_spot (Branch b) (Site c l) = false
same_spot (Site b k) (Branch c) = false

-- whether the list names the task
abbrev pub has_task : List TaskId → TaskId → Bool
has_task tasks task = list_any (same_task task) tasks

-- whether the list names the message
abbrev pub has_message : List MsgId → MsgId → Bool
has_message names name = list_any (same_message name) names

-- the names of the messages
abbrev pub names_of : List Msg → List MsgId
names_of messages = map (λ (m : Msg). m.id) messages

-- the tasks of the first list that don't stand in the second
abbrev pub without : List TaskId → List TaskId → List TaskId
without tasks gone = filter (λ task. not (has_task gone task)) tasks

-- whether two lists are the same by this test of their members
abbrev pub same_lists : {X : Type 0} → (X → X → Bool) → List X → List X → Bool
same_lists same [] [] = true
same_lists same (x ∷ xs) (y ∷ ys) = same x y && same_lists same xs ys
same_lists same [] (y ∷ ys) = false
same_lists same (x ∷ xs) [] = false

-- whether both have nothing, or both something that is the same
abbrev pub same_options : {X : Type 0} → (X → X → Bool) → Option X → Option X → Bool
same_options same None None = true
same_options same (Some x) (Some y) = same x y
same_options same None (Some y) = false
same_options same (Some x) None = false

-- The words of the laws.
use Rattle.std.specs.Prelude.{ℕ, List, length, filter, IfSome}
use Rattle.ccr_base.specs.declared.names.MsgId.{MsgId}
use Rattle.ccr_base.specs.declared.messages.Msg.{Msg}
use Rattle.ccr_wiring.specs.declared.parts.Parts.{Parts}
use Rattle.ccr_model.specs.declared.history.Event.{Event}
use Rattle.ccr_base.specs.Names.{same_message}
use Rattle.ccr_model.specs.Legal.{IsAllowed}
use Rattle.ccr_model.specs.Order.{first}
use Rattle.ccr_model.specs.Posts.{posts, taken}

-- how many posts have the name
abbrev pub times_posted : List Event → MsgId → ℕ
times_posted history name = length (filter (λ (m : Msg). same_message m.id name) (posts history))

-- how often firings name it
abbrev pub times_taken : List Event → MsgId → ℕ
times_taken history name = length (filter (same_message name) (taken history))

-- what the serial order with this closer puts first behind the history, if anything, is allowed
abbrev pub IsFirstAllowed : Parts → ℕ → List Event → Type 0
IsFirstAllowed wiring closer history = IfSome (first wiring closer history) (IsAllowed wiring history)

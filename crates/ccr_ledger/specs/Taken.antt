-- What is taken out of a port, and what is left.
use Rattle.std.specs.Prelude.{◌≡◌, ◌⊎◌, ℕ, zero, suc, List, [], ◌∷◌, if◌then◌else◌}
use Rattle.ccr_base.specs.declared.names.MsgId.{MsgId}
use Rattle.ccr_base.specs.declared.messages.Msg.{Msg}
use Rattle.ccr_base.specs.declared.patterns.Pred.{Pred}
use Rattle.ccr_base.specs.Selection.{holds}
use Rattle.ccr_base.specs.Names.{same_message}

-- the messages without the oldest that satisfies the predicate
abbrev pub without_first : Pred → List Msg → List Msg
without_first pred [] = []
without_first pred (message ∷ messages) = if holds pred message.value then messages else message ∷ without_first pred messages

-- the messages without so many of the oldest that satisfy the predicate
abbrev pub without_some : ℕ → Pred → List Msg → List Msg
without_some zero pred messages = messages
without_some (suc count) pred messages = without_some count pred (without_first pred messages)

-- these are left of the messages where some were taken: none came, and their order stays
abbrev pub IsLeftOf : List Msg → List Msg → Type 0
IsLeftOf [] left = left ≡ []
IsLeftOf (message ∷ messages) left = IsLeftOf messages left ⊎ ((others : List Msg) × (left ≡ message ∷ others) × IsLeftOf messages others)

-- how many of the names, from the first on, are those of the messages
abbrev pub shared : List Msg → List MsgId → ℕ
shared messages [] = 0
shared [] (name ∷ names) = 0
shared (m ∷ messages) (name ∷ names) = if same_message m.id name then suc (shared messages names) else 0

-- how many names, from the first on, are the same in both
abbrev pub same_front : List MsgId → List MsgId → ℕ
same_front oldest [] = 0
same_front [] (name ∷ names) = 0
same_front (n ∷ oldest) (name ∷ names) = if same_message n name then suc (same_front oldest names) else 0

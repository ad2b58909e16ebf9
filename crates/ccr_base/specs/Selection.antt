-- Which messages a slot takes: the oldest that satisfy its predicate.
use Rattle.std.specs.Prelude.{ℕ, ◌+◌, ◌-◌, Bool, true, ◌==◌, ◌&&◌, nat_lt, nat_le, List, [], ◌∷◌, length, take, filter, flat_map, Option, Some, None, option_to_list, if◌then◌else◌}
use Rattle.std.specs.List.{slice_get}
use Rattle.ccr_base.specs.declared.messages.Msg.{Msg}
use Rattle.ccr_base.specs.declared.patterns.Pred.{Pred}
use Rattle.ccr_base.specs.declared.patterns.Pred.TheVariants.{Any, Eq, Lt, Ge}
use Rattle.ccr_base.specs.declared.patterns.Slot.{Slot}
use Rattle.ccr_base.specs.Values.{first_number}

-- whether the first number of the value satisfies the predicate
abbrev pub holds : Pred → List ℕ → Bool
holds Any value = true
holds (Eq n) value = first_number value == n
holds (Lt n) value = nat_lt (first_number value) n
holds (Ge n) value = nat_le n (first_number value)

-- the messages that satisfy the predicate, oldest first
abbrev pub fitting : Pred → List Msg → List Msg
fitting pred messages = filter (λ (message : Msg). holds pred message.value) messages

-- the messages without the first of those, so many
abbrev pub without_first : ℕ → Pred → List Msg → List Msg
without_first count pred [] = []
without_first count pred (message ∷ messages) = if holds pred message.value && nat_lt 0 count then without_first (count - 1) pred messages else message ∷ without_first count pred messages

-- whether enough satisfy it
abbrev pub is_choosable : Slot → List Msg → Bool
is_choosable slot messages = nat_le slot.least (length (fitting slot.pred messages))

-- the first of them, as many as the slot takes at most; none where they are too few
abbrev pub selection : Slot → List Msg → Option (List Msg)
selection slot messages = if is_choosable slot messages then Some (take slot.most (fitting slot.pred messages)) else None

-- the indices of the messages that satisfy the predicate, where the first message has this index
abbrev pub indices_from : ℕ → Pred → List Msg → List ℕ
indices_from index pred [] = []
indices_from index pred (message ∷ messages) = if holds pred message.value then index ∷ indices_from (index + 1) pred messages else indices_from (index + 1) pred messages

-- the indices of the selection
abbrev pub chosen : Slot → List Msg → Option (List ℕ)
chosen slot messages = if is_choosable slot messages then Some (take slot.most (indices_from 0 slot.pred messages)) else None

-- the messages at these indices
abbrev pub messages_at : List Msg → List ℕ → List Msg
messages_at messages indices = flat_map (λ index. option_to_list (slice_get messages index)) indices

-- What a firing takes out of the ports.
use Rattle.std.specs.Prelude.{⊤, ℕ, ◌-◌, List, [], ◌∷◌, ◌++◌, length, take, drop, Option}
use Rattle.std.specs.Option.{option_map_or}
use Rattle.ccr_base.specs.declared.names.MsgId.{MsgId}
use Rattle.ccr_base.specs.declared.messages.Msg.{Msg}
use Rattle.ccr_base.specs.declared.patterns.Slot.{Slot}
use Rattle.ccr_base.specs.declared.patterns.Pattern.{Pattern}
use Rattle.ccr_base.specs.declared.patterns.Pattern.TheVariants.{Slots, Gather}
use Rattle.ccr_base.specs.Selection.{fitting}
use Rattle.ccr_ledger.specs.Rows.{row, with_row}
use Rattle.ccr_ledger.specs.Taken.{IsLeftOf, without_some, shared}

-- the messages that were taken, and the ports without them
pub record Takes : Type 0 where
  pub messages : List Msg
  pub ports : List (List Msg)

-- the messages that the slot takes of what its port holds
abbrev pub slot_takes : (ℕ → List Msg) → Slot → List Msg
slot_takes held_at slot = take slot.most (fitting slot.pred (held_at slot.port))

-- what the slot takes
abbrev pub take_slot : Slot → List (List Msg) → Takes
take_slot slot ports = record {
  messages = take slot.most (fitting slot.pred (row ports slot.port));
  ports = with_row ports slot.port (without_some slot.most slot.pred (row ports slot.port));
}

-- one behind the other
abbrev pub and_then : Takes → (List (List Msg) → Takes) → Takes
and_then takes next = record { messages = takes.messages ++ (next takes.ports).messages; ports = (next takes.ports).ports }

-- what the slots take, slot by slot
abbrev pub take_slots : List Slot → List (List Msg) → Takes
take_slots [] ports = record { messages = []; ports = ports }
take_slots (slot ∷ slots) ports = and_then (take_slot slot ports) (take_slots slots)

-- so many of the oldest of the port
abbrev pub take_oldest : ℕ → ℕ → List (List Msg) → Takes
take_oldest port count ports = record { messages = take count (row ports port); ports = with_row ports port (drop count (row ports port)) }

-- what a gather takes by the names: of the first port those that are its oldest, of the second the others
abbrev pub take_gather : ℕ → ℕ → List MsgId → List (List Msg) → Takes
take_gather first second names ports =
    and_then (take_oldest first (shared (row ports first) names) ports) (take_oldest second (length names - shared (row ports first) names))

-- what the pattern takes, where the firing takes the messages of these names
abbrev pub take_pattern : Pattern → List MsgId → List (List Msg) → Takes
take_pattern (Slots slots) names ports = take_slots slots ports
take_pattern (Gather total first second) names ports = take_gather first second names ports

-- what a site takes: the oldest of the port
abbrev pub take_site : Option ℕ → List (List Msg) → Takes
take_site port ports = option_map_or (λ p. take_oldest p 1 ports) port (record { messages = []; ports = ports })

-- each port holds what is left of what it held
abbrev pub AreLeftOf : List (List Msg) → List (List Msg) → Type 0
AreLeftOf [] [] = ⊤
AreLeftOf [] (now ∷ nows) = ⊥
AreLeftOf (was ∷ ports) [] = ⊥
AreLeftOf (was ∷ ports) (now ∷ nows) = IsLeftOf was now × AreLeftOf ports nows

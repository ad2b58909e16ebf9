-- How many numbers the values of a history have at most.
use Rattle.std.specs.Prelude.{ℕ, ◌≤◌, List, length, All}
use Rattle.ccr_base.specs.Bounds.{most_value_numbers}
use Rattle.ccr_model.specs.declared.history.Event.{Event}
use Rattle.ccr_model.specs.declared.history.Event.TheVariants as events
use Rattle.ccr_model.specs.declared.history.EndHow.{EndHow}
use Rattle.ccr_model.specs.declared.history.EndHow.TheVariants as ends

-- one number at most, as version 1 has it
unfoldable pub IsSingle : List ℕ → Type 0
IsSingle value = length value ≤ 1

-- at most 8, as a value's type has it
abbrev pub IsSmallValue : List ℕ → Type 0
IsSmallValue value = length value ≤ most_value_numbers

-- the value of a failure has at most 8 numbers
abbrev pub IsSmallEnd : EndHow → Type 0
IsSmallEnd (ends.Failed value) = IsSmallValue value
IsSmallEnd ends.Done = Unit {0}
IsSmallEnd ends.Yield = Unit {0}
IsSmallEnd ends.Shed = Unit {0}

-- the value of the event, where it has one
abbrev pub HasSmallValue : Event → Type 0
HasSmallValue (events.Post message) = IsSmallValue message.value
HasSmallValue (events.Fire task spot messages cuts) = Unit {0}
HasSmallValue (events.Admit task) = Unit {0}
HasSmallValue (events.Put task dropped) = Unit {0}
HasSmallValue (events.Start task actor) = Unit {0}
HasSmallValue (events.End task how) = IsSmallEnd how

-- each value has at most 8 numbers
abbrev pub HaveSmallValues : List Event → Type 0
HaveSmallValues history = All HasSmallValue history

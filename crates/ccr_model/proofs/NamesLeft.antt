-- Choosing slot by slot.
use Rattle.std.proofs.Common.{◌≡◌, ℕ, List, ◌++◌, drop}
use Rattle.std.specs.Option.{option_map}
use Rattle.ccr_base.specs.declared.messages.Msg.{Msg}
use Rattle.ccr_base.specs.declared.names.MsgId.{MsgId}
use Rattle.ccr_base.specs.declared.patterns.Slot.{Slot}
use Rattle.ccr_model.specs.declared.history.Event.{Event}
use Rattle.ccr_model.specs.Posts.{held}
use Rattle.ccr_model.specs.Selection.{names_of, selection_of_slots}

-- these names, and those of the selection of the slots from this index on, are those of the selection of all
abbrev pub NamesLeft : List Event → List Slot → ℕ → List MsgId → Type 0
NamesLeft events slots i names = option_map (λ (back : List Msg). names ++ names_of back) (selection_of_slots (held events) (drop i slots)) ≡ option_map names_of (selection_of_slots (held events) slots)

-- The chosen indices are those of the selection.
use Rattle.std.proofs.Common.{◌≡◌, ℕ, zero, suc, ◌+◌, Bool, true, false, List, [], ◌∷◌, ◌++◌, length, take, Some, None, refl, ap, append_assoc, length-append}
use Rattle.std.specs.Prelude.{if◌then◌else◌}
use Rattle.std.specs.List.{slice_get}
use Rattle.std.specs.Option.{option_map}
use Rattle.ccr_base.specs.declared.messages.Msg.{Msg}
use Rattle.ccr_base.specs.declared.patterns.Pred.{Pred}
use Rattle.ccr_base.specs.declared.patterns.Slot.{Slot}
use Rattle.ccr_base.specs.Selection.{holds, fitting, is_choosable, selection, indices_from, chosen, messages_at}

slice_get-here : (front : List Msg) (message : Msg) (back : List Msg) → slice_get (front ++ message ∷ back) (length front) ≡ Some message
slice_get-here [] message back = refl
slice_get-here (first ∷ front) message back = slice_get-here front message back

-- the indices found behind a prefix are those of the messages that fit there
messages_at-indices : (pred : Pred) (messages front : List Msg) (most : ℕ) → messages_at (front ++ messages) (take most (indices_from (length front) pred messages)) ≡ take most (fitting pred messages)
messages_at-indices pred [] front zero = refl
messages_at-indices pred [] front (suc most) = refl
messages_at-indices pred (message ∷ messages) front zero = refl
messages_at-indices pred (message ∷ messages) front (suc most) =
    of_test (holds pred message.value) refl (messages_at-indices pred messages (front ++ message ∷ []))
  where
    of_test : (b : Bool) → holds pred message.value ≡ b → ((k : ℕ) → messages_at ((front ++ message ∷ []) ++ messages) (take k (indices_from (length (front ++ message ∷ [])) pred messages)) ≡ take k (fitting pred messages))
        → messages_at (front ++ message ∷ messages) (take (suc most) (indices_from (length front) pred (message ∷ messages))) ≡ take (suc most) (fitting pred (message ∷ messages))
    of_test true is others =
        let whole : (front ++ message ∷ []) ++ messages ≡ front ++ message ∷ messages = append_assoc front (message ∷ []) messages in
        let long : length (front ++ message ∷ []) ≡ length front + 1 = length-append front (message ∷ []) in
        let rest : messages_at (front ++ message ∷ messages) (take most (indices_from (length front + 1) pred messages)) ≡ take most (fitting pred messages) = rw (← whole, ← long) (others most) in
        rw (is, slice_get-here front message messages, rest) refl
    of_test false is others =
        let whole : (front ++ message ∷ []) ++ messages ≡ front ++ message ∷ messages = append_assoc front (message ∷ []) messages in
        let long : length (front ++ message ∷ []) ≡ length front + 1 = length-append front (message ∷ []) in
        rw (is, ← whole, ← long) (others (suc most))

-- the messages at the chosen indices are the selection
pub messages_at-chosen : (slot : Slot) (messages : List Msg) → option_map (messages_at messages) (chosen slot messages) ≡ selection slot messages
messages_at-chosen slot messages = of_test (is_choosable slot messages)
  where
    of_test : (b : Bool) → option_map (messages_at messages) (if b then Some (take slot.most (indices_from 0 slot.pred messages)) else None) ≡ (if b then Some (take slot.most (fitting slot.pred messages)) else None)
    of_test true = ap Some (messages_at-indices slot.pred messages [] slot.most)
    of_test false = refl

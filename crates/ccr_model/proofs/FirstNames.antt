-- The names of the first of a list.
use Rattle.std.proofs.Common.{◌≡◌, ℕ, zero, suc, true, List, [], ◌∷◌, length, take, refl, ap, sym, arith}
use Rattle.ccr_base.specs.declared.names.MsgId.{MsgId}
use Rattle.ccr_base.specs.declared.messages.Msg.{Msg}
use Rattle.ccr_base.specs.Names.{same_message, same_lists}
use Rattle.ccr_model.specs.Selection.{names_of, are_first}
use Rattle.ccr_base.proofs.SameNames.{same_message-is, same_lists-is}
use Rattle.ccr_base.proofs.Booleans.{both}

pub names_of-take : (n : ℕ) (messages : List Msg) → names_of (take n messages) ≡ take n (names_of messages)
names_of-take zero messages = refl
names_of-take (suc n) [] = refl
names_of-take (suc n) (message ∷ messages) = ap (λ (names : List MsgId). message.id ∷ names) (names_of-take n messages)

pub length-names_of : (messages : List Msg) → length (names_of messages) ≡ length messages
length-names_of [] = refl
length-names_of (message ∷ messages) = omega (arith, length-names_of messages)

-- names that pass the test are those of the messages
pub same_names : (ms : List Msg) (names : List MsgId) → same_lists same_message (names_of ms) names ≡ true → names ≡ names_of ms
same_names ms names is = sym (same_lists-is same_message same_message-is (names_of ms) names is)

-- names of a first part are those of so many messages
pub first-names : (ms : List Msg) (names : List MsgId) → are_first ms names ≡ true → names ≡ names_of (take (length names) ms)
first-names ms [] is = refl
first-names [] (n ∷ names) is = absurd (cc)
first-names (m ∷ ms) (n ∷ names) is =
    let parts = both (same_message m.id n) (are_first ms names) is in
    rw (same_message-is m.id n parts.0) (ap (λ (ns : List MsgId). n ∷ ns) (first-names ms names parts.1))

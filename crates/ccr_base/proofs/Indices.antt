-- The indices of the messages that satisfy a predicate.
use Rattle.std.proofs.Common.{◌≡◌, ℕ, zero, suc, ◌+◌, ◌-◌, ◌<◌, Bool, true, false, List, [], ◌∷◌, length, take, refl, arith}
use Rattle.std.specs.Prelude.{if◌then◌else◌}
use Rattle.ccr_base.specs.declared.messages.Msg.{Msg}
use Rattle.ccr_base.specs.declared.patterns.Pred.{Pred}
use Rattle.ccr_base.specs.Selection.{holds, fitting, indices_from}

one_more : (index : ℕ) (message : Msg) (indices : List ℕ) (messages : List Msg) (b : Bool) → length indices ≡ length messages → length (if b then index ∷ indices else indices) ≡ length (if b then message ∷ messages else messages)
one_more index message indices messages true same = omega arith
one_more index message indices messages false same = same

-- each such message has an index
pub length-indices_from : (pred : Pred) (messages : List Msg) (index : ℕ) → length (indices_from index pred messages) ≡ length (fitting pred messages)
length-indices_from pred [] index = refl
length-indices_from pred (message ∷ messages) index = one_more index message (indices_from (index + 1) pred messages) (fitting pred messages) (holds pred message.value) (length-indices_from pred messages (index + 1))

-- the next message fits: its index is the next
pub take-indices_from : (pred : Pred) (message : Msg) (messages : List Msg) (index left : ℕ) → holds pred message.value ≡ true → 0 < left → take left (indices_from index pred (message ∷ messages)) ≡ index ∷ take (left - 1) (indices_from (index + 1) pred messages)
take-indices_from pred message messages index zero fits some = absurd (omega arith)
take-indices_from pred message messages index (suc left) fits some = let less : suc left - 1 ≡ left = omega arith in rw (fits, less) refl

-- it does not
pub skip-indices_from : (pred : Pred) (message : Msg) (messages : List Msg) (index : ℕ) → holds pred message.value ≡ false → indices_from index pred (message ∷ messages) ≡ indices_from (index + 1) pred messages
skip-indices_from pred message messages index other = rw other refl

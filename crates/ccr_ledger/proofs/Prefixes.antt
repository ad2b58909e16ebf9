-- Names against those of the oldest messages, as many as there are names, are the names against the messages.
use Rattle.std.proofs.Common.{◌≡◌, ℕ, zero, suc, ◌≤◌, ◌&&◌, List, [], ◌∷◌, length, take, refl, ap, arith}
use Rattle.std.specs.Prelude.{◌==◌}
use Rattle.ccr_base.specs.declared.names.MsgId.{MsgId}
use Rattle.ccr_base.specs.declared.messages.Msg.{Msg}
use Rattle.ccr_base.specs.Names.{same_message}
use Rattle.ccr_model.specs.Selection.{names_of, are_first, are_split, are_oldest}
use Rattle.ccr_base.proofs.Booleans.{eq-self}
use Rattle.ccr_ledger.specs.Prefixes.{are_prefix, are_prefixes}

pub front-told : (ms : List Msg) (names : List MsgId) (n : ℕ) → length names ≤ n → are_prefix (names_of (take n ms)) names ≡ are_first ms names
front-told ms [] n few = refl
front-told ms (name ∷ names) zero few = absurd (omega (arith, few))
front-told [] (name ∷ names) (suc n) few = refl
front-told (m ∷ ms) (name ∷ names) (suc n) few = ap (λ b. same_message m.id name && b) (front-told ms names n (omega (arith, few)))

pub fronts-told : (a b : List Msg) (names : List MsgId) (n k : ℕ) → length names ≤ n → length names ≤ k → are_prefixes (names_of (take n a)) (names_of (take k b)) names ≡ are_split a b names
fronts-told a b [] n k few_a few_b = refl
fronts-told a b (name ∷ names) zero k few_a few_b = absurd (omega (arith, few_a))
fronts-told [] b (name ∷ names) (suc n) k few_a few_b = front-told b (name ∷ names) k few_b
fronts-told (m ∷ a) b (name ∷ names) (suc n) k few_a few_b = rw (front-told b (name ∷ names) k few_b, fronts-told a b names n k (omega (arith, few_a)) (omega (arith, few_b))) refl

-- of two ports, and of one
pub gather-told : (total : ℕ) (a b : List Msg) (names of_first of_second : List MsgId) → length names ≡ total → of_first ≡ names_of (take total a) → of_second ≡ names_of (take total b)
    → are_prefixes of_first of_second names ≡ (length names == total) && are_split a b names
gather-told total a b names of_first of_second many is so = rw (is, so, fronts-told a b names total total (omega (arith, many)) (omega (arith, many)), many, eq-self total) refl

pub oldest-told : (ms : List Msg) (names oldest : List MsgId) → length names ≡ 1 → oldest ≡ names_of (take 1 ms) → are_prefix oldest names ≡ are_oldest ms names
oldest-told ms names oldest many is = rw (is, front-told ms names 1 (omega (arith, many)), many) refl

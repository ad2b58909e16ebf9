-- What is left in the ports where messages are taken.
use Rattle.std.proofs.Common.{◌≡◌, ℕ, zero, suc, ◌<◌, List, [], ◌∷◌, length, subst, arith}
use Rattle.std.proofs.Math.ListN.{set, get_or}
use Rattle.ccr_base.specs.declared.messages.Msg.{Msg}
use Rattle.ccr_ledger.specs.Taken.{IsLeftOf}
use Rattle.ccr_ledger.proofs.HeldLefts.{left_same, left_then}
use Rattle.ccr_ledger.specs.Taking.{AreLeftOf}

pub left_all : (ports : List (List Msg)) → AreLeftOf ports ports
left_all [] = tt
left_all (p ∷ ports) = (left_same p, left_all ports)

pub left_after : (ports some less : List (List Msg)) → AreLeftOf ports some → AreLeftOf some less → AreLeftOf ports less
left_after [] [] less is next = next
left_after [] (s ∷ some) less is next = absurd is
left_after (p ∷ ports) [] less is next = absurd is
left_after (p ∷ ports) (s ∷ some) [] is next = absurd next
left_after (p ∷ ports) (s ∷ some) (l ∷ less) is next = (left_then p s l is.0 next.0, left_after ports some less is.1 next.1)

-- one port holds what is left of what it held
pub left_set : (ports : List (List Msg)) (n : ℕ) (was now : List Msg) → n < length ports → was ≡ get_or ports n was → IsLeftOf was now → AreLeftOf ports (set ports n now)
left_set [] n was now low read is = absurd (omega arith)
left_set (p ∷ ports) zero was now low read is = (subst (λ w. IsLeftOf w now) read is, left_all ports)
left_set (p ∷ ports) (suc n) was now low read is = (left_same p, left_set ports n was now (omega arith) read is)

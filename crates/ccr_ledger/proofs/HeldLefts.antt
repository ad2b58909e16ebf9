-- What is left where messages are taken.
use Rattle.std.proofs.Common.{inl, inr, Bool, true, false, List, [], ◌∷◌, refl, subst}
use Rattle.std.specs.Prelude.{if◌then◌else◌}
use Rattle.ccr_base.specs.declared.messages.Msg.{Msg}
use Rattle.ccr_base.specs.declared.patterns.Pred.{Pred}
use Rattle.ccr_base.specs.Selection.{holds}
use Rattle.ccr_ledger.specs.Taken.{IsLeftOf, without_first}

pub left_same : (ms : List Msg) → IsLeftOf ms ms
left_same [] = refl
left_same (m ∷ ms) = inr (ms, refl, left_same ms)

pub left_first : (pred : Pred) (ms : List Msg) → IsLeftOf ms (without_first pred ms)
left_first pred [] = refl
left_first pred (m ∷ ms) = of_test (holds pred m.value) (left_first pred ms)
  where
    of_test : (b : Bool) → IsLeftOf ms (without_first pred ms) → IsLeftOf (m ∷ ms) (if b then ms else m ∷ without_first pred ms)
    of_test true rest = inl (left_same ms)
    of_test false rest = inr (without_first pred ms, refl, rest)

-- what is left of what is left
pub left_then : (ms some less : List Msg) → IsLeftOf ms some → IsLeftOf some less → IsLeftOf ms less
left_then [] some less is next = subst (λ s. IsLeftOf s less) is next
left_then (m ∷ ms) some less (inl is) next = inl (left_then ms some less is next)
left_then (m ∷ ms) some less (inr (others, same, is)) next = of_next (subst (λ s. IsLeftOf s less) same next) (λ fewer. left_then ms others fewer is)
  where
    of_next : IsLeftOf (m ∷ others) less → ((fewer : List Msg) → IsLeftOf others fewer → IsLeftOf ms fewer) → IsLeftOf (m ∷ ms) less
    of_next (inl rest) each = inl (each less rest)
    of_next (inr (fewer, alike, rest)) each = inr (fewer, alike, each fewer rest)

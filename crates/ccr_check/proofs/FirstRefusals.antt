-- The index of the first event that isn't allowed.
use Rattle.std.proofs.Common.{◌≡◌, ℕ, ◌+◌, List, [], ◌∷◌, ◌++◌, Option, Some, None, refl}
use Rattle.ccr_wiring.specs.declared.parts.Parts.{Parts}
use Rattle.ccr_model.specs.declared.history.Event.{Event}
use Rattle.ccr_model.specs.declared.rule.Rule.{Rule}
use Rattle.ccr_model.specs.Rules.{refusal}
use Rattle.ccr_model.specs.Legal.{first_refusal, IsLegal, IsLegalAfter}
use Rattle.ccr_model.proofs.LegalParts.{first_refusal-legal}

-- where no event is refused, each is allowed
pub IsLegalAfter-none : (w : Parts) (past : List Event) (n : ℕ) (es : List Event) → first_refusal w past n es ≡ None → IsLegalAfter w past es
IsLegalAfter-none w past n [] none = tt
IsLegalAfter-none w past n (e ∷ es) none = of_rule (refusal w past e) refl none (IsLegalAfter-none w (past ++ e ∷ []) (n + 1) es)
  where
    of_rule : (o : Option Rule) → refusal w past e ≡ o → elim o as (λ x. Option (ℕ × Rule)) [ None ↦ first_refusal w (past ++ e ∷ []) (n + 1) es | Some rule ↦ Some (n, rule) ] ≡ None → (first_refusal w (past ++ e ∷ []) (n + 1) es ≡ None → IsLegalAfter w (past ++ e ∷ []) es) → IsLegalAfter w past (e ∷ es)
    of_rule None is rest others = (is, others rest)
    of_rule (Some rule) is rest others = absurd (cc)

-- where one is refused, not each is allowed
pub not_legal : (w : Parts) (h : List Event) (index : ℕ) (rule : Rule) → first_refusal w [] 0 h ≡ Some (index, rule) → IsLegal w h → ⊥
not_legal w h index rule is legal = let none = first_refusal-legal w [] 0 h legal in cc

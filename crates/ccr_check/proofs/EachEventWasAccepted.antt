-- How far a verdict has come: each event so far was accepted.
use Rattle.std.proofs.Common.{◌≡◌, ◌∙◌, ℕ, suc, ◌+◌, ◌<◌, List, [], ◌∷◌, ◌++◌, length, take, drop, get_or, Option, Some, None, refl, ap, sym, arith, drop-cons}
use Rattle.std.proofs.lemmas.List.{take_more}
use Rattle.ccr_wiring.specs.declared.parts.Parts.{Parts}
use Rattle.ccr_model.specs.declared.history.Event.{Event}
use Rattle.ccr_model.specs.declared.rule.Rule.{Rule}
use Rattle.ccr_model.specs.Rules.{refusal}
use Rattle.ccr_model.specs.Legal.{first_refusal}
use Rattle.ccr_checker.specs.Judges.{Judged}

-- so many events were accepted, and the first refusal is that of those behind them
pub record HasAccepted (start now : Judged) (es : List Event) (at : ℕ) : Type 0 where
  pub so_far : now ≡ record start { history = take at es }
  pub refusal : first_refusal start.wiring (take at es) at (drop at es) ≡ first_refusal start.wiring [] 0 es

pub accepted_none : (start : Judged) (es : List Event) → start.history ≡ [] → HasAccepted start start es 0
accepted_none start [] none = record { so_far = rw none refl; refusal = refl }
accepted_none start (e ∷ es) none = record { so_far = rw none refl; refusal = refl }

-- what is asked of the next event
told_here : (w : Parts) (es : List Event) (at : ℕ) (e : Event) → at < length es → e ≡ get_or es at e
    → (o : Option Rule) → refusal w (take at es) e ≡ o
    → first_refusal w (take at es) at (drop at es) ≡ elim o as (λ x. Option (ℕ × Rule)) [ None ↦ first_refusal w (take at es ++ e ∷ []) (at + 1) (drop (suc at) es) | Some rule ↦ Some (at, rule) ]
told_here w es at e low is o asked =
    let here = drop-cons es at e low ∙ ap (λ x. x ∷ drop (suc at) es) (sym is) in
    ap (λ rest. first_refusal w (take at es) at rest) here
    ∙ ap (λ (asking : Option Rule). elim asking as (λ x. Option (ℕ × Rule)) [ None ↦ first_refusal w (take at es ++ e ∷ []) (at + 1) (drop (suc at) es) | Some rule ↦ Some (at, rule) ]) asked

asked_of : (start now : Judged) (es : List Event) (at : ℕ) (e : Event) (o : Option Rule) → HasAccepted start now es at → o ≡ refusal now.wiring now.history e → refusal start.wiring (take at es) e ≡ o
asked_of start now es at e o so_far asked = sym (asked ∙ ap (λ (j : Judged). refusal j.wiring j.history e) so_far.so_far)

pub accepted_more : (start now new : Judged) (es : List Event) (at : ℕ) (e : Event) → at < length es → e ≡ get_or es at e → None ≡ refusal now.wiring now.history e
    → new ≡ record now { history = now.history ++ e ∷ [] } → HasAccepted start now es at → HasAccepted start new es (at + 1)
accepted_more start now new es at e low is allowed accepted so_far =
    let more : take (at + 1) es ≡ take at es ++ e ∷ [] = take_more es at e low ∙ ap (λ x. take at es ++ x ∷ []) (sym is) in
    let next : suc at ≡ at + 1 = omega arith in
    record {
      so_far = rw (accepted, so_far.so_far, more) refl;
      refusal = rw more (ap (λ n. first_refusal start.wiring (take at es ++ e ∷ []) (at + 1) (drop n es)) (sym next) ∙ (sym (told_here start.wiring es at e low is None (asked_of start now es at e None so_far allowed)) ∙ so_far.refusal));
    }

pub refused_here : (start now : Judged) (es : List Event) (at : ℕ) (rule : Rule) (e : Event) → at < length es → e ≡ get_or es at e → Some rule ≡ refusal now.wiring now.history e
    → HasAccepted start now es at → Some (at, rule) ≡ first_refusal start.wiring [] 0 es
refused_here start now es at rule e low is refused so_far = sym (told_here start.wiring es at e low is (Some rule) (asked_of start now es at e (Some rule) so_far refused)) ∙ so_far.refusal

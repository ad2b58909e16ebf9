-- Legal histories by their parts, and induction over the events that follow.
use Rattle.std.proofs.Common.{◌≡◌, ℕ, ◌+◌, List, [], ◌∷◌, ◌++◌, Option, Some, None, refl, sym, subst, append_assoc, append-nil}
use Rattle.ccr_wiring.specs.declared.parts.Parts.{Parts}
use Rattle.ccr_model.specs.declared.history.Event.{Event}
use Rattle.ccr_model.specs.declared.rule.Rule.{Rule}
use Rattle.ccr_model.specs.Rules.{refusal}
use Rattle.ccr_model.specs.Legal.{IsAllowed, IsLegal, IsLegalAfter, first_refusal}
use Rattle.ccr_model.proofs.PostNames.{along}

-- one more event
pub legal_push : (w : Parts) (past es : List Event) (e : Event) → IsLegalAfter w past es → IsAllowed w (past ++ es) e → IsLegalAfter w past (es ++ e ∷ [])
legal_push w past [] e legal allowed = (subst (λ g. IsAllowed w g e) (append-nil past) allowed, tt)
legal_push w past (x ∷ es) e legal allowed = (legal.0, legal_push w (past ++ x ∷ []) es e legal.1 (subst (λ g. IsAllowed w g e) (sym (append_assoc past (x ∷ []) es)) allowed))

-- what the empty history has and each event that is allowed after a legal history keeps
pub along_legal : (w : Parts) (P : List Event → Type 0) → ((h : List Event) (e : Event) → IsLegal w h → IsAllowed w h e → P h → P (h ++ e ∷ [])) → P [] → (h : List Event) → IsLegal w h → P h
along_legal w P keeps start h legal = (along w (λ g. IsLegal w g × P g) (λ g e p allowed. (legal_push w [] g e p.0 allowed, keeps g e p.0 allowed p.1)) (tt, start) h legal).1

-- the first events, and those that follow
pub legal_split : (w : Parts) (past front back : List Event) → IsLegalAfter w past (front ++ back) → IsLegalAfter w past front × IsLegalAfter w (past ++ front) back
legal_split w past [] back legal = (tt, rw (append-nil past) legal)
legal_split w past (x ∷ front) back legal =
    let rest = legal_split w (past ++ x ∷ []) front back legal.1 in
    ((legal.0, rest.0), subst (λ g. IsLegalAfter w g back) (append_assoc past (x ∷ []) front) rest.1)

-- what holds before the events that follow and is kept by each of them
onward_from : (w : Parts) (past : List Event) (P : List Event → Type 0) → ((done : List Event) (e : Event) → IsLegal w (past ++ done) → IsAllowed w (past ++ done) e → P done → P (done ++ e ∷ [])) → (done es : List Event) → IsLegal w (past ++ done) → P done → IsLegalAfter w (past ++ done) es → P (done ++ es)
onward_from w past P keeps done [] legal p after = rw (append-nil done) p
onward_from w past P keeps done (e ∷ es) legal p after =
    let more : (past ++ done) ++ e ∷ [] ≡ past ++ (done ++ e ∷ []) = append_assoc past done (e ∷ []) in
    let longer : IsLegal w (past ++ (done ++ e ∷ [])) = subst (IsLegal w) more (legal_push w [] (past ++ done) e legal after.0) in
    let rest : IsLegalAfter w (past ++ (done ++ e ∷ [])) es = subst (λ g. IsLegalAfter w g es) more after.1 in
    subst P (append_assoc done (e ∷ []) es) (onward_from w past P keeps (done ++ e ∷ []) es longer (keeps done e legal after.0 p) rest)

pub onward : (w : Parts) (past : List Event) (P : List Event → Type 0) → ((done : List Event) (e : Event) → IsLegal w (past ++ done) → IsAllowed w (past ++ done) e → P done → P (done ++ e ∷ [])) → P [] → (es : List Event) → IsLegal w past → IsLegalAfter w past es → P es
onward w past P keeps start es legal after = onward_from w past P keeps [] es (rw (append-nil past) legal) start (rw (append-nil past) after)

-- a history up to an event, that event, and those that follow
pub record Parted (w : Parts) (before : List Event) (e : Event) (after : List Event) : Type 0 where
  pub legal_before : IsLegal w before
  pub allowed : IsAllowed w before e
  pub legal_then : IsLegal w (before ++ e ∷ [])
  pub legal_after : IsLegalAfter w (before ++ e ∷ []) after

pub Parted-legal : (w : Parts) (before : List Event) (e : Event) (after : List Event) → IsLegal w (before ++ e ∷ after) → Parted w before e after
Parted-legal w before e after legal =
    let parts = legal_split w [] before (e ∷ after) legal in
    record { legal_before = parts.0; allowed = parts.1.0; legal_then = legal_push w [] before e parts.0 parts.1.0; legal_after = parts.1.1 }

-- where each is allowed, no event is refused
pub first_refusal-legal : (w : Parts) (past : List Event) (n : ℕ) (es : List Event) → IsLegalAfter w past es → first_refusal w past n es ≡ None
first_refusal-legal w past n [] legal = refl
first_refusal-legal w past n (e ∷ es) legal = of_rule (refusal w past e) legal.0 (first_refusal-legal w (past ++ e ∷ []) (n + 1) es legal.1)
  where
    of_rule : (o : Option Rule) → o ≡ None → first_refusal w (past ++ e ∷ []) (n + 1) es ≡ None → elim o as (λ x. Option (ℕ × Rule)) [ None ↦ first_refusal w (past ++ e ∷ []) (n + 1) es | Some rule ↦ Some (n, rule) ] ≡ None
    of_rule None is rest = rest
    of_rule (Some rule) is rest = absurd (cc)

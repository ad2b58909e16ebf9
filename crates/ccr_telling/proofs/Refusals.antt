-- The first refusal of events, one event more at a time.
use Rattle.std.proofs.Common.{◌≡◌, ◌∙◌, ℕ, ◌+◌, List, [], ◌∷◌, ◌++◌, length, Option, Some, None, refl, sym, ap, arith, append_assoc, append-nil}
use Rattle.ccr_wiring.specs.declared.parts.Parts.{Parts}
use Rattle.ccr_model.specs.declared.history.Event.{Event}
use Rattle.ccr_model.specs.declared.rule.Rule.{Rule}
use Rattle.ccr_model.specs.Rules.{refusal}
use Rattle.ccr_model.specs.Legal.{first_or, first_refusal}

-- what is refused first, where this is said of the last event, and nothing before it is refused
abbrev pub at_last : ℕ → Option Rule → Option (ℕ × Rule)
at_last index answer = elim answer [ None ↦ None | Some rule ↦ Some (index, rule) ]

-- the same as `first_refusal`, by whatever is asked of each event
first_by : (List Event → Event → Option Rule) → List Event → ℕ → List Event → Option (ℕ × Rule)
first_by ask past index [] = None
first_by ask past index (e ∷ es) = first_or (ask past e) index (first_by ask (past ++ e ∷ []) (index + 1) es)

is_first : (w : Parts) (past : List Event) (index : ℕ) (es : List Event) → first_refusal w past index es ≡ first_by (refusal w) past index es
unfolding first_by
is_first w past index [] = refl
is_first w past index (e ∷ es) = ap (first_or (refusal w past e) index) (is_first w (past ++ e ∷ []) (index + 1) es)

abbrev nothing : Option (ℕ × Rule)
nothing = None

only_one : (o : Option Rule) (index : ℕ) → first_or o index None ≡ at_last index o
only_one None index = refl
only_one (Some rule) index = refl

none_or : (o : Option Rule) (index : ℕ) (later : Option (ℕ × Rule)) → first_or o index later ≡ None → (o ≡ None) × (later ≡ None)
none_or None index later none = (refl, none)
none_or (Some rule) index later none = absurd cc

stays_or : (o : Option Rule) (index : ℕ) (later more : Option (ℕ × Rule)) (first : ℕ × Rule) → (later ≡ Some first → more ≡ Some first) → first_or o index later ≡ Some first → first_or o index more ≡ Some first
stays_or None index later more first goes is = goes is
stays_or (Some rule) index later more first goes is = is

none_some : (x : ℕ × Rule) → nothing ≡ Some x → ⊥
none_some x e = cc

next_by : (ask : List Event → Event → Option Rule) (past : List Event) (index : ℕ) (es : List Event) (e : Event) → first_by ask past index es ≡ None → first_by ask past index (es ++ e ∷ []) ≡ at_last (index + length es) (ask (past ++ es) e)
unfolding first_by
next_by ask past index [] e none =
    let here : index ≡ index + 0 = omega arith in
    only_one (ask past e) index ∙ (ap (λ n. at_last n (ask past e)) here ∙ ap (λ h. at_last (index + 0) (ask h e)) (sym (append-nil past)))
next_by ask past index (x ∷ es) e none =
    let parts = none_or (ask past x) index (first_by ask (past ++ x ∷ []) (index + 1) es) none in
    let there : index + 1 + length es ≡ index + length (x ∷ es) = omega arith in
    ap (λ o. first_or o index (first_by ask (past ++ x ∷ []) (index + 1) (es ++ e ∷ []))) parts.0
    ∙ (next_by ask (past ++ x ∷ []) (index + 1) es e parts.1
    ∙ (ap (λ n. at_last n (ask ((past ++ x ∷ []) ++ es) e)) there ∙ ap (λ h. at_last (index + length (x ∷ es)) (ask h e)) (append_assoc past (x ∷ []) es)))

stays_by : (ask : List Event → Event → Option Rule) (past : List Event) (index : ℕ) (es : List Event) (e : Event) (first : ℕ × Rule) → first_by ask past index es ≡ Some first → first_by ask past index (es ++ e ∷ []) ≡ Some first
unfolding first_by
stays_by ask past index [] e first is = absurd (none_some first is)
stays_by ask past index (x ∷ es) e first is = stays_or (ask past x) index _ _ first (stays_by ask (past ++ x ∷ []) (index + 1) es e first) is

-- nothing was refused: the next event may be
pub refusal_next : (w : Parts) (past : List Event) (index : ℕ) (es : List Event) (e : Event) → first_refusal w past index es ≡ None
    → first_refusal w past index (es ++ e ∷ []) ≡ at_last (index + length es) (refusal w (past ++ es) e)
refusal_next w past index es e none = is_first w past index (es ++ e ∷ []) ∙ next_by (refusal w) past index es e (sym (is_first w past index es) ∙ none)

-- something was refused: that stays first
pub refusal_stays : (w : Parts) (past : List Event) (index : ℕ) (es : List Event) (e : Event) (first : ℕ × Rule) → first_refusal w past index es ≡ Some first → first_refusal w past index (es ++ e ∷ []) ≡ Some first
refusal_stays w past index es e first is = is_first w past index (es ++ e ∷ []) ∙ stays_by (refusal w) past index es e first (sym (is_first w past index es) ∙ is)

-- Tasks are cut only after a teardown, and dropped only under discard.
use Rattle.std.proofs.Common.{◌≡◌, ℕ, Bool, true, false, not, ◌&&◌, List, [], ◌∷◌, ◌++◌, Option, Some, None, refl, sym, ap, ◌∙◌, arith, subst, append-nil}
use Rattle.std.specs.Prelude.{◌==◌, if◌then◌else◌}
use Rattle.std.specs.Option.{option_map_or}
use Rattle.std.proofs.lemmas.Bool.Decides.{nat_tests}
use Rattle.ccr_base.specs.declared.names.TaskId.{TaskId}
use Rattle.ccr_base.specs.declared.names.MsgId.{MsgId}
use Rattle.ccr_base.specs.declared.names.Spot.{Spot}
use Rattle.ccr_base.specs.declared.names.Spot.TheVariants.{Branch, Site}
use Rattle.ccr_base.specs.declared.policies.Policy.TheVariants.{Discard}
use Rattle.ccr_base.specs.Names.{has_task}
use Rattle.ccr_base.proofs.Booleans.{no_both, not_false, not_true, refuted}
use Rattle.ccr_wiring.specs.Wirings.{Placement, placement, branch_of, policy_of}
use Rattle.ccr_model.specs.declared.history.Event.{Event}
use Rattle.ccr_model.specs.declared.history.Event.TheVariants.{Post, Fire, Admit, Put, Start, End}
use Rattle.ccr_model.specs.Firings.{cut, dropped}
use Rattle.ccr_model.specs.Tasks.{fired_by, waiting, is_teardown}
use Rattle.ccr_model.specs.Live.{is_none_of}
use Rattle.ccr_model.specs.Rules.{cuts_at}
use Rattle.ccr_model.specs.Legal.{IsAllowed, IsLegal}
use Rattle.ccr_model.proofs.PostNames.{along}
use Rattle.ccr_model.proofs.OneMoreEvent.{cut-push}
use Rattle.ccr_model.proofs.FiredTasks.{placement_fired}
use Rattle.ccr_laws.proofs.LegalEventsWereAllowed.{allowed_at}
use Rattle.ccr_model.proofs.Cutting.{fired_by-append}
use Rattle.ccr_model.proofs.AllowedDrops.{drop_allowed}
use Rattle.ccr_laws.proofs.DroppingPuts.{some_put}
use Rattle.ccr_model.proofs.AllowedFirings.{FiresSo-allowed}
use Rattle.ccr_model.proofs.TaskLists.{of_more, none_before}
use Rattle.ccr_model.proofs.WhoWasPut.{placement_by}
use Rattle.ccr_service.specs.declared.parts.ServiceParts.{ServiceParts}
use Rattle.ccr_service.specs.Expansion.{expansion}
use Rattle.ccr_service.specs.Served.{is_torn_down}
use Rattle.ccr_service.proofs.Shape.{PlacementFacts-placement}

abbrev teardown_placement : Placement → Bool
teardown_placement r = (r.domain == 0) && is_teardown r.branch.group

some_more : (ts us : List TaskId) → not (is_none_of ts) ≡ true → not (is_none_of (ts ++ us)) ≡ true
some_more ts us is = not_false (is_none_of (ts ++ us)) (refuted (is_none_of (ts ++ us)) (λ none. no_both (none_before ts us none) (not_true (is_none_of ts) is)))

some_behind : (ts us : List TaskId) (t : TaskId) → not (is_none_of (ts ++ t ∷ us)) ≡ true
some_behind [] us t = grind (arith, nat_tests)
some_behind (u ∷ ts) us t = grind (arith, nat_tests)

torn_more : (s : ServiceParts) (h es : List Event) → is_torn_down s h ≡ true → is_torn_down s (h ++ es) ≡ true
torn_more s h es is = rw (fired_by-append (expansion s) teardown_placement h es) (some_more (fired_by (expansion s) teardown_placement h) (fired_by (expansion s) teardown_placement es) is)

-- a firing that cuts is a teardown's
torn_now : (s : ServiceParts) (h : List Event) (x t : TaskId) (sp : Spot) (ms : List MsgId) (cs : List TaskId) → has_task (cuts_at (expansion s) h sp) t ≡ true → is_torn_down s (h ++ Fire x sp ms cs ∷ []) ≡ true
torn_now s h x t (Site b k) ms cs is = absurd (cc)
torn_now s h x t (Branch b) ms cs is = by_placement (placement (expansion s) b) refl is
  where
    by_group : (r : Placement) → placement (expansion s) b ≡ Some r → (g : Bool) → is_teardown r.branch.group ≡ g → has_task (if g then waiting (expansion s) h r.domain else []) t ≡ true → is_torn_down s (h ++ Fire x (Branch b) ms cs ∷ []) ≡ true
    by_group r at false e gone = absurd (cc)
    by_group r at true e has =
        let zero_arbiter = (PlacementFacts-placement s b r at).domain in
        let passes : teardown_placement r ≡ true = rw (zero_arbiter, e) refl in
        let one : fired_by (expansion s) teardown_placement (Fire x (Branch b) ms cs ∷ []) ≡ x ∷ [] = rw (at, passes) refl in
        rw (fired_by-append (expansion s) teardown_placement h (Fire x (Branch b) ms cs ∷ []), one) (some_behind (fired_by (expansion s) teardown_placement h) [] x)

    by_placement : (o : Option Placement) → placement (expansion s) b ≡ o → has_task (option_map_or (λ (r : Placement). if is_teardown r.branch.group then waiting (expansion s) h r.domain else []) o []) t ≡ true → is_torn_down s (h ++ Fire x (Branch b) ms cs ∷ []) ≡ true
    by_placement None at gone = absurd (cc)
    by_placement (Some r) at has = by_group r at (is_teardown r.branch.group) refl has

abbrev CutsTorn : ServiceParts → List Event → Type 0
CutsTorn s h = (t : TaskId) → has_task (cut h) t ≡ true → is_torn_down s h ≡ true

no_more_cut : (s : ServiceParts) (h : List Event) (e : Event) → cut (e ∷ []) ≡ [] → CutsTorn s h → CutsTorn s (h ++ e ∷ [])
no_more_cut s h e none known t is =
    let same : cut (h ++ e ∷ []) ≡ cut h = cut-push h e ∙ ap (λ ts. cut h ++ ts) none ∙ append-nil (cut h) in
    torn_more s h (e ∷ []) (known t (subst (λ ts. has_task ts t ≡ true) same is))

cuts_kept : (s : ServiceParts) (h : List Event) (e : Event) → CutsTorn s h → IsAllowed (expansion s) h e → CutsTorn s (h ++ e ∷ [])
cuts_kept s h (Fire x sp ms cs) known allowed t is =
    let e : Event = Fire x sp ms cs in
    let cuts = (FiresSo-allowed (expansion s) h x sp ms cs allowed).cuts in
    let both_lists : has_task (cut h ++ cut (e ∷ [])) t ≡ true = subst (λ ts. has_task ts t ≡ true) (cut-push h e) is in
    let its : cut (e ∷ []) ≡ cuts_at (expansion s) h sp = append-nil cs ∙ cuts in
    of_more (cut h) (cut (e ∷ [])) t (is_torn_down s (h ++ e ∷ []) ≡ true) both_lists (λ old. torn_more s h (e ∷ []) (known t old)) (λ new. torn_now s h x t sp ms cs (subst (λ ts. has_task ts t ≡ true) its new))
cuts_kept s h (Post m) known allowed t is = no_more_cut s h (Post m) refl known t is
cuts_kept s h (Admit x) known allowed t is = no_more_cut s h (Admit x) refl known t is
cuts_kept s h (Put x d) known allowed t is = no_more_cut s h (Put x d) refl known t is
cuts_kept s h (Start x a) known allowed t is = no_more_cut s h (Start x a) refl known t is
cuts_kept s h (End x how) known allowed t is = no_more_cut s h (End x how) refl known t is

pub cut_torn : (s : ServiceParts) (h : List Event) → IsLegal (expansion s) h → (t : TaskId) → has_task (cut h) t ≡ true → is_torn_down s h ≡ true
cut_torn s h legal = along (expansion s) (CutsTorn s) (cuts_kept s) (λ t is. absurd (cc)) h legal

-- a dropped task says that the policy is discard
pub dropped_discards : (s : ServiceParts) (h : List Event) → IsLegal (expansion s) h → (t : TaskId) → has_task (dropped h) t ≡ true → (most : ℕ) × (s.policy ≡ Discard most)
dropped_discards s h legal t is =
    let some = some_put h t is in
    let facts = drop_allowed (expansion s) some.past some.by t (allowed_at (expansion s) h some.past _ legal some.stands) in
    let fired = placement_fired (expansion s) some.past some.by facts.its facts.with_placement in
    let at : placement (expansion s) (branch_of fired.0.spot) ≡ Some facts.its = sym (placement_by (expansion s) some.past some.by fired.0 fired.1) ∙ facts.with_placement in
    let zero_queue = (PlacementFacts-placement s (branch_of fired.0.spot) facts.its at).serves.queue in
    (facts.most, subst (λ q. policy_of (expansion s) q ≡ Discard facts.most) zero_queue facts.policy)

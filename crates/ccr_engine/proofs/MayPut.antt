-- Which tasks may be put after each event.
use Rattle.std.proofs.Common.{◌≡◌, ℕ, Bool, true, false, not, ◌&&◌, ◌||◌, List, [], ◌∷◌, ◌++◌, Option, refl, sym, subst, arith, append-nil}
use Rattle.std.specs.Option.{option_map_or}
use Rattle.std.proofs.lemmas.Grind.{common_steps}
use Rattle.ccr_base.specs.declared.names.TaskId.{TaskId}
use Rattle.ccr_base.specs.declared.names.MsgId.{MsgId}
use Rattle.ccr_base.specs.declared.names.Spot.{Spot}
use Rattle.ccr_base.specs.Names.{same_task, has_task}
use Rattle.ccr_wiring.specs.declared.parts.Parts.{Parts}
use Rattle.ccr_model.specs.declared.history.Event.{Event}
use Rattle.ccr_model.specs.declared.history.Event.TheVariants.{Fire, Admit, Put}
use Rattle.ccr_model.specs.Firings.{firing_of, fired, cut, put, put_by, ever_admitted, admitted_by, spot_of}
use Rattle.ccr_model.specs.Rules.{may_put, needs_no_admission}
use Rattle.ccr_model.specs.Legal.{IsAllowed, IsLegal}
use Rattle.ccr_model.proofs.OneMoreEvent.{put-push, cut-push, ever_admitted-push}
use Rattle.ccr_model.proofs.TaskSteps.{firing_named-fire}
use Rattle.ccr_base.proofs.Booleans.{and_false}
use Rattle.ccr_base.proofs.SameNames.{same_task-is, same_task-self, has_task-append}
use Rattle.ccr_model.proofs.FiredTasks.{fired_has}
use Rattle.ccr_model.proofs.ExclusiveRootsAreAlone.{ever_admitted_fired}
use Rattle.ccr_model.proofs.Allowing.{OneName-legal}
use Rattle.ccr_model.proofs.WhoWasPut.{ArePlaced-legal}
use Rattle.ccr_model.proofs.AllowedFirings.{FiresSo, FiresSo-allowed, firing_named-new, firings-other, WaitingFacts, WaitingFacts-waiting, waits_outside}
use Rattle.ccr_model.proofs.Cutting.{AdmitFacts, AdmitFacts-allowed, CutFacts-legal, waits_unput, cuts_wait, cut_fired}
use Rattle.ccr_model.proofs.TaskLists.{not_within}
use Rattle.ccr_model.proofs.LegalIsCovered.{no_member}

-- a waiting task may not be put
waits_not : (w : Parts) (h : List Event) (i : ℕ) (u : TaskId) → WaitingFacts w h i u → may_put w h u ≡ false
waits_not w h i u waits = rw (waits.is_firing, waits_outside w h i u waits) (and_false (not (has_task (put h) u) && not (has_task (cut h) u)))

-- over plain tests: one more is cut, who could not be put
cut_more : (a b c d : Bool) → (c ≡ true → a && not b && d ≡ false) → a && not (b || c) && d ≡ a && not b && d
cut_more a b false d none = of_b b
  where
    of_b : (b : Bool) → a && not (b || false) && d ≡ a && not b && d
    of_b true = refl
    of_b false = refl
cut_more a b true d none = rw (none refl) (of_b b)
  where
    of_b : (b : Bool) → a && not (b || true) && d ≡ false
    of_b true = of_a a
      where
        of_a : (a : Bool) → a && false && d ≡ false
        of_a true = refl
        of_a false = refl
    of_b false = of_a a
      where
        of_a : (a : Bool) → a && false && d ≡ false
        of_a true = refl
        of_a false = refl

-- a firing changes nothing for the tasks that fired before it, whomever it cuts
pub may_put-fire : (w : Parts) (h : List Event) (t : TaskId) (s : Spot) (ms : List MsgId) (cs : List TaskId) (u : TaskId) → IsLegal w h → IsAllowed w h (Fire t s ms cs) → has_task (fired h) u ≡ true → may_put w (h ++ Fire t s ms cs ∷ []) u ≡ may_put w h u
may_put-fire w h t s ms cs u legal allowed among =
    rw (put-push, ever_admitted-push, cut-push, append-nil (put h), append-nil (ever_admitted h), firing_named-fire h t u s ms cs (no_member (fired h) t u facts.new_name among), has_task-append (cut h) (cs ++ []) u, append-nil cs)
    (cut_more (not (has_task (put h) u)) (has_task (cut h) u) (has_task cs u) (option_map_or (λ spot. needs_no_admission w spot || has_task (ever_admitted h) u) (spot_of h u) false) none)
  where
    facts : FiresSo w h t s ms cs
    facts = FiresSo-allowed w h t s ms cs allowed

    none : has_task cs u ≡ true → may_put w h u ≡ false
    none is =
        let waits = cuts_wait w h s u (subst (λ ts. has_task ts u ≡ true) facts.cuts is) in
        waits_not w h waits.0 u (WaitingFacts-waiting w h waits.0 u (OneName-legal w h legal) waits.1)

only_needs : (a b : Bool) → b ≡ false → a || b ≡ a
only_needs true b none = refl
only_needs false b none = none

-- a task that fires may be put at once where it needs no admission
pub may_put-new : (w : Parts) (h : List Event) (t : TaskId) (s : Spot) (ms : List MsgId) (cs : List TaskId) → IsLegal w h → IsAllowed w h (Fire t s ms cs) → may_put w (h ++ Fire t s ms cs ∷ []) t ≡ needs_no_admission w s
may_put-new w h t s ms cs legal allowed =
    rw (firing_named-new h t s ms cs new, put-push, ever_admitted-push, cut-push, append-nil (put h), append-nil (ever_admitted h), not_put, has_task-append (cut h) (cs ++ []) t, not_cut, append-nil cs, not_now)
    (only_needs (needs_no_admission w s) (has_task (ever_admitted h) t) not_ever_admitted)
  where
    facts : FiresSo w h t s ms cs
    facts = FiresSo-allowed w h t s ms cs allowed

    new : has_task (fired h) t ≡ false
    new = facts.new_name

    not_put : has_task (put h) t ≡ false
    not_put = not_within (put h) (fired h) t (λ is. fired_has h t ((ArePlaced-legal w h legal).all_fired t is)) new

    not_cut : has_task (cut h) t ≡ false
    not_cut = not_within (cut h) (fired h) t (λ is. fired_has h t (cut_fired w h legal t is)) new

    not_ever_admitted : has_task (ever_admitted h) t ≡ false
    not_ever_admitted = not_within (ever_admitted h) (fired h) t (λ is. fired_has h t (ever_admitted_fired w h legal t is)) new

    not_now : has_task cs t ≡ false
    not_now = not_within cs (fired h) t (λ is. (let waits = cuts_wait w h s t (subst (λ ts. has_task ts t ≡ true) facts.cuts is) in let so = WaitingFacts-waiting w h waits.0 t (OneName-legal w h legal) waits.1 in fired_has h t (so.firing, so.is_firing))) new

-- an admission lets its task be put, and no other
pub may_put-admit : (w : Parts) (h : List Event) (t u : TaskId) → IsLegal w h → IsAllowed w h (Admit t) → may_put w (h ++ Admit t ∷ []) u ≡ same_task u t || may_put w h u
may_put-admit w h t u legal allowed = of_test (same_task u t) refl
  where
    facts : AdmitFacts w h t
    facts = AdmitFacts-allowed w h t allowed

    waits : WaitingFacts w h facts.placement.domain t
    waits = WaitingFacts-waiting w h facts.placement.domain t (OneName-legal w h legal) facts.waits

    or_right_true : (a b : Bool) → a || (b || true) ≡ true
    or_right_true true b = refl
    or_right_true false true = refl
    or_right_true false false = refl

    admitted : may_put w (h ++ Admit t ∷ []) t ≡ true
    admitted = rw (put-push, ever_admitted-push, firings-other h (Admit t) refl, append-nil (put h), waits.is_firing, waits_unput w h facts.placement.domain t (CutFacts-legal w h legal) waits, waits.not_cut, has_task-append (ever_admitted h) (t ∷ []) t, same_task-self t) (or_right_true (needs_no_admission w waits.firing.spot) (has_task (ever_admitted h) t))

    of_test : (b : Bool) → same_task u t ≡ b → may_put w (h ++ Admit t ∷ []) u ≡ b || may_put w h u
    of_test true is = let one : u ≡ t = same_task-is u t is in subst (λ v. may_put w (h ++ Admit t ∷ []) v ≡ true) (sym one) admitted
    of_test false is = rw (put-push, ever_admitted-push, firings-other h (Admit t) refl, append-nil (put h), has_task-append (ever_admitted h) (t ∷ []) u, is, or_nothing (has_task (ever_admitted h) u)) refl
      where
        or_nothing : (a : Bool) → a || (false || false) ≡ a
        or_nothing true = refl
        or_nothing false = refl

-- a put takes its task out, and no other
pub may_put-put : (w : Parts) (h : List Event) (t u : TaskId) (d : Option TaskId) → may_put w (h ++ Put t d ∷ []) u ≡ not (same_task u t) && may_put w h u
may_put-put w h t u d = rw (put-push, ever_admitted-push, firings-other h (Put t d) refl, append-nil (ever_admitted h)) (over (put h))
  where
    over : (ps : List TaskId) → not (has_task (ps ++ t ∷ []) u) && not (has_task (cut h) u) && option_map_or (λ spot. needs_no_admission w spot || has_task (ever_admitted h) u) (spot_of h u) false ≡ not (same_task u t) && (not (has_task ps u) && not (has_task (cut h) u) && option_map_or (λ spot. needs_no_admission w spot || has_task (ever_admitted h) u) (spot_of h u) false)
    over ps = grind (arith, common_steps)

-- other events change nothing
pub may_put-other : (w : Parts) (h : List Event) (e : Event) (u : TaskId) → firing_of e ≡ [] → put_by e ≡ [] → admitted_by e ≡ [] → may_put w (h ++ e ∷ []) u ≡ may_put w h u
may_put-other w h e u no_fire no_put no_admit = rw (put-push, ever_admitted-push, firings-other h e no_fire, no_put, no_admit, append-nil (put h), append-nil (ever_admitted h)) refl

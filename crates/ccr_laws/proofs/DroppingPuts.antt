-- A dropped task never starts, and is dropped once, by a put that stands in the history.
use Rattle.std.proofs.Common.{◌≡◌, ◌+◌, ◌≤◌, Bool, true, false, ◌||◌, List, [], ◌∷◌, ◌++◌, length, filter, Some, None, refl, sym, ap, arith, ◌∙◌, length-append}
use Rattle.std.proofs.lemmas.List.Elements.{filter-append}
use Rattle.ccr_base.specs.declared.names.TaskId.{TaskId}
use Rattle.ccr_model.specs.declared.history.Event.{Event}
use Rattle.ccr_model.specs.declared.history.Event.TheVariants.{Post, Fire, Admit, Put, Start, End}
use Rattle.ccr_base.specs.Names.{same_task, has_task}
use Rattle.ccr_wiring.specs.declared.parts.Parts.{Parts}
use Rattle.ccr_model.specs.Firings.{dropped, dropped_by, started}
use Rattle.ccr_model.specs.Legal.{IsAllowed, IsLegal}
use Rattle.ccr_model.proofs.OneMoreEvent.{dropped-push}
use Rattle.ccr_model.proofs.LegalParts.{along_legal}
use Rattle.ccr_base.proofs.SameNames.{same_task-is}
use Rattle.ccr_base.proofs.Booleans.{refuted, no_both}
use Rattle.ccr_base.proofs.Filters.{none_pass}
use Rattle.ccr_laws.specs.Drops.{IsDroppedByPut, times_dropped}
use Rattle.ccr_model.proofs.WhoWasPut.{ArePlaced-legal, new_drop}

-- who was dropped never starts
pub dropped_unstarted : (w : Parts) (h : List Event) → IsLegal w h → (t : TaskId) → has_task (dropped h) t ≡ true → has_task (started h) t ≡ false
dropped_unstarted w h legal t is = refuted (has_task (started h) t) (λ runs. no_both is ((ArePlaced-legal w h legal).lists.not_both t runs))

-- over plain lists: counts
counted-append : (t : TaskId) (ts us : List TaskId) → length (filter (same_task t) (ts ++ us)) ≡ length (filter (same_task t) ts) + length (filter (same_task t) us)
counted-append t ts us = ap length (filter-append (same_task t) ts us) ∙ length-append (filter (same_task t) ts) (filter (same_task t) us)

none_counted : (t : TaskId) (ts : List TaskId) → has_task ts t ≡ false → length (filter (same_task t) ts) ≡ 0
none_counted t ts out = ap length (none_pass (same_task t) ts out)

one_dropped : (e : Event) (t : TaskId) → length (filter (same_task t) (dropped_by e)) ≤ 1
one_dropped (Put u None) t = omega arith
one_dropped (Put u (Some x)) t = grind arith
one_dropped (Post m) t = omega arith
one_dropped (Fire u s ms cs) t = omega arith
one_dropped (Admit u) t = omega arith
one_dropped (Start u a) t = omega arith
one_dropped (End u how) t = omega arith

-- a task is dropped at most once
pub dropped_once : (w : Parts) (h : List Event) → IsLegal w h → (t : TaskId) → times_dropped h t ≤ 1
dropped_once w = along_legal w (λ g. (t : TaskId) → times_dropped g t ≤ 1) kept (λ t. omega arith)
  where
    kept : (h : List Event) (e : Event) → IsLegal w h → IsAllowed w h e → ((t : TaskId) → times_dropped h t ≤ 1) → (t : TaskId) → times_dropped (h ++ e ∷ []) t ≤ 1
    kept h e legal allowed few t = rw dropped-push (of_test (has_task (dropped_by e) t) refl)
      where
        of_test : (b : Bool) → has_task (dropped_by e) t ≡ b → length (filter (same_task t) (dropped h ++ dropped_by e)) ≤ 1
        of_test true new = omega (arith, counted-append t (dropped h) (dropped_by e), none_counted t (dropped h) (new_drop w h e t allowed new).1.not_dropped, one_dropped e t)
        of_test false old = omega (arith, counted-append t (dropped h) (dropped_by e), none_counted t (dropped_by e) old, few t)

-- the put that drops it
put_later : (e : Event) (h : List Event) (t : TaskId) → IsDroppedByPut h t → IsDroppedByPut (e ∷ h) t
put_later e h t is = record { past = e ∷ is.past; by = is.by; stands = record { more = is.stands.more; whole = ap (λ g. e ∷ g) is.stands.whole } }

pub some_put : (h : List Event) (t : TaskId) → has_task (dropped h) t ≡ true → IsDroppedByPut h t
some_put [] t is = absurd (cc)
some_put (Put u (Some x) ∷ h) t is = of_test (same_task t x) refl is (some_put h t)
  where
    of_test : (b : Bool) → same_task t x ≡ b → b || has_task (dropped h) t ≡ true → (has_task (dropped h) t ≡ true → IsDroppedByPut h t) → IsDroppedByPut (Put u (Some x) ∷ h) t
    of_test true same at rest = record { past = []; by = u; stands = record { more = h; whole = ap (λ y. Put u (Some y) ∷ h) (sym (same_task-is t x same)) } }
    of_test false same at rest = put_later (Put u (Some x)) h t (rest at)
some_put (Put u None ∷ h) t is = put_later (Put u None) h t (some_put h t is)
some_put (Post m ∷ h) t is = put_later (Post m) h t (some_put h t is)
some_put (Fire u s ms cs ∷ h) t is = put_later (Fire u s ms cs) h t (some_put h t is)
some_put (Admit u ∷ h) t is = put_later (Admit u) h t (some_put h t is)
some_put (Start u a ∷ h) t is = put_later (Start u a) h t (some_put h t is)
some_put (End u how ∷ h) t is = put_later (End u how) h t (some_put h t is)

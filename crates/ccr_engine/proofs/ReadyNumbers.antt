-- The numbers of the tasks that may be put, after each event.
use Rattle.std.proofs.Common.{◌≡◌, ◌∙◌, ℕ, zero, suc, ◌<◌, ◌≤◌, Bool, true, false, not, ◌&&◌, ◌||◌, List, [], ◌∷◌, ◌++◌, length, Option, None, Some, refl, sym, subst, arith}
use Rattle.std.specs.Prelude.{◌==◌, find}
use Rattle.std.specs.List.{slice_get}
use Rattle.std.specs.Option.{option_map_or}
use Rattle.std.proofs.lemmas.Bool.Decides.{nat_tests}
use Rattle.std.proofs.Math.Bool.{or-false}
use Rattle.ccr_base.specs.declared.names.TaskId.{TaskId}
use Rattle.ccr_base.specs.declared.names.MsgId.{MsgId}
use Rattle.ccr_base.specs.declared.names.Spot.{Spot}
use Rattle.ccr_base.specs.Names.{same_task, has_task}
use Rattle.ccr_wiring.specs.declared.parts.Parts.{Parts}
use Rattle.ccr_model.specs.declared.history.Event.{Event}
use Rattle.ccr_model.specs.declared.history.Event.TheVariants.{Fire, Admit, Put}
use Rattle.ccr_model.specs.Firings.{firing_of, fired, put_by, admitted_by}
use Rattle.ccr_model.specs.Rules.{may_put, needs_no_admission}
use Rattle.ccr_model.specs.Legal.{IsAllowed, IsLegal}
use Rattle.ccr_model.specs.Consequences.{are_distinct_tasks}
use Rattle.ccr_model.proofs.OneMoreEvent.{fired-fire}
use Rattle.ccr_base.proofs.SameNames.{same_task-is, same_task-self}
use Rattle.ccr_base.proofs.Booleans.{both, not_true, refuted, no_both, or_left, or_right}
use Rattle.ccr_base.proofs.Options.{some-below, none-above}
use Rattle.ccr_base.specs.Lists.{has_number}
use Rattle.ccr_model.proofs.AllowedFirings.{firings-other}
use Rattle.ccr_model.proofs.TasksOnce.{fired_once}
use Rattle.ccr_model.proofs.TaskLists.{has_at}
use Rattle.ccr_engine.specs.Ready.{AreReady, IsLeast}
use Rattle.ccr_engine.proofs.MayPut.{may_put-fire, may_put-new, may_put-admit, may_put-put, may_put-other}

zero_suc : (m : ℕ) → (zero == suc m) ≡ false
zero_suc m = grind (arith, nat_tests)

suc_zero : (n : ℕ) → (suc n == zero) ≡ false
suc_zero n = grind (arith, nat_tests)

suc_suc : (n m : ℕ) → (suc n == suc m) ≡ (n == m)
suc_suc n m = grind (arith, nat_tests)

-- where tasks stand apart, one stands at one index alone
same_place : (ts : List TaskId) (n m : ℕ) (u t : TaskId) → are_distinct_tasks ts ≡ true → slice_get ts n ≡ Some u → slice_get ts m ≡ Some t → same_task u t ≡ (n == m)
same_place [] n m u t apart at there = absurd (cc)
same_place (x ∷ ts) zero zero u t apart at there = let one : u ≡ x = cc in let two : t ≡ x = cc in rw (one, two) (same_task-self x)
same_place (x ∷ ts) zero (suc m) u t apart at there =
    let one : u ≡ x = cc in
    let out = not_true (has_task ts x) (both (not (has_task ts x)) (are_distinct_tasks ts) apart).0 in
    rw (zero_suc m, one) (refuted (same_task x t) (λ is. no_both (subst (λ v. has_task ts v ≡ true) (sym (same_task-is x t is)) (has_at ts m t there)) out))
same_place (x ∷ ts) (suc n) zero u t apart at there =
    let one : t ≡ x = cc in
    let out = not_true (has_task ts x) (both (not (has_task ts x)) (are_distinct_tasks ts) apart).0 in
    rw (suc_zero n, one) (refuted (same_task u x) (λ is. no_both (subst (λ v. has_task ts v ≡ true) (same_task-is u x is) (has_at ts n u at)) out))
same_place (x ∷ ts) (suc n) (suc m) u t apart at there =
    rw suc_suc (same_place ts n m u t (both (not (has_task ts x)) (are_distinct_tasks ts) apart).1 at there)

-- over plain lists: what a test says at an index after it took in, or let go, the one at another index
at_entered : (p q : TaskId → Bool) (ts : List TaskId) (n m : ℕ) (t : TaskId) → are_distinct_tasks ts ≡ true → slice_get ts m ≡ Some t → ((u : TaskId) → q u ≡ same_task u t || p u) → option_map_or q (slice_get ts n) false ≡ (n == m) || option_map_or p (slice_get ts n) false
at_entered p q ts n m t apart there tests = of_option (slice_get ts n) refl
  where
    other : slice_get ts n ≡ None → (n == m) ≡ false
    other none = refuted (n == m) (λ is. no_both_places (none-above ts n none) (some-below ts m t there) is)
      where
        no_both_places : {k : ℕ} → k ≤ n → m < k → (n == m) ≡ true → ⊥
        no_both_places high low is = absurd (grind (arith, nat_tests, high, low, is))

    of_option : (o : Option TaskId) → slice_get ts n ≡ o → option_map_or q o false ≡ (n == m) || option_map_or p o false
    of_option None at = rw (other at) refl
    of_option (Some u) at = rw (← same_place ts n m u t apart at there) (tests u)

at_left : (p q : TaskId → Bool) (ts : List TaskId) (n m : ℕ) (t : TaskId) → are_distinct_tasks ts ≡ true → slice_get ts m ≡ Some t → ((u : TaskId) → q u ≡ not (same_task u t) && p u) → option_map_or q (slice_get ts n) false ≡ not (n == m) && option_map_or p (slice_get ts n) false
at_left p q ts n m t apart there tests = of_option (slice_get ts n) refl
  where
    none_left : (b : Bool) → false ≡ not b && false
    none_left true = refl
    none_left false = refl

    of_option : (o : Option TaskId) → slice_get ts n ≡ o → option_map_or q o false ≡ not (n == m) && option_map_or p o false
    of_option None at = none_left (n == m)
    of_option (Some u) at = rw (← same_place ts n m u t apart at there) (tests u)

-- an admission brings the number of its task in
pub ready-admit : (w : Parts) (h : List Event) (t : TaskId) (m : ℕ) (old new : List ℕ) → IsLegal w h → IsAllowed w h (Admit t) → slice_get (fired h) m ≡ Some t → AreReady w h old → ((n : ℕ) → has_number new n ≡ (n == m) || has_number old n) → AreReady w (h ++ Admit t ∷ []) new
ready-admit w h t m old new legal allowed there known changed n =
    rw (firings-other h (Admit t) refl, changed n, known n) (sym (at_entered (may_put w h) (may_put w (h ++ Admit t ∷ [])) (fired h) n m t (fired_once w h legal) there (λ u. may_put-admit w h t u legal allowed)))

-- a put takes the number of its task out
pub ready-put : (w : Parts) (h : List Event) (t : TaskId) (d : Option TaskId) (m : ℕ) (old new : List ℕ) → IsLegal w h → slice_get (fired h) m ≡ Some t → AreReady w h old → ((n : ℕ) → has_number new n ≡ not (n == m) && has_number old n) → AreReady w (h ++ Put t d ∷ []) new
ready-put w h t d m old new legal there known changed n =
    rw (firings-other h (Put t d) refl, changed n, known n) (sym (at_left (may_put w h) (may_put w (h ++ Put t d ∷ [])) (fired h) n m t (fired_once w h legal) there (λ u. may_put-put w h t u d)))

-- an event that neither fires, admits nor puts
pub ready-other : (w : Parts) (h : List Event) (e : Event) (old : List ℕ) → firing_of e ≡ [] → put_by e ≡ [] → admitted_by e ≡ [] → AreReady w h old → AreReady w (h ++ e ∷ []) old
ready-other w h e old no_fire no_put no_admit known n = rw (firings-other h e no_fire, known n) (of_option (slice_get (fired h) n))
  where
    of_option : (o : Option TaskId) → option_map_or (may_put w h) o false ≡ option_map_or (may_put w (h ++ e ∷ [])) o false
    of_option None = refl
    of_option (Some u) = sym (may_put-other w h e u no_fire no_put no_admit)

-- a firing brings the number of its task in where it needs no admission
pub ready-fire : (w : Parts) (h : List Event) (t : TaskId) (s : Spot) (ms : List MsgId) (cs : List TaskId) (old new : List ℕ) → IsLegal w h → IsAllowed w h (Fire t s ms cs) → AreReady w h old → ((n : ℕ) → has_number new n ≡ (n == length (fired h)) && needs_no_admission w s || has_number old n) → AreReady w (h ++ Fire t s ms cs ∷ []) new
ready-fire w h t s ms cs old new legal allowed known changed n = rw (fired-fire, changed n, known n) (over (fired h) (may_put w h) (may_put w (h ++ Fire t s ms cs ∷ [])) n (λ u among. may_put-fire w h t s ms cs u legal allowed among) (may_put-new w h t s ms cs legal allowed))
  where
    over : (ts : List TaskId) (p q : TaskId → Bool) (n : ℕ) → ((u : TaskId) → has_task ts u ≡ true → q u ≡ p u) → q t ≡ needs_no_admission w s → (n == length ts) && needs_no_admission w s || option_map_or p (slice_get ts n) false ≡ option_map_or q (slice_get (ts ++ t ∷ []) n) false
    over [] p q zero same new_one = rw new_one (or-false (needs_no_admission w s))
    over [] p q (suc n) same new_one = rw (suc_zero n) refl
    over (x ∷ ts) p q zero same new_one = rw (zero_suc (length ts)) (sym (same x (or_left (same_task x x) (has_task ts x) (same_task-self x))))
    over (x ∷ ts) p q (suc n) same new_one = rw (suc_suc n (length ts)) (over ts p q n (λ u among. same u (or_right (same_task u x) (has_task ts u) among)) new_one)

-- the least is of the first that may be put
pub first_of_least : (p : TaskId → Bool) (ts : List TaskId) (n : ℕ) → option_map_or p (slice_get ts n) false ≡ true → ((m : ℕ) → m < n → option_map_or p (slice_get ts m) false ≡ false) → slice_get ts n ≡ find p ts
first_of_least p [] n is low = absurd (cc)
first_of_least p (x ∷ ts) zero is low = let here : p x ≡ true = is in rw here refl
first_of_least p (x ∷ ts) (suc n) is low =
    let here : p x ≡ false = low zero (omega arith) in
    rw here (first_of_least p ts n is (λ m less. low (suc m) (omega (arith, less))))

pub none_first : (p : TaskId → Bool) (ts : List TaskId) → ((m : ℕ) → option_map_or p (slice_get ts m) false ≡ false) → find p ts ≡ None
none_first p [] none = refl
none_first p (x ∷ ts) none =
    let here : p x ≡ false = none zero in
    rw here (none_first p ts (λ m. none (suc m)))

-- the least of the numbers is that of the task that is put next
pub first_ready : (w : Parts) (h : List Event) (ns : List ℕ) (n : ℕ) → AreReady w h ns → IsLeast ns n → slice_get (fired h) n ≡ find (may_put w h) (fired h)
first_ready w h ns n known least = first_of_least (may_put w h) (fired h) n (sym (known n) ∙ least.among) (λ m less. sym (known m) ∙ least.low m less)

-- where there are no numbers no task is put
pub none_ready : (w : Parts) (h : List Event) → AreReady w h [] → find (may_put w h) (fired h) ≡ None
none_ready w h known = none_first (may_put w h) (fired h) (λ m. sym (known m))

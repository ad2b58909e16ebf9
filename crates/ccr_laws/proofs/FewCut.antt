-- No more tasks are cut than fired.
use Rattle.std.proofs.Common.{◌≡◌, ℕ, ◌+◌, ◌≤◌, Bool, true, false, not, ◌&&◌, ◌||◌, List, [], ◌∷◌, ◌++◌, length, filter, map, Option, Some, None, refl, sym, ap, ◌∙◌, subst, append-nil, arith, length-append}
use Rattle.std.specs.Prelude.{◌==◌, if◌then◌else◌}
use Rattle.std.specs.Option.{option_map_or}
use Rattle.ccr_base.specs.declared.names.TaskId.{TaskId}
use Rattle.ccr_base.specs.declared.names.Spot.{Spot}
use Rattle.ccr_base.specs.declared.names.Spot.TheVariants.{Branch, Site}
use Rattle.ccr_base.specs.Names.{same_task, has_task, without}
use Rattle.ccr_wiring.specs.declared.parts.Parts.{Parts}
use Rattle.ccr_wiring.specs.Wirings.{Placement, placement}
use Rattle.ccr_model.specs.declared.history.Event.{Event}
use Rattle.ccr_model.specs.declared.history.Event.TheVariants as events
use Rattle.ccr_model.specs.Firings.{Firing, firings, fired, cut, ever_admitted}
use Rattle.ccr_model.specs.Tasks.{is_branch_where, is_interleave, is_teardown, waiting}
use Rattle.ccr_model.specs.Rules.{cuts_at}
use Rattle.ccr_model.specs.Legal.{IsAllowed, IsLegal}
use Rattle.ccr_base.proofs.Booleans.{or_left, or_right}
use Rattle.ccr_base.proofs.Filters.{length-kept}
use Rattle.ccr_model.proofs.AllowedFirings.{FiresSo-allowed}
use Rattle.ccr_model.proofs.PostNames.{along}
use Rattle.ccr_model.proofs.OneMoreEvent.{cut-push, fired-fire, firings-push}
use Rattle.ccr_base.proofs.SameNames.{same_task-self, has_task-append}
use Rattle.ccr_model.proofs.TaskLists.{without-append}

-- the tasks of firings
abbrev pub tasks_of : List Firing → List TaskId
tasks_of fs = map (λ (f : Firing). f.task) fs

-- one name more, where those that are gone are left out
left_one : (x : TaskId) (ts gone : List TaskId) (is : Bool) → has_task gone x ≡ is → length (without (x ∷ ts) gone) ≡ (if is then 0 else 1) + length (without ts gone)
left_one x ts gone true is = grind (arith, is)
left_one x ts gone false is = grind (arith, is)

-- one firing more, of which the task is left where the firing passes the test and isn't gone
left_named : (test : Firing → Bool) (f : Firing) (fs : List Firing) (gone : List TaskId) (p is : Bool) → test f ≡ p → has_task gone f.task ≡ is → length (without (tasks_of (filter test (f ∷ fs))) gone) ≡ (if p && not is then 1 else 0) + length (without (tasks_of (filter test fs)) gone)
left_named test f fs gone true true passes is = grind (arith, passes, is)
left_named test f fs gone true false passes is = grind (arith, passes, is)
left_named test f fs gone false is passes gone_is = grind (arith, passes)

-- who is left of those that pass the test is among those that are cut: so both together are no more than all that were left
left_less : (test : Firing → Bool) (others gone cuts : List TaskId) (fs : List Firing) → ((u : TaskId) → has_task (without (tasks_of (filter test fs)) (others ++ gone)) u ≡ true → has_task cuts u ≡ true)
    → length (without (tasks_of (filter test fs)) (others ++ gone)) + length (without (tasks_of fs) (gone ++ cuts)) ≤ length (without (tasks_of fs) gone)
left_less test others gone cuts [] all = omega arith
left_less test others gone cuts (f ∷ fs) all = by (left_less test others gone cuts fs) (test f) (has_task others f.task) (has_task gone f.task) (has_task cuts f.task) refl refl refl refl
  where
    x : TaskId
    x = f.task

    fewer : (u : TaskId) → has_task (without (tasks_of (filter test fs)) (others ++ gone)) u ≡ true → has_task cuts u ≡ true
    fewer u among = all u (of_tests (test f) (has_task (others ++ gone) x) refl refl)
      where
        of_tests : (p is : Bool) → test f ≡ p → has_task (others ++ gone) x ≡ is → has_task (without (tasks_of (filter test (f ∷ fs))) (others ++ gone)) u ≡ true
        of_tests false is passes gone_is = rw passes among
        of_tests true true passes gone_is = rw (passes, gone_is) among
        of_tests true false passes gone_is = rw (passes, gone_is) (or_right (same_task u x) (has_task (without (tasks_of (filter test fs)) (others ++ gone)) u) among)

    taken : test f ≡ true → has_task (others ++ gone) x ≡ false → has_task cuts x ≡ true
    taken passes out = all x (rw (passes, out) (or_left (same_task x x) (has_task (without (tasks_of (filter test fs)) (others ++ gone)) x) (same_task-self x)))

    by : (((u : TaskId) → has_task (without (tasks_of (filter test fs)) (others ++ gone)) u ≡ true → has_task cuts u ≡ true) → length (without (tasks_of (filter test fs)) (others ++ gone)) + length (without (tasks_of fs) (gone ++ cuts)) ≤ length (without (tasks_of fs) gone))
        → (p a g c : Bool) → test f ≡ p → has_task others x ≡ a → has_task gone x ≡ g → has_task cuts x ≡ c
        → length (without (tasks_of (filter test (f ∷ fs))) (others ++ gone)) + length (without (tasks_of (f ∷ fs)) (gone ++ cuts)) ≤ length (without (tasks_of (f ∷ fs)) gone)
    by rest p a g c passes a_is g_is c_is =
        let both : has_task (others ++ gone) x ≡ a || g = rw (has_task-append, a_is, g_is) refl in
        let cut_too : has_task (gone ++ cuts) x ≡ g || c = rw (has_task-append, g_is, c_is) refl in
        let one = left_named test f fs (others ++ gone) p (a || g) passes both in
        let two = left_one x (tasks_of fs) (gone ++ cuts) (g || c) cut_too in
        let three = left_one x (tasks_of fs) gone g g_is in
        let old = rest fewer in
        of_values p a g c (λ is out. sym c_is ∙ taken (passes ∙ is) (both ∙ out)) one two three old
      where
        of_values : (p a g c : Bool) → (p ≡ true → a || g ≡ false → c ≡ true)
            → length (without (tasks_of (filter test (f ∷ fs))) (others ++ gone)) ≡ (if p && not (a || g) then 1 else 0) + length (without (tasks_of (filter test fs)) (others ++ gone))
            → length (without (x ∷ tasks_of fs) (gone ++ cuts)) ≡ (if g || c then 0 else 1) + length (without (tasks_of fs) (gone ++ cuts))
            → length (without (x ∷ tasks_of fs) gone) ≡ (if g then 0 else 1) + length (without (tasks_of fs) gone)
            → length (without (tasks_of (filter test fs)) (others ++ gone)) + length (without (tasks_of fs) (gone ++ cuts)) ≤ length (without (tasks_of fs) gone)
            → length (without (tasks_of (filter test (f ∷ fs))) (others ++ gone)) + length (without (x ∷ tasks_of fs) (gone ++ cuts)) ≤ length (without (x ∷ tasks_of fs) gone)
        of_values p true true c known one two three old = grind (arith, one, two, three, old)
        of_values p false true c known one two three old = grind (arith, one, two, three, old)
        of_values p true false true known one two three old = grind (arith, one, two, three, old)
        of_values p true false false known one two three old = grind (arith, one, two, three, old)
        of_values true false false true known one two three old = omega (arith, one, two, three, old)
        of_values false false false true known one two three old = omega (arith, one, two, three, old)
        of_values false false false false known one two three old = omega (arith, one, two, three, old)
        of_values true false false false known one two three old = let no : false ≡ true = known refl refl in absurd (cc)

-- the cut tasks, and those that are left of the fired ones
abbrev CutFits : List Event → Type 0
CutFits h = length (cut h) + length (without (fired h) (cut h)) ≤ length (fired h)

fits_fire : (h : List Event) (t : TaskId) (cs : List TaskId) → length cs + length (without (fired h) (cut h ++ cs)) ≤ length (without (fired h) (cut h)) → CutFits h → length (cut h ++ cs) + length (without (fired h ++ t ∷ []) (cut h ++ cs)) ≤ length (fired h ++ t ∷ [])
fits_fire h t cs less old =
    let a = length-append (cut h) cs in
    let b = length-append (fired h) (t ∷ []) in
    let c = ap length (without-append (fired h) (t ∷ []) (cut h ++ cs)) ∙ length-append (without (fired h) (cut h ++ cs)) (without (t ∷ []) (cut h ++ cs)) in
    let d = length-kept (λ u. not (has_task (cut h ++ cs) u)) (t ∷ []) in
    omega (arith, less, old, a, b, c, d)

cuts_less : (w : Parts) (h : List Event) (s : Spot) (cs : List TaskId) → cs ≡ cuts_at w h s → length cs + length (without (fired h) (cut h ++ cs)) ≤ length (without (fired h) (cut h))
cuts_less w h s cs is = of_spot s is
  where
    no_cuts : cs ≡ [] → length cs + length (without (fired h) (cut h ++ cs)) ≤ length (without (fired h) (cut h))
    no_cuts none = rw (none, append-nil) (omega arith)

    of_waiting : (i : ℕ) → cs ≡ waiting w h i → length cs + length (without (fired h) (cut h ++ cs)) ≤ length (without (fired h) (cut h))
    of_waiting i waits =
        let less = left_less (λ (f : Firing). is_branch_where w (λ s. is_interleave s.kind && (s.domain == i)) f.spot) (ever_admitted h) (cut h) cs (firings h) (λ u among. subst (λ ts. has_task ts u ≡ true) (sym waits) among) in
        let same = ap length waits in
        omega (arith, less, same)

    of_spot : (s : Spot) → cs ≡ cuts_at w h s → length cs + length (without (fired h) (cut h ++ cs)) ≤ length (without (fired h) (cut h))
    of_spot (Site b k) at = no_cuts at
    of_spot (Branch b) at = of_option (placement w b) at
      where
        of_option : (o : Option Placement) → cs ≡ option_map_or (λ (z : Placement). if is_teardown z.branch.group then waiting w h z.domain else []) o [] → length cs + length (without (fired h) (cut h ++ cs)) ≤ length (without (fired h) (cut h))
        of_option None none = no_cuts none
        of_option (Some z) so = of_test (is_teardown z.branch.group) so
          where
            of_test : (b : Bool) → cs ≡ (if b then waiting w h z.domain else []) → length cs + length (without (fired h) (cut h ++ cs)) ≤ length (without (fired h) (cut h))
            of_test true waits = of_waiting z.domain waits
            of_test false none = no_cuts none

fits_kept : (w : Parts) (h : List Event) (e : Event) → CutFits h → IsAllowed w h e → CutFits (h ++ e ∷ [])
fits_kept w h (events.Fire t s ms cs) old allowed = rw (fired-fire, cut-push, append-nil cs) (fits_fire h t cs (cuts_less w h s cs (FiresSo-allowed w h t s ms cs allowed).cuts) old)
fits_kept w h (events.Post m) old allowed = rw (cut-push, firings-push, append-nil, append-nil) old
fits_kept w h (events.Admit t) old allowed = rw (cut-push, firings-push, append-nil, append-nil) old
fits_kept w h (events.Put t d) old allowed = rw (cut-push, firings-push, append-nil, append-nil) old
fits_kept w h (events.Start t a) old allowed = rw (cut-push, firings-push, append-nil, append-nil) old
fits_kept w h (events.End t how) old allowed = rw (cut-push, firings-push, append-nil, append-nil) old

pub few_cut : (w : Parts) (h : List Event) → IsLegal w h → length (cut h) ≤ length (fired h)
few_cut w h legal = let fits = along w CutFits (fits_kept w) (omega arith) h legal in omega (arith, fits)

-- Nobody fires twice, so nobody waits twice, in one domain or in two.
use Rattle.std.proofs.Common.{◌≡◌, ℕ, Bool, true, false, not, ◌||◌, List, [], ◌∷◌, ◌++◌, map, filter, Some, refl, sym, ap, ◌∙◌, append-nil, subst, Option, None, ◌&&◌}
use Rattle.std.specs.Prelude.{◌==◌, if◌then◌else◌}
use Rattle.std.specs.Option.{option_map_or}
use Rattle.ccr_base.specs.declared.names.TaskId.{TaskId}
use Rattle.ccr_base.specs.declared.names.Spot.{Spot}
use Rattle.ccr_base.specs.declared.names.Spot.TheVariants.{Branch, Site}
use Rattle.ccr_base.specs.Names.{same_task, has_task, without}
use Rattle.ccr_wiring.specs.declared.parts.Parts.{Parts}
use Rattle.ccr_wiring.specs.Wirings.{placement, Placement}
use Rattle.ccr_model.specs.declared.history.Event.{Event}
use Rattle.ccr_model.specs.declared.history.Event.TheVariants.{Post, Fire, Admit, Put, Start, End}
use Rattle.ccr_model.specs.Consequences.{are_distinct_tasks}
use Rattle.ccr_model.specs.Firings.{Firing, firings, fired, cut, ever_admitted}
use Rattle.ccr_model.specs.Interleaves.{is_placement_in}
use Rattle.ccr_model.specs.Tasks.{is_interleave, is_branch_where, fired_by, waiting, is_teardown}
use Rattle.ccr_model.specs.Legal.{IsAllowed, IsLegal}
use Rattle.ccr_model.proofs.Allowing.{OneName-legal}
use Rattle.ccr_base.proofs.Booleans.{both, same_number, eq-self, eq_turned, no_both, refuted}
use Rattle.ccr_model.proofs.AllowedFirings.{FiresSo-allowed, WaitingFacts-waiting}
use Rattle.ccr_base.proofs.Apart.{distinct_kept}
use Rattle.ccr_base.proofs.Lists.{list_any-map}
use Rattle.ccr_base.proofs.Options.{some_of}
use Rattle.ccr_model.proofs.PostNames.{along}
use Rattle.ccr_model.proofs.OneMoreEvent.{fired-fire, firings-push}
use Rattle.ccr_model.proofs.TaskLists.{without_none}
use Rattle.ccr_model.proofs.TasksLeft.{distinct-push, distinct-filter}
use Rattle.ccr_model.specs.Rules.{cuts_at}

once_kept : (w : Parts) (h : List Event) (e : Event) → are_distinct_tasks (fired h) ≡ true → IsAllowed w h e → are_distinct_tasks (fired (h ++ e ∷ [])) ≡ true
once_kept w h (Fire t s ms cs) once allowed = rw fired-fire (distinct-push (fired h) t once (FiresSo-allowed w h t s ms cs allowed).new_name)
once_kept w h (Post m) once allowed = rw (firings-push, append-nil) once
once_kept w h (Admit t) once allowed = rw (firings-push, append-nil) once
once_kept w h (Put t d) once allowed = rw (firings-push, append-nil) once
once_kept w h (Start t a) once allowed = rw (firings-push, append-nil) once
once_kept w h (End t how) once allowed = rw (firings-push, append-nil) once

pub fired_once : (w : Parts) (h : List Event) → IsLegal w h → are_distinct_tasks (fired h) ≡ true
fired_once w h legal = along w (λ g. are_distinct_tasks (fired g) ≡ true) (once_kept w) refl h legal

-- the tasks of some firings are among those of all
pub some_of_all : (p : Firing → Bool) (fs : List Firing) (t : TaskId) → has_task (map (λ (f : Firing). f.task) (filter p fs)) t ≡ true → has_task (map (λ (f : Firing). f.task) fs) t ≡ true
some_of_all p [] t now = now
some_of_all p (f ∷ fs) t now = by (p f) (same_task t f.task) refl now (some_of_all p fs t)
  where
    by : (b c : Bool) → same_task t f.task ≡ c → has_task (map (λ (g : Firing). g.task) (if b then f ∷ filter p fs else filter p fs)) t ≡ true → (has_task (map (λ (g : Firing). g.task) (filter p fs)) t ≡ true → has_task (map (λ (g : Firing). g.task) fs) t ≡ true) → c || has_task (map (λ (g : Firing). g.task) fs) t ≡ true
    by b true e now' rest = refl
    by true false e now' rest = rest (rw e at now')
    by false false e now' rest = rest now'

-- nobody stands twice among those of some firings
pub some_once : (p : Firing → Bool) (fs : List Firing) → are_distinct_tasks (map (λ (f : Firing). f.task) fs) ≡ true → are_distinct_tasks (map (λ (f : Firing). f.task) (filter p fs)) ≡ true
some_once =
    distinct_kept (λ (f g : Firing). same_task f.task g.task) (λ (fs : List Firing). are_distinct_tasks (map (λ (f : Firing). f.task) fs))
    (λ f fs. ap (λ b. not b && are_distinct_tasks (map (λ (g : Firing). g.task) fs)) (list_any-map (same_task f.task) (λ (g : Firing). g.task) fs))

pub waiting_once : (w : Parts) (h : List Event) (i : ℕ) → IsLegal w h → are_distinct_tasks (waiting w h i) ≡ true
waiting_once w h i legal = distinct-filter (λ t. not (has_task (ever_admitted h ++ cut h) t)) (fired_by w (is_placement_in i) h) (some_once (λ (f : Firing). is_branch_where w (is_placement_in i) f.spot) (firings h) (fired_once w h legal))

-- a branch is of one domain
branch_in_one : (w : Parts) (i j : ℕ) (s : Spot) → is_branch_where w (is_placement_in i) s ≡ true → is_branch_where w (is_placement_in j) s ≡ true → i ≡ j
branch_in_one w i j (Site n k) here there = absurd (cc)
branch_in_one w i j (Branch n) here there =
    let found = some_of (is_placement_in i) (placement w n) here in
    let other : is_placement_in j found.0 ≡ true = sym (ap (λ o. option_map_or (is_placement_in j) o false) found.1) ∙ there in
    sym (same_number found.0.domain i (both (is_interleave found.0.kind) (found.0.domain == i) found.2).1) ∙ same_number found.0.domain j (both (is_interleave found.0.kind) (found.0.domain == j) other).1

pub waits_in_one : (w : Parts) (h : List Event) (i j : ℕ) (t : TaskId) → IsLegal w h → has_task (waiting w h i) t ≡ true → has_task (waiting w h j) t ≡ true → i ≡ j
waits_in_one w h i j t legal here there =
    let a = WaitingFacts-waiting w h i t (OneName-legal w h legal) here in
    let b = WaitingFacts-waiting w h j t (OneName-legal w h legal) there in
    let found : Some a.firing ≡ Some b.firing = sym a.is_firing ∙ b.is_firing in
    let same : b.firing ≡ a.firing = cc in
    branch_in_one w i j a.firing.spot a.is_branch (subst (λ (f : Firing). is_branch_where w (is_placement_in j) f.spot ≡ true) same b.is_branch)

-- whom a firing cuts are different
pub cuts_distinct : (w : Parts) (h : List Event) (s : Spot) → IsLegal w h → are_distinct_tasks (cuts_at w h s) ≡ true
cuts_distinct w h (Site b k) legal = refl
cuts_distinct w h (Branch b) legal = of_option (placement w b)
  where
    of_option : (o : Option Placement) → are_distinct_tasks (option_map_or (λ (z : Placement). if is_teardown z.branch.group then waiting w h z.domain else []) o []) ≡ true
    of_option None = refl
    of_option (Some z) = of_test (is_teardown z.branch.group)
      where
        of_test : (c : Bool) → are_distinct_tasks (if c then waiting w h z.domain else []) ≡ true
        of_test true = waiting_once w h z.domain legal
        of_test false = refl

-- who waits in one domain waits in no other
pub waits_elsewhere : (w : Parts) (h : List Event) (i j : ℕ) (t : TaskId) → IsLegal w h → has_task (waiting w h i) t ≡ true → (i == j) ≡ false → has_task (waiting w h j) t ≡ false
waits_elsewhere w h i j t legal here other = refuted (has_task (waiting w h j) t) (λ there. no_both (subst (λ k. (i == k) ≡ true) (waits_in_one w h i j t legal here there) (eq-self i)) other)

-- those who wait in another domain stay
pub waiting_apart : (w : Parts) (h : List Event) (i j : ℕ) → IsLegal w h → (i == j) ≡ false → without (waiting w h j) (waiting w h i) ≡ waiting w h j
waiting_apart w h i j legal other = without_none (waiting w h j) (waiting w h i) (λ u is. waits_elsewhere w h j i u legal is (eq_turned i j other))

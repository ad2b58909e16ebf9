-- Tasks that fired, and what stays of them whatever events come.
use Rattle.std.proofs.Common.{◌≡◌, Bool, true, false, List, [], ◌∷◌, ◌++◌, ◌||◌, map, Some, refl, arith, ℕ}
use Rattle.std.specs.Prelude.{if◌then◌else◌, find}
use Rattle.std.proofs.lemmas.Bool.Decides.{nat_tests}
use Rattle.ccr_base.specs.declared.names.TaskId.{TaskId}
use Rattle.ccr_base.specs.Names.{same_task, has_task}
use Rattle.ccr_wiring.specs.declared.parts.Parts.{Parts}
use Rattle.ccr_wiring.specs.Wirings.{Placement, placement, branch_of, segment_of}
use Rattle.ccr_model.specs.declared.history.Event.{Event}
use Rattle.ccr_model.specs.Firings.{Firing, firings, fired, firing_named, spot_of}
use Rattle.ccr_model.specs.Sites.{root_of}
use Rattle.ccr_model.specs.TaskData.{placement_of}
use Rattle.ccr_model.proofs.Stable.{firing_named-append, root_at-append}
use Rattle.ccr_model.specs.Tasks.{is_for_queue}
use Rattle.ccr_base.proofs.Options.{some_then, some_map}
use Rattle.ccr_base.proofs.SameNames.{same_task-is, same_task-self}

-- the task fired
abbrev pub IsFired : List Event → TaskId → Type 0
IsFired h t = (f : Firing) × (firing_named h t ≡ Some f)

-- all the tasks fired
abbrev pub AreFired : List Event → List TaskId → Type 0
AreFired h ts = (t : TaskId) → has_task ts t ≡ true → IsFired h t

pub IsFired-append : (h es : List Event) (t : TaskId) → IsFired h t → IsFired (h ++ es) t
IsFired-append h es t fired = (fired.0, firing_named-append h es t fired.0 fired.1)

pub none_fired : (h : List Event) → AreFired h []
none_fired h t is = absurd (cc)

-- the firing of a new task
pub find_last : (t : TaskId) (fs : List Firing) (g : Firing) → g.task ≡ t → has_task (map (λ (f : Firing). f.task) fs) t ≡ false → find (λ (f : Firing). same_task f.task t) (fs ++ g ∷ []) ≡ Some g
find_last t [] g e new = rw (e, same_task-self t) refl
find_last t (f ∷ fs) g e new = grind (arith, nat_tests, find_last t fs g e)

-- who is found has fired
pub found_member : (fs : List Firing) (t : TaskId) (f : Firing) → find (λ (g : Firing). same_task g.task t) fs ≡ Some f → has_task (map (λ (g : Firing). g.task) fs) t ≡ true
found_member [] t f is = absurd (cc)
found_member (g ∷ fs) t f is = of_test (same_task g.task t) refl is (found_member fs t f)
  where
    of_test : (b : Bool) → same_task g.task t ≡ b → (if b then Some g else find (λ (g : Firing). same_task g.task t) fs) ≡ Some f → (find (λ (g : Firing). same_task g.task t) fs ≡ Some f → has_task (map (λ (g : Firing). g.task) fs) t ≡ true) → same_task t g.task || has_task (map (λ (g : Firing). g.task) fs) t ≡ true
    of_test true same at rest = let one : g.task ≡ t = same_task-is g.task t same in rw (one, same_task-self t) refl
    of_test false same at rest = grind (arith, rest at)

-- who fired is among those that fired
pub fired_has : (h : List Event) (t : TaskId) → IsFired h t → has_task (fired h) t ≡ true
fired_has h t found = found_member (firings h) t found.0 found.1

-- a task with a placement fired
pub placement_fired : (w : Parts) (h : List Event) (t : TaskId) (s : Placement) → placement_of w h t ≡ Some s → IsFired h t
placement_fired w h t s is =
    let placed = some_then (λ spot. placement w (branch_of spot)) (spot_of h t) s is in
    some_map (λ (f : Firing). f.spot) (firing_named h t) placed.0 placed.1

-- its placement stays
pub placement_stays : (w : Parts) (h es : List Event) (t : TaskId) → IsFired h t → placement_of w (h ++ es) t ≡ placement_of w h t
placement_stays w h es t fired = rw (firing_named-append h es t fired.0 fired.1, fired.1) refl

-- the root of a task that fired stays
pub root_stays : (h es : List Event) (t : TaskId) → IsFired h t → root_of (h ++ es) t ≡ root_of h t
root_stays h es t fired = rw (firing_named-append h es t fired.0 fired.1, fired.1, root_at-append h es (branch_of fired.0.spot) (segment_of fired.0.spot) t fired.0 fired.1) refl

-- a task that fired stays one of its queue
pub for_queue_stays : (w : Parts) (h es : List Event) (q : ℕ) (t : TaskId) → IsFired h t → is_for_queue w (h ++ es) q t ≡ is_for_queue w h q t
for_queue_stays w h es q t fired = rw (placement_stays w h es t fired) refl

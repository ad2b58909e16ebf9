-- What is said of a task that fired stays so, whatever events come.
use Rattle.std.proofs.Common.{◌≡◌, ℕ, zero, suc, Bool, true, false, List, [], ◌∷◌, ◌++◌, length, drop, filter, Option, Some, None, refl, arith, ap, ◌∙◌, subst, take}
use Rattle.std.specs.Prelude.{find}
use Rattle.std.specs.List.{slice_get}
use Rattle.std.specs.Option.{option_map_or, option_map, option_or}
use Rattle.std.proofs.lemmas.Grind.{common_steps, flat_map-append}
use Rattle.std.proofs.lemmas.List.Folds.{find-append}
use Rattle.ccr_base.specs.declared.names.TaskId.{TaskId}
use Rattle.ccr_base.specs.declared.names.Spot.{Spot}
use Rattle.ccr_base.specs.declared.names.Spot.TheVariants.{Site}
use Rattle.ccr_wiring.specs.declared.parts.Parts.{Parts}
use Rattle.ccr_model.specs.declared.history.Event.{Event}
use Rattle.ccr_model.specs.declared.history.Event.TheVariants.{Post, Fire, Admit, Put, Start, End}
use Rattle.ccr_base.specs.Names.{same_task, same_spot}
use Rattle.ccr_wiring.specs.Wirings.{branch_of, segment_of, next_site}
use Rattle.ccr_model.specs.Firings.{Firing, firings, fired, firing_named, yielded, fired_at, firing_of, spot_of}
use Rattle.ccr_model.specs.Sites.{before, yields_at, resumed, root_at}
use Rattle.ccr_model.specs.TaskData.{load_at, load_after, no_load, with_messages, messages_of, play_of}
use Rattle.ccr_model.proofs.Members.{Among, Among-filter, Among-right, Among-at}
use Rattle.std.proofs.lemmas.List.{take-append-drop}

-- who is found is found among more
pub find_stays : {X : Type 0} (p : X → Bool) (xs ys : List X) (x : X) → find p xs ≡ Some x → find p (xs ++ ys) ≡ Some x
find_stays p xs ys x is = find-append p xs ys ∙ ap (λ o. option_or o (find p ys)) is

pub firings-append : (h es : List Event) → firings (h ++ es) ≡ firings h ++ firings es
firings-append h es = grind (arith, common_steps)

pub fired-append : (h es : List Event) → fired (h ++ es) ≡ fired h ++ fired es
fired-append h es = grind (arith, common_steps)

pub firing_named-append : (h es : List Event) (t : TaskId) (f : Firing) → firing_named h t ≡ Some f → firing_named (h ++ es) t ≡ Some f
firing_named-append h es t f is = rw firings-append (find_stays (λ (g : Firing). same_task g.task t) (firings h) (firings es) f is)

pub before-append : (h es : List Event) (t : TaskId) (f : Firing) → firing_named h t ≡ Some f → before t (h ++ es) ≡ before t h
before-append [] es t f is = absurd (cc)
before-append (Fire u s ms cs ∷ h) es t f is = grind (arith, before-append h es t f)
before-append (Post m ∷ h) es t f is = ap (λ g. Post m ∷ g) (before-append h es t f is)
before-append (Admit u ∷ h) es t f is = ap (λ g. Admit u ∷ g) (before-append h es t f is)
before-append (Put u d ∷ h) es t f is = ap (λ g. Put u d ∷ g) (before-append h es t f is)
before-append (Start u a ∷ h) es t f is = ap (λ g. Start u a ∷ g) (before-append h es t f is)
before-append (End u how ∷ h) es t f is = ap (λ g. End u how ∷ g) (before-append h es t f is)

-- who fired before another fired
firing_named-before : (h : List Event) (t u : TaskId) (f : Firing) → firing_named (before t h) u ≡ Some f → firing_named h u ≡ Some f
firing_named-before [] t u f is = is
firing_named-before (Fire v s ms cs ∷ h) t u f is = grind (arith, firing_named-before h t u f)
firing_named-before (Post m ∷ h) t u f is = firing_named-before h t u f is
firing_named-before (Admit v ∷ h) t u f is = firing_named-before h t u f is
firing_named-before (Put v d ∷ h) t u f is = firing_named-before h t u f is
firing_named-before (Start v a ∷ h) t u f is = firing_named-before h t u f is
firing_named-before (End v how ∷ h) t u f is = firing_named-before h t u f is

passes : {X : Type 0} (p : X → Bool) (xs : List X) (n : ℕ) (x : X) → slice_get (drop n (filter p xs)) 0 ≡ Some x → p x ≡ true
passes p xs n x is = (Among-filter p xs x (subst (Among x) (take-append-drop n (filter p xs)) (Among-right x (take n (filter p xs)) (drop n (filter p xs)) (Among-at (drop n (filter p xs)) 0 x is)))).1

some_firing : (h : List Event) (u : TaskId) (site : Spot) → yields_at h site u ≡ true → (f : Firing) × (firing_named h u ≡ Some f)
some_firing h u site is = of_option (firing_named h u) refl is
  where
    of_option : (o : Option Firing) → firing_named h u ≡ o → option_map_or (λ spot. same_spot (next_site spot) site) (option_map (λ (f : Firing). f.spot) o) false ≡ true → (f : Firing) × (firing_named h u ≡ Some f)
    of_option None e is = absurd (cc)
    of_option (Some f) e is = (f, e)

-- the resumed task fired
resumed_fired : (h : List Event) (site : Spot) (t u : TaskId) → resumed h site t ≡ Some u → (f : Firing) × (firing_named h u ≡ Some f)
resumed_fired h site t u is =
    let found = some_firing (before t h) u site (passes (yields_at (before t h) site) (yielded (before t h)) (length (fired_at (before t h) site)) u is) in
    (found.0, firing_named-before h t u found.0 found.1)

resumed-append : (h es : List Event) (site : Spot) (t : TaskId) (f : Firing) → firing_named h t ≡ Some f → resumed (h ++ es) site t ≡ resumed h site t
resumed-append h es site t f is = rw (before-append h es t f is) refl

pub messages_of-append : (h es : List Event) (t : TaskId) (f : Firing) → firing_named h t ≡ Some f → messages_of (h ++ es) t ≡ messages_of h t
messages_of-append h es t f is = rw (before-append h es t f is, firing_named-append h es t f is, is) refl

pub root_at-append : (h es : List Event) (b k : ℕ) (t : TaskId) (f : Firing) → firing_named h t ≡ Some f → root_at (h ++ es) b k t ≡ root_at h b k t
root_at-append h es b zero t f is = refl
root_at-append h es b (suc k) t f is = rw (resumed-append h es (Site b k) t f is) (of_option (resumed h (Site b k) t) refl (λ u g e. root_at-append h es b k u g e))
  where
    of_option : (o : Option TaskId) → resumed h (Site b k) t ≡ o → ((u : TaskId) (g : Firing) → firing_named h u ≡ Some g → root_at (h ++ es) b k u ≡ root_at h b k u) → option_map_or (λ u. root_at (h ++ es) b k u) o t ≡ option_map_or (λ u. root_at h b k u) o t
    of_option None e rest = refl
    of_option (Some u) e rest = let found = resumed_fired h (Site b k) t u e in rest u found.0 found.1

pub load_at-append : (w : Parts) (h es : List Event) (b k : ℕ) (t : TaskId) (f : Firing) → firing_named h t ≡ Some f → load_at w (h ++ es) b k t ≡ load_at w h b k t
load_at-append w h es b zero t f is = rw (messages_of-append h es t f is) refl
load_at-append w h es b (suc k) t f is = rw (messages_of-append h es t f is, resumed-append h es (Site b k) t f is) (ap (λ load. with_messages load (messages_of h t)) (of_option (resumed h (Site b k) t) refl (λ u g e. load_at-append w h es b k u g e)))
  where
    of_option : (o : Option TaskId) → resumed h (Site b k) t ≡ o → ((u : TaskId) (g : Firing) → firing_named h u ≡ Some g → load_at w (h ++ es) b k u ≡ load_at w h b k u) → option_map_or (λ u. load_after w b k (load_at w (h ++ es) b k u)) o no_load ≡ option_map_or (λ u. load_after w b k (load_at w h b k u)) o no_load
    of_option None e rest = refl
    of_option (Some u) e rest = let found = resumed_fired h (Site b k) t u e in ap (load_after w b k) (rest u found.0 found.1)

-- the play of a task stays what it is
pub play_of-append : (w : Parts) (h es : List Event) (t : TaskId) (f : Firing) → firing_named h t ≡ Some f → play_of w (h ++ es) t ≡ play_of w h t
play_of-append w h es t f is = rw (firing_named-append h es t f is, is, load_at-append w h es (branch_of f.spot) (segment_of f.spot) t f is) refl

-- what is made of the one or the other
pub option_map-or : {X Y : Type 0} (f : X → Y) (o p : Option X) → option_map f (option_or o p) ≡ option_or (option_map f o) (option_map f p)
option_map-or f None p = refl
option_map-or f (Some x) p = refl

-- where a task fired, in two histories behind one another
pub spot_of-append : (events more : List Event) (task : TaskId) → spot_of (events ++ more) task ≡ option_or (spot_of events task) (spot_of more task)
spot_of-append events more task =
    ap (λ (fs : List Firing). option_map (λ (f : Firing). f.spot) (find (λ (f : Firing). same_task f.task task) fs)) (flat_map-append firing_of events more)
    ∙ ap (λ (o : Option Firing). option_map (λ (f : Firing). f.spot) o) (find-append (λ (f : Firing). same_task f.task task) (firings events) (firings more))
    ∙ option_map-or (λ (f : Firing). f.spot) (find (λ (f : Firing). same_task f.task task) (firings events)) (find (λ (f : Firing). same_task f.task task) (firings more))

-- The event that comes first is allowed.
use Rattle.std.proofs.Common.{◌≡◌, ℕ, zero, suc, ◌+◌, ◌-◌, ◌≤◌, ◌⊎◌, inl, inr, Bool, true, false, ◌&&◌, List, [], ◌∷◌, ◌++◌, length, map, filter, flat_map, take, min, length-append, length-take, Option, Some, None, refl, sym, arith, subst, append-nil}
use Rattle.std.specs.Prelude.{◌==◌, if◌then◌else◌, find, nat_lt, nat_le, option_map, option_and_then, IfSome}
use Rattle.std.specs.List.{slice_get, list_any}
use Rattle.std.specs.Option.{option_map_or, option_or}
use Rattle.std.proofs.lemmas.Bool.Decides.{nat_tests}
use Rattle.ccr_base.specs.declared.names.TaskId.{TaskId}
use Rattle.ccr_base.specs.declared.names.MsgId.{MsgId}
use Rattle.ccr_base.specs.declared.names.MsgId.TheVariants.{Script, Task}
use Rattle.ccr_base.specs.declared.messages.Msg.{Msg}
use Rattle.ccr_base.specs.declared.messages.Sent.{Sent}
use Rattle.ccr_base.specs.declared.patterns.Pattern.{Pattern}
use Rattle.ccr_base.specs.declared.patterns.Pattern.TheVariants.{Slots, Gather}
use Rattle.ccr_base.specs.declared.names.Spot.{Spot}
use Rattle.ccr_base.specs.declared.names.Spot.TheVariants.{Branch, Site}
use Rattle.ccr_handler.specs.declared.segments.PlayEnd.{PlayEnd}
use Rattle.ccr_handler.specs.declared.segments.PlayEnd.TheVariants as plays
use Rattle.ccr_wiring.specs.declared.parts.Parts.{Parts}
use Rattle.ccr_wiring.specs.declared.parts.PosterPart.{PosterPart}
use Rattle.ccr_wiring.specs.declared.parts.ArbiterPart.{ArbiterPart}
use Rattle.ccr_wiring.specs.declared.parts.QueuePart.{QueuePart}
use Rattle.ccr_model.specs.declared.history.Event.{Event}
use Rattle.ccr_model.specs.declared.history.Event.TheVariants.{Post, Fire, Admit, Put, Start, End}
use Rattle.ccr_model.specs.declared.history.EndHow.TheVariants as ends
use Rattle.ccr_model.specs.declared.rule.Rule.{Rule}
use Rattle.ccr_base.specs.Names.{same_task, has_task, same_options, same_message, without}
use Rattle.ccr_model.specs.Posts.{posts_of_poster, posts_of_task, posts_of_tasks, held}
use Rattle.ccr_wiring.specs.Wirings.{Placement, placement, spots, site_port, branch_of}
use Rattle.ccr_model.specs.Firings.{Firing, firings, firing_of, firing_named, fired, started, ended}
use Rattle.ccr_model.specs.TaskData.{placement_of, play_of}
use Rattle.ccr_model.specs.Tasks.{is_interleave, is_branch_where, waiting, queued, is_for_queue, running, running_by, started_as, has_post_left, count_unfinished}
use Rattle.ccr_model.specs.Live.{is_live, has_room}
use Rattle.ccr_model.specs.Selection.{is_selection, is_selection_of, engine_selection, engine_selection_of, engine_gather, are_first, are_split, are_oldest, oldest, names_of}
use Rattle.ccr_model.specs.Rules.{refused, is_post, is_new, may_put, drop_at, cuts_at, has_budget, ends_so, is_shed, may_admit, may_start}
use Rattle.ccr_model.specs.Legal.{IsAllowed, IsLegal}
use Rattle.ccr_model.specs.Order.{post_from, script_post, fire_at, fire_from, next_attempt, put_first, run_task, run_with, task_post, how_of, admit_first, admit_from, start_from, first}
use Rattle.ccr_model.proofs.PostNames.{along, refused_not}
use Rattle.ccr_model.proofs.Stable.{firing_named-append, firings-append}
use Rattle.ccr_base.proofs.Options.{some_of, IfSome-or, some-below, none-above}
use Rattle.ccr_model.proofs.Members.{Among, Among-last, find_passes, Among-kept, Among-filter, Among-mapped}
use Rattle.ccr_model.proofs.FirstNames.{length-names_of}
use Rattle.ccr_base.proofs.SameNames.{same_task-self, same_message-self, same_value-self, same_lists-self}
use Rattle.ccr_base.proofs.Booleans.{both, or_right, eq-self}
use Rattle.ccr_model.proofs.FiredTasks.{find_last}

-- what passes isn't refused
pub passed : (b : Bool) (rule : Rule) (o : Option Rule) → b ≡ true → o ≡ None → refused b rule o ≡ None
passed b rule o is rest = rw (is, rest) refl

-- Post of a script
pub is_post-self : (i : MsgId) (s : Sent) → is_post (record { id = i; port = s.port; value = s.value; causes = s.causes }) s ≡ true
is_post-self i s = rw (eq-self s.port, same_value-self s.value, same_lists-self (λ c d. c == d) eq-self s.causes) refl

script_allowed : (w : Parts) (h : List Event) (n : ℕ) (p : PosterPart) → slice_get w.posters n ≡ Some p → (o : Option Sent) → slice_get p.posts (posts_of_poster h n) ≡ o → IfSome (option_map (script_post n (posts_of_poster h n)) o) (IsAllowed w h)
script_allowed w h n p at None is = tt
script_allowed w h n p at (Some s) is = passed _ _ None (rw (at, is, eq-self (posts_of_poster h n), is_post-self (Script n (posts_of_poster h n)) s) refl) refl

posts_allowed : (w : Parts) (h : List Event) (n : ℕ) (ps : List PosterPart) → ((k i : ℕ) (p : PosterPart) → n + k ≡ i → slice_get ps k ≡ Some p → slice_get w.posters i ≡ Some p) → IfSome (post_from h n ps) (IsAllowed w h)
posts_allowed w h n [] at = tt
posts_allowed w h n (p ∷ ps) at = IfSome-or (IsAllowed w h) _ _ (script_allowed w h n p (at 0 n p (omega arith) refl) (slice_get p.posts (posts_of_poster h n)) refl) (posts_allowed w h (n + 1) ps (λ k i q e is. at (suc k) i q (omega arith) is))

-- Fire
below_next : (c k : ℕ) (ts : List TaskId) → next_attempt c ts ≤ k → list_any (same_task (record { actor = c; attempt = k })) ts ≡ false
below_next c k [] le = refl
below_next c k (t ∷ ts) le = grind (arith, nat_tests, below_next c k ts)

pub first-self : (xs : List Msg) (n : ℕ) → are_first xs (names_of (take n xs)) ≡ true
first-self [] zero = refl
first-self [] (suc n) = refl
first-self (x ∷ xs) zero = refl
first-self (x ∷ xs) (suc n) = rw (same_message-self x.id) (first-self xs n)

-- names of the first of one list are a split of both
pub are_first-is_split : (a b : List Msg) (names : List MsgId) → are_first b names ≡ true → are_split a b names ≡ true
are_first-is_split [] b [] is = refl
are_first-is_split [] b (n ∷ names) is = is
are_first-is_split (m ∷ a) b [] is = refl
are_first-is_split (m ∷ a) b (n ∷ names) is = rw is refl

pub split_both : (a b : List Msg) (n k : ℕ) → are_split a b (names_of (take n a ++ take k b)) ≡ true
split_both a b zero k = are_first-is_split a b (names_of (take k b)) (first-self b k)
split_both [] b (suc n) k = are_first-is_split [] b (names_of (take k b)) (first-self b k)
split_both (x ∷ a) b (suc n) k = or_right (are_first b (names_of (take (suc n) (x ∷ a) ++ take k b))) _ (rw (same_message-self x.id) (split_both a b n k))

takes-length : (a b : List Msg) (n k : ℕ) → length (names_of (take n a ++ take k b)) ≡ min n (length a) + min k (length b)
takes-length a b n k = rw length-names_of (omega (arith, length-append (take n a) (take k b), length-take n a, length-take k b))

gather_is : (total : ℕ) (a b : List Msg) (n k : ℕ) → min n (length a) + min k (length b) ≡ total → (length (names_of (take n a ++ take k b)) == total) && are_split a b (names_of (take n a ++ take k b)) ≡ true
gather_is total a b n k e = rw (takes-length a b n k, e, eq-self total, split_both a b n k) refl

-- the engine's gather is a selection
gather_selection : (total p q : ℕ) (a b ms : List Msg) → engine_gather total p q a b ≡ Some ms → (length (names_of ms) == total) && are_split a b (names_of ms) ≡ true
gather_selection total p q a b ms is = of_tests (nat_lt (length a + length b) total) (nat_lt p q) refl is
  where
    of_tests : (x y : Bool) → nat_lt (length a + length b) total ≡ x → (if x then None else if y then Some (take total a ++ take (total - length a) b) else Some (take (total - length b) a ++ take total b)) ≡ Some ms → (length (names_of ms) == total) && are_split a b (names_of ms) ≡ true
    of_tests true y few e = absurd (cc)
    of_tests false true few e =
        let enough : total ≤ length a + length b = grind (arith, nat_tests) in
        let same : ms ≡ take total a ++ take (total - length a) b = cc in
        rw same (gather_is total a b total (total - length a) (omega arith))
    of_tests false false few e =
        let enough : total ≤ length a + length b = grind (arith, nat_tests) in
        let same : ms ≡ take (total - length b) a ++ take total b = cc in
        rw same (gather_is total a b (total - length b) total (omega arith))

selection_allowed_of : (f : ℕ → List Msg) (p : Pattern) (ms : List Msg) → engine_selection_of f p ≡ Some ms → is_selection_of f p (names_of ms) ≡ true
selection_allowed_of f (Slots slots) ms is = rw is (same_lists-self same_message same_message-self (names_of ms))
selection_allowed_of f (Gather total p q) ms is = gather_selection total p q (f p) (f q) ms is

oldest_selection : (xs ms : List Msg) → oldest xs ≡ Some ms → are_oldest xs (names_of ms) ≡ true
oldest_selection [] ms is = absurd (cc)
oldest_selection (x ∷ xs) ms is = let same : ms ≡ x ∷ [] = cc in rw same (rw (same_message-self x.id) refl)

selection_allowed : (w : Parts) (h : List Event) (s : Spot) (ms : List Msg) → engine_selection w h s ≡ Some ms → is_selection w h s (names_of ms) ≡ true
selection_allowed w h (Branch b) ms is = of_option (placement w b) is
  where
    of_option : (o : Option Placement) → option_and_then (λ (s : Placement). engine_selection_of (held h) s.branch.pattern) o ≡ Some ms → option_map_or (λ (s : Placement). is_selection_of (held h) s.branch.pattern (names_of ms)) o false ≡ true
    of_option None e = absurd (cc)
    of_option (Some s) e = selection_allowed_of (held h) s.branch.pattern ms e
selection_allowed w h (Site b k) ms is = of_option (site_port w b k) is
  where
    of_option : (o : Option ℕ) → option_and_then (λ port. oldest (held h port)) o ≡ Some ms → option_map_or (λ port. are_oldest (held h port) (names_of ms)) o false ≡ true
    of_option None e = absurd (cc)
    of_option (Some port) e = oldest_selection (held h port) ms e

fire_allowed : (w : Parts) (c : ℕ) (h : List Event) (s : Spot) → c ≤ 32 → IfSome (fire_at w c h s) (IsAllowed w h)
fire_allowed w c h s low = of_test (is_live w h s) (has_room w h s) refl refl (engine_selection w h s) refl
  where
    of_test : (a b : Bool) → is_live w h s ≡ a → has_room w h s ≡ b → (o : Option (List Msg)) → engine_selection w h s ≡ o → IfSome (if a && b then option_map (λ ms. Fire (record { actor = c; attempt = next_attempt c (fired h) }) s (names_of ms) (cuts_at w h s)) o else None) (IsAllowed w h)
    of_test true true live room None is = tt
    of_test true true live room (Some ms) is =
        let new : is_new h (record { actor = c; attempt = next_attempt c (fired h) }) ≡ true = grind (arith, nat_tests, below_next c (next_attempt c (fired h)) (fired h)) in
        passed _ _ _ new (passed _ _ _ live (passed _ _ _ (selection_allowed w h s ms is) (passed _ _ _ room (passed _ _ None (same_lists-self same_task same_task-self (cuts_at w h s)) refl))))
    of_test true false live room o is = tt
    of_test false b live room o is = tt

fires_allowed : (w : Parts) (c : ℕ) (h : List Event) (ss : List Spot) → c ≤ 32 → IfSome (fire_from w c h ss) (IsAllowed w h)
fires_allowed w c h [] low = tt
fires_allowed w c h (s ∷ ss) low = IfSome-or (IsAllowed w h) _ _ (fire_allowed w c h s low) (fires_allowed w c h ss low)

-- Put
pub same_option-self : (o : Option TaskId) → same_options same_task o o ≡ true
same_option-self None = refl
same_option-self (Some t) = same_task-self t

put_allowed : (w : Parts) (h : List Event) → IfSome (put_first w h) (IsAllowed w h)
put_allowed w h = of_option (find (may_put w h) (fired h)) refl
  where
    of_option : (o : Option TaskId) → find (may_put w h) (fired h) ≡ o → IfSome (option_map (λ t. Put t (drop_at w h t)) o) (IsAllowed w h)
    of_option None is = tt
    of_option (Some t) is = passed _ _ _ (find_passes (may_put w h) (fired h) t is) (passed _ _ None (same_option-self (drop_at w h t)) refl)

-- the next event of the running task
ends_so-how : (e : PlayEnd) → ends_so (how_of e) e ≡ true
ends_so-how plays.Done = refl
ends_so-how (plays.Failed v) = same_value-self v
ends_so-how (plays.Yield k) = refl

not_shed : (e : PlayEnd) → is_shed (how_of e) ≡ false
not_shed plays.Done = refl
not_shed (plays.Failed v) = refl
not_shed (plays.Yield k) = refl

run_allowed : (w : Parts) (h : List Event) (t : TaskId) → has_task (running h) t ≡ true → IsAllowed w h (run_task w h t)
run_allowed w h t runs = of_option (slice_get (play_of w h t).posts (posts_of_task h t)) refl
  where
    of_option : (o : Option Sent) → slice_get (play_of w h t).posts (posts_of_task h t) ≡ o → IsAllowed w h (run_with w h t (play_of w h t) o)
    of_option None is =
        let whole : has_post_left w h t ≡ false = grind (arith, nat_tests, none-above (play_of w h t).posts (posts_of_task h t) is) in
        passed _ _ _ runs (passed _ _ None (rw (not_shed (play_of w h t).end, whole, ends_so-how (play_of w h t).end) refl) refl)
    of_option (Some s) is = of_budget (has_budget w h) refl
      where
        of_budget : (b : Bool) → has_budget w h ≡ b → IsAllowed w h (if b then task_post t (posts_of_task h t) s else End t ends.Shed)
        of_budget true room = passed _ _ _ (rw (runs, is, eq-self (posts_of_task h t), is_post-self (Task t (posts_of_task h t)) s) refl) (passed _ _ None room refl)
        of_budget false spent =
            let left : has_post_left w h t ≡ true = grind (arith, nat_tests, some-below (play_of w h t).posts (posts_of_task h t) s is) in
            let full : w.budget ≤ posts_of_tasks h = grind (arith, nat_tests) in
            let much : nat_le w.budget (posts_of_tasks h + (count_unfinished w h - 1)) ≡ true = grind (arith, nat_tests) in
            passed _ _ _ runs (passed _ _ None (rw (left, much) refl) refl)

-- each firing is found by its name
abbrev pub OneName : List Event → Type 0
OneName h = (f : Firing) → Among f (firings h) → firing_named h f.task ≡ Some f

OneName_fire : (h : List Event) (t : TaskId) (s : Spot) (ms : List MsgId) (cs : List TaskId) → has_task (fired h) t ≡ false → OneName h → OneName (h ++ Fire t s ms cs ∷ [])
OneName_fire h t s ms cs new one f among = of_last (Among-last f _ (firings h) (rw firings-append at among))
  where
    of_last : Among f (firings h) ⊎ (f ≡ record { task = t; spot = s; messages = ms; cuts = cs }) → firing_named (h ++ Fire t s ms cs ∷ []) f.task ≡ Some f
    of_last (inl old) = firing_named-append h (Fire t s ms cs ∷ []) f.task f (one f old)
    of_last (inr e) = rw e (rw firings-append (find_last t (firings h) _ refl new))

OneName_other : (h : List Event) (e : Event) → firing_of e ≡ [] → OneName h → OneName (h ++ e ∷ [])
OneName_other h e none one f among = rw (firings-append, none, append-nil) (one f (let same : firings (h ++ e ∷ []) ≡ firings h = rw (firings-append, none, append-nil) refl in rw same at among))

OneName_kept : (w : Parts) (h : List Event) (e : Event) → OneName h → IsAllowed w h e → OneName (h ++ e ∷ [])
OneName_kept w h (Fire t s ms cs) one allowed = OneName_fire h t s ms cs (grind (arith, (refused_not (is_new h t) _ _ allowed).0)) one
OneName_kept w h (Post m) one allowed = OneName_other h (Post m) refl one
OneName_kept w h (Admit t) one allowed = OneName_other h (Admit t) refl one
OneName_kept w h (Put t d) one allowed = OneName_other h (Put t d) refl one
OneName_kept w h (Start t a) one allowed = OneName_other h (Start t a) refl one
OneName_kept w h (End t how) one allowed = OneName_other h (End t how) refl one

pub OneName-legal : (w : Parts) (h : List Event) → IsLegal w h → OneName h
OneName-legal w h legal = along w OneName (OneName_kept w) (λ f among. absurd among) h legal

-- Admit
pub filter_head : {X : Type 0} (p : X → Bool) (xs : List X) (x : X) (rest : List X) → filter p xs ≡ x ∷ rest → Among x xs
filter_head p xs x rest is = Among-kept p xs x (subst (Among x) (sym is) (inl refl))

fired_where_some : (p : Firing → Bool) (fs : List Firing) (t : TaskId) → Among t (map (λ (f : Firing). f.task) (filter p fs)) → (f : Firing) × Among f fs × (p f ≡ true) × (f.task ≡ t)
fired_where_some p fs t among =
    let made = Among-mapped (λ (f : Firing). f.task) (filter p fs) t among in
    let kept = Among-filter p fs made.0 made.1 in
    (made.0, kept.0, kept.1, made.2)

-- the oldest waiting task has its placement there
waiting_placement : (w : Parts) (h : List Event) (n : ℕ) (t : TaskId) (ts : List TaskId) → OneName h → waiting w h n ≡ t ∷ ts → (s : Placement) × (placement_of w h t ≡ Some s) × (s.domain ≡ n)
waiting_placement w h n t ts one is =
    let found = fired_where_some (λ f. is_branch_where w (λ s. is_interleave s.kind && (s.domain == n)) f.spot) (firings h) t (filter_head _ _ t ts is) in
    let named : firing_named h t ≡ Some found.0 = subst (λ u. firing_named h u ≡ Some found.0) found.3 (one found.0 found.1) in
    rw named (of_spot found.0.spot found.2)
  where
    of_spot : (sp : Spot) → is_branch_where w (λ s. is_interleave s.kind && (s.domain == n)) sp ≡ true → (s : Placement) × (placement w (branch_of sp) ≡ Some s) × (s.domain ≡ n)
    of_spot (Branch b) passes =
        let r = some_of (λ (s : Placement). is_interleave s.kind && (s.domain == n)) (placement w b) passes in
        (r.0, r.1, grind (arith, nat_tests, (both (is_interleave r.0.kind) (r.0.domain == n) r.2).1))
    of_spot (Site b k) passes = absurd (cc)

admit_allowed : (w : Parts) (h : List Event) (n : ℕ) → OneName h → IfSome (admit_first w h (waiting w h n)) (IsAllowed w h)
admit_allowed w h n one = of_list (waiting w h n) refl
  where
    of_list : (ts : List TaskId) → waiting w h n ≡ ts → IfSome (admit_first w h ts) (IsAllowed w h)
    of_list [] is = tt
    of_list (t ∷ ts) is = of_test (may_admit w h t) refl
      where
        of_test : (b : Bool) → may_admit w h t ≡ b → IfSome (if b then Some (Admit t) else None) (IsAllowed w h)
        of_test false e = tt
        of_test true e =
            let found = waiting_placement w h n t ts one is in
            passed _ _ _ (rw (found.1, found.2, is) (same_task-self t)) (passed _ _ None e refl)

admits_allowed : (w : Parts) (h : List Event) (n : ℕ) (xs : List ArbiterPart) → OneName h → IfSome (admit_from w h n xs) (IsAllowed w h)
admits_allowed w h n [] one = tt
admits_allowed w h n (x ∷ xs) one = IfSome-or (IsAllowed w h) _ _ (admit_allowed w h n one) (admits_allowed w h (n + 1) xs one)

-- Start
pub head_passes : (p : TaskId → Bool) (xs : List TaskId) (x : TaskId) (rest : List TaskId) → filter p xs ≡ x ∷ rest → p x ≡ true
head_passes p xs x rest is = (Among-filter p xs x (subst (Among x) (sym is) (inl refl))).1

-- nobody runs, so the actor runs nothing
none_by : (a : ℕ) (h : List Event) (gone : List TaskId) → without (started h) gone ≡ [] → without (flat_map (started_as a) h) gone ≡ []
none_by a [] gone is = refl
none_by a (Start t b ∷ h) gone is = grind (arith, none_by a h gone)
none_by a (Post m ∷ h) gone is = none_by a h gone is
none_by a (Fire t s ms cs ∷ h) gone is = none_by a h gone is
none_by a (Admit t ∷ h) gone is = none_by a h gone is
none_by a (Put t d ∷ h) gone is = none_by a h gone is
none_by a (End t how ∷ h) gone is = none_by a h gone is

start_allowed : (w : Parts) (c : ℕ) (h : List Event) (n : ℕ) → length w.posters ≤ c → c ≤ 32 → running h ≡ [] → IfSome (option_map (λ t. Start t c) (slice_get (queued w h n) 0)) (IsAllowed w h)
start_allowed w c h n high low run = of_list (queued w h n) refl
  where
    of_list : (ts : List TaskId) → queued w h n ≡ ts → IfSome (option_map (λ t. Start t c) (slice_get ts 0)) (IsAllowed w h)
    of_list [] is = tt
    of_list (t ∷ ts) is =
        let for_queue = head_passes (is_for_queue w h n) _ t ts is in
        let found = some_of (λ (s : Placement). s.branch.queue == n) (placement_of w h t) for_queue in
        let number : found.0.branch.queue ≡ n = grind (arith, nat_tests, found.2) in
        let idle : running_by h c ≡ [] = none_by c h (ended h) run in
        let ready : may_start w h c ≡ true = rw idle (grind (arith, nat_tests)) in
        passed _ _ _ (rw (found.1, number, is) (same_task-self t)) (passed _ _ None ready refl)

starts_allowed : (w : Parts) (c : ℕ) (h : List Event) (n : ℕ) (qs : List QueuePart) → length w.posters ≤ c → c ≤ 32 → running h ≡ [] → IfSome (start_from w c h n qs) (IsAllowed w h)
starts_allowed w c h n [] high low run = tt
starts_allowed w c h n (q ∷ qs) high low run = IfSome-or (IsAllowed w h) _ _ (start_allowed w c h n high low run) (starts_allowed w c h (n + 1) qs high low run)

pub first_allowed : (w : Parts) (c : ℕ) (h : List Event) → length w.posters ≤ c → c ≤ 32 → IsLegal w h → IfSome (first w c h) (IsAllowed w h)
first_allowed w c h high low legal =
    IfSome-or (IsAllowed w h) _ _ (posts_allowed w h 0 w.posters (λ k i p e is. subst (λ j. slice_get w.posters j ≡ Some p) (let z : k ≡ i = omega arith in z) is))
    (IfSome-or (IsAllowed w h) _ _ (fires_allowed w c h (spots w) low)
    (IfSome-or (IsAllowed w h) _ _ (admits_allowed w h 0 w.arbiters (OneName-legal w h legal))
    (IfSome-or (IsAllowed w h) _ _ (put_allowed w h) (run_or_start (running h) refl))))
  where
    run_or_start : (ts : List TaskId) → running h ≡ ts → IfSome (option_or (option_map (run_task w h) (slice_get ts 0)) (start_from w c h 0 w.queues)) (IsAllowed w h)
    run_or_start [] run = starts_allowed w c h 0 w.queues high low run
    run_or_start (t ∷ ts) run = run_allowed w h t (rw run (grind (arith, same_task-self t)))

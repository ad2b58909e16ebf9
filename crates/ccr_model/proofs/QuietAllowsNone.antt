-- Where no event comes first, none is allowed.
use Rattle.std.proofs.Common.{◌≡◌, ℕ, zero, suc, ◌+◌, ◌-◌, ◌<◌, ◌≤◌, inl, inr, Bool, true, false, not, ◌&&◌, ◌||◌, List, [], ◌∷◌, ◌++◌, length, map, take, Option, Some, None, refl, sym, arith, ap, subst}
use Rattle.std.specs.Prelude.{◌==◌, if◌then◌else◌, find, nat_lt, option_map, option_and_then, IfSome}
use Rattle.std.specs.List.{slice_get}
use Rattle.std.specs.Option.{option_map_or}
use Rattle.std.proofs.lemmas.Bool.Decides.{nat_tests}
use Rattle.ccr_base.specs.declared.names.TaskId.{TaskId}
use Rattle.ccr_base.specs.declared.names.MsgId.{MsgId}
use Rattle.ccr_base.specs.declared.names.MsgId.TheVariants.{Script, Task}
use Rattle.ccr_base.specs.declared.messages.Msg.{Msg}
use Rattle.ccr_base.specs.declared.patterns.Pattern.{Pattern}
use Rattle.ccr_base.specs.declared.patterns.Pattern.TheVariants.{Slots, Gather}
use Rattle.ccr_base.specs.declared.names.Spot.{Spot}
use Rattle.ccr_base.specs.declared.names.Spot.TheVariants.{Branch, Site}
use Rattle.ccr_wiring.specs.declared.parts.Parts.{Parts}
use Rattle.ccr_wiring.specs.declared.parts.PosterPart.{PosterPart}
use Rattle.ccr_wiring.specs.declared.parts.ArbiterPart.{ArbiterPart}
use Rattle.ccr_wiring.specs.declared.parts.QueuePart.{QueuePart}
use Rattle.ccr_model.specs.declared.history.Event.{Event}
use Rattle.ccr_model.specs.declared.history.Event.TheVariants.{Post, Fire, Admit, Put, Start, End}
use Rattle.ccr_base.specs.Names.{same_task, has_task, same_lists, same_message}
use Rattle.ccr_model.specs.Posts.{posts_of_poster, held}
use Rattle.ccr_wiring.specs.Wirings.{Placement, placement, placements, spots, spots_from, sites_from, awaited, actions_of, site_port, branch_of}
use Rattle.ccr_model.specs.Firings.{Firing, firings, fired, firing_named, spot_of, put, cut}
use Rattle.ccr_model.specs.TaskData.{placement_of}
use Rattle.ccr_model.specs.Tasks.{waiting, queued, running}
use Rattle.ccr_model.specs.Live.{is_live, has_room}
use Rattle.ccr_model.specs.Selection.{is_selection, is_selection_of, engine_selection, engine_selection_of, engine_gather, selection_of_slots, are_first, are_split, are_oldest, oldest, names_of}
use Rattle.ccr_model.specs.Rules.{refusal_of_post, is_post, is_script_line, is_new, is_first, is_oldest_waiting, may_admit, may_put, drop_at, is_oldest_queued, is_play_post}
use Rattle.ccr_model.specs.Legal.{IsAllowed, IsQuiet}
use Rattle.ccr_model.specs.Order.{first, post_from, script_post, fire_at, fire_from, admit_first, admit_from, put_first, run_task, start_from}
use Rattle.ccr_wiring.specs.Valid.{HasQueues}
use Rattle.ccr_wiring.specs.Openness.{is_closed}
use Rattle.ccr_model.proofs.Closed.{own_line}
use Rattle.ccr_model.proofs.PostNames.{refused_not}
use Rattle.ccr_model.proofs.PlacementDomains.{placement-within}
use Rattle.ccr_base.proofs.Options.{some_of, some_then, some_map, none_or, none_map, no_head, no_some}
use Rattle.ccr_model.proofs.Members.{Among, Among-left, Among-right, found_among, find_passes, Among-map, found_some}
use Rattle.ccr_base.proofs.SameNames.{same_task-is}
use Rattle.ccr_base.proofs.Booleans.{both}

-- Post of a script
post_none : (h : List Event) (ps : List PosterPart) (n k : ℕ) (p : PosterPart) → post_from h n ps ≡ None → slice_get ps k ≡ Some p → slice_get p.posts (posts_of_poster h (n + k)) ≡ None
post_none h [] n k p is at = absurd (cc)
post_none h (q ∷ ps) n zero p is at =
    let parts = none_or (option_map (script_post n (posts_of_poster h n)) (slice_get q.posts (posts_of_poster h n))) (post_from h (n + 1) ps) is in
    let none = none_map (script_post n (posts_of_poster h n)) (slice_get q.posts (posts_of_poster h n)) parts.0 in
    grind (arith, at, none)
post_none h (q ∷ ps) n (suc k) p is at =
    let parts = none_or (option_map (script_post n (posts_of_poster h n)) (slice_get q.posts (posts_of_poster h n))) (post_from h (n + 1) ps) is in
    grind (arith, post_none h ps (n + 1) k p parts.1 at)

no_script : (w : Parts) → is_closed w ≡ true → (h : List Event) (a k : ℕ) (m : Msg) → post_from h 0 w.posters ≡ None → is_script_line w h a k m ≡ true → ⊥
no_script w closed h a k m none is =
    let parts = both (k == posts_of_poster h a) (option_map_or (is_post m) (option_and_then (λ (p : PosterPart). slice_get p.posts k) (slice_get w.posters a)) false) (own_line w closed h a k m is) in
    let sent = some_of (is_post m) (option_and_then (λ (p : PosterPart). slice_get p.posts k) (slice_get w.posters a)) parts.1 in
    let poster = some_then (λ (p : PosterPart). slice_get p.posts k) (slice_get w.posters a) sent.0 sent.1 in
    let nothing = post_none h w.posters 0 a poster.0 none poster.1 in
    let same : k ≡ posts_of_poster h (0 + a) = grind (arith, nat_tests, parts.0) in
    let found : slice_get poster.0.posts (posts_of_poster h (0 + a)) ≡ Some sent.0 = rw (← same) poster.2 in
    grind (arith, nothing, found)

-- Fire
pub fire_none : (w : Parts) (c : ℕ) (h : List Event) (ss : List Spot) (s : Spot) → fire_from w c h ss ≡ None → Among s ss → fire_at w c h s ≡ None
fire_none w c h [] s is among = absurd among
fire_none w c h (r ∷ ss) s is (inl e) = rw e (none_or (fire_at w c h r) (fire_from w c h ss) is).0
fire_none w c h (r ∷ ss) s is (inr among) = fire_none w c h ss s (none_or (fire_at w c h r) (fire_from w c h ss) is).1 among

sites_among : (b n k i : ℕ) (ports : List ℕ) (port : ℕ) → n + k ≡ i → slice_get ports k ≡ Some port → Among (Site b i) (sites_from b n ports)
sites_among b n k i [] port e is = absurd (cc)
sites_among b n zero i (p ∷ ports) port e is = let same : i ≡ n = omega arith in inl (ap (λ j. Site b j) same)
sites_among b n (suc k) i (p ∷ ports) port e is = inr (sites_among b (n + 1) k i ports port (omega arith) is)

pub branch_among : (w : Parts) (n k i : ℕ) (ss : List Placement) (s : Placement) → n + k ≡ i → slice_get ss k ≡ Some s → Among (Branch i) (spots_from w n ss)
branch_among w n k i [] s e is = absurd (cc)
branch_among w n zero i (r ∷ ss) s e is = let same : i ≡ n = omega arith in inl (ap (λ j. Branch j) same)
branch_among w n (suc k) i (r ∷ ss) s e is = inr (Among-right (Branch i) (sites_from n 0 (awaited (actions_of w r.branch.handler))) (spots_from w (n + 1) ss) (branch_among w (n + 1) k i ss s (omega arith) is))

pub site_among : (w : Parts) (n k i j port : ℕ) (ss : List Placement) (s : Placement) → n + k ≡ i → slice_get ss k ≡ Some s → slice_get (awaited (actions_of w s.branch.handler)) j ≡ Some port → Among (Site i j) (spots_from w n ss)
site_among w n k i j port [] s e is at = absurd (cc)
site_among w n zero i j port (r ∷ ss) s e is at =
    let same : r ≡ s = cc in
    let here : slice_get (awaited (actions_of w r.branch.handler)) j ≡ Some port = rw same at in
    let number : n ≡ i = omega arith in
    inr (Among-left (Site i j) (sites_from n 0 (awaited (actions_of w r.branch.handler))) (spots_from w (n + 1) ss) (subst (λ x. Among (Site x j) (sites_from n 0 (awaited (actions_of w r.branch.handler)))) number (sites_among n 0 j j (awaited (actions_of w r.branch.handler)) port (omega arith) here)))
site_among w n (suc k) i j port (r ∷ ss) s e is at = inr (Among-right (Site i j) (sites_from n 0 (awaited (actions_of w r.branch.handler))) (spots_from w (n + 1) ss) (site_among w (n + 1) k i j port ss s (omega arith) is at))

first-length : (ms : List Msg) (names : List MsgId) → are_first ms names ≡ true → length names ≤ length ms
first-length ms [] is = grind arith
first-length [] (n ∷ names) is = absurd (cc)
first-length (m ∷ ms) (n ∷ names) is = grind (arith, first-length ms names (both (same_message m.id n) (are_first ms names) is).1)

split-length : (a b : List Msg) (names : List MsgId) → are_split a b names ≡ true → length names ≤ length a + length b
split-length a b [] is = grind arith
split-length [] b (n ∷ names) is = omega (arith, first-length b (n ∷ names) is)
split-length (m ∷ a) b (n ∷ names) is = front_or_not (are_first b (n ∷ names)) refl is (split-length a b names)
  where
    front_or_not : (front : Bool) → are_first b (n ∷ names) ≡ front → front || (same_message m.id n && are_split a b names) ≡ true → (are_split a b names ≡ true → length names ≤ length a + length b) → length (n ∷ names) ≤ length (m ∷ a) + length b
    front_or_not true front is rest = omega (arith, first-length b (n ∷ names) front)
    front_or_not false front is rest = grind (arith, rest (both (same_message m.id n) (are_split a b names) is).1)

-- where some selection may be made, the engine has one
abbrev HasSelection : Option (List Msg) → Type 0
HasSelection o = (ms : List Msg) × (o ≡ Some ms)

gather_some : (n p q : ℕ) (a b : List Msg) → n ≤ length a + length b → HasSelection (engine_gather n p q a b)
gather_some n p q a b enough = if_some (nat_lt (length a + length b) n) (nat_lt p q) (grind (arith, nat_tests))
  where
    if_some : (x y : Bool) → x ≡ false → HasSelection (if x then None else if y then Some (take n a ++ take (n - length a) b) else Some (take (n - length b) a ++ take n b))
    if_some true y is = absurd (cc)
    if_some false true is = (take n a ++ take (n - length a) b, refl)
    if_some false false is = (take (n - length b) a ++ take n b, refl)

selection_of_some : (f : ℕ → List Msg) (p : Pattern) (names : List MsgId) → is_selection_of f p names ≡ true → HasSelection (engine_selection_of f p)
selection_of_some f (Slots slots) names is = let found = some_of (λ messages. same_lists same_message (names_of messages) names) (selection_of_slots f slots) is in (found.0, found.1)
selection_of_some f (Gather total p q) names is =
    let parts = both (length names == total) (are_split (f p) (f q) names) is in
    let many : length names ≡ total = grind (arith, nat_tests, parts.0) in
    gather_some total p q (f p) (f q) (omega (arith, split-length (f p) (f q) names parts.1, many))

oldest_some : (ms : List Msg) (names : List MsgId) → are_oldest ms names ≡ true → HasSelection (oldest ms)
oldest_some [] [] is = absurd (cc)
oldest_some [] (n ∷ names) is = let parts = both (length (n ∷ names) == 1) (are_first [] (n ∷ names)) is in absurd (cc parts.1)
oldest_some (m ∷ ms) names is = (m ∷ [], refl)

-- the spot of a selection is one of the wiring, and the engine has a selection there
selection_some : (w : Parts) (h : List Event) (s : Spot) (names : List MsgId) → is_selection w h s names ≡ true → Among s (spots w) × HasSelection (engine_selection w h s)
selection_some w h (Branch b) names is =
    let found = some_of (λ (s : Placement). is_selection_of (held h) s.branch.pattern names) (placement w b) is in
    (branch_among w 0 b b (placements w) found.0 (omega arith) found.1, rw found.1 (selection_of_some (held h) found.0.branch.pattern names found.2))
selection_some w h (Site b k) names is =
    let found = some_of (λ port. are_oldest (held h port) names) (site_port w b k) is in
    let there = some_site (placement w b) refl found.0 found.1 in
    (site_among w 0 b b k found.0 (placements w) there.0 (omega arith) there.1 there.2, rw found.1 (oldest_some (held h found.0) names found.2))
  where
    some_site : (o : Option Placement) → placement w b ≡ o → (port : ℕ) → option_map_or (λ (s : Placement). slice_get (awaited (actions_of w s.branch.handler)) k) o None ≡ Some port → (s : Placement) × (placement w b ≡ Some s) × (slice_get (awaited (actions_of w s.branch.handler)) k ≡ Some port)
    some_site None at port is = absurd (cc)
    some_site (Some s) at port is = (s, at, is)

no_fire : (w : Parts) (c : ℕ) (h : List Event) (t : TaskId) (s : Spot) (names : List MsgId) (cs : List TaskId) → fire_from w c h (spots w) ≡ None → IsAllowed w h (Fire t s names cs) → ⊥
no_fire w c h t s names cs none allowed =
    let a = refused_not (is_new h t) _ _ allowed in
    let b = refused_not (is_live w h s) _ _ a.1 in
    let d = refused_not (is_selection w h s names) _ _ b.1 in
    let e = refused_not (has_room w h s) _ _ d.1 in
    let found = selection_some w h s names d.0 in
    let nothing = fire_none w c h (spots w) s none found.0 in
    grind (arith, nothing, b.0, e.0, found.1.1)

-- Admit
pub admit_none : (w : Parts) (h : List Event) (n k : ℕ) (as' : List ArbiterPart) → admit_from w h n as' ≡ None → k < length as' → admit_first w h (waiting w h (n + k)) ≡ None
admit_none w h n k [] none lt = absurd (omega arith)
admit_none w h n zero (a ∷ as') none lt =
    let parts = none_or (admit_first w h (waiting w h n)) (admit_from w h (n + 1) as') none in
    let e : n + 0 ≡ n = omega arith in
    rw e parts.0
admit_none w h n (suc k) (a ∷ as') none lt =
    let parts = none_or (admit_first w h (waiting w h n)) (admit_from w h (n + 1) as') none in
    let e : n + 1 + k ≡ n + suc k = omega arith in
    subst (λ i. admit_first w h (waiting w h i) ≡ None) e (admit_none w h (n + 1) k as' parts.1 (omega arith))

pub first_is : (ts : List TaskId) (t : TaskId) → is_first ts t ≡ true → slice_get ts 0 ≡ Some t
first_is ts t is = let found = some_of (same_task t) (slice_get ts 0) is in rw found.1 (ap (λ u. Some u) (sym (same_task-is t found.0 found.2)))

admit_head : (w : Parts) (h : List Event) (ts : List TaskId) (t : TaskId) → slice_get ts 0 ≡ Some t → admit_first w h ts ≡ None → may_admit w h t ≡ false
admit_head w h [] t is none = absurd (cc)
admit_head w h (u ∷ ts) t is none = of_test (may_admit w h u) refl none
  where
    of_test : (b : Bool) → may_admit w h u ≡ b → (if b then Some (Admit u) else None) ≡ None → may_admit w h t ≡ false
    of_test true e gone = absurd (cc)
    of_test false e gone = let same : u ≡ t = cc in rw (← same) e

no_admit : (w : Parts) (h : List Event) (t : TaskId) → admit_from w h 0 w.arbiters ≡ None → IsAllowed w h (Admit t) → ⊥
no_admit w h t none allowed =
    let a = refused_not (is_oldest_waiting w h t) _ _ allowed in
    let b = refused_not (may_admit w h t) _ None a.1 in
    let found = some_of (λ (s : Placement). is_first (waiting w h s.domain) t) (placement_of w h t) a.0 in
    let placed = some_then (λ spot. placement w (branch_of spot)) (spot_of h t) found.0 found.1 in
    let inside : found.0.domain < length w.arbiters = placement-within w (branch_of placed.0) found.0 placed.2 in
    let e : 0 + found.0.domain ≡ found.0.domain = omega arith in
    let nothing = subst (λ i. admit_first w h (waiting w h i) ≡ None) e (admit_none w h 0 found.0.domain w.arbiters none inside) in
    let no = admit_head w h (waiting w h found.0.domain) t (first_is (waiting w h found.0.domain) t found.2) nothing in
    absurd (cc (no, b.0))

-- Put
pub found_fired : (fs : List Firing) (t : TaskId) (f : Firing) → find (λ (g : Firing). same_task g.task t) fs ≡ Some f → Among t (map (λ (g : Firing). g.task) fs)
found_fired fs t f is =
    let one = λ (g : Firing). same_task g.task t in
    subst (λ u. Among u (map (λ (g : Firing). g.task) fs)) (same_task-is f.task t (find_passes one fs f is)) (Among-map (λ (g : Firing). g.task) fs f (found_among one fs f is))

pub find_among : {X : Type 0} (p : X → Bool) (xs : List X) (x : X) → Among x xs → p x ≡ true → find p xs ≡ None → ⊥
find_among p xs x is passes none = let found = found_some p xs x is passes in no_some (find p xs) found.0 none found.1

no_put : (w : Parts) (h : List Event) (t : TaskId) (d : Option TaskId) → put_first w h ≡ None → IsAllowed w h (Put t d) → ⊥
no_put w h t d none allowed =
    let a = refused_not (may_put w h t) _ _ allowed in
    let parts = both (not (has_task (put h) t) && not (has_task (cut h) t)) _ a.0 in
    let placed = some_of _ (spot_of h t) parts.1 in
    let fired_so = some_map (λ (f : Firing). f.spot) (firing_named h t) placed.0 placed.1 in
    find_among (may_put w h) (fired h) t (found_fired (firings h) t fired_so.0 fired_so.1) a.0 (none_map (λ u. Put u (drop_at w h u)) (find (may_put w h) (fired h)) none)

-- Start
pub start_none : (w : Parts) (c : ℕ) (h : List Event) (n k : ℕ) (qs : List QueuePart) → start_from w c h n qs ≡ None → k < length qs → slice_get (queued w h (n + k)) 0 ≡ None
start_none w c h n k [] none lt = absurd (omega arith)
start_none w c h n zero (q ∷ qs) none lt =
    let parts = none_or (option_map (λ t. Start t c) (slice_get (queued w h n) 0)) (start_from w c h (n + 1) qs) none in
    let e : n + 0 ≡ n = omega arith in
    rw e (none_map (λ t. Start t c) (slice_get (queued w h n) 0) parts.0)
start_none w c h n (suc k) (q ∷ qs) none lt =
    let parts = none_or (option_map (λ t. Start t c) (slice_get (queued w h n) 0)) (start_from w c h (n + 1) qs) none in
    let e : n + 1 + k ≡ n + suc k = omega arith in
    subst (λ i. slice_get (queued w h i) 0 ≡ None) e (start_none w c h (n + 1) k qs parts.1 (omega arith))

no_start : (w : Parts) (c : ℕ) (h : List Event) (t : TaskId) (a : ℕ) → HasQueues w → start_from w c h 0 w.queues ≡ None → IsAllowed w h (Start t a) → ⊥
no_start w c h t a queues none allowed =
    let r = refused_not (is_oldest_queued w h t) _ _ allowed in
    let found = some_of (λ (s : Placement). is_first (queued w h s.branch.queue) t) (placement_of w h t) r.0 in
    let placed = some_then (λ spot. placement w (branch_of spot)) (spot_of h t) found.0 found.1 in
    let nothing = start_none w c h 0 found.0.branch.queue w.queues none (queues (branch_of placed.0) found.0 placed.2) in
    let e : 0 + found.0.branch.queue ≡ found.0.branch.queue = omega arith in
    let nothing_there = subst (λ i. slice_get (queued w h i) 0 ≡ None) e nothing in
    absurd (cc (nothing_there, first_is (queued w h found.0.branch.queue) t found.2))

-- where none comes first, no part has one
pub record NoneFirst (w : Parts) (c : ℕ) (h : List Event) : Type 0 where
  pub post : post_from h 0 w.posters ≡ None
  pub fire : fire_from w c h (spots w) ≡ None
  pub admit : admit_from w h 0 w.arbiters ≡ None
  pub put_next : put_first w h ≡ None
  pub run : running h ≡ []
  pub start : start_from w c h 0 w.queues ≡ None

pub NoneFirst-first : (w : Parts) (c : ℕ) (h : List Event) → first w c h ≡ None → NoneFirst w c h
NoneFirst-first w c h is =
    let a = none_or (post_from h 0 w.posters) _ is in
    let b = none_or (fire_from w c h (spots w)) _ a.1 in
    let d = none_or (admit_from w h 0 w.arbiters) _ b.1 in
    let e = none_or (put_first w h) _ d.1 in
    let f = none_or (option_map (run_task w h) (slice_get (running h) 0)) _ e.1 in
    record { post = a.0; fire = b.0; admit = d.0; put_next = e.0; run = no_head (running h) (none_map (run_task w h) (slice_get (running h) 0) f.0); start = f.1 }

no_post : (w : Parts) → is_closed w ≡ true → (h : List Event) (m : Msg) (name : MsgId) → post_from h 0 w.posters ≡ None → running h ≡ [] → refusal_of_post w h m name ≡ None → ⊥
no_post w closed h m (Script a k) none run allowed = no_script w closed h a k m none (refused_not (is_script_line w h a k m) _ None allowed).0
no_post w closed h m (Task t k) none run allowed =
    let r = refused_not (is_play_post w h t k m) _ _ allowed in
    let parts = both (has_task (running h) t && _) _ r.0 in
    let runs = both (has_task (running h) t) _ parts.0 in
    grind (arith, run, runs.0)

quiet_parts : (w : Parts) (c : ℕ) (h : List Event) → HasQueues w → is_closed w ≡ true → NoneFirst w c h → IsQuiet w h
quiet_parts w c h queues closed none (Post m) allowed = no_post w closed h m m.id none.post none.run allowed
quiet_parts w c h queues closed none (Fire t s ms cs) allowed = no_fire w c h t s ms cs none.fire allowed
quiet_parts w c h queues closed none (Admit t) allowed = no_admit w h t none.admit allowed
quiet_parts w c h queues closed none (Put t d) allowed = no_put w h t d none.put_next allowed
quiet_parts w c h queues closed none (Start t a) allowed = no_start w c h t a queues none.start allowed
quiet_parts w c h queues closed none (End t how) allowed =
    let r = refused_not (has_task (running h) t) _ _ allowed in
    grind (arith, none.run, r.0)

pub IsQuiet-first : (w : Parts) (c : ℕ) (h : List Event) → HasQueues w → is_closed w ≡ true → first w c h ≡ None → IsQuiet w h
IsQuiet-first w c h queues closed is = quiet_parts w c h queues closed (NoneFirst-first w c h is)

-- and where none is allowed, none comes that would have to be
pub none_if_quiet : (w : Parts) (h : List Event) → IsQuiet w h → (o : Option Event) → IfSome o (IsAllowed w h) → o ≡ None
none_if_quiet w h quiet None allowed = refl
none_if_quiet w h quiet (Some e) allowed = absurd (quiet e allowed)

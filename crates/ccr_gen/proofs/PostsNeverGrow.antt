-- What tasks have posted, with all that may still come of it, never grows.
use Rattle.std.proofs.Common.{◌≡◌, ℕ, zero, suc, ◌+◌, ◌*◌, ◌<◌, ◌≤◌, Bool, true, false, not, ◌&&◌, ◌||◌, List, [], ◌∷◌, ◌++◌, filter, Some, None, refl, ap, subst, append-nil, arith}
use Rattle.std.specs.Prelude.{◌==◌, ◌%◌, if◌then◌else◌, option_and_then}
use Rattle.std.specs.List.{slice_get}
use Rattle.std.specs.Option.{option_map_or}
use Rattle.std.proofs.lemmas.Grind.{common_steps}
use Rattle.std.proofs.lemmas.Bool.Decides.{nat_tests}
use Rattle.ccr_base.specs.declared.names.MsgId.{MsgId}
use Rattle.ccr_base.specs.declared.names.MsgId.TheVariants.{Script, Task}
use Rattle.ccr_base.specs.declared.messages.Msg.{Msg}
use Rattle.ccr_base.specs.Names.{has_task}
use Rattle.ccr_wiring.specs.declared.parts.PosterPart.{PosterPart}
use Rattle.ccr_model.proofs.Closed.{own_line, own_post}
use Rattle.ccr_model.specs.declared.history.Event.{Event}
use Rattle.ccr_model.specs.declared.history.Event.TheVariants as events
use Rattle.ccr_model.specs.Posts.{posts, taken, posts_of_poster, posts_of_task, posts_of_tasks, is_task_message, made_by_poster, task_messages}
use Rattle.ccr_model.specs.Firings.{firings}
use Rattle.ccr_model.specs.Tasks.{running}
use Rattle.ccr_model.specs.TaskData.{play_of}
use Rattle.ccr_model.specs.Rules.{refusal_of_post, is_script_line, is_play_post, is_post}
use Rattle.ccr_model.specs.Legal.{IsAllowed, IsLegal, are_whole_from, has_shed, is_complete}
use Rattle.ccr_base.proofs.Booleans.{both}
use Rattle.ccr_base.proofs.Options.{some_of, some_then}
use Rattle.ccr_model.proofs.PostNames.{IsPost-test, along, refused_not}
use Rattle.ccr_model.proofs.OneMoreEvent.{posts-push, firings-push}
use Rattle.ccr_model.proofs.TakenOnce.{FireFacts-allowed, taken-push}
use Rattle.ccr_gen.specs.Posters.{script, posters}
use Rattle.ccr_gen.specs.Generated.{generated}
use Rattle.ccr_gen.proofs.Lines.{script_lines, one_of_four}
use Rattle.ccr_gen.specs.Lines.{lines}
use Rattle.ccr_gen.specs.Weights.{weight, load, by_task, is_open, potential, whole}
use Rattle.ccr_gen.proofs.Loads.{fire_falls}
use Rattle.ccr_gen.proofs.Plays.{post_pays}
use Rattle.ccr_gen.proofs.OneMoreMessage.{due_firing, due_later, due_paid, left_task, left_script}

-- an open message weighs what its port does
load_more : (gone : List MsgId) (ms : List Msg) (m : Msg) → load (filter (is_open gone) (ms ++ m ∷ [])) ≤ load (filter (is_open gone) ms) + weight m.port
load_more gone [] m = grind arith
load_more gone (x ∷ ms) m = grind (arith, load_more gone ms m)

tasked_more : (ms : List Msg) (m : Msg) → task_messages (ms ++ m ∷ []) ≡ task_messages ms + (if is_task_message m.id then 1 else 0)
tasked_more ms m = grind (arith, common_steps)

abbrev Falls : ℕ → List Event → Event → Type 0
Falls size h e = whole size (h ++ e ∷ []) ≤ whole size h

post_falls : (size : ℕ) (h : List Event) (m : Msg) (name : MsgId) → m.id ≡ name → refusal_of_post (generated size) h m name ≡ None → potential size (posts h ++ m ∷ []) (taken h) (firings h) ≤ whole size h
post_falls size h m (Script actor place) named is =
    let line = (refused_not (is_script_line (generated size) h actor place m) _ None is).0 in
    let parts = both (place == posts_of_poster h actor) (option_map_or (is_post m) (option_and_then (λ (p : PosterPart). slice_get p.posts place) (slice_get (posters size) actor)) false) (own_line (generated size) refl h actor place m line) in
    let its = some_of (is_post m) (option_and_then (λ (p : PosterPart). slice_get p.posts place) (slice_get (posters size) actor)) parts.1 in
    let poster = some_then (λ (p : PosterPart). slice_get p.posts place) (slice_get (posters size) actor) its.0 its.1 in
    let next : place ≡ made_by_poster (posts h) actor = grind (arith, nat_tests, parts.0) in
    let port = (IsPost-test m its.0 its.2).port in
    let weighs : weight m.port ≡ weight its.0.port = ap weight port in
    let there : slice_get poster.0.posts (made_by_poster (posts h) actor) ≡ Some its.0 = subst (λ (n : ℕ). slice_get poster.0.posts n ≡ Some its.0) next poster.2 in
    let a = left_script weight (posts h) m actor place 0 actor (posters size) poster.0 its.0 named (omega arith) poster.1 there in
    let b = load_more (taken h) (posts h) m in
    let c = due_later (posts h) m (firings h) in
    let d : task_messages (posts h ++ m ∷ []) ≡ task_messages (posts h) = let out : is_task_message m.id ≡ false = rw named refl in grind (arith, tasked_more (posts h) m, out) in
    omega (arith, a, b, c, d, weighs)
post_falls size h m (Task t place) named is =
    let line = (refused_not (is_play_post (generated size) h t place m) _ _ is).0 in
    let parts = both (has_task (running h) t && (place == posts_of_task h t)) (option_map_or (is_post m) (slice_get (play_of (generated size) h t).posts place) false) (own_post (generated size) refl h t place m line) in
    let its = some_of (is_post m) (slice_get (play_of (generated size) h t).posts place) parts.1 in
    let counted = (both (has_task (running h) t) (place == posts_of_task h t) parts.0).1 in
    let paid = post_pays size h t place its.0 its.1 in
    let none : by_task (posts h) t ≡ 0 = grind (arith, nat_tests, counted, paid.2) in
    let port = (IsPost-test m its.0 its.2).port in
    let weighs : weight m.port ≡ weight its.0.port = ap weight port in
    let a = left_task weight (posts h) m t place 0 (posters size) named in
    let b = load_more (taken h) (posts h) m in
    let c = due_paid (posts h) m t place (firings h) paid.0 named none paid.1 in
    let d : task_messages (posts h ++ m ∷ []) ≡ task_messages (posts h) + 1 = let own : is_task_message m.id ≡ true = rw named refl in grind (arith, tasked_more (posts h) m, own) in
    let e = paid.3 in
    omega (arith, a, b, c, d, e, weighs)

-- each allowed event
falls : (size : ℕ) (h : List Event) (e : Event) → IsAllowed (generated size) h e → Falls size h e
falls size h (events.Post m) allowed = rw (posts-push, taken-push, firings-push, append-nil, append-nil) (post_falls size h m m.id refl allowed)
falls size h (events.Fire t s ms cs) allowed =
    let less = fire_falls size h s ms (FireFacts-allowed (generated size) h t s ms cs allowed).selection_made in
    let more = due_firing (posts h) (firings h) (record { task = t; spot = s; messages = ms; cuts = cs }) in
    rw (posts-push, taken-push, firings-push, append-nil) (omega (arith, less, more))
falls size h (events.Admit t) allowed = rw (posts-push, taken-push, firings-push, append-nil, append-nil, append-nil) (omega arith)
falls size h (events.Put t d) allowed = rw (posts-push, taken-push, firings-push, append-nil, append-nil, append-nil) (omega arith)
falls size h (events.Start t a) allowed = rw (posts-push, taken-push, firings-push, append-nil, append-nil, append-nil) (omega arith)
falls size h (events.End t how) allowed = rw (posts-push, taken-push, firings-push, append-nil, append-nil, append-nil) (omega arith)

never_grows : (size : ℕ) (h : List Event) → IsLegal (generated size) h → whole size h ≤ whole size []
never_grows size h legal = along (generated size) (λ g. whole size g ≤ whole size []) (λ g e less allowed. omega (arith, less, falls size g e allowed)) (omega arith) h legal

-- ---- what all scripts lead to

abbrev all_lines : ℕ → ℕ
all_lines size = lines weight (script size 0) + lines weight (script size 1) + lines weight (script size 2) + lines weight (script size 3)

all_more : (size : ℕ) → all_lines (size + 1) ≡ all_lines size + weight (size % 3)
all_more size = omega (arith, script_lines weight size 0, script_lines weight size 1, script_lines weight size 2, script_lines weight size 3, one_of_four weight size)

-- a post of three is one of a, one of b, one of c
spare : ℕ → ℕ
spare zero = 0
spare (suc zero) = 7
spare (suc (suc r)) = 2

round : (size r : ℕ) → size % 3 ≡ r → r < 3 → 3 * weight r + spare r ≡ 5 + spare ((size + 1) % 3)
unfolding spare
round size zero is lt = let next : (size + 1) % 3 ≡ 1 = grind (arith, is) in rw next refl
round size (suc zero) is lt = let next : (size + 1) % 3 ≡ 2 = grind (arith, is) in rw next refl
round size (suc (suc zero)) is lt = let next : (size + 1) % 3 ≡ 0 = grind (arith, is) in rw next refl
round size (suc (suc (suc r))) is lt = absurd (omega arith)

small : (r : ℕ) → spare r ≤ 7
unfolding spare
small zero = omega arith
small (suc zero) = omega arith
small (suc (suc r)) = omega arith

thirds : (size : ℕ) → 3 * all_lines size ≡ 5 * size + spare (size % 3)
unfolding spare
thirds zero = refl
thirds (suc size) =
    let on : size + 1 ≡ suc size = omega arith in
    let step = round size (size % 3) refl (grind arith) in
    let before = thirds size in
    let more = all_more size in
    subst (λ (n : ℕ). 3 * all_lines n ≡ 5 * n + spare (n % 3)) on (omega (arith, step, before, more))

starts : (size : ℕ) → whole size [] ≡ all_lines size
starts size = omega arith

-- fewer posts of tasks than the budget
pub few_posts : (size : ℕ) → size ≤ 10000 → (h : List Event) → IsLegal (generated size) h → posts_of_tasks h < 10000
few_posts size many h legal =
    let less = never_grows size h legal in
    let all = starts size in
    let third = thirds size in
    let bit = small (size % 3) in
    omega (arith, less, all, third, bit, many)

-- where a task was shed, a complete history has spent the budget
pub never_shed : (size : ℕ) → size ≤ 10000 → (h : List Event) → IsLegal (generated size) h → is_complete (generated size) h ≡ true → has_shed h ≡ false
never_shed size many h legal complete = by (has_shed h) (both (are_whole_from (generated size) h 0 (posters size)) (not (has_shed h) || (posts_of_tasks h == 10000)) complete).1
  where
    by : (b : Bool) → (not b || (posts_of_tasks h == 10000)) ≡ true → b ≡ false
    by false is = refl
    by true is = let few = few_posts size many h legal in absurd (grind (arith, nat_tests, is, few))

-- How many posts a legal history has.
use Rattle.std.proofs.Common.{◌≡◌, ℕ, zero, suc, ◌+◌, ◌-◌, ◌<◌, ◌≤◌, Bool, true, false, not, List, [], ◌∷◌, ◌++◌, length, map, filter, Some, None, refl, arith, subst, append-nil}
use Rattle.std.specs.Prelude.{◌==◌, sum, option_and_then}
use Rattle.std.specs.List.{slice_get}
use Rattle.std.specs.Option.{option_map_or}
use Rattle.std.proofs.lemmas.Grind.{common_steps}
use Rattle.std.proofs.lemmas.Bool.Decides.{nat_tests}
use Rattle.std.proofs.lemmas.List.Sums.{sum_by-cons}
use Rattle.ccr_base.specs.declared.names.TaskId.{TaskId}
use Rattle.ccr_base.specs.declared.names.MsgId.{MsgId}
use Rattle.ccr_base.specs.declared.names.MsgId.TheVariants.{Script, Task}
use Rattle.ccr_base.specs.declared.messages.Msg.{Msg}
use Rattle.ccr_wiring.specs.declared.parts.Parts.{Parts}
use Rattle.ccr_wiring.specs.declared.parts.PosterPart.{PosterPart}
use Rattle.ccr_wiring.specs.Limits.{posts_in_all}
use Rattle.ccr_wiring.specs.Openness.{is_closed}
use Rattle.ccr_model.specs.declared.history.Event.{Event}
use Rattle.ccr_model.specs.declared.history.Event.TheVariants.{Post, Fire, Admit, Put, Start, End}
use Rattle.ccr_model.specs.Posts.{posts, is_script_of, is_task_message, posts_of_poster, task_messages, made_by_poster}
use Rattle.ccr_model.specs.Rules.{refusal_of_post, is_post, is_script_line, is_play_post, has_budget}
use Rattle.ccr_model.specs.Legal.{IsAllowed, IsLegal}
use Rattle.ccr_model.proofs.Closed.{own_line}
use Rattle.ccr_model.proofs.PostNames.{along, refused_not, made_by_poster-push}
use Rattle.ccr_model.proofs.OneMoreEvent.{posts-push}
use Rattle.ccr_base.proofs.Options.{some_of, some_then, some-below}
use Rattle.ccr_base.proofs.Booleans.{both, eq-self}

-- the lines that the posters from this number on have left
abbrev pub lines_left : List Msg → ℕ → List PosterPart → ℕ
lines_left ms number [] = 0
lines_left ms number (poster ∷ posters) = (length poster.posts - made_by_poster ms number) + lines_left ms (number + 1) posters

-- how many messages are a script's
abbrev pub script_messages : List Msg → ℕ
script_messages ms = length (filter (λ (m : Msg). not (is_task_message m.id)) ms)

pub both_kinds : (ms : List Msg) → length ms ≡ script_messages ms + task_messages ms
both_kinds [] = refl
both_kinds (m ∷ ms) = grind (arith, both_kinds ms)

-- no post gives a line back
lines_left-push : (ms : List Msg) (m : Msg) (n : ℕ) (ps : List PosterPart) → lines_left (ms ++ m ∷ []) n ps ≤ lines_left ms n ps
lines_left-push ms m n [] = omega arith
lines_left-push ms m n (p ∷ ps) = omega (arith, made_by_poster-push ms m n, lines_left-push ms m (n + 1) ps)

-- a post of a poster that has a line left takes one
line_taken : (ms : List Msg) (m : Msg) (n k i : ℕ) (ps : List PosterPart) (p : PosterPart) → n + k ≡ i → slice_get ps k ≡ Some p → is_script_of i m.id ≡ true → made_by_poster ms i < length p.posts → lines_left (ms ++ m ∷ []) n ps + 1 ≤ lines_left ms n ps
line_taken ms m n k i [] p e at own left = absurd (cc)
line_taken ms m n zero i (q ∷ ps) p e at own left =
    let here : i ≡ n = omega arith in
    let one : q ≡ p = cc in
    let own_here : is_script_of n m.id ≡ true = rw (← here) own in
    let more : made_by_poster (ms ++ m ∷ []) n ≡ made_by_poster ms n + 1 = rw (made_by_poster-push ms m n, own_here) refl in
    let left_here : made_by_poster ms n < length q.posts = rw (one, ← here) left in
    omega (arith, more, left_here, lines_left-push ms m (n + 1) ps)
line_taken ms m n (suc k) i (q ∷ ps) p e at own left = omega (arith, made_by_poster-push ms m n, line_taken ms m (n + 1) k i ps p (omega arith) at own left)

-- at first all lines are left
lines_left_first : (n : ℕ) (ps : List PosterPart) → lines_left [] n ps ≡ sum (map (λ (p : PosterPart). length p.posts) ps)
lines_left_first n [] = refl
lines_left_first n (p ∷ ps) = rw (sum_by-cons (λ x. x) (length p.posts) (map (λ (q : PosterPart). length q.posts) ps)) (omega (arith, lines_left_first (n + 1) ps))

-- what is known of the posts
pub record ArePosted (w : Parts) (ms : List Msg) : Type 0 where
  pub lines : script_messages ms + lines_left ms 0 w.posters ≤ posts_in_all w.posters
  pub budget : task_messages ms ≤ w.budget
  pub whole : (n : ℕ) (p : PosterPart) → slice_get w.posters n ≡ Some p → made_by_poster ms n ≤ length p.posts

-- the poster of an allowed line has it left
record HasLine (w : Parts) (ms : List Msg) (a : ℕ) : Type 0 where
  poster : PosterPart
  at : slice_get w.posters a ≡ Some poster
  left : made_by_poster ms a < length poster.posts

has_line : (w : Parts) → is_closed w ≡ true → (h : List Event) (a k : ℕ) (m : Msg) → is_script_line w h a k m ≡ true → HasLine w (posts h) a
has_line w closed h a k m is =
    let parts = both (k == posts_of_poster h a) (option_map_or (is_post m) (option_and_then (λ (p : PosterPart). slice_get p.posts k) (slice_get w.posters a)) false) (own_line w closed h a k m is) in
    let sent = some_of (is_post m) (option_and_then (λ (p : PosterPart). slice_get p.posts k) (slice_get w.posters a)) parts.1 in
    let poster = some_then (λ (p : PosterPart). slice_get p.posts k) (slice_get w.posters a) sent.0 sent.1 in
    let below = some-below poster.0.posts k sent.0 poster.2 in
    let same : k ≡ posts_of_poster h a = grind (arith, nat_tests, parts.0) in
    record { poster = poster.0; at = poster.1; left = subst (λ i. i < length poster.0.posts) same below }

posted_line : (w : Parts) (ms : List Msg) (m : Msg) (a k : ℕ) → m.id ≡ Script a k → HasLine w ms a → ArePosted w ms → ArePosted w (ms ++ m ∷ [])
posted_line w ms m a k is line known =
    let own : is_script_of a m.id ≡ true = rw is (eq-self a) in
    let less = line_taken ms m 0 a a w.posters line.poster (omega arith) line.at own line.left in
    let more : script_messages (ms ++ m ∷ []) ≡ script_messages ms + 1 = grind (arith, common_steps, is) in
    let same : task_messages (ms ++ m ∷ []) ≡ task_messages ms = grind (arith, common_steps, is) in
    record {
      lines = omega (arith, less, more, known.lines);
      budget = rw same known.budget;
      whole = λ n p at. of_poster n p at (a == n) refl;
    }
  where
    of_poster : (n : ℕ) (p : PosterPart) → slice_get w.posters n ≡ Some p → (b : Bool) → (a == n) ≡ b → made_by_poster (ms ++ m ∷ []) n ≤ length p.posts
    of_poster n p at true e =
        let here : a ≡ n = grind (arith, nat_tests, e) in
        let there : slice_get w.posters n ≡ Some line.poster = rw (← here) line.at in
        let one : line.poster ≡ p = cc in
        let left : made_by_poster ms n < length p.posts = rw (← one, ← here) line.left in
        let own : is_script_of n m.id ≡ true = rw is e in
        rw (made_by_poster-push ms m n, own) (omega (arith, left))
    of_poster n p at false e =
        let own : is_script_of n m.id ≡ false = rw is e in
        rw (made_by_poster-push ms m n, own) (omega (arith, known.whole n p at))

posted_by_task : (w : Parts) (ms : List Msg) (m : Msg) (t : TaskId) (k : ℕ) → m.id ≡ Task t k → task_messages ms < w.budget → ArePosted w ms → ArePosted w (ms ++ m ∷ [])
posted_by_task w ms m t k is left known =
    let same : script_messages (ms ++ m ∷ []) ≡ script_messages ms = grind (arith, common_steps, is) in
    let more : task_messages (ms ++ m ∷ []) ≡ task_messages ms + 1 = grind (arith, common_steps, is) in
    record {
      lines = omega (arith, same, known.lines, lines_left-push ms m 0 w.posters);
      budget = omega (arith, more, left);
      whole = λ n p at. (let own : is_script_of n m.id ≡ false = rw is refl in rw (made_by_poster-push ms m n, own) (omega (arith, known.whole n p at)));
    }

posted_next : (w : Parts) → is_closed w ≡ true → (h : List Event) (m : Msg) (name : MsgId) → m.id ≡ name → refusal_of_post w h m name ≡ None → ArePosted w (posts h) → ArePosted w (posts h ++ m ∷ [])
posted_next w closed h m (Script a k) is allowed known = posted_line w (posts h) m a k is (has_line w closed h a k m (refused_not (is_script_line w h a k m) _ None allowed).0) known
posted_next w closed h m (Task t k) is allowed known =
    let a = refused_not (is_play_post w h t k m) _ _ allowed in
    let b = refused_not (has_budget w h) _ None a.1 in
    posted_by_task w (posts h) m t k is (grind (arith, nat_tests, b.0)) known

ArePosted_kept : (w : Parts) → is_closed w ≡ true → (h : List Event) (e : Event) → ArePosted w (posts h) → IsAllowed w h e → ArePosted w (posts (h ++ e ∷ []))
ArePosted_kept w closed h (Post m) known allowed = rw posts-push (posted_next w closed h m m.id refl allowed known)
ArePosted_kept w closed h (Fire t s ms cs) known allowed = rw (posts-push, append-nil) known
ArePosted_kept w closed h (Admit t) known allowed = rw (posts-push, append-nil) known
ArePosted_kept w closed h (Put t d) known allowed = rw (posts-push, append-nil) known
ArePosted_kept w closed h (Start t a) known allowed = rw (posts-push, append-nil) known
ArePosted_kept w closed h (End t how) known allowed = rw (posts-push, append-nil) known

-- each legal history keeps to the scripts and the budget
pub ArePosted-legal : (w : Parts) → is_closed w ≡ true → (h : List Event) → IsLegal w h → ArePosted w (posts h)
ArePosted-legal w closed h legal = along w (λ g. ArePosted w (posts g)) (ArePosted_kept w closed) (record { lines = rw (lines_left_first 0 w.posters) (omega arith); budget = omega arith; whole = λ n p at. omega arith }) h legal

pub few_posts : (w : Parts) → is_closed w ≡ true → (h : List Event) → IsLegal w h → length (posts h) ≤ posts_in_all w.posters + w.budget
few_posts w closed h legal = let known = ArePosted-legal w closed h legal in omega (arith, known.lines, known.budget, both_kinds (posts h))

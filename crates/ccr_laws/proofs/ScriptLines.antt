-- What each poster posted are the first lines of its script.
use Rattle.std.proofs.Common.{◌≡◌, ◌∙◌, ℕ, zero, suc, ◌+◌, ◌≤◌, ◌⊎◌, inl, inr, Bool, true, false, List, [], ◌∷◌, ◌++◌, length, map, filter, take, Option, Some, None, ◌||◌, refl, ap, sym, subst, arith, append-nil}
use Rattle.std.specs.Prelude.{◌==◌, option_and_then}
use Rattle.std.specs.List.{slice_get}
use Rattle.std.specs.Option.{option_map_or, is_some}
use Rattle.std.proofs.lemmas.List.{map-append, length-append, take_all}
use Rattle.std.proofs.lemmas.List.Elements.{filter-append}
use Rattle.std.proofs.lemmas.Bool.Decides.{nat_tests}
use Rattle.ccr_base.specs.declared.names.MsgId.{MsgId}
use Rattle.ccr_base.specs.declared.names.MsgId.TheVariants.{Script, Task}
use Rattle.ccr_base.specs.declared.messages.Msg.{Msg}
use Rattle.ccr_base.specs.declared.messages.Sent.{Sent}
use Rattle.ccr_wiring.specs.declared.parts.Parts.{Parts}
use Rattle.ccr_wiring.specs.declared.parts.PosterPart.{PosterPart}
use Rattle.ccr_wiring.specs.Openness.{open_poster}
use Rattle.ccr_model.specs.declared.history.Event.{Event}
use Rattle.ccr_model.specs.declared.history.Event.TheVariants.{Post, Fire, Admit, Put, Start, End}
use Rattle.ccr_model.specs.Posts.{post_of, posts_of_poster, is_script_of}
use Rattle.ccr_model.specs.Rules.{is_post, is_script_line, refusal_of_post}
use Rattle.ccr_model.specs.Legal.{IsAllowed, IsLegal, is_complete, are_whole_from}
use Rattle.ccr_base.proofs.Booleans.{both, same_number}
use Rattle.ccr_base.proofs.Options.{some_of, get-push}
use Rattle.ccr_base.proofs.Lists.{take_more}
use Rattle.ccr_model.proofs.Closed.{own_line_at}
use Rattle.ccr_model.proofs.PostNames.{IsPost-test, along, refused_not}
use Rattle.ccr_model.proofs.OneMoreEvent.{posts-push}
use Rattle.ccr_laws.specs.Scripts.{posts_by, sent_of, FollowsScript}

-- a message that is the post was sent as that
sent-post : (m : Msg) (s : Sent) → is_post m s ≡ true → sent_of m ≡ s
sent-post m s is = let post = IsPost-test m s is in rw (post.port, post.value, post.causes) refl

-- so do all posters
abbrev AllFollow : Parts → List Event → Type 0
AllFollow w h = (n : ℕ) (p : PosterPart) → slice_get w.posters n ≡ Some p → open_poster w n ≡ None → FollowsScript h n p.posts

pub posts_by-other : (h : List Event) (e : Event) (n : ℕ) → filter (λ (m : Msg). is_script_of n m.id) (post_of e) ≡ [] → posts_by (h ++ e ∷ []) n ≡ posts_by h n
posts_by-other h e n none = rw (posts-push, filter-append, none) (append-nil (posts_by h n))

pub posts_by-own : (h : List Event) (m : Msg) (n : ℕ) → is_script_of n m.id ≡ true → posts_by (h ++ Post m ∷ []) n ≡ posts_by h n ++ m ∷ []
posts_by-own h m n own = rw (posts-push, filter-append, own) refl

follows-same : (h g : List Event) (n : ℕ) (script : List Sent) → posts_by g n ≡ posts_by h n → FollowsScript h n script → FollowsScript g n script
follows-same h g n script same follows = record {
  lines = subst (λ ms. map sent_of ms ≡ take (length ms) script) (sym same) follows.lines;
  names = λ place m at. follows.names place m (subst (λ ms. slice_get ms place ≡ Some m) same at);
}

-- one more line
follows-line : (h : List Event) (m : Msg) (n : ℕ) (p : PosterPart) (s : Sent) → m.id ≡ Script n (posts_of_poster h n) → slice_get p.posts (posts_of_poster h n) ≡ Some s → is_post m s ≡ true → FollowsScript h n p.posts → FollowsScript (h ++ Post m ∷ []) n p.posts
follows-line h m n p s named at is follows = record {
  lines = subst (λ ms. map sent_of ms ≡ take (length ms) p.posts) (sym more) (rw (map-append, length-append, sent-post m s is, follows.lines) (sym (take_more p.posts (length (posts_by h n)) s at)));
  names = λ place y there. of_either place y (get-push (posts_by h n) m y place (subst (λ ms. slice_get ms place ≡ Some y) more there));
}
  where
    own : is_script_of n m.id ≡ true
    own = rw named (grind (arith, nat_tests))

    more : posts_by (h ++ Post m ∷ []) n ≡ posts_by h n ++ m ∷ []
    more = posts_by-own h m n own

    of_either : (place : ℕ) (y : Msg) → (slice_get (posts_by h n) place ≡ Some y) ⊎ ((place ≡ length (posts_by h n)) × (m ≡ y)) → y.id ≡ Script n place
    of_either place y (inl before) = follows.names place y before
    of_either place y (inr last) = subst (λ z. z.id ≡ Script n place) last.1 (named ∙ ap (λ k. Script n k) (sym last.0))

follows-post : (w : Parts) (h : List Event) (m : Msg) (name : MsgId) → m.id ≡ name → refusal_of_post w h m name ≡ None → AllFollow w h → AllFollow w (h ++ Post m ∷ [])
follows-post w h m (Task t k) named allowed follow n p at shut = follows-same h (h ++ Post m ∷ []) n p.posts (posts_by-other h (Post m) n (rw named refl)) (follow n p at shut)
follows-post w h m (Script a k) named allowed follow n p at shut = of_test (a == n) refl
  where
    line : is_script_line w h a k m ≡ true
    line = (refused_not (is_script_line w h a k m) _ None allowed).0

    of_test : (b : Bool) → (a == n) ≡ b → FollowsScript (h ++ Post m ∷ []) n p.posts
    of_test false is = follows-same h (h ++ Post m ∷ []) n p.posts (posts_by-other h (Post m) n (rw (named, is) refl)) (follow n p at shut)
    of_test true is =
        let one : a ≡ n = same_number a n is in
        let parts = both (k == posts_of_poster h a) (option_map_or (is_post m) (option_and_then (λ (q : PosterPart). slice_get q.posts k) (slice_get w.posters a)) false) (own_line_at w h a k m (ap (open_poster w) one ∙ shut) line) in
        let next : k ≡ posts_of_poster h n = same_number k (posts_of_poster h a) parts.0 ∙ ap (posts_of_poster h) one in
        let sent = some_of (is_post m) (option_and_then (λ (q : PosterPart). slice_get q.posts k) (slice_get w.posters a)) parts.1 in
        let there : slice_get p.posts k ≡ Some sent.0 = sym (ap (option_and_then (λ (q : PosterPart). slice_get q.posts k)) (ap (slice_get w.posters) one ∙ at)) ∙ sent.1 in
        follows-line h m n p sent.0 (named ∙ rw (one, next) refl) (subst (λ i. slice_get p.posts i ≡ Some sent.0) next there) sent.2 (follow n p at shut)

follows-event : (w : Parts) (h : List Event) (e : Event) → AllFollow w h → IsAllowed w h e → AllFollow w (h ++ e ∷ [])
follows-event w h (Post m) follow allowed n p at shut = follows-post w h m m.id refl allowed follow n p at shut
follows-event w h (Fire t s ms cs) follow allowed n p at shut = follows-same h _ n p.posts (posts_by-other h (Fire t s ms cs) n refl) (follow n p at shut)
follows-event w h (Admit t) follow allowed n p at shut = follows-same h _ n p.posts (posts_by-other h (Admit t) n refl) (follow n p at shut)
follows-event w h (Put t d) follow allowed n p at shut = follows-same h _ n p.posts (posts_by-other h (Put t d) n refl) (follow n p at shut)
follows-event w h (Start t a) follow allowed n p at shut = follows-same h _ n p.posts (posts_by-other h (Start t a) n refl) (follow n p at shut)
follows-event w h (End t how) follow allowed n p at shut = follows-same h _ n p.posts (posts_by-other h (End t how) n refl) (follow n p at shut)

pub follow : (w : Parts) (h : List Event) → IsLegal w h → (n : ℕ) (p : PosterPart) → slice_get w.posters n ≡ Some p → open_poster w n ≡ None → FollowsScript h n p.posts
follow w h legal = along w (AllFollow w) (follows-event w) (λ n p at shut. none n p.posts) h legal
  where
    none : (n : ℕ) (script : List Sent) → FollowsScript [] n script
    none n [] = record { lines = refl; names = λ place m at. absurd (cc) }
    none n (s ∷ script) = record { lines = refl; names = λ place m at. absurd (cc) }

-- who isn't open has made all
made_own : (b : Bool) (o : Option (List ℕ)) → o ≡ None → (b || is_some o) ≡ true → b ≡ true
made_own true o shut is = refl
made_own false o shut is = sym (ap (λ p. is_some p) shut) ∙ is

-- who has made as many posts as its script has
made-all : (w : Parts) (h : List Event) (first n : ℕ) (ps : List PosterPart) (p : PosterPart) → are_whole_from w h first ps ≡ true → slice_get ps n ≡ Some p → open_poster w (first + n) ≡ None → posts_of_poster h (first + n) ≡ length p.posts
made-all w h first n [] p whole at shut = absurd (cc)
made-all w h first zero (q ∷ ps) p whole at shut =
    let here = both ((posts_of_poster h first == length q.posts) || is_some (open_poster w first)) (are_whole_from w h (first + 1) ps) whole in
    let one : q ≡ p = cc in
    let e : first + 0 ≡ first = omega arith in
    let own : (posts_of_poster h first == length q.posts) ≡ true = made_own (posts_of_poster h first == length q.posts) (open_poster w first) (subst (λ i. open_poster w i ≡ None) e shut) here.0 in
    rw e (same_number (posts_of_poster h first) (length q.posts) own ∙ ap (λ (r : PosterPart). length r.posts) one)
made-all w h first (suc n) (q ∷ ps) p whole at shut =
    let here = both ((posts_of_poster h first == length q.posts) || is_some (open_poster w first)) (are_whole_from w h (first + 1) ps) whole in
    let e : first + 1 + n ≡ first + suc n = omega arith in
    subst (λ i. posts_of_poster h i ≡ length p.posts) e (made-all w h (first + 1) n ps p here.1 at (subst (λ i. open_poster w i ≡ None) (sym e) shut))

pub whole : (w : Parts) (h : List Event) → IsLegal w h → is_complete w h ≡ true → (n : ℕ) (p : PosterPart) → slice_get w.posters n ≡ Some p → open_poster w n ≡ None → map sent_of (posts_by h n) ≡ p.posts
whole w h legal complete n p at shut =
    let e : 0 + n ≡ n = omega arith in
    let made : length (posts_by h n) ≡ length p.posts = subst (λ i. posts_of_poster h i ≡ length p.posts) e (made-all w h 0 n w.posters p (both (are_whole_from w h 0 w.posters) _ complete).0 at (subst (λ i. open_poster w i ≡ None) (sym e) shut)) in
    let all : length p.posts ≤ length (posts_by h n) = omega (arith, made) in
    (follow w h legal n p at shut).lines ∙ take_all (length (posts_by h n)) p.posts all

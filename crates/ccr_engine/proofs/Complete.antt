-- Where nothing comes first, the history is complete.
use Rattle.std.proofs.Common.{◌≡◌, ℕ, suc, ◌+◌, ◌≤◌, Bool, true, false, not, ◌||◌, List, [], ◌∷◌, length, Some, None, refl, arith, subst}
use Rattle.std.specs.Prelude.{◌==◌, option_map}
use Rattle.std.specs.List.{slice_get}
use Rattle.std.proofs.lemmas.Bool.Decides.{nat_tests}
use Rattle.ccr_wiring.specs.declared.parts.Parts.{Parts}
use Rattle.ccr_wiring.specs.declared.parts.PosterPart.{PosterPart}
use Rattle.ccr_wiring.specs.Openness.{is_closed}
use Rattle.ccr_model.specs.declared.history.Event.{Event}
use Rattle.ccr_model.specs.Posts.{posts_of_poster, posts_of_tasks}
use Rattle.ccr_model.specs.Tasks.{running, count_unfinished}
use Rattle.ccr_model.specs.Legal.{IsLegal, IsQuiet, has_shed, are_whole_from, is_complete}
use Rattle.ccr_model.specs.Order.{first, post_from, script_post}
use Rattle.ccr_model.proofs.Allowing.{first_allowed}
use Rattle.ccr_model.proofs.LegalIsCovered.{IsCovered-legal}
use Rattle.ccr_model.proofs.QuietAllowsNone.{NoneFirst-first, none_if_quiet}
use Rattle.ccr_model.proofs.PostCounts.{ArePosted-legal}
use Rattle.ccr_base.proofs.Options.{none_or, none_map, none-above}

whole_from : (w : Parts) (h : List Event) (n : ℕ) (ps : List PosterPart) → ((k i : ℕ) (p : PosterPart) → n + k ≡ i → slice_get ps k ≡ Some p → posts_of_poster h i ≤ length p.posts) → post_from h n ps ≡ None → are_whole_from w h n ps ≡ true
whole_from w h n [] few none = refl
whole_from w h n (p ∷ ps) few none =
    let parts = none_or (option_map (script_post n (posts_of_poster h n)) (slice_get p.posts (posts_of_poster h n))) (post_from h (n + 1) ps) none in
    let above = none-above p.posts (posts_of_poster h n) (none_map (script_post n (posts_of_poster h n)) (slice_get p.posts (posts_of_poster h n)) parts.0) in
    let below = few 0 n p (omega arith) refl in
    let here : (posts_of_poster h n == length p.posts) ≡ true = grind (arith, nat_tests, above, below) in
    let later = whole_from w h (n + 1) ps (λ k i q e at. few (suc k) i q (omega arith) at) parts.1 in
    rw (here, later) refl

spent : (w : Parts) → is_closed w ≡ true → (h : List Event) → IsLegal w h → running h ≡ [] → (b : Bool) → has_shed h ≡ b → not b || (posts_of_tasks h == w.budget) ≡ true
spent w closed h legal idle false shed = refl
spent w closed h legal idle true shed =
    let much = IsCovered-legal w h legal shed in
    let none : count_unfinished w h ≡ 0 = rw idle refl in
    let few = (ArePosted-legal w closed h legal).budget in
    grind (arith, nat_tests, much, none, few)

-- the end of a legal run is complete
pub is_complete-first : (w : Parts) → is_closed w ≡ true → (c : ℕ) (h : List Event) → IsLegal w h → first w c h ≡ None → is_complete w h ≡ true
is_complete-first w closed c h legal is =
    let none = NoneFirst-first w c h is in
    let known = ArePosted-legal w closed h legal in
    let whole = whole_from w h 0 w.posters (λ k i p e at. (let same : k ≡ i = omega arith in subst (λ j. posts_of_poster h j ≤ length p.posts) same (known.whole k p at))) none.post in
    rw (whole, spent w closed h legal none.run (has_shed h) refl) refl

-- where nothing is allowed, nothing comes first
pub none_first-quiet : (w : Parts) (c : ℕ) (h : List Event) → length w.posters ≤ c → c ≤ 32 → IsLegal w h → IsQuiet w h → first w c h ≡ None
none_first-quiet w c h high low legal quiet = none_if_quiet w h quiet (first w c h) (first_allowed w c h high low legal)

-- a legal history after which nothing is allowed is complete: no script has a line left, and where a task was shed the budget is spent
pub is_complete-quiet : (w : Parts) → is_closed w ≡ true → (h : List Event) → length w.posters ≤ 32 → IsLegal w h → IsQuiet w h → is_complete w h ≡ true
is_complete-quiet w closed h few legal quiet = is_complete-first w closed 32 h legal (none_first-quiet w 32 h few (omega arith) legal quiet)

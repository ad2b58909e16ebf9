-- Posters that have no line left.
use Rattle.std.proofs.Common.{◌≡◌, ℕ, ◌+◌, ◌≤◌, true, List, [], ◌∷◌, ◌++◌, length, refl, arith}
use Rattle.std.specs.Prelude.{nat_le}
use Rattle.std.proofs.lemmas.Bool.Decides.{nat_tests}
use Rattle.ccr_base.specs.declared.messages.Msg.{Msg}
use Rattle.ccr_wiring.specs.declared.parts.PosterPart.{PosterPart}
use Rattle.ccr_model.specs.declared.history.Event.{Event}
use Rattle.ccr_model.specs.Posts.{posts, post_of, is_script_of, posts_of_poster}
use Rattle.ccr_model.proofs.OneMoreEvent.{posts-push}
use Rattle.ccr_base.proofs.Booleans.{both}
use Rattle.ccr_base.proofs.Filters.{more_kept}
use Rattle.ccr_engine.specs.Cursor.{are_done}

more_lines : (h : List Event) (e : Event) (n : ℕ) → posts_of_poster h n ≤ posts_of_poster (h ++ e ∷ []) n
more_lines h e n = rw posts-push (more_kept (λ (m : Msg). is_script_of n m.id) (posts h) (post_of e))

-- a poster that has no line left never has one again
pub done-event : (h : List Event) (e : Event) (n : ℕ) (ps : List PosterPart) → are_done h n ps ≡ true → are_done (h ++ e ∷ []) n ps ≡ true
done-event h e n [] is = refl
done-event h e n (p ∷ ps) is =
    let parts = both (nat_le (length p.posts) (posts_of_poster h n)) (are_done h (n + 1) ps) is in
    let here : nat_le (length p.posts) (posts_of_poster (h ++ e ∷ []) n) ≡ true = at_least (length p.posts) (posts_of_poster h n) (posts_of_poster (h ++ e ∷ []) n) (more_lines h e n) parts.0 in
    rw here (done-event h e (n + 1) ps parts.1)
  where
    at_least : (a b c : ℕ) → b ≤ c → nat_le a b ≡ true → nat_le a c ≡ true
    at_least a b c more is = grind (arith, nat_tests, more, is)

-- How a test over numbered posters, Interleaves, tasks and queues goes on behind one of them.
use Rattle.std.proofs.Common.{◌≡◌, ℕ, zero, suc, ◌+◌, ◌<◌, Bool, false, not, ◌&&◌, ◌||◌, List, [], ◌∷◌, length, drop, Some, refl, ap, arith}
use Rattle.std.specs.Prelude.{◌==◌, nat_lt}
use Rattle.std.specs.List.{slice_get, list_any}
use Rattle.std.specs.Option.{is_some, option_map_or}
use Rattle.ccr_base.proofs.Options.{drop_at}
use Rattle.ccr_base.specs.declared.names.TaskId.{TaskId}
use Rattle.ccr_wiring.specs.declared.parts.Parts.{Parts}
use Rattle.ccr_wiring.specs.declared.parts.PosterPart.{PosterPart}
use Rattle.ccr_wiring.specs.declared.parts.ArbiterPart.{ArbiterPart}
use Rattle.ccr_wiring.specs.declared.parts.QueuePart.{QueuePart}
use Rattle.ccr_wiring.specs.Openness.{open_poster}
use Rattle.ccr_model.specs.declared.history.Event.{Event}
use Rattle.ccr_model.specs.Posts.{posts_of_poster}
use Rattle.ccr_model.specs.Live.{is_none_of}
use Rattle.ccr_model.specs.Legal.{are_whole_from}
use Rattle.ccr_ledger.specs.Rows.{row}
use Rattle.ccr_ledger.specs.declared.cards.Card.{Card}
use Rattle.ccr_ledger.specs.Books.{Books, number}
use Rattle.ccr_checker.proofs.Stillness.{some_head}
use Rattle.ccr_checker.specs.LeftInTables.{has_line_left_in, can_admit_in, has_admission_in, has_queued_in, are_whole_in}

-- the poster at an index first, and then those after it
pub are_whole_from-drop : (w : Parts) (h : List Event) (ps : List PosterPart) (i n : ℕ) (p : PosterPart) → slice_get ps i ≡ Some p → are_whole_from w h n (drop i ps) ≡ ((posts_of_poster h n == length p.posts) || is_some (open_poster w n)) && are_whole_from w h (n + 1) (drop (i + 1) ps)
are_whole_from-drop w h ps i n p at = ap (are_whole_from w h n) (drop_at ps i p at)

pub are_whole_in-drop : (w : Parts) (b : Books) (ps : List PosterPart) (i n : ℕ) (p : PosterPart) → slice_get ps i ≡ Some p → are_whole_in w b n (drop i ps) ≡ ((number b.script_posts n == length p.posts) || is_some (open_poster w n)) && are_whole_in w b (n + 1) (drop (i + 1) ps)
are_whole_in-drop w b ps i n p at = ap (are_whole_in w b n) (drop_at ps i p at)

pub has_line_left-drop : (b : Books) (ps : List PosterPart) (i n : ℕ) (p : PosterPart) → slice_get ps i ≡ Some p → has_line_left_in b n (drop i ps) ≡ nat_lt (number b.script_posts n) (length p.posts) || has_line_left_in b (n + 1) (drop (i + 1) ps)
has_line_left-drop b ps i n p at = ap (has_line_left_in b n) (drop_at ps i p at)

-- the Interleave at an index first, and then those after it
pub has_admission-drop : (b : Books) (xs : List ArbiterPart) (i n : ℕ) → i < length xs → has_admission_in b n (drop i xs) ≡ can_admit_in b n || has_admission_in b (n + 1) (drop (i + 1) xs)
has_admission-drop b [] i n lt = absurd (omega arith)
has_admission-drop b (x ∷ xs) zero n lt = refl
has_admission-drop b (x ∷ xs) (suc i) n lt = let e : suc i + 1 ≡ suc (i + 1) = omega arith in rw e (has_admission-drop b xs i n (omega arith))

-- the task at an index first, and then those after it
pub some-drop : (p : TaskId × Card → Bool) (cards : List (TaskId × Card)) (i : ℕ) → i < length cards → list_any p (drop i cards) ≡ option_map_or p (slice_get cards i) false || list_any p (drop (i + 1) cards)
some-drop p [] i lt = absurd (omega arith)
some-drop p (card ∷ cards) zero lt = refl
some-drop p (card ∷ cards) (suc i) lt = let e : suc i + 1 ≡ suc (i + 1) = omega arith in rw e (some-drop p cards i (omega arith))

-- the queue at an index first, and then those after it
pub has_queued-drop : (b : Books) (qs : List QueuePart) (i n : ℕ) → i < length qs → has_queued_in b n (drop i qs) ≡ not (is_none_of (row b.queued n)) || has_queued_in b (n + 1) (drop (i + 1) qs)
has_queued-drop b [] i n lt = absurd (omega arith)
has_queued-drop b (q ∷ qs) zero n lt = refl
has_queued-drop b (q ∷ qs) (suc i) n lt = let e : suc i + 1 ≡ suc (i + 1) = omega arith in rw e (has_queued-drop b qs i n (omega arith))

pub ruleset numbered = (are_whole_from-drop, are_whole_in-drop, has_line_left-drop, has_admission-drop, some-drop, has_queued-drop, some_head)

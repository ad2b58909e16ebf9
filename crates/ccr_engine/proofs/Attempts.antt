-- The closer's next attempt after the event that comes first.
use Rattle.std.proofs.Common.{◌≡◌, ℕ, ◌+◌, ◌≤◌, Bool, true, false, ◌&&◌, List, [], ◌∷◌, ◌++◌, find, Option, Some, None, refl, arith, append-nil}
use Rattle.std.specs.Prelude.{if◌then◌else◌, option_map, IfSome}
use Rattle.std.specs.List.{slice_get}
use Rattle.std.proofs.lemmas.Bool.Decides.{nat_tests}
use Rattle.ccr_base.specs.declared.names.TaskId.{TaskId}
use Rattle.ccr_base.specs.declared.messages.Msg.{Msg}
use Rattle.ccr_base.specs.declared.messages.Sent.{Sent}
use Rattle.ccr_base.specs.declared.names.Spot.{Spot}
use Rattle.ccr_wiring.specs.declared.parts.Parts.{Parts}
use Rattle.ccr_wiring.specs.declared.parts.PosterPart.{PosterPart}
use Rattle.ccr_wiring.specs.declared.parts.ArbiterPart.{ArbiterPart}
use Rattle.ccr_wiring.specs.declared.parts.QueuePart.{QueuePart}
use Rattle.ccr_wiring.specs.Wirings.{spots}
use Rattle.ccr_model.specs.declared.history.Event.{Event}
use Rattle.ccr_model.specs.declared.history.Event.TheVariants.{Fire, Admit, Put, Start, End}
use Rattle.ccr_model.specs.declared.history.EndHow.TheVariants as ends
use Rattle.ccr_model.specs.Posts.{posts_of_poster, posts_of_task}
use Rattle.ccr_model.specs.Firings.{firing_of, fired}
use Rattle.ccr_model.specs.TaskData.{play_of}
use Rattle.ccr_model.specs.Tasks.{waiting, queued, running}
use Rattle.ccr_model.specs.Live.{is_live, has_room}
use Rattle.ccr_model.specs.Selection.{engine_selection, names_of}
use Rattle.ccr_model.specs.Rules.{cuts_at, may_admit, may_put, drop_at, has_budget}
use Rattle.ccr_model.specs.Order.{first, post_from, script_post, next_attempt, fire_at, fire_from, admit_first, admit_from, put_first, run_task, run_with, task_post, start_from}
use Rattle.ccr_model.proofs.OneMoreEvent.{firings-push, fired-fire}
use Rattle.ccr_base.proofs.Options.{IfSome-or}

abbrev OneMore : ℕ → List Event → Event → Type 0
OneMore c h e = next_attempt c (fired (h ++ e ∷ [])) ≤ next_attempt c (fired h) + 1

-- an event that is no firing
other : (c : ℕ) (h : List Event) (e : Event) → firing_of e ≡ [] → OneMore c h e
other c h e none = rw (firings-push, none, append-nil) (omega arith)

next_attempt-push : (c n : ℕ) (ts : List TaskId) → next_attempt c ts ≤ n → next_attempt c (ts ++ record { actor = c; attempt = n } ∷ []) ≤ n + 1
next_attempt-push c n [] le = grind (arith, nat_tests)
next_attempt-push c n (t ∷ ts) le = grind (arith, nat_tests, next_attempt-push c n ts)

one_more_post : (c : ℕ) (h : List Event) (n : ℕ) (ps : List PosterPart) → IfSome (post_from h n ps) (OneMore c h)
one_more_post c h n [] = tt
one_more_post c h n (p ∷ ps) = IfSome-or (OneMore c h) _ _ (of_option (slice_get p.posts (posts_of_poster h n))) (one_more_post c h (n + 1) ps)
  where
    of_option : (o : Option Sent) → IfSome (option_map (script_post n (posts_of_poster h n)) o) (OneMore c h)
    of_option None = tt
    of_option (Some s) = other c h (script_post n (posts_of_poster h n) s) refl

one_more_fire : (w : Parts) (c : ℕ) (h : List Event) (s : Spot) → IfSome (fire_at w c h s) (OneMore c h)
one_more_fire w c h s = of_test (is_live w h s && has_room w h s) (engine_selection w h s)
  where
    of_test : (b : Bool) (o : Option (List Msg)) → IfSome (if b then option_map (λ ms. Fire (record { actor = c; attempt = next_attempt c (fired h) }) s (names_of ms) (cuts_at w h s)) o else None) (OneMore c h)
    of_test false o = tt
    of_test true None = tt
    of_test true (Some ms) = rw fired-fire (next_attempt-push c (next_attempt c (fired h)) (fired h) (omega arith))

one_more_fires : (w : Parts) (c : ℕ) (h : List Event) (ss : List Spot) → IfSome (fire_from w c h ss) (OneMore c h)
one_more_fires w c h [] = tt
one_more_fires w c h (s ∷ ss) = IfSome-or (OneMore c h) _ _ (one_more_fire w c h s) (one_more_fires w c h ss)

one_more_admit : (w : Parts) (c : ℕ) (h : List Event) (n : ℕ) (xs : List ArbiterPart) → IfSome (admit_from w h n xs) (OneMore c h)
one_more_admit w c h n [] = tt
one_more_admit w c h n (x ∷ xs) = IfSome-or (OneMore c h) _ _ (of_list (waiting w h n)) (one_more_admit w c h (n + 1) xs)
  where
    of_test : (t : TaskId) (b : Bool) → IfSome (if b then Some (Admit t) else None) (OneMore c h)
    of_test t true = other c h (Admit t) refl
    of_test t false = tt

    of_list : (ts : List TaskId) → IfSome (admit_first w h ts) (OneMore c h)
    of_list [] = tt
    of_list (t ∷ ts) = of_test t (may_admit w h t)

one_more_put : (w : Parts) (c : ℕ) (h : List Event) → IfSome (put_first w h) (OneMore c h)
one_more_put w c h = of_option (find (may_put w h) (fired h))
  where
    of_option : (o : Option TaskId) → IfSome (option_map (λ t. Put t (drop_at w h t)) o) (OneMore c h)
    of_option None = tt
    of_option (Some t) = other c h (Put t (drop_at w h t)) refl

one_more_run : (w : Parts) (c : ℕ) (h : List Event) (ts : List TaskId) → IfSome (option_map (run_task w h) (slice_get ts 0)) (OneMore c h)
one_more_run w c h [] = tt
one_more_run w c h (t ∷ ts) = of_option (slice_get (play_of w h t).posts (posts_of_task h t))
  where
    of_test : (s : Sent) (b : Bool) → OneMore c h (if b then task_post t (posts_of_task h t) s else End t ends.Shed)
    of_test s true = other c h (task_post t (posts_of_task h t) s) refl
    of_test s false = other c h (End t ends.Shed) refl

    of_option : (o : Option Sent) → OneMore c h (run_with w h t (play_of w h t) o)
    of_option None = other c h (run_with w h t (play_of w h t) None) refl
    of_option (Some s) = of_test s (has_budget w h)

one_more_start : (w : Parts) (c : ℕ) (h : List Event) (n : ℕ) (qs : List QueuePart) → IfSome (start_from w c h n qs) (OneMore c h)
one_more_start w c h n [] = tt
one_more_start w c h n (q ∷ qs) = IfSome-or (OneMore c h) _ _ (of_option (slice_get (queued w h n) 0)) (one_more_start w c h (n + 1) qs)
  where
    of_option : (o : Option TaskId) → IfSome (option_map (λ t. Start t c) o) (OneMore c h)
    of_option None = tt
    of_option (Some t) = other c h (Start t c) refl

-- it grows by one at most
pub next_attempt-first : (w : Parts) (c : ℕ) (h : List Event) → IfSome (first w c h) (λ e. next_attempt c (fired (h ++ e ∷ [])) ≤ next_attempt c (fired h) + 1)
next_attempt-first w c h =
    IfSome-or (OneMore c h) _ _ (one_more_post c h 0 w.posters)
    (IfSome-or (OneMore c h) _ _ (one_more_fires w c h (spots w))
    (IfSome-or (OneMore c h) _ _ (one_more_admit w c h 0 w.arbiters)
    (IfSome-or (OneMore c h) _ _ (one_more_put w c h)
    (IfSome-or (OneMore c h) _ _ (one_more_run w c h (running h))
    (one_more_start w c h 0 w.queues)))))

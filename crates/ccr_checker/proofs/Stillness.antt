-- Something is left exactly where an event comes first.
use Rattle.std.proofs.Common.{◌≡◌, ℕ, ◌+◌, Bool, true, false, not, ◌&&◌, ◌||◌, List, [], ◌∷◌, Some, None, refl, sym, arith}
use Rattle.std.specs.Prelude.{if◌then◌else◌, is_some}
use Rattle.std.specs.List.{slice_get, list_any}
use Rattle.std.proofs.lemmas.Bool.Decides.{nat_tests}
use Rattle.ccr_base.specs.declared.names.TaskId.{TaskId}
use Rattle.ccr_base.specs.declared.names.Spot.{Spot}
use Rattle.ccr_base.proofs.Lists.{is_some-find}
use Rattle.ccr_base.proofs.Options.{is_some-get}
use Rattle.ccr_wiring.specs.declared.parts.Parts.{Parts}
use Rattle.ccr_wiring.specs.declared.parts.PosterPart.{PosterPart}
use Rattle.ccr_wiring.specs.declared.parts.ArbiterPart.{ArbiterPart}
use Rattle.ccr_wiring.specs.declared.parts.QueuePart.{QueuePart}
use Rattle.ccr_wiring.specs.Wirings.{spots}
use Rattle.ccr_model.specs.declared.history.Event.{Event}
use Rattle.ccr_model.specs.declared.history.Event.TheVariants.{Admit}
use Rattle.ccr_model.specs.Firings.{fired}
use Rattle.ccr_model.specs.Tasks.{waiting, queued, running}
use Rattle.ccr_model.specs.Live.{is_none_of}
use Rattle.ccr_model.specs.Rules.{may_admit, may_put}
use Rattle.ccr_model.specs.Order.{first, post_from, fire_from, admit_first, admit_from, put_first, start_from}
use Rattle.ccr_model.specs.Legal.{IsQuiet}
use Rattle.ccr_checker.specs.Quiet.{AllowsSome, MeansQuiet}
use Rattle.ccr_model.specs.Enough.{can_fire}
use Rattle.ccr_model.proofs.CanFire.{is_some-or, is_some-map, some_fire_at}
use Rattle.ccr_checker.specs.Left.{has_line_left, can_admit, has_admission, has_queued, is_still}

-- a line of a script
some_post : (h : List Event) (n : ℕ) (ps : List PosterPart) → is_some (post_from h n ps) ≡ has_line_left h n ps
some_post h n [] = refl
some_post h n (p ∷ ps) = rw (is_some-or, is_some-map, is_some-get, some_post h (n + 1) ps) refl

-- a firing
some_fire : (w : Parts) (c : ℕ) (h : List Event) (ss : List Spot) → is_some (fire_from w c h ss) ≡ list_any (can_fire w h) ss
some_fire w c h [] = refl
some_fire w c h (s ∷ ss) = rw (is_some-or, some_fire_at w c h s, some_fire w c h ss) refl

-- an admission
some_admit_first : (w : Parts) (h : List Event) (ts : List TaskId) → is_some (admit_first w h ts) ≡ can_admit w h ts
some_admit_first w h [] = refl
some_admit_first w h (t ∷ ts) = of_test (may_admit w h t)
  where
    of_test : (b : Bool) → is_some (if b then Some (Admit t) else None) ≡ b
    of_test true = refl
    of_test false = refl

some_admit : (w : Parts) (h : List Event) (n : ℕ) (xs : List ArbiterPart) → is_some (admit_from w h n xs) ≡ has_admission w h n xs
some_admit w h n [] = refl
some_admit w h n (x ∷ xs) = rw (is_some-or, some_admit_first w h (waiting w h n), some_admit w h (n + 1) xs) refl

-- a put
some_put : (w : Parts) (h : List Event) → is_some (put_first w h) ≡ list_any (may_put w h) (fired h)
some_put w h = rw (is_some-map, is_some-find) refl

-- a start
pub some_head : (ts : List TaskId) → is_some (slice_get ts 0) ≡ not (is_none_of ts)
some_head [] = refl
some_head (t ∷ ts) = grind (arith, nat_tests)

some_start : (w : Parts) (c : ℕ) (h : List Event) (n : ℕ) (qs : List QueuePart) → is_some (start_from w c h n qs) ≡ has_queued w h n qs
some_start w c h n [] = refl
some_start w c h n (q ∷ qs) = rw (is_some-or, is_some-map, some_head (queued w h n), some_start w c h (n + 1) qs) refl

none_of_six : (a b c d e f : Bool) → not (a || (b || (c || (d || (not e || f))))) ≡ not a && not b && not c && not d && e && not f
none_of_six true b c d e f = refl
none_of_six false true c d e f = refl
none_of_six false false true d e f = refl
none_of_six false false false true e f = refl
none_of_six false false false false true f = refl
none_of_six false false false false false f = refl

-- nothing is left exactly where nothing comes first
pub is_still-first : (w : Parts) (c : ℕ) (h : List Event) → not (is_some (first w c h)) ≡ is_still w h
unfolding is_still
is_still-first w c h =
    rw (is_some-or, some_post h 0 w.posters, is_some-or, some_fire w c h (spots w), is_some-or, some_admit w h 0 w.arbiters, is_some-or, some_put w h, is_some-or, is_some-map, some_head (running h), some_start w c h 0 w.queues)
    (none_of_six (has_line_left h 0 w.posters) (list_any (can_fire w h) (spots w)) (has_admission w h 0 w.arbiters) (list_any (may_put w h) (fired h)) (is_none_of (running h)) (has_queued w h 0 w.queues))

-- whether nothing is left is whether the history is quiet
pub MeansQuiet-still : (w : Parts) (h : List Event) (b : Bool) → b ≡ is_still w h → (is_still w h ≡ true → IsQuiet w h) → (is_still w h ≡ false → AllowsSome w h) → MeansQuiet w h b
MeansQuiet-still w h true is quiet moves = quiet (sym is)
MeansQuiet-still w h false is quiet moves = moves (sym is)

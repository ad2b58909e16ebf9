-- What is left by the tables is what is left after the history, where they keep what the model says.
use Rattle.std.proofs.Common.{◌≡◌, ◌∙◌, ℕ, ◌+◌, ◌≤◌, Bool, false, List, [], ◌∷◌, length, refl, ap, sym, arith}
use Rattle.std.specs.Prelude.{◌==◌}
use Rattle.std.specs.List.{slice_get, list_any}
use Rattle.std.specs.Option.{option_map_or}
use Rattle.std.proofs.lemmas.List.{length-map}
use Rattle.ccr_base.specs.declared.names.TaskId.{TaskId}
use Rattle.ccr_base.specs.declared.names.Spot.{Spot}
use Rattle.ccr_base.proofs.Lists.{any_same, list_any-map}
use Rattle.ccr_wiring.specs.declared.parts.Parts.{Parts}
use Rattle.ccr_wiring.specs.declared.parts.PosterPart.{PosterPart}
use Rattle.ccr_wiring.specs.declared.parts.ArbiterPart.{ArbiterPart}
use Rattle.ccr_wiring.specs.declared.parts.QueuePart.{QueuePart}
use Rattle.ccr_wiring.specs.Wirings.{spots}
use Rattle.ccr_wiring.specs.Valid.{IsValid}
use Rattle.ccr_model.specs.declared.history.Event.{Event}
use Rattle.ccr_model.specs.Firings.{fired}
use Rattle.ccr_model.specs.Tasks.{waiting}
use Rattle.ccr_model.specs.Live.{is_none_of}
use Rattle.ccr_model.specs.Enough.{can_fire}
use Rattle.ccr_model.specs.Rules.{may_put}
use Rattle.ccr_model.specs.Legal.{IsLegal, has_shed, are_whole_from, is_complete}
use Rattle.ccr_ledger.specs.declared.cards.Card.{Card}
use Rattle.ccr_ledger.specs.declared.cards.Runner.{Runner}
use Rattle.ccr_ledger.specs.Books.{Books, runners}
use Rattle.ccr_ledger.specs.Asked.{may_admit_task, is_ready}
use Rattle.ccr_ledger.specs.Kept.{Keeps}
use Rattle.ccr_ledger.proofs.Telling.{lives_told, room_told, can_choose_told, may_admit_task_told}
use Rattle.ccr_ledger.proofs.RulesTold.{is_ready_told}
use Rattle.ccr_checker.specs.Left.{has_line_left, can_admit, has_admission, has_queued, is_still}
use Rattle.ccr_checker.specs.LeftInTables.{has_line_left_in, can_fire_in, has_admission_in, has_ready, has_queued_in, is_still_in, are_whole_in, is_complete_in}

none-run : (rs : List Runner) → (length rs == 0) ≡ is_none_of (runners rs)
none-run rs = ap (λ n. n == 0) (sym (length-map rs (λ (r : Runner). r.task)))

module _ (w : Parts) (valid : IsValid w) (h : List Event) (legal : IsLegal w h) (b : Books) (keeps : Keeps w h b) where
  line_left : (n : ℕ) (ps : List PosterPart) → n + length ps ≤ length w.posters → has_line_left_in b n ps ≡ has_line_left h n ps
  line_left n [] low = refl
  line_left n (p ∷ ps) low = rw (keeps.script_posts.script_posts n (omega (arith, low)), line_left (n + 1) ps (omega (arith, low))) refl

  fires : (s : Spot) → can_fire_in w b s ≡ can_fire w h s
  fires s = rw (lives_told w valid h legal b keeps s, room_told w valid h legal b keeps s, can_choose_told w valid h legal b keeps s) refl

  admits_first : (ts : List TaskId) → option_map_or (may_admit_task b) (slice_get ts 0) false ≡ can_admit w h ts
  admits_first [] = refl
  admits_first (t ∷ ts) = rw (may_admit_task_told w valid h legal b keeps t) refl

  admission : (n : ℕ) (xs : List ArbiterPart) → n + length xs ≤ length w.arbiters → has_admission_in b n xs ≡ has_admission w h n xs
  admission n [] low = refl
  admission n (x ∷ xs) low = rw (keeps.rows.waiting n (omega (arith, low)), admits_first (waiting w h n), admission (n + 1) xs (omega (arith, low))) refl

  ready : has_ready b ≡ list_any (may_put w h) (fired h)
  ready = sym (list_any-map (is_ready b) (λ (entry : TaskId × Card). entry.0) b.tasks) ∙ (ap (λ ts. list_any (is_ready b) ts) keeps.tasks.names ∙ any_same (is_ready b) (may_put w h) (fired h) (is_ready_told w valid h legal b keeps))

  queued_left : (n : ℕ) (qs : List QueuePart) → n + length qs ≤ length w.queues → has_queued_in b n qs ≡ has_queued w h n qs
  queued_left n [] low = refl
  queued_left n (q ∷ qs) low = rw (keeps.rows.queued n (omega (arith, low)), queued_left (n + 1) qs (omega (arith, low))) refl

  pub is_still_told : is_still_in w b ≡ is_still w h
  unfolding is_still_in is_still
  is_still_told =
      rw (line_left 0 w.posters (omega arith), any_same (can_fire_in w b) (can_fire w h) (spots w) fires, admission 0 w.arbiters (omega arith), ready, none-run b.running, keeps.rows.running, queued_left 0 w.queues (omega arith)) refl

  whole : (n : ℕ) (ps : List PosterPart) → n + length ps ≤ length w.posters → are_whole_in w b n ps ≡ are_whole_from w h n ps
  whole n [] low = refl
  whole n (p ∷ ps) low = rw (keeps.script_posts.script_posts n (omega (arith, low)), whole (n + 1) ps (omega (arith, low))) refl

  pub is_complete_told : (shed : Bool) → shed ≡ has_shed h → is_complete_in w b shed ≡ is_complete w h
  is_complete_told shed is = rw (whole 0 w.posters (omega arith), is, keeps.script_posts.task_posts) refl

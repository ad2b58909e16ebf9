-- The parts of the order by the tables are those by the model.
use Rattle.std.proofs.Common.{◌≡◌, ◌∙◌, ℕ, ◌+◌, ◌<◌, ◌≤◌, true, false, List, [], ◌∷◌, ◌++◌, length, Option, None, Some, refl, ap, sym, subst, arith}
use Rattle.std.specs.Prelude.{option_map}
use Rattle.std.specs.List.{slice_get, list_any}
use Rattle.std.specs.Option.{option_map_or}
use Rattle.ccr_base.specs.declared.names.TaskId.{TaskId}
use Rattle.ccr_base.specs.declared.messages.Sent.{Sent}
use Rattle.ccr_handler.specs.declared.segments.Play.{Play}
use Rattle.ccr_base.specs.declared.names.Spot.{Spot}
use Rattle.ccr_base.specs.declared.names.Spot.TheVariants.{Branch, Site}
use Rattle.ccr_base.specs.Names.{has_task}
use Rattle.ccr_wiring.specs.declared.parts.Parts.{Parts}
use Rattle.ccr_wiring.specs.declared.parts.PosterPart.{PosterPart}
use Rattle.ccr_wiring.specs.declared.parts.ArbiterPart.{ArbiterPart}
use Rattle.ccr_wiring.specs.declared.parts.QueuePart.{QueuePart}
use Rattle.ccr_wiring.specs.Wirings.{spots, site_port}
use Rattle.ccr_model.specs.declared.history.Event.{Event}
use Rattle.ccr_model.specs.declared.history.Event.TheVariants.{Put}
use Rattle.ccr_model.specs.Firings.{fired, yielded_by, last_by, put_by}
use Rattle.ccr_model.specs.Sites.{yields_at}
use Rattle.ccr_model.specs.TaskData.{play_of}
use Rattle.ccr_model.specs.Posts.{posts_of_task}
use Rattle.ccr_model.specs.Legal.{IsAllowed, IsLegal}
use Rattle.ccr_model.specs.Rules.{drop_at}
use Rattle.ccr_model.specs.Tasks.{waiting, running, is_of_domain, is_for_queue}
use Rattle.ccr_model.specs.Order.{post_from, next_attempt, fire_at, fire_from, admit_first, admit_from, put_first, run_task, run_with, start_from}
use Rattle.ccr_base.proofs.Booleans.{neither, or_left}
use Rattle.ccr_base.proofs.SameNames.{same_task-self}
use Rattle.ccr_base.proofs.Lists.{none_narrower}
use Rattle.ccr_ledger.specs.Books.{Books}
use Rattle.ccr_ledger.specs.Asked.{drops, made_in}
use Rattle.ccr_engine.specs.Touched.{posts_to, touches, fires_for, touches_domain}
use Rattle.ccr_engine.specs.Cursor.{IsStill, could_fire, admission, start_at}
use Rattle.ccr_engine.specs.Ready.{AreReady, IsLeast}
use Rattle.ccr_engine.specs.Parts.{post_in, fire_in, first_fire_in, admit_in, admission_in, first_admit_in, put_in, run_in, run_with_in, start_at_in, start_in, yields_in, is_in_domain, is_for_queue_in, touches_in, touches_domain_in, touches_queue_in}
use Rattle.ccr_engine.specs.Numbered.{Gains, IsNoneBut, passes_at}
use Rattle.ccr_engine.specs.Desk.{TablesTell}
use Rattle.ccr_engine.proofs.Touching.{still}
use Rattle.ccr_engine.proofs.Stillness.{still-gains}
use Rattle.ccr_engine.proofs.ClosedDomains.{admission_stays}
use Rattle.ccr_engine.proofs.EmptyQueues.{start_stays}
use Rattle.ccr_engine.proofs.Asking.{none_but-gains}
use Rattle.ccr_engine.proofs.ReadyNumbers.{first_ready, none_ready}

module _ (w : Parts) (c : ℕ) (h : List Event) (b : Books) (told : TablesTell w h b) where
  -- the next line by the tables
  pub post_told : (n : ℕ) (ps : List PosterPart) → n + length ps ≤ length w.posters → post_in b n ps ≡ post_from h n ps
  post_told n [] low = refl
  post_told n (p ∷ ps) low = rw (told.script_posts n (omega (arith, low)), post_told (n + 1) ps (omega (arith, low))) refl

  pub fire_told : (s : Spot) → fire_in w (record { actor = c; attempt = next_attempt c (fired h) }) b s ≡ fire_at w c h s
  fire_told s = rw (told.lives_so s, told.room_so s, told.selection_so s, told.cuts_so s) refl

  -- the next firing by the tables
  pub first_fire_told : (ss : List Spot) → first_fire_in w (record { actor = c; attempt = next_attempt c (fired h) }) b ss ≡ fire_from w c h ss
  first_fire_told [] = refl
  first_fire_told (s ∷ ss) = rw (fire_told s, first_fire_told ss) refl

  pub admit_told : (ts : List TaskId) → admit_in b (slice_get ts 0) ≡ admit_first w h ts
  admit_told [] = refl
  admit_told (t ∷ ts) = rw (told.may_admit_task_so t) refl

  pub admission_told : (domain : ℕ) → domain < length w.arbiters → admission_in b domain ≡ admission w h domain
  admission_told domain low = rw (told.waits_so domain low) (admit_told (waiting w h domain))

  -- the next admission by the tables
  pub first_admit_told : (n : ℕ) (xs : List ArbiterPart) → n + length xs ≤ length w.arbiters → first_admit_in b n xs ≡ admit_from w h n xs
  first_admit_told n [] low = refl
  first_admit_told n (x ∷ xs) low = rw (told.waits_so n (omega (arith, low)), admit_told, first_admit_told (n + 1) xs (omega (arith, low))) refl

  -- the next put by the tables
  pub put_told : (ns : List ℕ) (n : ℕ) → AreReady w h ns → IsLeast ns n → put_in w b n ≡ put_first w h
  put_told ns n ready least = of_entry (slice_get b.tasks n) ∙ ap (λ o. option_map (λ task. Put task (drop_at w h task)) o) (told.names n ∙ first_ready w h ns n ready least)
    where
      of_entry : {X : Type 0} (o : Option (TaskId × X)) → option_map (λ entry. Put entry.0 (drops w b entry.0)) o ≡ option_map (λ task. Put task (drop_at w h task)) (option_map (λ entry. entry.0) o)
      of_entry None = refl
      of_entry (Some entry) = rw (told.drops_so entry.0) refl

  pub none_put_told : AreReady w h [] → put_first w h ≡ None
  none_put_told ready = ap (λ o. option_map (λ task. Put task (drop_at w h task)) o) (none_ready w h ready)

  pub run_told : (t : TaskId) → has_task (running h) t ≡ true → run_in w b t ≡ run_task w h t
  run_told t runs = ap (λ (play : Play). run_with_in w b t play (slice_get play.posts (made_in b t))) (told.play_so t) ∙ (ap (λ n. run_with_in w b t (play_of w h t) (slice_get (play_of w h t).posts n)) (told.made_so t runs) ∙ of_option (slice_get (play_of w h t).posts (posts_of_task h t)))
    where
      of_option : (o : Option Sent) → run_with_in w b t (play_of w h t) o ≡ run_with w h t (play_of w h t) o
      of_option None = refl
      of_option (Some sent) = rw (told.budget_so, told.made_so t runs) refl

  -- the next event of a running task by the tables
  pub first_run_told : (ts : List TaskId) → ts ≡ running h → option_map (run_in w b) (slice_get ts 0) ≡ option_map (run_task w h) (slice_get (running h) 0)
  first_run_told ts same = subst (λ us. option_map (run_in w b) (slice_get us 0) ≡ option_map (run_task w h) (slice_get (running h) 0)) (sym same) (of_list (running h) refl)
    where
      of_list : (us : List TaskId) → running h ≡ us → option_map (run_in w b) (slice_get us 0) ≡ option_map (run_task w h) (slice_get us 0)
      of_list [] at = refl
      of_list (t ∷ us) at = ap Some (run_told t (rw at (or_left _ _ (same_task-self t))))

  pub start_at_told : (queue : ℕ) → queue < length w.queues → start_at_in c b queue ≡ start_at w c h queue
  start_at_told queue low = rw (told.queued_so queue low) refl

  -- the next start by the tables
  pub start_told : (n : ℕ) (qs : List QueuePart) → n + length qs ≤ length w.queues → start_in c b n qs ≡ start_from w c h n qs
  start_told n [] low = refl
  start_told n (q ∷ qs) low = rw (told.queued_so n (omega (arith, low)), start_told (n + 1) qs (omega (arith, low))) refl

  -- what does not touch by the tables doesn't by the model
  pub untouched : (e : Event) (s : Spot) → touches_in w b e s ≡ false → touches w h e s ≡ false
  untouched e (Branch n) none = none
  untouched e (Site n k) none =
      let outs = neither (option_map_or (posts_to e) (site_port w n k) false) (list_any (yields_in b (Site n k)) (yielded_by e)) none in
      rw outs.0 (none_narrower (yields_at h (Site n k)) (yields_in b (Site n k)) (yielded_by e) (λ t is. told.yields_so (Site n k) t ∙ is) outs.1)

  -- it is enough that the spots come in that an event touches by the tables
  pub touched_kept : (e : Event) (old new : List ℕ) (blocked : List (List ℕ)) → IsLegal w h → IsStill w h old blocked → Gains (passes_at (touches_in w b e) (spots w)) old new → IsStill w (h ++ e ∷ []) new blocked
  touched_kept e old new blocked legal known gains = λ index out unblocked. still-gains (could_fire w h) (could_fire w (h ++ e ∷ [])) (touches_in w b e) (spots w) old new (λ s none was. still w h e s legal (untouched e s none) was) index (λ free. known index free unblocked) gains out

  -- the domains and the queues that the event does not touch by the tables it doesn't by the model
  pub untouched_domain : (e : Event) (domain : ℕ) → touches_domain_in w b e domain ≡ false → touches_domain w h e domain ≡ false
  untouched_domain e domain none =
      let outs = neither (fires_for w e domain) (list_any (is_in_domain b domain) (last_by e)) none in
      rw outs.0 (none_narrower (is_of_domain w h domain) (is_in_domain b domain) (last_by e) (told.domain_so domain) outs.1)

  pub domains_kept : (e : Event) (old new : List ℕ) → IsLegal w h → IsAllowed w h e → IsNoneBut (admission w h) (length w.arbiters) old → Gains (touches_domain_in w b e) old new → IsNoneBut (admission w (h ++ e ∷ [])) (length w.arbiters) new
  domains_kept e old new legal allowed known gains = none_but-gains (admission w h) (admission w (h ++ e ∷ [])) (touches_domain_in w b e) (length w.arbiters) old new (λ domain none was. admission_stays w h legal e domain allowed (untouched_domain e domain none) was) known gains

  pub queues_kept : (e : Event) (old new : List ℕ) → IsLegal w h → IsAllowed w h e → IsNoneBut (start_at w c h) (length w.queues) old → Gains (touches_queue_in b e) old new → IsNoneBut (start_at w c (h ++ e ∷ [])) (length w.queues) new
  queues_kept e old new legal allowed known gains = none_but-gains (start_at w c h) (start_at w c (h ++ e ∷ [])) (touches_queue_in b e) (length w.queues) old new (λ queue none was. start_stays w h legal c e queue allowed (none_narrower (is_for_queue w h queue) (is_for_queue_in b queue) (put_by e) (told.for_queue_so queue) none) was) known gains

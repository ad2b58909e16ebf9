-- A queue that has no task has none after an event that puts none into it.
use Rattle.std.proofs.Common.{◌≡◌, ◌∙◌, ℕ, true, false, List, [], ◌∷◌, ◌++◌, None, refl, ap, sym, subst}
use Rattle.std.specs.Prelude.{◌==◌, option_map}
use Rattle.std.specs.List.{slice_get}
use Rattle.std.specs.Option.{option_map_or}
use Rattle.ccr_base.specs.declared.names.TaskId.{TaskId}
use Rattle.ccr_base.specs.Names.{has_task, without}
use Rattle.ccr_wiring.specs.declared.parts.Parts.{Parts}
use Rattle.ccr_wiring.specs.Wirings.{Placement}
use Rattle.ccr_model.specs.declared.history.Event.{Event}
use Rattle.ccr_model.specs.declared.history.Event.TheVariants.{Post, Fire, Admit, Put, Start, End}
use Rattle.ccr_model.specs.Firings.{put, put_by, started, started_by, dropped, dropped_by}
use Rattle.ccr_model.specs.Tasks.{is_for_queue, queued}
use Rattle.ccr_model.specs.Legal.{IsAllowed, IsLegal}
use Rattle.ccr_base.proofs.Booleans.{neither, no_both}
use Rattle.ccr_model.proofs.FiredTasks.{IsFired, placement_stays}
use Rattle.ccr_base.proofs.Options.{no_head, none_map}
use Rattle.ccr_model.proofs.OneMoreEvent.{put-push, started-push, dropped-push}
use Rattle.ccr_model.proofs.TasksLeft.{out_left}
use Rattle.ccr_model.proofs.TaskLists.{to_filter, to_without, has_oldest, of_more, not_more, of_one}
use Rattle.ccr_model.proofs.WhoWasPut.{ArePlaced-legal, QueuedFacts, QueuedFacts-queued, PutFacts-allowed}
use Rattle.ccr_engine.specs.Cursor.{start_at}
use Rattle.ccr_engine.specs.Touched.{touches_queue}

module _ (w : Parts) (h : List Event) (legal : IsLegal w h) (e : Event) (allowed : IsAllowed w h e) (q : ℕ) (none : touches_queue w h e q ≡ false) where
  -- a task of another queue is none of this one after the event
  put_elsewhere : (u : TaskId) → IsFired h u × (is_for_queue w h q u ≡ false) → is_for_queue w (h ++ e ∷ []) q u ≡ true → ⊥
  put_elsewhere u other goes = no_both (sym (ap (λ o. option_map_or (λ (s : Placement). s.branch.queue == q) o false) (placement_stays w h (e ∷ []) u other.0)) ∙ goes) other.1

  -- who is queued and was put before was queued before
  queued_before : (u : TaskId) → QueuedFacts w (h ++ e ∷ []) q u → has_task (put h) u ≡ true → has_task (queued w h q) u ≡ true
  queued_before u facts was =
      let unstarted = out_left (started h) (started_by e) u (sym (ap (λ ts. has_task ts u) (started-push h e)) ∙ facts.not_started) in
      let undropped = out_left (dropped h) (dropped_by e) u (sym (ap (λ ts. has_task ts u) (dropped-push h e)) ∙ facts.not_dropped) in
      to_filter (is_for_queue w h q) (without (put h) (started h ++ dropped h)) u
      (to_without (put h) (started h ++ dropped h) u was (not_more (started h) (dropped h) u unstarted undropped))
      (sym (ap (λ o. option_map_or (λ (s : Placement). s.branch.queue == q) o false) (placement_stays w h (e ∷ []) u ((ArePlaced-legal w h legal).all_fired u was))) ∙ facts.for_queue)

-- whom the event puts fired, and is for no queue that it does not touch
put_now : (w : Parts) (h : List Event) (e : Event) (q : ℕ) → IsAllowed w h e → touches_queue w h e q ≡ false → (u : TaskId) → has_task (put_by e) u ≡ true → IsFired h u × (is_for_queue w h q u ≡ false)
put_now w h (Post m) q allowed none u among = absurd (cc)
put_now w h (Fire t s ms cs) q allowed none u among = absurd (cc)
put_now w h (Admit t) q allowed none u among = absurd (cc)
put_now w h (Start t a) q allowed none u among = absurd (cc)
put_now w h (End t how) q allowed none u among = absurd (cc)
put_now w h (Put t d) q allowed none u among =
    let facts = PutFacts-allowed w h t d allowed in
    subst (λ x. IsFired h x × (is_for_queue w h q x ≡ false)) (sym (of_one t u among)) ((facts.firing, facts.is_firing), (neither (is_for_queue w h q t) false none).0)

-- a queue that has no task has none after an event that puts none into it
pub start_stays : (w : Parts) (h : List Event) → IsLegal w h → (c : ℕ) (e : Event) (q : ℕ) → IsAllowed w h e → touches_queue w h e q ≡ false → start_at w c h q ≡ None → start_at w c (h ++ e ∷ []) q ≡ None
start_stays w h legal c e q allowed none was = of_list (queued w (h ++ e ∷ []) q) refl
  where
    empty : queued w h q ≡ []
    empty = no_head (queued w h q) (none_map (λ (t : TaskId). Start t c) (slice_get (queued w h q) 0) was)

    nobody : (u : TaskId) → has_task (queued w (h ++ e ∷ []) q) u ≡ true → ⊥
    nobody u is =
        let facts = QueuedFacts-queued w (h ++ e ∷ []) q u is in
        of_more (put h) (put_by e) u ⊥ (sym (ap (λ ts. has_task ts u) (put-push h e)) ∙ facts.put_so)
        (λ old. no_both (queued_before w h legal e allowed q none u facts old) (ap (λ ts. has_task ts u) empty))
        (λ new. put_elsewhere w h legal e allowed q none u (put_now w h e q allowed none u new) facts.for_queue)

    of_list : (ts : List TaskId) → queued w (h ++ e ∷ []) q ≡ ts → option_map (λ (t : TaskId). Start t c) (slice_get ts 0) ≡ None
    of_list [] at = refl
    of_list (u ∷ us) at = absurd (nobody u (has_oldest (queued w (h ++ e ∷ []) q) us u at))

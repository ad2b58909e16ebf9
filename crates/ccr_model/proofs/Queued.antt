-- Who is queued stands once, and stays as the events don't touch him.
use Rattle.std.proofs.Common.{◌≡◌, ℕ, true, false, not, List, [], ◌∷◌, ◌++◌, refl, ap, ◌∙◌, append-nil, Bool, Option, Some, None, subst}
use Rattle.std.proofs.lemmas.List.Elements.{filter_agree}
use Rattle.std.specs.Option.{option_to_list}
use Rattle.ccr_base.specs.declared.names.TaskId.{TaskId}
use Rattle.ccr_base.specs.Names.{has_task, without, same_task}
use Rattle.ccr_base.proofs.SameNames.{same_task-is}
use Rattle.ccr_wiring.specs.declared.parts.Parts.{Parts}
use Rattle.ccr_model.specs.declared.history.Event.{Event}
use Rattle.ccr_model.specs.Consequences.{are_distinct_tasks}
use Rattle.ccr_model.specs.Firings.{firings, firing_of, fired, put, put_by, dropped, dropped_by, started, started_by}
use Rattle.ccr_model.specs.Legal.{IsLegal}
use Rattle.ccr_model.specs.Tasks.{is_for_queue, queued}
use Rattle.ccr_model.proofs.FiredTasks.{fired_has}
use Rattle.ccr_model.proofs.AllowedFirings.{firings-other}
use Rattle.ccr_model.proofs.OneMoreEvent.{put-push, started-push, dropped-push}
use Rattle.ccr_model.proofs.TaskLists.{not_within, not_more}
use Rattle.ccr_model.proofs.WhoWasPut.{ArePlaced-legal}
use Rattle.ccr_model.proofs.TasksLeft.{distinct-filter}

pub queued_once : (w : Parts) (h : List Event) (q : ℕ) → IsLegal w h → are_distinct_tasks (queued w h q) ≡ true
queued_once w h q legal = distinct-filter (is_for_queue w h q) (without (put h) (started h ++ dropped h)) (distinct-filter (λ t. not (has_task (started h ++ dropped h) t)) (put h) (ArePlaced-legal w h legal).lists.once)

-- an event that fires, puts, starts and drops nobody leaves a queue as it is
pub queued-other : (w : Parts) (h : List Event) (q : ℕ) (e : Event) → firing_of e ≡ [] → put_by e ≡ [] → started_by e ≡ [] → dropped_by e ≡ [] → queued w (h ++ e ∷ []) q ≡ queued w h q
queued-other w h q e fires puts starts drops =
    let fs : firings (h ++ e ∷ []) ≡ firings h = firings-other h e fires in
    let ps : put (h ++ e ∷ []) ≡ put h = put-push h e ∙ ap (λ xs. put h ++ xs) puts ∙ append-nil (put h) in
    let ss : started (h ++ e ∷ []) ≡ started h = started-push h e ∙ ap (λ xs. started h ++ xs) starts ∙ append-nil (started h) in
    let ds : dropped (h ++ e ∷ []) ≡ dropped h = dropped-push h e ∙ ap (λ xs. dropped h ++ xs) drops ∙ append-nil (dropped h) in
    filter_agree (is_for_queue w (h ++ e ∷ []) q) (is_for_queue w h q) (λ u. rw fs refl) (without (put (h ++ e ∷ [])) (started (h ++ e ∷ []) ++ dropped (h ++ e ∷ []))) ∙ rw (ps, ss, ds) refl

-- a new task wasn't put
pub new_unput : (w : Parts) (h : List Event) (t : TaskId) → IsLegal w h → has_task (fired h) t ≡ false → has_task (put h) t ≡ false
new_unput w h t legal new = not_within (put h) (fired h) t (λ is. fired_has h t ((ArePlaced-legal w h legal).all_fired t is)) new

-- a task that wasn't put neither started nor was dropped, and isn't the one that is dropped
pub put_fresh : (w : Parts) (h : List Event) (t : TaskId) (d : Option TaskId) → IsLegal w h → has_task (put h) t ≡ false → ((x : TaskId) → d ≡ Some x → has_task (put h) x ≡ true) → has_task (started h ++ (dropped h ++ option_to_list d)) t ≡ false
put_fresh w h t d legal new known =
    let lists = (ArePlaced-legal w h legal).lists in
    let unstarted = not_within (started h) (put h) t (lists.put_started t) new in
    let undropped = not_within (dropped h) (put h) t (lists.put_dropped t) new in
    not_more (started h) (dropped h ++ option_to_list d) t unstarted (not_more (dropped h) (option_to_list d) t undropped (other d known))
  where
    other : (o : Option TaskId) → ((x : TaskId) → o ≡ Some x → has_task (put h) x ≡ true) → has_task (option_to_list o) t ≡ false
    other None is = refl
    other (Some x) is = of_test (same_task t x) refl
      where
        of_test : (b : Bool) → same_task t x ≡ b → has_task (x ∷ []) t ≡ false
        of_test false e = rw e refl
        of_test true e = absurd (let there = is x refl in let same : t ≡ x = same_task-is t x e in let out : has_task (put h) x ≡ false = subst (λ u. has_task (put h) u ≡ false) same new in cc)

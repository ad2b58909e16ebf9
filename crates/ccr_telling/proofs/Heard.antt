-- Numbers that are told event by event, each with the tables that stood before it.
use Rattle.std.proofs.Common.{◌≡◌, ◌∙◌, ℕ, ◌+◌, ◌≤◌, true, List, [], ◌∷◌, ◌++◌, length, filter, take, refl, sym, ap, subst, arith, length-append}
use Rattle.std.proofs.lemmas.List.Elements.{filter_agree}
use Rattle.ccr_base.specs.declared.names.TaskId.{TaskId}
use Rattle.ccr_base.specs.Names.{has_task}
use Rattle.ccr_base.proofs.Options.{get-last}
use Rattle.ccr_base.proofs.Lists.{take_front}
use Rattle.ccr_wiring.specs.declared.parts.Parts.{Parts}
use Rattle.ccr_wiring.specs.Valid.{IsValid}
use Rattle.ccr_model.specs.declared.history.Event.{Event}
use Rattle.ccr_model.specs.Firings.{put, dropped}
use Rattle.ccr_model.specs.Legal.{IsLegal}
use Rattle.ccr_model.proofs.FiredTasks.{IsFired, for_queue_stays}
use Rattle.ccr_model.proofs.LegalParts.{Parted, Parted-legal}
use Rattle.ccr_model.proofs.WhoWasPut.{ArePlaced, ArePlaced-legal, put_fired}
use Rattle.ccr_model.proofs.TasksLeft.{filter_on}
use Rattle.ccr_ledger.specs.Books.{Books}
use Rattle.ccr_ledger.specs.Kept.{Keeps, KeepsTasks}
use Rattle.ccr_telling.specs.Tallies.{AreFew, AreTallies, EventFits, IsCounting, Tallies, after_event, all_indices, is_on}
use Rattle.ccr_telling.proofs.Counting.{tallies-event}
use Rattle.ccr_telling.proofs.NumbersGrowByOne.{few-event, event_fits}
use Rattle.ccr_telling.proofs.CountsTold.{few_cuts, few_taken, on_queue}

-- other tables that tell the same queue of each task that was put or dropped
tallies_by : (ports indices queues : ℕ) (a b : Books) (h : List Event) (t : Tallies) → ((q : ℕ) → filter (is_on a q) (put h) ≡ filter (is_on b q) (put h)) → ((q : ℕ) → filter (is_on a q) (dropped h) ≡ filter (is_on b q) (dropped h)) → AreTallies ports indices queues a h t → AreTallies ports indices queues b h t
tallies_by ports indices queues a b h t puts drops so = record {
  posted_len = so.posted_len;
  fired_len = so.fired_len;
  put_len = so.put_len;
  dropped_len = so.dropped_len;
  posted = so.posted;
  fired = so.fired;
  put = λ k low. so.put k low ∙ ap length (puts k);
  drops = so.drops;
  dropped = λ k low. so.dropped k low ∙ ap length (drops k);
  posts = so.posts;
  taken = so.taken;
  firings = so.firings;
  cut = so.cut;
  done = so.done;
  failed = so.failed;
  shed = so.shed;
  yielded = so.yielded;
}

-- numbers by some tables of the history
pub counting_of : (w : Parts) (h : List Event) (b : Books) (t : Tallies) → IsLegal w h → Keeps w h b → AreTallies (length w.ports) all_indices (length w.queues) b h t → AreFew (length h) t → IsCounting w h t
counting_of w h b t legal keeps so few = record {
  counted = λ other others. tallies_by (length w.ports) all_indices (length w.queues) b other h t (λ q. filter_agree (is_on b q) (is_on other q) (same other others q) (put h)) (λ q. filter_agree (is_on b q) (is_on other q) (same other others q) (dropped h)) so;
  few = few;
}
  where
    same : (other : Books) → Keeps w h other → (q : ℕ) (u : TaskId) → is_on b q u ≡ is_on other q u
    same other others q u = on_queue w h b legal keeps.tasks q u ∙ sym (on_queue w h other legal others.tasks q u)

-- the tables before an event and those behind it tell one queue of a task that fired before
one_queue : (w : Parts) (h : List Event) (e : Event) (a b : Books) → IsLegal w h → IsLegal w (h ++ e ∷ []) → KeepsTasks w h a → KeepsTasks w (h ++ e ∷ []) b → (q : ℕ) (u : TaskId) → IsFired h u → is_on a q u ≡ is_on b q u
one_queue w h e a b legal more was is q u fired = on_queue w h a legal was q u ∙ (sym (for_queue_stays w h (e ∷ []) q u fired) ∙ sym (on_queue w (h ++ e ∷ []) b more is q u))

-- one event more
pub counting_next : (w : Parts) (h : List Event) (e : Event) (b : Books) (old new : Tallies) → Keeps w h b → IsLegal w (h ++ e ∷ []) → new ≡ after_event b e old → IsCounting w h old → IsCounting w (h ++ e ∷ []) new
counting_next w h e b old new keeps legal is counting = record {
  counted = λ other others. tallies_by (length w.ports) all_indices (length w.queues) b other (h ++ e ∷ []) new
      (λ q. filter_on (is_on b q) (is_on other q) (put (h ++ e ∷ [])) (λ u among. same other others q u (was_put u among)))
      (λ q. filter_on (is_on b q) (is_on other q) (dropped (h ++ e ∷ [])) (λ u among. same other others q u (was_put u (placed.lists.put_dropped u among))))
      (subst (AreTallies (length w.ports) all_indices (length w.queues) b (h ++ e ∷ [])) (sym is) (tallies-event (length w.ports) all_indices (length w.queues) b h e old (counting.counted b keeps)));
  few = subst (λ n. AreFew n new) (sym (length-append h (e ∷ []))) (subst (AreFew (length h + 1)) (sym is) (few-event (length h) b e old counting.few));
}
  where
    parts : Parted w h e []
    parts = Parted-legal w h e [] legal

    placed : ArePlaced (h ++ e ∷ [])
    placed = ArePlaced-legal w (h ++ e ∷ []) legal

    was_put : (u : TaskId) → has_task (put (h ++ e ∷ [])) u ≡ true → IsFired h u
    was_put u among = put_fired w h e parts.allowed (ArePlaced-legal w h parts.legal_before) u among

    same : (other : Books) → Keeps w (h ++ e ∷ []) other → (q : ℕ) (u : TaskId) → IsFired h u → is_on b q u ≡ is_on other q u
    same other others q u fired = one_queue w h e b other parts.legal_before legal keeps.tasks others.tasks q u fired

take_before : (h : List Event) (e : Event) → take (length h) (h ++ e ∷ []) ≡ h
take_before h e = take_front h (e ∷ []) (length h) refl

-- the event fits the numbers of a short history
pub counting_fits : (w : Parts) (h : List Event) (e : Event) (b : Books) (t : Tallies) → IsValid w → Keeps w h b → IsLegal w (h ++ e ∷ []) → length (h ++ e ∷ []) ≤ 120000 → IsCounting w h t → EventFits e t
counting_fits w h e b t valid keeps legal short counting =
    let all = h ++ e ∷ [] in
    let longer : length all ≡ length h + 1 = length-append h (e ∷ []) in
    event_fits (length w.ports) all_indices (length w.queues) b all (length h) e t (get-last h all (length h) e refl refl) (omega (arith, longer, short)) (omega (arith, short)) (few_taken w valid all legal) (few_cuts w all legal)
    (subst (λ g. AreTallies (length w.ports) all_indices (length w.queues) b g t) (sym (take_before h e)) (counting.counted b keeps)) counting.few

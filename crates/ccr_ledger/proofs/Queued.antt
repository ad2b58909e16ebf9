-- Each allowed event keeps what stands in each queue.
use Rattle.std.proofs.Common.{◌≡◌, ℕ, ◌<◌, true, false, List, [], ◌∷◌, ◌++◌, length, drop, Option, Some, None, option_to_list, refl, sym, ap, ◌∙◌, arith}
use Rattle.std.specs.Prelude.{◌==◌, if◌then◌else◌}
use Rattle.ccr_base.specs.declared.names.TaskId.{TaskId}
use Rattle.ccr_base.specs.declared.names.Spot.TheVariants.{Branch, Site}
use Rattle.ccr_base.specs.Names.{has_task, without}
use Rattle.ccr_wiring.specs.declared.parts.Parts.{Parts}
use Rattle.ccr_model.specs.declared.history.Event.{Event}
use Rattle.ccr_model.specs.declared.history.Event.TheVariants.{Post, Fire, Admit, Put, Start, End}
use Rattle.ccr_model.specs.Firings.{dropped}
use Rattle.ccr_model.specs.Tasks.{queued}
use Rattle.ccr_model.specs.Legal.{IsAllowed, IsLegal}
use Rattle.ccr_base.proofs.Booleans.{refuted, no_both, same_number}
use Rattle.ccr_base.proofs.Options.{head_rest}
use Rattle.ccr_model.proofs.TaskLists.{has_oldest, none_gone}
use Rattle.ccr_model.proofs.TaskSteps.{queued-start, queued-put, queued-fire}
use Rattle.ccr_model.proofs.WhoWasPut.{ArePlaced-legal, PutFacts-allowed, QueuedFacts-queued, StartFacts-allowed, new_drop, dropped_was_put}
use Rattle.ccr_model.proofs.AllowedDrops.{drop_allowed}
use Rattle.ccr_model.proofs.FiredTasks.{placement_fired}
use Rattle.ccr_model.proofs.AllowedFirings.{FiresSo-allowed}
use Rattle.ccr_model.proofs.Queued.{queued_once, queued-other, put_fresh, new_unput}
use Rattle.ccr_ledger.specs.Rows.{row, with_row}
use Rattle.ccr_ledger.specs.Books.{Books}
use Rattle.ccr_ledger.specs.Events.{after_dropped, after_event}
use Rattle.ccr_ledger.specs.Kept.{HasSizes, KeepsTasks}
use Rattle.ccr_ledger.proofs.Tables.{length-with_row}
use Rattle.ccr_ledger.proofs.RowMoves.{row-left, row-entered}
use Rattle.ccr_ledger.proofs.TaskRows.{Rows, rows-post, rows-put, rows-dropped, rows-start, rest-branch, rest-site, rest-admit, rest-end}
use Rattle.ccr_ledger.proofs.TaskCards.{CardFacts, CardFacts-fired, for_queue}

-- the rows say who is queued
abbrev pub SaysQueued : Parts → List Event → List (List TaskId) → Type 0
SaysQueued w h rows = (q : ℕ) → q < length w.queues → row rows q ≡ queued w h q

queued_elsewhere : (w : Parts) (h : List Event) (t : TaskId) (b : Books) (facts : CardFacts w h t b) (q : ℕ) → (facts.card.queue == q) ≡ false → has_task (queued w h q) t ≡ false
queued_elsewhere w h t b facts q other = refuted (has_task (queued w h q) t) (λ is. no_both (QueuedFacts-queued w h q t is).for_queue (for_queue w h t b facts q ∙ other))

-- the queue of a queued task is the one that its card names
own_queue : (w : Parts) (h : List Event) (t : TaskId) (b : Books) (facts : CardFacts w h t b) (q : ℕ) → has_task (queued w h q) t ≡ true → facts.card.queue ≡ q
own_queue w h t b facts q is = same_number facts.card.queue q (sym (for_queue w h t b facts q) ∙ (QueuedFacts-queued w h q t is).for_queue)

-- the oldest of a queue leaves it
queued-left : (w : Parts) (h : List Event) (t : TaskId) (b : Books) (q : ℕ) (others : List TaskId) → IsLegal w h → HasSizes w b → SaysQueued w h b.queued → (facts : CardFacts w h t b) → queued w h q ≡ t ∷ others
    → (k : ℕ) → k < length w.queues → row (with_row b.queued facts.card.queue (drop 1 (row b.queued facts.card.queue))) k ≡ without (queued w h k) (t ∷ [])
queued-left w h t b q others legal sizes known facts first k low =
    let own = own_queue w h t b facts q (has_oldest (queued w h q) others t first) in
    row-left b.queued (queued w h) facts.card.queue k t others (omega (arith, low, sizes.queued)) (known k low) (ap (queued w h) own ∙ first) (queued_once w h facts.card.queue legal) (queued_elsewhere w h t b facts k)

-- the queues once the dropped one left
module _ (w : Parts) (h : List Event) (t : TaskId) (b : Books) (legal : IsLegal w h) (sizes : HasSizes w b) (tasks : KeepsTasks w h b) (known : SaysQueued w h b.queued) where
  dropped_facts : (x : TaskId) → IsAllowed w h (Put t (Some x)) → CardFacts w h x b
  dropped_facts x allowed =
      let was = (new_drop w h (Put t (Some x)) x allowed (has_oldest (x ∷ []) [] x refl)).1 in
      CardFacts-fired w h x b legal tasks ((ArePlaced-legal w h legal).all_fired x was.put_so)

  dropped-length : (d : Option TaskId) → IsAllowed w h (Put t d) → length (after_dropped d b).queued ≡ length w.queues
  dropped-length None allowed = sizes.queued
  dropped-length (Some x) allowed =
      let facts = dropped_facts x allowed in
      ap (λ (r : Rows). length r.queued) (rows-dropped x b facts.card facts.is_card) ∙ (length-with_row b.queued facts.card.queue _ ∙ sizes.queued)

  dropped-left : (d : Option TaskId) → IsAllowed w h (Put t d) → (q : ℕ) → q < length w.queues → row (after_dropped d b).queued q ≡ without (queued w h q) (option_to_list d)
  dropped-left None allowed q low = known q low ∙ sym (none_gone (queued w h q))
  dropped-left (Some x) allowed q low =
      let facts = dropped_facts x allowed in
      let drop_so = drop_allowed w h t x allowed in
      let head = head_rest (queued w h drop_so.its.branch.queue) x drop_so.oldest in
      ap (λ (r : Rows). row r.queued q) (rows-dropped x b facts.card facts.is_card) ∙ queued-left w h x b drop_so.its.branch.queue head.0 legal sizes known facts head.1 q low

  queued-event-put : (d : Option TaskId) → IsAllowed w h (Put t d) → SaysQueued w (h ++ Put t d ∷ []) (after_event w (Put t d) b).queued
  queued-event-put d allowed q low =
      let so = PutFacts-allowed w h t d allowed in
      let facts = CardFacts-fired w h t b legal tasks (so.firing, so.is_firing) in
      ap (λ (r : Rows). row r.queued q) (rows-put w t d b facts.card facts.is_card)
      ∙ (row-entered (after_dropped d b).queued facts.card.queue q t (omega (arith, low, dropped-length d allowed))
      ∙ (ap (λ ts. ts ++ (if facts.card.queue == q then t ∷ [] else [])) (dropped-left d allowed q low)
      ∙ (ap (λ is. without (queued w h q) (option_to_list d) ++ (if is then t ∷ [] else [])) (sym (for_queue w h t b facts q))
      ∙ sym (queued-put w h q t d (put_fresh w h t d legal (PutFacts-allowed w h t d allowed).new_put (dropped_was_put w h t d allowed))))))

  queued-event-start : (a : ℕ) → IsAllowed w h (Start t a) → SaysQueued w (h ++ Start t a ∷ []) (after_event w (Start t a) b).queued
  queued-event-start a allowed q low =
      let so = StartFacts-allowed w h t a allowed in
      let facts = CardFacts-fired w h t b legal tasks (placement_fired w h t so.placement so.is_placement) in
      ap (λ (r : Rows). row r.queued q) (rows-start w t a b facts.card facts.is_card) ∙ (queued-left w h t b so.placement.branch.queue so.others legal sizes known facts so.is_oldest q low ∙ sym (queued-start w h q t a))

pub queued-event : (w : Parts) (h : List Event) (e : Event) (b : Books) → IsLegal w h → IsAllowed w h e → HasSizes w b → KeepsTasks w h b → SaysQueued w h b.queued → SaysQueued w (h ++ e ∷ []) (after_event w e b).queued
queued-event w h (Put t d) b legal allowed sizes tasks known q low = queued-event-put w h t b legal sizes tasks known d allowed q low
queued-event w h (Start t a) b legal allowed sizes tasks known q low = queued-event-start w h t b legal sizes tasks known a allowed q low
queued-event w h (Post m) b legal allowed sizes tasks known q low = ap (λ (r : Rows). row r.queued q) (rows-post m b) ∙ (known q low ∙ sym (queued-other w h q (Post m) refl refl refl refl))
queued-event w h (Fire t (Branch n) ms cs) b legal allowed sizes tasks known q low = ap (λ (r : Rows). row r.queued q) (rest-branch w t n ms cs b) ∙ (known q low ∙ sym (queued-fire w h q t (Branch n) ms cs (new_unput w h t legal (FiresSo-allowed w h t (Branch n) ms cs allowed).new_name)))
queued-event w h (Fire t (Site n k) ms cs) b legal allowed sizes tasks known q low = ap (λ (r : Rows). row r.queued q) (rest-site w t n k ms cs b) ∙ (known q low ∙ sym (queued-fire w h q t (Site n k) ms cs (new_unput w h t legal (FiresSo-allowed w h t (Site n k) ms cs allowed).new_name)))
queued-event w h (Admit t) b legal allowed sizes tasks known q low = ap (λ (r : Rows). row r.queued q) (rest-admit w t b) ∙ (known q low ∙ sym (queued-other w h q (Admit t) refl refl refl refl))
queued-event w h (End t how) b legal allowed sizes tasks known q low = ap (λ (r : Rows). row r.queued q) (rest-end w t how b) ∙ (known q low ∙ sym (queued-other w h q (End t how) refl refl refl refl))

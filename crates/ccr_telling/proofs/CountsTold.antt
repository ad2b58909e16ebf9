-- The numbers of a legal history, with the tables that it left, are its counts.
use Rattle.std.proofs.Common.{◌≡◌, ◌∙◌, ℕ, ◌-◌, ◌<◌, ◌≤◌, false, List, length, map, Option, Some, None, refl, sym, ap, arith}
use Rattle.std.specs.Prelude.{◌==◌, option_map, slice_index}
use Rattle.std.specs.Option.{option_map_or}
use Rattle.std.proofs.lemmas.List.{length-map}
use Rattle.std.proofs.lemmas.List.Elements.{filter_agree}
use Rattle.ccr_base.specs.declared.names.TaskId.{TaskId}
use Rattle.ccr_base.specs.declared.names.Spot.{Spot}
use Rattle.ccr_base.proofs.Lists.{flat_few}
use Rattle.ccr_wiring.specs.declared.parts.Parts.{Parts}
use Rattle.ccr_wiring.specs.Wirings.{spots}
use Rattle.ccr_wiring.specs.Valid.{IsValid}
use Rattle.ccr_model.specs.declared.history.Event.{Event}
use Rattle.ccr_model.specs.declared.history.Event.TheVariants as events
use Rattle.ccr_model.specs.Posts.{posts, post_of, taken}
use Rattle.ccr_model.specs.Firings.{Firing, firings, firing_of, firing_named, fired_at, cut, put, dropped}
use Rattle.ccr_model.specs.Counts.{totals}
use Rattle.ccr_model.specs.Tasks.{is_for_queue}
use Rattle.ccr_model.specs.Legal.{IsLegal}
use Rattle.ccr_model.proofs.TakenOnce.{untaken}
use Rattle.ccr_ledger.specs.Rows.{row}
use Rattle.ccr_ledger.specs.declared.cards.Card.{Card}
use Rattle.ccr_ledger.specs.Books.{Books, card_at, number}
use Rattle.ccr_ledger.specs.Kept.{Keeps, KeepsTasks, card_of}
use Rattle.ccr_ledger.proofs.TaskCards.{CardFacts-fired, for_queue}
use Rattle.ccr_laws.proofs.FewCut.{few_cut}
use Rattle.ccr_laws.proofs.HeldTaken.{held_or_taken}
use Rattle.ccr_report.specs.declared.counted.Counts.{Counts}
use Rattle.ccr_report.specs.Counted.{IsCounted}
use Rattle.ccr_telling.specs.Tallies.{AreTallies, Tallies, all_indices, is_on, index_of}
use Rattle.ccr_telling.specs.Totals.{totals_by}
use Rattle.ccr_telling.proofs.Numbers.{number_read}
use Rattle.ccr_telling.proofs.Spots.{spots_same}

-- as many messages were taken as posted, or fewer
pub few_taken : (w : Parts) → IsValid w → (h : List Event) → IsLegal w h → length (taken h) ≤ length h
few_taken w valid h legal = omega (arith, held_or_taken w valid h legal, flat_few post_of one h)
  where
    one : (e : Event) → length (post_of e) ≤ 1
    one (events.Post m) = omega arith
    one (events.Fire t s ms cs) = omega arith
    one (events.Admit t) = omega arith
    one (events.Put t d) = omega arith
    one (events.Start t a) = omega arith
    one (events.End t how) = omega arith

-- fewer tasks were cut than there are events
pub few_cuts : (w : Parts) (h : List Event) → IsLegal w h → length (cut h) ≤ length h
few_cuts w h legal = omega (arith, few_cut w h legal, flat_few firing_of one h, length-map (firings h) (λ (f : Firing). f.task))
  where
    one : (e : Event) → length (firing_of e) ≤ 1
    one (events.Post m) = omega arith
    one (events.Fire t s ms cs) = omega arith
    one (events.Admit t) = omega arith
    one (events.Put t d) = omega arith
    one (events.Start t a) = omega arith
    one (events.End t how) = omega arith

-- a task's card is on its queue
pub on_queue : (w : Parts) (h : List Event) (b : Books) → IsLegal w h → KeepsTasks w h b → (q : ℕ) (t : TaskId) → is_on b q t ≡ is_for_queue w h q t
on_queue w h b legal tasks q t = by (firing_named h t) refl
  where
    by : (o : Option Firing) → firing_named h t ≡ o → is_on b q t ≡ is_for_queue w h q t
    by None none =
        let card : card_at b.tasks t ≡ None = tasks.cards t ∙ ap (option_map (card_of w h t)) none in
        rw (card, none) refl
    by (Some f) is =
        let facts = CardFacts-fired w h t b legal tasks (f, is) in
        ap (λ (o : Option Card). option_map_or (λ (card : Card). card.queue == q) o false) facts.is_card ∙ sym (for_queue w h t b facts q)

-- how often spots fired
fired_told : (w : Parts) → IsValid w → (h : List Event) (b : Books) (t : Tallies) → AreTallies (length w.ports) all_indices (length w.queues) b h t → map (λ (spot : Spot). option_map_or (number t.fired) (index_of spot) 0) (spots w) ≡ map (λ spot. length (fired_at h spot)) (spots w)
fired_told w valid h b t so = spots_same w valid (λ (spot : Spot). option_map_or (number t.fired) (index_of spot) 0) (λ spot. length (fired_at h spot)) (λ spot index at low. ap (λ o. option_map_or (number t.fired) o 0) at ∙ so.fired spot index at low)

totals_told : (w : Parts) → IsValid w → (h : List Event) → IsLegal w h → (b : Books) (t : Tallies) → AreTallies (length w.ports) all_indices (length w.queues) b h t → totals_by t ≡ totals h
totals_told w valid h legal b t so =
    let held_so : length (posts h) - length (taken h) ≡ length (untaken h) = omega (arith, held_or_taken w valid h legal) in
    rw (so.posts, so.taken, so.firings, so.cut, so.drops, so.done, so.failed, so.shed, so.yielded, held_so) refl

pub counted_told : (w : Parts) → IsValid w → (h : List Event) → IsLegal w h → (b : Books) → Keeps w h b → (t : Tallies) → AreTallies (length w.ports) all_indices (length w.queues) b h t → (counts : Counts)
    → counts.posted.items ≡ t.posted → length counts.held.items ≡ length w.ports → ((k : ℕ) → k < length w.ports → slice_index counts.held.items k ≡ length (row b.ports k))
    → counts.fired.items ≡ map (λ (spot : Spot). option_map_or (number t.fired) (index_of spot) 0) (spots w) → counts.put.items ≡ t.put → counts.dropped.items ≡ t.dropped → counts.totals ≡ totals_by t → IsCounted w h counts
counted_told w valid h legal b keeps t so counts posted_is held_len held_is fired_is put_is dropped_is totals_is = record {
  posted_len = ap length posted_is ∙ so.posted_len;
  held_len = held_len;
  put_len = ap length put_is ∙ so.put_len;
  dropped_len = ap length dropped_is ∙ so.dropped_len;
  posted = λ k low. ap (λ (ns : List ℕ). slice_index ns k) posted_is ∙ (number_read t.posted k ∙ so.posted k low);
  held = λ k low. held_is k low ∙ ap length (keeps.ports.ports k low);
  fired = fired_is ∙ fired_told w valid h b t so;
  put = λ k low. ap (λ (ns : List ℕ). slice_index ns k) put_is ∙ (number_read t.put k ∙ (so.put k low ∙ ap length (filter_agree (is_on b k) (is_for_queue w h k) (on_queue w h b legal keeps.tasks k) (put h))));
  dropped = λ k low. ap (λ (ns : List ℕ). slice_index ns k) dropped_is ∙ (number_read t.dropped k ∙ (so.dropped k low ∙ ap length (filter_agree (is_on b k) (is_for_queue w h k) (on_queue w h b legal keeps.tasks k) (dropped h))));
  totals = totals_is ∙ totals_told w valid h legal b t so;
}

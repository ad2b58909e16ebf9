-- The numbers of a history, after one event more.
use Rattle.std.proofs.Common.{◌≡◌, ℕ, ◌+◌, ◌<◌, Bool, true, false, List, [], ◌∷◌, ◌++◌, length, filter, Option, Some, None, refl, sym, ap, ◌∙◌, append-nil, arith, length-append}
use Rattle.std.specs.Prelude.{◌==◌, option_to_list}
use Rattle.std.specs.Option.{option_map_or}
use Rattle.std.proofs.lemmas.List.{length-replicate}
use Rattle.std.proofs.lemmas.Grind.{common_steps}
use Rattle.ccr_base.specs.declared.names.TaskId.{TaskId}
use Rattle.ccr_base.specs.declared.names.MsgId.{MsgId}
use Rattle.ccr_base.specs.declared.names.Spot.{Spot}
use Rattle.ccr_base.specs.declared.messages.Msg.{Msg}
use Rattle.ccr_base.specs.Names.{same_spot}
use Rattle.ccr_model.specs.declared.history.Event.{Event}
use Rattle.ccr_model.specs.declared.history.Event.TheVariants as events
use Rattle.ccr_model.specs.declared.history.EndHow.{EndHow}
use Rattle.ccr_model.specs.declared.history.EndHow.TheVariants as ends
use Rattle.ccr_model.specs.Posts.{posts, posted, taken}
use Rattle.ccr_model.specs.Firings.{firings, fired_at, cut, put, dropped}
use Rattle.ccr_model.specs.Counts.{is_done, is_failed, is_shed, is_yield}
use Rattle.ccr_model.proofs.OneMoreEvent.{posts-push, firings-push, cut-push, put-push, dropped-push}
use Rattle.ccr_model.proofs.TakenOnce.{taken-push}
use Rattle.ccr_ledger.specs.declared.cards.Card.{Card}
use Rattle.ccr_ledger.specs.Books.{Books, card_at, more, number}
use Rattle.ccr_ledger.proofs.Counting.{more_if, number-more, length-more as length-filtered}
use Rattle.ccr_ledger.proofs.Empty.{number-none}
use Rattle.ccr_telling.specs.Tallies.{AreTallies, Tallies, after_event, is_on, more_at, more_for, more_if_some, no_tallies, index_of}
use Rattle.ccr_telling.proofs.Numbers.{length-more, length-more_at, length-more_for, length-more_if_some}
use Rattle.ccr_telling.proofs.Indices.{own_index}

pub tallies-none : (ports indices queues : ℕ) (b : Books) → AreTallies ports indices queues b [] (no_tallies ports indices queues)
tallies-none ports indices queues b = record {
  posted_len = length-replicate {A = ℕ} ports 0;
  fired_len = length-replicate {A = ℕ} indices 0;
  put_len = length-replicate {A = ℕ} queues 0;
  dropped_len = length-replicate {A = ℕ} queues 0;
  posted = λ k low. number-none ports k;
  fired = λ spot index at low. number-none indices index;
  put = λ k low. number-none queues k;
  drops = refl;
  dropped = λ k low. number-none queues k;
  posts = refl;
  taken = refl;
  firings = refl;
  cut = refl;
  done = refl;
  failed = refl;
  shed = refl;
  yielded = refl;
}

-- one more at the index of a spot
fired_more : (numbers : List ℕ) (h : List Event) (t : TaskId) (s q : Spot) (ms : List MsgId) (cs : List TaskId) (p : ℕ) → index_of q ≡ Some p → p < length numbers → number numbers p ≡ length (fired_at h q) → number (more_at (index_of s) numbers) p ≡ length (fired_at (h ++ events.Fire t s ms cs ∷ []) q)
fired_more numbers h t s q ms cs p at low so = by (index_of s) (own_index s q p at)
  where
    counted : length (fired_at (h ++ events.Fire t s ms cs ∷ []) q) ≡ more_if (same_spot s q) (length (fired_at h q))
    counted = of_test (same_spot s q) refl
      where
        of_test : (b : Bool) → same_spot s q ≡ b → length (fired_at (h ++ events.Fire t s ms cs ∷ []) q) ≡ more_if b (length (fired_at h q))
        of_test true is = grind (arith, common_steps, is)
        of_test false is = grind (arith, common_steps, is)

    by : (o : Option ℕ) → option_map_or (λ r. r == p) o false ≡ same_spot s q → number (more_at o numbers) p ≡ length (fired_at (h ++ events.Fire t s ms cs ∷ []) q)
    by None other = so ∙ (ap (λ b. more_if b (length (fired_at h q))) other ∙ sym counted)
    by (Some r) same = number-more true numbers r p low ∙ (ap (λ b. more_if b (number numbers p)) same ∙ (ap (more_if (same_spot s q)) so ∙ sym counted))

-- one more for the queue of a task
for_more : (b : Books) (numbers : List ℕ) (ts : List TaskId) (t : TaskId) (k : ℕ) → k < length numbers → number numbers k ≡ length (filter (is_on b k) ts) → number (more_for b t numbers) k ≡ length (filter (is_on b k) (ts ++ t ∷ []))
for_more b numbers ts t k low so = by (card_at b.tasks t) refl ∙ sym (length-filtered (is_on b k) ts t)
  where
    by : (o : Option Card) → card_at b.tasks t ≡ o → number (option_map_or (λ (card : Card). more card.queue numbers) o numbers) k ≡ more_if (is_on b k t) (length (filter (is_on b k) ts))
    by None none = rw none so
    by (Some card) is = rw is (number-more true numbers card.queue k low ∙ ap (more_if (card.queue == k)) so)

if_some_more : (b : Books) (numbers : List ℕ) (ts : List TaskId) (d : Option TaskId) (k : ℕ) → k < length numbers → number numbers k ≡ length (filter (is_on b k) ts) → number (more_if_some b d numbers) k ≡ length (filter (is_on b k) (ts ++ option_to_list d))
if_some_more b numbers ts None k low so = rw append-nil so
if_some_more b numbers ts (Some t) k low so = for_more b numbers ts t k low so

posted_more : (numbers : List ℕ) (h : List Event) (m : Msg) (k : ℕ) → k < length numbers → number numbers k ≡ length (posted h k) → number (more m.port numbers) k ≡ length (posted (h ++ events.Post m ∷ []) k)
posted_more numbers h m k low so = number-more true numbers m.port k low ∙ (ap (more_if (m.port == k)) so ∙ sym (of_test (m.port == k) refl))
  where
    of_test : (b : Bool) → (m.port == k) ≡ b → length (posted (h ++ events.Post m ∷ []) k) ≡ more_if b (length (posted h k))
    of_test true is = grind (arith, common_steps, is)
    of_test false is = grind (arith, common_steps, is)

-- an event that passes a test, and one that doesn't
one_more : (p : Event → Bool) (h : List Event) (e : Event) (n : ℕ) → p e ≡ true → n ≡ length (filter p h) → n + 1 ≡ length (filter p (h ++ e ∷ []))
one_more p h e n is so = grind (arith, common_steps, is, so)

no_more : (p : Event → Bool) (h : List Event) (e : Event) (n : ℕ) → p e ≡ false → n ≡ length (filter p h) → n ≡ length (filter p (h ++ e ∷ []))
no_more p h e n is so = grind (arith, common_steps, is, so)

-- an event that posts nothing, fires nothing and puts nothing changes the ends alone
ends_alone : (ports indices queues : ℕ) (b : Books) (h : List Event) (e : Event) (t : Tallies) (done failed shed yielded : ℕ)
    → posts (h ++ e ∷ []) ≡ posts h → taken (h ++ e ∷ []) ≡ taken h → firings (h ++ e ∷ []) ≡ firings h → cut (h ++ e ∷ []) ≡ cut h → put (h ++ e ∷ []) ≡ put h → dropped (h ++ e ∷ []) ≡ dropped h
    → done ≡ length (filter is_done (h ++ e ∷ [])) → failed ≡ length (filter is_failed (h ++ e ∷ [])) → shed ≡ length (filter is_shed (h ++ e ∷ [])) → yielded ≡ length (filter is_yield (h ++ e ∷ []))
    → AreTallies ports indices queues b h t → AreTallies ports indices queues b (h ++ e ∷ []) (record t { done = done; failed = failed; shed = shed; yielded = yielded })
ends_alone ports indices queues b h e t done failed shed yielded posts_so taken_so firings_so cut_so put_so dropped_so done_so failed_so shed_so yielded_so old = record {
  posted_len = old.posted_len;
  fired_len = old.fired_len;
  put_len = old.put_len;
  dropped_len = old.dropped_len;
  posted = λ k low. rw posts_so (old.posted k low);
  fired = λ spot index at low. rw firings_so (old.fired spot index at low);
  put = λ k low. rw put_so (old.put k low);
  drops = rw dropped_so old.drops;
  dropped = λ k low. rw dropped_so (old.dropped k low);
  posts = rw posts_so old.posts;
  taken = rw taken_so old.taken;
  firings = rw firings_so old.firings;
  cut = rw cut_so old.cut;
  done = done_so;
  failed = failed_so;
  shed = shed_so;
  yielded = yielded_so;
}

-- the same of an end
of_end : (ports indices queues : ℕ) (b : Books) (h : List Event) (task : TaskId) (how : EndHow) (t : Tallies) (done failed shed yielded : ℕ)
    → done ≡ length (filter is_done (h ++ events.End task how ∷ [])) → failed ≡ length (filter is_failed (h ++ events.End task how ∷ [])) → shed ≡ length (filter is_shed (h ++ events.End task how ∷ [])) → yielded ≡ length (filter is_yield (h ++ events.End task how ∷ []))
    → AreTallies ports indices queues b h t → AreTallies ports indices queues b (h ++ events.End task how ∷ []) (record t { done = done; failed = failed; shed = shed; yielded = yielded })
of_end ports indices queues b h task how t done failed shed yielded done_so failed_so shed_so yielded_so old =
    let e = events.End task how in
    ends_alone ports indices queues b h e t done failed shed yielded (posts-push h e ∙ append-nil (posts h)) (taken-push h e ∙ append-nil (taken h)) (firings-push h e ∙ append-nil (firings h)) (cut-push h e ∙ append-nil (cut h)) (put-push h e ∙ append-nil (put h)) (dropped-push h e ∙ append-nil (dropped h))
    done_so failed_so shed_so yielded_so old

pub tallies-event : (ports indices queues : ℕ) (b : Books) (h : List Event) (e : Event) (t : Tallies) → AreTallies ports indices queues b h t → AreTallies ports indices queues b (h ++ e ∷ []) (after_event b e t)
tallies-event ports indices queues b h (events.Post m) t old = record {
  posted_len = length-more m.port t.posted ∙ old.posted_len;
  fired_len = old.fired_len;
  put_len = old.put_len;
  dropped_len = old.dropped_len;
  posted = λ k low. posted_more t.posted h m k (omega (arith, low, old.posted_len)) (old.posted k low);
  fired = λ spot index at low. rw (firings-push, append-nil) (old.fired spot index at low);
  put = λ k low. rw (put-push, append-nil) (old.put k low);
  drops = rw (dropped-push, append-nil) old.drops;
  dropped = λ k low. rw (dropped-push, append-nil) (old.dropped k low);
  posts = rw (posts-push, length-append) (omega (arith, old.posts));
  taken = rw (taken-push, append-nil) old.taken;
  firings = rw (firings-push, append-nil) old.firings;
  cut = rw (cut-push, append-nil) old.cut;
  done = no_more is_done h (events.Post m) t.done refl old.done;
  failed = no_more is_failed h (events.Post m) t.failed refl old.failed;
  shed = no_more is_shed h (events.Post m) t.shed refl old.shed;
  yielded = no_more is_yield h (events.Post m) t.yielded refl old.yielded;
}
tallies-event ports indices queues b h (events.Fire task spot messages cuts) t old = record {
  posted_len = old.posted_len;
  fired_len = length-more_at (index_of spot) t.fired ∙ old.fired_len;
  put_len = old.put_len;
  dropped_len = old.dropped_len;
  posted = λ k low. rw (posts-push, append-nil) (old.posted k low);
  fired = λ other index at low. fired_more t.fired h task spot other messages cuts index at (omega (arith, low, old.fired_len)) (old.fired other index at low);
  put = λ k low. rw (put-push, append-nil) (old.put k low);
  drops = rw (dropped-push, append-nil) old.drops;
  dropped = λ k low. rw (dropped-push, append-nil) (old.dropped k low);
  posts = rw (posts-push, append-nil) old.posts;
  taken = rw (taken-push, length-append) (omega (arith, old.taken));
  firings = rw (firings-push, length-append) (omega (arith, old.firings));
  cut = rw (cut-push, append-nil cuts, length-append) (omega (arith, old.cut));
  done = no_more is_done h (events.Fire task spot messages cuts) t.done refl old.done;
  failed = no_more is_failed h (events.Fire task spot messages cuts) t.failed refl old.failed;
  shed = no_more is_shed h (events.Fire task spot messages cuts) t.shed refl old.shed;
  yielded = no_more is_yield h (events.Fire task spot messages cuts) t.yielded refl old.yielded;
}
tallies-event ports indices queues b h (events.Put task gone) t old = record {
  posted_len = old.posted_len;
  fired_len = old.fired_len;
  put_len = length-more_for b task t.put ∙ old.put_len;
  dropped_len = length-more_if_some b gone t.dropped ∙ old.dropped_len;
  posted = λ k low. rw (posts-push, append-nil) (old.posted k low);
  fired = λ spot index at low. rw (firings-push, append-nil) (old.fired spot index at low);
  put = λ k low. rw put-push (for_more b t.put (put h) task k (omega (arith, low, old.put_len)) (old.put k low));
  drops = rw (dropped-push, length-append) (omega (arith, old.drops));
  dropped = λ k low. rw dropped-push (if_some_more b t.dropped (dropped h) gone k (omega (arith, low, old.dropped_len)) (old.dropped k low));
  posts = rw (posts-push, append-nil) old.posts;
  taken = rw (taken-push, append-nil) old.taken;
  firings = rw (firings-push, append-nil) old.firings;
  cut = rw (cut-push, append-nil) old.cut;
  done = no_more is_done h (events.Put task gone) t.done refl old.done;
  failed = no_more is_failed h (events.Put task gone) t.failed refl old.failed;
  shed = no_more is_shed h (events.Put task gone) t.shed refl old.shed;
  yielded = no_more is_yield h (events.Put task gone) t.yielded refl old.yielded;
}
tallies-event ports indices queues b h (events.End task ends.Done) t old = of_end ports indices queues b h task ends.Done t (t.done + 1) t.failed t.shed t.yielded (one_more is_done h (events.End task ends.Done) t.done refl old.done) (no_more is_failed h (events.End task ends.Done) t.failed refl old.failed) (no_more is_shed h (events.End task ends.Done) t.shed refl old.shed) (no_more is_yield h (events.End task ends.Done) t.yielded refl old.yielded) old
tallies-event ports indices queues b h (events.End task (ends.Failed value)) t old = of_end ports indices queues b h task (ends.Failed value) t t.done (t.failed + 1) t.shed t.yielded (no_more is_done h (events.End task (ends.Failed value)) t.done refl old.done) (one_more is_failed h (events.End task (ends.Failed value)) t.failed refl old.failed) (no_more is_shed h (events.End task (ends.Failed value)) t.shed refl old.shed) (no_more is_yield h (events.End task (ends.Failed value)) t.yielded refl old.yielded) old
tallies-event ports indices queues b h (events.End task ends.Shed) t old = of_end ports indices queues b h task ends.Shed t t.done t.failed (t.shed + 1) t.yielded (no_more is_done h (events.End task ends.Shed) t.done refl old.done) (no_more is_failed h (events.End task ends.Shed) t.failed refl old.failed) (one_more is_shed h (events.End task ends.Shed) t.shed refl old.shed) (no_more is_yield h (events.End task ends.Shed) t.yielded refl old.yielded) old
tallies-event ports indices queues b h (events.End task ends.Yield) t old = of_end ports indices queues b h task ends.Yield t t.done t.failed t.shed (t.yielded + 1) (no_more is_done h (events.End task ends.Yield) t.done refl old.done) (no_more is_failed h (events.End task ends.Yield) t.failed refl old.failed) (no_more is_shed h (events.End task ends.Yield) t.shed refl old.shed) (one_more is_yield h (events.End task ends.Yield) t.yielded refl old.yielded) old
tallies-event ports indices queues b h (events.Admit task) t old = ends_alone ports indices queues b h (events.Admit task) t t.done t.failed t.shed t.yielded (posts-push h (events.Admit task) ∙ append-nil (posts h)) (taken-push h (events.Admit task) ∙ append-nil (taken h)) (firings-push h (events.Admit task) ∙ append-nil (firings h)) (cut-push h (events.Admit task) ∙ append-nil (cut h)) (put-push h (events.Admit task) ∙ append-nil (put h)) (dropped-push h (events.Admit task) ∙ append-nil (dropped h)) (no_more is_done h (events.Admit task) t.done refl old.done) (no_more is_failed h (events.Admit task) t.failed refl old.failed) (no_more is_shed h (events.Admit task) t.shed refl old.shed) (no_more is_yield h (events.Admit task) t.yielded refl old.yielded) old
tallies-event ports indices queues b h (events.Start task actor) t old = ends_alone ports indices queues b h (events.Start task actor) t t.done t.failed t.shed t.yielded (posts-push h (events.Start task actor) ∙ append-nil (posts h)) (taken-push h (events.Start task actor) ∙ append-nil (taken h)) (firings-push h (events.Start task actor) ∙ append-nil (firings h)) (cut-push h (events.Start task actor) ∙ append-nil (cut h)) (put-push h (events.Start task actor) ∙ append-nil (put h)) (dropped-push h (events.Start task actor) ∙ append-nil (dropped h)) (no_more is_done h (events.Start task actor) t.done refl old.done) (no_more is_failed h (events.Start task actor) t.failed refl old.failed) (no_more is_shed h (events.Start task actor) t.shed refl old.shed) (no_more is_yield h (events.Start task actor) t.yielded refl old.yielded) old

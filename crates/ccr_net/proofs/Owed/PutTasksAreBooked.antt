-- Each task that an actor is to put or whose booking it is to end is booked.
use Rattle.std.proofs.Common.{inl, inr, ◌⊎◌, ◌≡◌, ◌≤◌, ◌<◌, ℕ, zero, suc, ◌+◌, Bool, true, false, not, ◌&&◌, ◌||◌, List, [], ◌∷◌, ◌++◌, map, reverse, Option, Some, None, refl, sym, arith, ap, ◌∙◌, subst, append-nil}
use Rattle.std.specs.Prelude.{◌==◌, if◌then◌else◌}
use Rattle.std.specs.Option.{option_map_or}
use Rattle.std.specs.FinSet as set
use Rattle.ccr_base.specs.declared.names.Place.{Place}
use Rattle.ccr_base.specs.declared.names.Place.TheVariants as places
use Rattle.ccr_base.specs.declared.names.Spot.{Spot}
use Rattle.ccr_base.specs.declared.names.Spot.TheVariants.{Branch, Site}
use Rattle.ccr_base.specs.declared.names.TaskId.{TaskId}
use Rattle.ccr_base.specs.declared.tasks.Cut.{Cut}
use Rattle.ccr_base.specs.declared.tasks.Task.{Task}
use Rattle.ccr_base.specs.Names.{same_task, has_task}
use Rattle.ccr_wiring.specs.declared.parts.Parts.{Parts}
use Rattle.ccr_wiring.specs.Wirings.{Placement, placement, branch_of}
use Rattle.ccr_model.specs.declared.history.Event.{Event}
use Rattle.ccr_model.specs.declared.history.Event.TheVariants as events
use Rattle.ccr_model.specs.Consequences.{are_distinct_tasks}
use Rattle.ccr_model.specs.Firings.{Firing, fired, cut, ever_admitted}
use Rattle.ccr_model.specs.Interleaves.{is_placement_in}
use Rattle.ccr_model.specs.Legal.{IsLegal, IsAllowed}
use Rattle.ccr_model.specs.Rules.{needs_no_admission}
use Rattle.ccr_model.specs.TaskData.{placement_of}
use Rattle.ccr_model.specs.Tasks.{is_branch_where}
use Rattle.ccr_model.proofs.Allowing.{OneName-legal}
use Rattle.ccr_base.proofs.Booleans.{same_number, eq-self, no_both, both, or_left, or_right, or_before, or_between, not_true, and_false}
use Rattle.ccr_base.proofs.Options.{some_is}
use Rattle.ccr_model.proofs.Cutting.{AdmitFacts, AdmitFacts-allowed, CutFacts-legal, waits_unput, cut_by}
use Rattle.ccr_model.proofs.FiredTasks.{fired_has}
use Rattle.ccr_model.proofs.AllowedFirings.{FiresSo-allowed, BranchFacts, BranchFacts-where, WaitingFacts, WaitingFacts-waiting, waits_outside, fired_by_has, firing_named-new}
use Rattle.ccr_base.proofs.SameNames.{same_task-is, same_task-self}
use Rattle.ccr_model.proofs.TaskLists.{of_one}
use Rattle.ccr_model.proofs.WhoWasPut.{placement_by}
use Rattle.ccr_model.proofs.TasksOnce.{cuts_distinct}
use Rattle.ccr_places.specs.declared.notes.Note.{Note}
use Rattle.ccr_places.specs.declared.notes.Note.TheVariants as notes
use Rattle.ccr_places.specs.Queues.{QueueState}
use Rattle.ccr_places.specs.Queues as queues
use Rattle.ccr_claim.specs.declared.asks.Ask.{Ask}
use Rattle.ccr_claim.specs.declared.asks.Ask.TheVariants as asks
use Rattle.ccr_claim.specs.declared.asks.Asked.{Asked}
use Rattle.ccr_claim.specs.declared.plan.Had.{Had}
use Rattle.ccr_claim.specs.Plans.{in_pattern, names_of, resumes, commit_place}
use Rattle.ccr_claim.specs.Attempts.{at_place, attempt_ask, booking, claiming, free_ask, consume_ask, unbook_ask, cut_ask, put_asks}
use Rattle.ccr_actor.specs.Plans.{plan_of}
use Rattle.ccr_actor.specs.Actors.{State, name_at}
use Rattle.ccr_runs.specs.declared.entries.Entry.{Entry}
use Rattle.ccr_runs.specs.Places.{queue_note}
use Rattle.ccr_runs.specs.EntryRuns.{Lacks, state_of, port_at, same_place, waits, queue_at}
use Rattle.ccr_runs.specs.Views.{view, cut_view, queue_of}
use Rattle.ccr_runs.specs.Visible.{visible, shown}
use Rattle.ccr_net.proofs.Parts.OneMoreEntry.{Step, queue_at-push, visible-push}
use Rattle.ccr_net.proofs.Parts.PortsAndHandsMatch.{IsOwed, IsToPut}
use Rattle.ccr_net.proofs.Parts.StepsKeepActors.{unfired, queue_stays}
use Rattle.ccr_net.proofs.Kept.WholeInvariant.{Holds, queue_changes, same_queues, is_queue_place}
use Rattle.ccr_net.proofs.Parts.TasksAreBookedOnce.{in-more, in-less}
use Rattle.ccr_net.proofs.Parts.BookedHasRoom.{is_for, fired_for}
use Rattle.ccr_net.proofs.Parts.MeterMatches.{bit}
use Rattle.ccr_net.proofs.Owed.EntriesAreMoves.{handed}
use Rattle.ccr_net.proofs.Parts.NotesAnswerAsks.{Given, given_some}
use Rattle.ccr_net.proofs.Owed.EntriesChangeOwing.{Owes, less, dropped, admitted, booked, got, fired as has_fired, same, ended, owes, is_quiet}
use Rattle.ccr_net.proofs.Owed.OwedByOneOnce.{owed_by, owed_each, last_allowed}
use Rattle.ccr_net.proofs.Owed.OwedByOneOnce as owed

-- the task whose booking the ask ends
abbrev pub unbooks : Ask → List TaskId
unbooks (asks.Unbook t) = t ∷ []
unbooks (asks.Put task) = task.id ∷ []
unbooks _ = []

unbooks-quiet : (ask : Ask) → is_quiet ask ≡ true → unbooks ask ≡ []
unbooks-quiet (asks.Post m) is = refl
unbooks-quiet (asks.Claim t s) is = refl
unbooks-quiet (asks.Consume t) is = absurd (cc)
unbooks-quiet (asks.Free t) is = absurd (cc)
unbooks-quiet (asks.Commit t ms) is = refl
unbooks-quiet asks.Admit is = refl
unbooks-quiet (asks.Over t r how) is = refl
unbooks-quiet (asks.Suspend t) is = refl
unbooks-quiet (asks.Book t r) is = refl
unbooks-quiet (asks.Unbook t) is = absurd (cc)
unbooks-quiet (asks.Put t) is = absurd (cc)
unbooks-quiet asks.Take is = refl
unbooks-quiet asks.Draw is = refl
unbooks-quiet asks.Leave is = refl
unbooks-quiet asks.Left is = refl

abbrev pub is_booked_at : Parts → List Entry → ℕ → TaskId → Bool
is_booked_at w es q t = queues.is_booked (queue_at w es q) t

abbrev pub is_about : ℕ → TaskId → Asked → Bool
is_about q t x = owed.is_about places.Queue unbooks q t x

abbrev pub many : ℕ → TaskId → List Asked → ℕ
many q t xs = owed.many places.Queue unbooks q t xs

-- the bookings are owed once
abbrev pub BookingsStand : Parts → Lacks → List Entry → Type 0
BookingsStand w lacks es = owed.OwedOnce places.Queue unbooks w lacks (is_booked_at w) es

-- ---- a note at a queue

booked_more : (queue : QueueState) (u t : TaskId) (r : Bool) (o : Option ℕ) → queues.is_booked queue t ≡ true → queues.is_booked (queues.after_book queue u r o) t ≡ true
booked_more queue u t true (Some n) is = is
booked_more queue u t false (Some n) is = is
booked_more queue u t false None is = rw (in-more queue.fresh u t) (or_before (same_task t u) (set.contains queue.fresh t) (set.contains queue.resuming t) is)
booked_more queue u t true None is = rw (in-more queue.resuming u t) (or_between (same_task t u) (set.contains queue.fresh t) (set.contains queue.resuming t) is)

booked_less : (queue : QueueState) (u t : TaskId) → queues.is_booked queue t ≡ true → (set.contains (set.remove queue.fresh u) t || set.contains (set.remove queue.resuming u) t ≡ true) ⊎ (has_task (u ∷ []) t ≡ true)
booked_less queue u t is = by (same_task t u) refl
  where
    by : (b : Bool) → same_task t u ≡ b → (set.contains (set.remove queue.fresh u) t || set.contains (set.remove queue.resuming u) t ≡ true) ⊎ (b || false ≡ true)
    by true e = inr refl
    by false e = inl (rw (in-less queue.fresh u t, in-less queue.resuming u t, e) is)

booked_kept : (queue : QueueState) (ask : Ask) (note : Note) (t : TaskId) → queue_note queue ask ≡ Some note → queues.is_booked queue t ≡ true → (queues.is_booked (queues.after queue note) t ≡ true) ⊎ (has_task (unbooks ask) t ≡ true)
booked_kept queue (asks.Book u r) note t is stands = inl (rw ((given_some (queues.may_book queue u) (notes.Book u r (queues.book_note queue r)) note is).1) (booked_more queue u t r (queues.book_note queue r) stands))
booked_kept queue (asks.Unbook u) note t is stands = of_less (booked_less queue u t stands)
  where
    of_less : (set.contains (set.remove queue.fresh u) t || set.contains (set.remove queue.resuming u) t ≡ true) ⊎ (has_task (u ∷ []) t ≡ true) → (queues.is_booked (queues.after queue note) t ≡ true) ⊎ (has_task (u ∷ []) t ≡ true)
    of_less (inl now) = inl (rw ((given_some (queues.may_unbook queue u) (notes.Unbook u) note is).1) now)
    of_less (inr about) = inr about
booked_kept queue (asks.Put task) note t is stands = of_less (booked_less queue task.id t stands)
  where
    of_less : (set.contains (set.remove queue.fresh task.id) t || set.contains (set.remove queue.resuming task.id) t ≡ true) ⊎ (has_task (task.id ∷ []) t ≡ true) → (queues.is_booked (queues.after queue note) t ≡ true) ⊎ (has_task (task.id ∷ []) t ≡ true)
    of_less (inl now) = inl (rw ((given_some (queues.may_put queue task.id) (notes.Put task.id (queues.put_note queue)) note is).1) now)
    of_less (inr about) = inr about
booked_kept queue asks.Take note t is stands = inl (rw (noted) stands)
  where
    noted : note ≡ notes.Take (queues.take_note queue)
    noted = cc
booked_kept queue (asks.Post m) note t is stands = absurd (cc)
booked_kept queue (asks.Claim u s) note t is stands = absurd (cc)
booked_kept queue (asks.Consume u) note t is stands = absurd (cc)
booked_kept queue (asks.Free u) note t is stands = absurd (cc)
booked_kept queue (asks.Commit u ms) note t is stands = absurd (cc)
booked_kept queue asks.Admit note t is stands = absurd (cc)
booked_kept queue (asks.Over u r how) note t is stands = absurd (cc)
booked_kept queue (asks.Suspend u) note t is stands = absurd (cc)
booked_kept queue asks.Draw note t is stands = absurd (cc)
booked_kept queue asks.Leave note t is stands = absurd (cc)
booked_kept queue asks.Left note t is stands = absurd (cc)

-- ---- who waits

module _ (w : Parts) (n : ℕ) (lacks : Lacks) (es : List Entry) (holds : Holds w n lacks es) where
  abbrev h : List Event
  h = visible es

  -- who waits is booked at its queue
  pub waiting_booked : (i : ℕ) (t : TaskId) → WaitingFacts w h i t → is_booked_at w es (queue_of w h t) t ≡ true
  waiting_booked i t facts = ap (λ q. is_booked_at w es q t) queue_so ∙ or_left (set.contains (queue_at w es branch.placement.branch.queue).fresh t) (set.contains (queue_at w es branch.placement.branch.queue).resuming t) (holds.queues.booked.fired_booked branch.placement.branch.queue t there (waits_unput w h i t (CutFacts-legal w h holds.legal) facts) facts.not_cut)
    where
      branch : BranchFacts w (is_placement_in i) facts.firing.spot
      branch = BranchFacts-where w (is_placement_in i) facts.firing.spot facts.is_branch

      placed : placement_of w h t ≡ Some branch.placement
      placed = placement_by w h t facts.firing facts.is_firing ∙ ap (λ s. placement w (branch_of s)) branch.is_branch ∙ branch.is_placement

      queue_so : queue_of w h t ≡ branch.placement.branch.queue
      queue_so = ap (λ o. option_map_or (λ (s : Placement). s.branch.queue) o 0) placed

      passes : is_branch_where w (is_for branch.placement.branch.queue) facts.firing.spot ≡ true
      passes = ap (is_branch_where w (is_for branch.placement.branch.queue)) branch.is_branch ∙ ap (λ o. option_map_or (is_for branch.placement.branch.queue) o false) branch.is_placement ∙ eq-self branch.placement.branch.queue

      there : has_task (fired_for w h branch.placement.branch.queue) t ≡ true
      there = fired_by_has w (is_for branch.placement.branch.queue) h t facts.firing facts.is_firing passes

  -- and nobody owes its booking
  unowed : (i : ℕ) (t : TaskId) → WaitingFacts w h i t → (a bound : ℕ) (place : Place) (ask : Ask) → IsOwed w h a bound place ask → has_task (unbooks ask) t ≡ false
  unowed i t facts a bound place (asks.Unbook u) is = of_test (has_task (u ∷ []) t) refl is
    where
      of_test : (b : Bool) → has_task (u ∷ []) t ≡ b → IsOwed w h a bound place (asks.Unbook u) → has_task (u ∷ []) t ≡ false
      of_test false e now = e
      of_test true e (inl new) = absurd (no_both (subst (λ x. has_task (fired h) x ≡ true) (of_one u t e) (fired_has h t (facts.firing, facts.is_firing))) new.2)
      of_test true e (inr gone) = absurd (no_both gone (subst (λ x. has_task (cut h) x ≡ false) (of_one u t e) facts.not_cut))
  unowed i t facts a bound place (asks.Put task) is = of_test (has_task (task.id ∷ []) t) refl
    where
      waited : IsToPut w h t → ⊥
      waited now = no_both (subst (λ (f : Firing). needs_no_admission w f.spot || has_task (ever_admitted h) t ≡ true) (some_is (sym now.fires.1 ∙ facts.is_firing)) now.entered) (waits_outside w h i t facts)

      of_test : (b : Bool) → has_task (task.id ∷ []) t ≡ b → has_task (task.id ∷ []) t ≡ false
      of_test false e = e
      of_test true e = absurd (waited (subst (IsToPut w h) (sym (of_one task.id t e)) is.0))
  unowed i t facts a bound place (asks.Post m) is = refl
  unowed i t facts a bound place (asks.Claim u s) is = refl
  unowed i t facts a bound place (asks.Consume u) is = refl
  unowed i t facts a bound place (asks.Free u) is = refl
  unowed i t facts a bound place (asks.Commit u ms) is = refl
  unowed i t facts a bound place asks.Admit is = refl
  unowed i t facts a bound place (asks.Over u r how) is = refl
  unowed i t facts a bound place (asks.Suspend u) is = refl
  unowed i t facts a bound place (asks.Book u r) is = refl
  unowed i t facts a bound place asks.Take is = refl
  unowed i t facts a bound place asks.Draw is = refl
  unowed i t facts a bound place asks.Leave is = refl
  unowed i t facts a bound place asks.Left is = refl

  owes_none : (i : ℕ) (t : TaskId) → WaitingFacts w h i t → (a q : ℕ) → many q t (owed_by w lacks es a) ≡ 0
  owes_none i t facts a q = owed.many-zero places.Queue unbooks q t (owed_by w lacks es a) (λ x is. of_owed x (owed_each w n lacks es holds a x is))
    where
      of_owed : (x : Asked) → (bound : ℕ) × IsOwed w h a bound x.place x.ask → is_about q t x ≡ false
      of_owed x is = rw (unowed i t facts a is.0 x.place x.ask is.1) (and_false (same_place x.place (places.Queue q)))

-- after a firing, only the cut tasks and the task to put are about bookings
pub fired_many : (name : TaskId) (had : List Had) (cuts : List Cut) (task : Option Task) (q : ℕ) (t : TaskId) → many q t (map (consume_ask name) had ++ (map cut_ask cuts ++ put_asks task)) ≡ many q t (map cut_ask cuts) + many q t (put_asks task)
fired_many name had cuts task q t =
    let all = owed.many-append places.Queue unbooks q t (map (consume_ask name) had) (map cut_ask cuts ++ put_asks task) in
    let behind = owed.many-append places.Queue unbooks q t (map cut_ask cuts) (put_asks task) in
    let none = owed.many-none places.Queue unbooks q t (consume_ask name) (λ d. refl) had in
    omega (arith, all, behind, none)

-- before it, only the booking of its own name
pub held_many : (name : TaskId) (had : List Had) (own q : ℕ) (t : TaskId) → many q t (map (free_ask name) (reverse had) ++ unbook_ask own name ∷ []) ≡ bit ((own == q) && (same_task t name || false))
held_many name had own q t =
    let all = owed.many-append places.Queue unbooks q t (map (free_ask name) (reverse had)) (unbook_ask own name ∷ []) in
    let none = owed.many-none places.Queue unbooks q t (free_ask name) (λ d. refl) (reverse had) in
    omega (arith, all, none)

-- how many of the bookings of the cut tasks are about a task
cuts_many : (w : Parts) (g : List Event) (q : ℕ) (t : TaskId) (cs : List TaskId) → are_distinct_tasks cs ≡ true → (many q t (map cut_ask (map (cut_view w g) cs)) ≡ 0) ⊎ ((many q t (map cut_ask (map (cut_view w g) cs)) ≡ 1) × (has_task cs t ≡ true) × (queue_of w g t ≡ q))
cuts_many w g q t [] apart = inl refl
cuts_many w g q t (c ∷ cs) apart = by (same_task t c) refl (queue_of w g c == q) refl (cuts_many w g q t cs parts.1)
  where
    parts : (not (has_task cs c) ≡ true) × (are_distinct_tasks cs ≡ true)
    parts = both (not (has_task cs c)) (are_distinct_tasks cs) apart

    rest : ℕ
    rest = many q t (map cut_ask (map (cut_view w g) cs))

    Said : Type 0
    Said = (many q t (map cut_ask (map (cut_view w g) (c ∷ cs))) ≡ 0) ⊎ ((many q t (map cut_ask (map (cut_view w g) (c ∷ cs))) ≡ 1) × (has_task (c ∷ cs) t ≡ true) × (queue_of w g t ≡ q))

    by : (b : Bool) → same_task t c ≡ b → (d : Bool) → (queue_of w g c == q) ≡ d → (rest ≡ 0) ⊎ ((rest ≡ 1) × (has_task cs t ≡ true) × (queue_of w g t ≡ q)) → Said
    by false e d at (inl none) = inl (let here : bit ((queue_of w g c == q) && (same_task t c || false)) ≡ 0 = (λ i. bit (at i && (e i || false))) ∙ nothing d in omega (arith, here, none))
      where
        nothing : (b : Bool) → bit (b && (false || false)) ≡ 0
        nothing true = refl
        nothing false = refl
    by false e d at (inr found) = inr (let here : bit ((queue_of w g c == q) && (same_task t c || false)) ≡ 0 = (λ i. bit (at i && (e i || false))) ∙ nothing d in let one = found.0 in omega (arith, here, one), or_right (same_task t c) (has_task cs t) found.1, found.2)
      where
        nothing : (b : Bool) → bit (b && (false || false)) ≡ 0
        nothing true = refl
        nothing false = refl
    by true e d at (inr found) = absurd (no_both (subst (λ x. has_task cs x ≡ true) (same_task-is t c e) found.1) (not_true (has_task cs c) parts.0))
    by true e false at (inl none) = inl (let here : bit ((queue_of w g c == q) && (same_task t c || false)) ≡ 0 = (λ i. bit (at i && (e i || false))) in omega (arith, here, none))
    by true e true at (inl none) = inr (let here : bit ((queue_of w g c == q) && (same_task t c || false)) ≡ 1 = (λ i. bit (at i && (e i || false))) in omega (arith, here, none), or_left (same_task t c) (has_task cs t) e, ap (queue_of w g) (same_task-is t c e) ∙ same_number (queue_of w g c) q at)

-- ---- one entry

module _ (w : Parts) (n : ℕ) (lacks : Lacks) (es : List Entry) (e : Entry) (step : Step w lacks es e) (holds : Holds w n lacks es) (holds' : Holds w n lacks (es ++ e ∷ [])) (once : BookingsStand w lacks es) where
  abbrev st : State
  st = state_of w lacks es e.actor

  abbrev name : TaskId
  name = name_at e.actor st

  abbrev after : List Event
  after = visible (es ++ e ∷ [])

  -- a booking ends by an ask about it alone
  kept_or_taken : (x : Asked) → Given w es e x → (q : ℕ) (t : TaskId) → is_booked_at w es q t ≡ true → (is_booked_at w (es ++ e ∷ []) q t ≡ true) ⊎ (is_about q t x ≡ true)
  kept_or_taken x given q t stands = by (same_place x.place (places.Queue q)) refl
    where
      now_at : Bool → QueueState
      now_at c = if c then queues.after (queue_at w es q) e.note else queue_at w es q

      changes : queue_at w (es ++ e ∷ []) q ≡ now_at (same_place x.place (places.Queue q))
      changes = queue_at-push w es e q ∙ ap (λ pl. now_at (same_place pl (places.Queue q))) given.there

      at_queue : (pl : Place) → same_place pl (places.Queue q) ≡ true → pl ≡ places.Queue q
      at_queue (places.Queue k) is = ap places.Queue (same_number k q is)
      at_queue (places.Arbiter k) is = absurd (cc)
      at_queue (places.Site k j) is = absurd (cc)
      at_queue (places.Port k) is = absurd (cc)
      at_queue places.Meter is = absurd (cc)

      by : (b : Bool) → same_place x.place (places.Queue q) ≡ b → (is_booked_at w (es ++ e ∷ []) q t ≡ true) ⊎ (b && has_task (unbooks x.ask) t ≡ true)
      by false at = inl (ap (λ s. queues.is_booked s t) (changes ∙ ap now_at at) ∙ stands)
      by true at = of_kept (booked_kept (queue_at w es q) x.ask e.note t noted stands)
        where
          noted : queue_note (queue_at w es q) x.ask ≡ Some e.note
          noted = rw (at_queue x.place at) at given.gives

          of_kept : (queues.is_booked (queues.after (queue_at w es q) e.note) t ≡ true) ⊎ (has_task (unbooks x.ask) t ≡ true) → (is_booked_at w (es ++ e ∷ []) q t ≡ true) ⊎ (true && has_task (unbooks x.ask) t ≡ true)
          of_kept (inl is) = inl (ap (λ s. queues.is_booked s t) (changes ∙ ap now_at at) ∙ is)
          of_kept (inr is) = inr is

  about_quiet : (x : Asked) (q : ℕ) (t : TaskId) → is_quiet x.ask ≡ true → is_about q t x ≡ false
  about_quiet x q t quiet = rw (unbooks-quiet x.ask quiet) (and_false (same_place x.place (places.Queue q)))

  abbrev On : Type 0
  On = owed.OwesOn places.Queue unbooks w lacks (is_booked_at w) es e

  abbrev IsNew : ℕ → TaskId → Type 0
  IsNew q t = owed.New places.Queue unbooks w lacks (is_booked_at w) es e q t

  abbrev new : List Asked
  new = owed_by w lacks (es ++ e ∷ []) e.actor

  abbrev old : List Asked
  old = owed_by w lacks es e.actor

  others_stay : (x : Asked) → Given w es e x → ((q : ℕ) (t : TaskId) → is_about q t x ≡ false) → (a q : ℕ) (t : TaskId) → 1 ≤ many q t (owed_by w lacks es a) → is_booked_at w es q t ≡ true → (is_booked_at w (es ++ e ∷ []) q t ≡ true) ⊎ (many q t new < many q t old)
  others_stay x given none a q t some stands = of_kept (kept_or_taken x given q t stands)
    where
      of_kept : (is_booked_at w (es ++ e ∷ []) q t ≡ true) ⊎ (is_about q t x ≡ true) → (is_booked_at w (es ++ e ∷ []) q t ≡ true) ⊎ (many q t new < many q t old)
      of_kept (inl is) = inl is
      of_kept (inr is) = absurd (no_both is (none q t))

  taken_first : (x : Asked) (rest : List Asked) → Given w es e x → old ≡ x ∷ rest → ((q : ℕ) (t : TaskId) → many q t new ≡ many q t rest) → On
  taken_first x rest given split fewer = record {
    own = λ q t. inl (let was = ap (many q t) split in let now = fewer q t in omega (arith, was, now));
    stays = λ a q t some stands. of_kept q t (kept_or_taken x given q t stands);
  }
    where
      of_kept : (q : ℕ) (t : TaskId) → (is_booked_at w (es ++ e ∷ []) q t ≡ true) ⊎ (is_about q t x ≡ true) → (is_booked_at w (es ++ e ∷ []) q t ≡ true) ⊎ (many q t new < many q t old)
      of_kept q t (inl is) = inl is
      of_kept q t (inr is) = inr (let one = ap bit is in let was = ap (many q t) split in let now = fewer q t in omega (arith, one, was, now))

  changes_so : ((q : ℕ) (t : TaskId) → (many q t new ≤ many q t old) ⊎ IsNew q t) → (x : Asked) → Given w es e x → ((q : ℕ) (t : TaskId) → is_about q t x ≡ false) → On
  changes_so own x given none = record { own = own; stays = others_stay x given none }

  no_more : ((q : ℕ) (t : TaskId) → many q t new ≤ many q t old) → (x : Asked) → Given w es e x → ((q : ℕ) (t : TaskId) → is_about q t x ≡ false) → On
  no_more le x given none = changes_so (λ q t. inl (le q t)) x given none

  -- one more is about this task at this queue
  one_more : (q : ℕ) (u : TaskId) → ((t : TaskId) → (k : ℕ) → many k t new ≡ bit ((q == k) && (same_task t u || false)) + many k t old) → ((t : TaskId) → t ≡ u → IsNew q t) → (k : ℕ) (t : TaskId) → (many k t new ≤ many k t old) ⊎ IsNew k t
  one_more q u now is_new k t = by (q == k) refl (same_task t u) refl
    where
      by : (b : Bool) → (q == k) ≡ b → (c : Bool) → same_task t u ≡ c → (many k t new ≤ many k t old) ⊎ IsNew k t
      by false at c named = inl (let one : many k t new ≡ bit (false && (same_task t u || false)) + many k t old = now t k ∙ ap (λ b. bit (b && (same_task t u || false)) + many k t old) at in omega (arith, one))
      by true at false named = inl (let one : many k t new ≡ bit (true && false) + many k t old = now t k ∙ (λ i. bit (at i && (named i || false)) + many k t old) in omega (arith, one))
      by true at true named = inr (subst (λ j. IsNew j t) (same_number q k at) (is_new t (same_task-is t u named)))

  allowed : (ev : Event) → after ≡ visible es ++ ev ∷ [] → IsAllowed w (visible es) ev
  allowed ev shows = last_allowed w (visible es) ev (subst (IsLegal w) shows holds'.legal)

  fresh : has_task (fired (visible es)) name ≡ false
  fresh = unfired w (visible es) (port_at es) e.actor st (holds.actors e.actor).claims

  same_at : (place : Place) → e.place ≡ place → is_queue_place place ≡ false → (q : ℕ) (t : TaskId) → is_booked_at w es q t ≡ true → is_booked_at w (es ++ e ∷ []) q t ≡ true
  same_at place there other q t is = ap (λ (queue : ℕ → QueueState). queues.is_booked (queue q) t) (same_queues w es e place there other) ∙ is

  on_of : Owes w es e st old new → On
  on_of (less x given split) = taken_first x new given split (λ q t. refl)
  on_of (dropped x rest t d given note split is) = taken_first x rest given split (λ q u. ap (many q u) is ∙ zero_more (many q u rest))
    where
      zero_more : (k : ℕ) → 0 + k ≡ k
      zero_more k = omega arith
  on_of (same x given quiet is) = no_more (λ q u. (let now = ap (many q u) is in omega (arith, now))) x given (λ q t. about_quiet x q t quiet)
  on_of (ended task how given last runs is) = no_more (λ q u. (let now = ap (many q u) is in omega (arith, now))) _ given (λ q u. refl)
  on_of (got d k given free note is) = no_more (λ q u. (let now = ap (many q u) is in omega (arith, now))) _ given (λ q t. about_quiet (at_place (places.Port d.slot.port) (asks.Claim name d.slot)) q t refl)
  on_of (admitted i more t numbers given note is) = changes_so (one_more (queue_of w after t) t (λ u k. ap (many k u) is) is_new) _ given (λ q u. refl)
    where
      shows : after ≡ visible es ++ events.Admit t ∷ []
      shows = visible-push es e ∙ ap (λ m. visible es ++ shown e.actor m) note

      facts : AdmitFacts w (visible es) t
      facts = AdmitFacts-allowed w (visible es) t (allowed (events.Admit t) shows)

      waits_so : WaitingFacts w (visible es) facts.placement.domain t
      waits_so = WaitingFacts-waiting w (visible es) facts.placement.domain t (OneName-legal w (visible es) holds.legal) facts.waits

      queue_so : queue_of w after t ≡ queue_of w (visible es) t
      queue_so = ap (λ g. queue_of w g t) shows ∙ queue_stays w (visible es) (events.Admit t ∷ []) t (waits_so.firing, waits_so.is_firing)

      is_new : (u : TaskId) → u ≡ t → IsNew (queue_of w after t) u
      is_new u same_name = subst (IsNew (queue_of w after t)) (sym same_name) (record {
        one = let now = ap (many (queue_of w after t) t) is in let self : bit ((queue_of w after t == queue_of w after t) && (same_task t t || false)) ≡ 1 = rw (eq-self (queue_of w after t), same_task-self t) refl in let none = owes_none w n lacks es holds facts.placement.domain t waits_so e.actor (queue_of w after t) in omega (arith, now, self, none);
        met = same_at (places.Arbiter i) given.there refl (queue_of w after t) t (subst (λ q. is_booked_at w es q t ≡ true) (sym queue_so) (waiting_booked w n lacks es holds facts.placement.domain t waits_so));
        nobody = λ b other. owes_none w n lacks es holds facts.placement.domain t waits_so b (queue_of w after t);
      })
  on_of (booked spot given note was is) = changes_so (one_more (plan_of w spot).queue name (λ u k. now u k) is_new) _ given (λ q t. about_quiet (attempt_ask (plan_of w spot) name booking) q t refl)
    where
      now : (u : TaskId) (k : ℕ) → many k u new ≡ bit (((plan_of w spot).queue == k) && (same_task u name || false)) + many k u old
      now u k = let one = ap (many k u) is in let none = ap (many k u) was in omega (arith, one, none)

      may : queues.may_book (queue_at w es (plan_of w spot).queue) name ≡ true
      may = (given_some (queues.may_book (queue_at w es (plan_of w spot).queue) name) _ e.note given.gives).0

      unbooked : is_booked_at w es (plan_of w spot).queue name ≡ false
      unbooked = left (queues.is_booked (queue_at w es (plan_of w spot).queue) name) _ (not_true _ may)
        where
          left : (a b : Bool) → a || b ≡ false → a ≡ false
          left true b none = absurd (cc)
          left false b none = refl

      none : (b : ℕ) → many (plan_of w spot).queue name (owed_by w lacks es b) ≡ 0
      none b = of_count (many (plan_of w spot).queue name (owed_by w lacks es b)) refl
        where
          of_count : (j : ℕ) → many (plan_of w spot).queue name (owed_by w lacks es b) ≡ j → many (plan_of w spot).queue name (owed_by w lacks es b) ≡ 0
          of_count zero z = z
          of_count (suc j) z = absurd (no_both (once.met b (plan_of w spot).queue name (let y = z in omega (arith, y))) unbooked)

      is_new : (u : TaskId) → u ≡ name → IsNew (plan_of w spot).queue u
      is_new u same_name = subst (IsNew (plan_of w spot).queue) (sym same_name) (record {
        one = let one = now name (plan_of w spot).queue in let self : bit (((plan_of w spot).queue == (plan_of w spot).queue) && (same_task name name || false)) ≡ 1 = rw (eq-self (plan_of w spot).queue, same_task-self name) refl in let zero_old = none e.actor in omega (arith, one, self, zero_old);
        met = rw (queue_changes w es e (plan_of w spot).queue given.there (plan_of w spot).queue, eq-self (plan_of w spot).queue, note) (booked_now (resumes spot));
        nobody = λ b other. none b;
      })
        where
          booked_now : (r : Bool) → queues.is_booked (queues.after_book (queue_at w es (plan_of w spot).queue) name r None) name ≡ true
          booked_now false = or_left _ _ (in-more (queue_at w es (plan_of w spot).queue).fresh name name ∙ or_left _ _ (same_task-self name))
          booked_now true = or_right _ _ (in-more (queue_at w es (plan_of w spot).queue).resuming name name ∙ or_left _ _ (same_task-self name))
  on_of (has_fired spot more had cs spots phase given note was is) = changes_so (λ q t. own_at q t (cuts_many w after q t cs distinct)) _ given (λ q t. about_quiet (attempt_ask (plan_of w spot) name (claiming [] had)) q t refl)
    where
      event : Event
      event = events.Fire name spot (names_of (in_pattern (plan_of w spot).pattern had)) cs

      shows : after ≡ visible es ++ event ∷ []
      shows = visible-push es e ∙ ap (λ m. visible es ++ shown e.actor m) note

      distinct : are_distinct_tasks cs ≡ true
      distinct = ap are_distinct_tasks (FiresSo-allowed w (visible es) name spot _ cs (allowed event shows)).cuts ∙ cuts_distinct w (visible es) spot holds.legal

      task : Option Task
      task = handed w es e name spot

      cuts : List Cut
      cuts = map (cut_view w after) cs

      -- the fired task's queue is that of its plan
      queue_so : queue_of w after name ≡ (plan_of w spot).queue
      queue_so = ap (λ g. queue_of w g name) shows ∙ ap (λ o. option_map_or (λ (s : Placement). s.branch.queue) o 0) (placement_by w (visible es ++ event ∷ []) name _ (firing_named-new (visible es) name spot _ cs fresh))

      counted : (q : ℕ) (t : TaskId) → many q t new ≡ many q t (map cut_ask cuts) + many q t (put_asks task)
      counted q t = ap (many q t) is ∙ fired_many name had cuts task q t

      counted_old : (q : ℕ) (t : TaskId) → many q t old ≡ bit (((plan_of w spot).queue == q) && (same_task t name || false))
      counted_old q t = ap (many q t) was ∙ held_many name had (plan_of w spot).queue q t

      puts : (c : Bool) (q : ℕ) (t : TaskId) → many q t (put_asks (if c then None else Some (view w after name))) ≤ bit (((plan_of w spot).queue == q) && (same_task t name || false))
      puts true q t = omega arith
      puts false q t = let one : many q t (put_asks (Some (view w after name))) ≡ bit (((plan_of w spot).queue == q) && (same_task t name || false)) + 0 = ap (λ k. bit ((k == q) && (same_task t name || false)) + 0) queue_so in omega (arith, one)

      own_at : (q : ℕ) (t : TaskId) → (many q t (map cut_ask cuts) ≡ 0) ⊎ ((many q t (map cut_ask cuts) ≡ 1) × (has_task cs t ≡ true) × (queue_of w after t ≡ q)) → (many q t new ≤ many q t old) ⊎ IsNew q t
      own_at q t (inl none) = inl (let now = counted q t in let before = counted_old q t in let few = puts (waits w spot) q t in omega (arith, now, before, few, none))
      own_at q t (inr found) = inr (record {
        one = let now = counted q t in let few = puts (waits w spot) q t in let other : bit (((plan_of w spot).queue == q) && (same_task t name || false)) ≡ 0 = rw named (nothing ((plan_of w spot).queue == q)) in let one = found.0 in omega (arith, now, few, other, one);
        met = same_at_commit q t (subst (λ k. is_booked_at w es k t ≡ true) (sym queue_before ∙ found.2) (waiting_booked w n lacks es holds waits_so.0 t waits_so.1));
        nobody = λ b other. owes_none w n lacks es holds waits_so.0 t waits_so.1 b q;
      })
        where
          waits_so : (i : ℕ) × WaitingFacts w (visible es) i t
          waits_so = cut_by w (visible es) name spot _ cs (OneName-legal w (visible es) holds.legal) (allowed event shows) t (subst (λ ts. has_task ts t ≡ true) (sym (append-nil cs)) found.1)

          queue_before : queue_of w after t ≡ queue_of w (visible es) t
          queue_before = ap (λ g. queue_of w g t) shows ∙ queue_stays w (visible es) (event ∷ []) t (waits_so.1.firing, waits_so.1.is_firing)

          nothing : (b : Bool) → bit (b && (false || false)) ≡ 0
          nothing true = refl
          nothing false = refl

          named : same_task t name ≡ false
          named = of_test (same_task t name) refl
            where
              of_test : (b : Bool) → same_task t name ≡ b → same_task t name ≡ false
              of_test false e' = e'
              of_test true e' = absurd (no_both (subst (λ x. has_task (fired (visible es)) x ≡ true) (same_task-is t name e') (fired_has (visible es) t (waits_so.1.firing, waits_so.1.is_firing))) fresh)

          same_at_commit : (k : ℕ) (u : TaskId) → is_booked_at w es k u ≡ true → is_booked_at w (es ++ e ∷ []) k u ≡ true
          same_at_commit k u = same_at (attempt_ask (plan_of w spot) name (claiming [] had)).place given.there (no_queue spot) k u
            where
              no_queue : (s : Spot) → is_queue_place (commit_place (plan_of w spot) s) ≡ false
              no_queue (Branch b) = refl
              no_queue (Site b k') = refl

  pub bookings_on : On
  bookings_on = on_of (owes w n lacks es e holds step)

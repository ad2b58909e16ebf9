-- A root that is noted over is over in the history.
use Rattle.std.proofs.Common.{inl, inr, ◌⊎◌, ◌≡◌, ℕ, Bool, true, false, List, [], ◌∷◌, ◌++◌, flat_map, Option, Some, None, refl, sym, arith, ap, ◌∙◌, subst, append-nil, append_assoc}
use Rattle.std.specs.Prelude.{if◌then◌else◌}
use Rattle.std.specs.List.{slice_get}
use Rattle.std.proofs.lemmas.Grind.{common_steps}
use Rattle.ccr_base.specs.declared.names.MsgId.{MsgId}
use Rattle.ccr_base.specs.declared.names.Place.{Place}
use Rattle.ccr_base.specs.declared.names.Place.TheVariants as places
use Rattle.ccr_base.specs.declared.names.TaskId.{TaskId}
use Rattle.ccr_base.specs.declared.tasks.How.{How}
use Rattle.ccr_base.specs.declared.tasks.How.TheVariants as hows
use Rattle.ccr_base.specs.declared.tasks.Task.{Task}
use Rattle.ccr_base.specs.Names.{has_task}
use Rattle.ccr_wiring.specs.declared.parts.ArbiterPart.{ArbiterPart}
use Rattle.ccr_wiring.specs.declared.parts.Kind.{Kind}
use Rattle.ccr_wiring.specs.declared.parts.Kind.TheVariants as kinds
use Rattle.ccr_wiring.specs.declared.parts.Parts.{Parts}
use Rattle.ccr_model.specs.declared.history.Event.{Event}
use Rattle.ccr_model.specs.declared.history.Event.TheVariants as events
use Rattle.ccr_model.specs.declared.history.EndHow.{EndHow}
use Rattle.ccr_model.specs.declared.history.EndHow.TheVariants as ends
use Rattle.ccr_model.specs.Firings.{last_by}
use Rattle.ccr_model.specs.Sites.{root_of}
use Rattle.ccr_model.specs.Tasks.{is_over}
use Rattle.ccr_model.proofs.ExclusiveRootsAreAlone.{over_stays, lasts_fired}
use Rattle.ccr_base.proofs.Booleans.{no_both, or_left}
use Rattle.ccr_base.proofs.Options.{no_some, some_so}
use Rattle.ccr_model.proofs.FiredTasks.{root_stays}
use Rattle.ccr_model.proofs.Members.{Among}
use Rattle.ccr_base.proofs.SameNames.{same_task-self}
use Rattle.ccr_model.proofs.TaskLists.{of_more, of_one}
use Rattle.ccr_places.specs.declared.notes.Note.{Note}
use Rattle.ccr_places.specs.declared.notes.Note.TheVariants as notes
use Rattle.ccr_places.specs.Arbiters.{ArbiterState}
use Rattle.ccr_places.specs.Arbiters as arbiters
use Rattle.ccr_places.specs.Interleaves as interleaves
use Rattle.ccr_places.specs.NotedTasks.{noted_over}
use Rattle.ccr_claim.specs.declared.asks.Ask.{Ask}
use Rattle.ccr_claim.specs.declared.asks.Ask.TheVariants as asks
use Rattle.ccr_claim.specs.declared.asks.Asked.{Asked}
use Rattle.ccr_actor.specs.Actors.{State}
use Rattle.ccr_runs.specs.declared.entries.Entry.{Entry}
use Rattle.ccr_runs.specs.Places.{note_of, given, note_at_arbiter, note_by_kind, interleave_after}
use Rattle.ccr_runs.specs.EntryRuns.{Lacks, state_of, notes_at, note_at, same_place}
use Rattle.ccr_runs.specs.Visible.{visible, event_of, shown}
use Rattle.ccr_net.proofs.Parts.OneMoreEntry.{Step, notes_at-push, visible-push}
use Rattle.ccr_net.proofs.Parts.PortsAndHandsMatch.{IsOwed}
use Rattle.ccr_net.proofs.Parts.EventsChangeDomains.{over_now}
use Rattle.ccr_net.proofs.Kept.WholeInvariant.{Holds}
use Rattle.ccr_net.proofs.Owed.EntriesAreMoves.{commit_notes, IsCommitNote}
use Rattle.ccr_net.proofs.Parts.NotesAnswerAsks.{Given, given_some, none_at, over_note}
use Rattle.ccr_net.proofs.Owed.EntriesChangeOwing.{Owes, less, dropped, admitted, booked, got, fired, same, ended, owes, is_quiet, is_run_end, Runs}
use Rattle.ccr_net.proofs.Owed.OwedByOneOnce.{owed_by, owed_each}

abbrev pub over_there : List Note → List TaskId
over_there earlier = flat_map noted_over earlier

-- the roots that are noted over at arbiters are over
abbrev pub OversNoted : List Entry → Type 0
OversNoted es = (i : ℕ) (r : TaskId) → has_task (over_there (notes_at es (places.Arbiter i))) r ≡ true → is_over (visible es) r ≡ true

-- ---- what an arbiter keeps of them

over_after : (st : ArbiterState) (note : Note) → (arbiters.after st note).over ≡ st.over ++ noted_over note
over_after st (notes.Post m) = sym (append-nil st.over)
over_after st (notes.Claim t s r) = sym (append-nil st.over)
over_after st (notes.Consume t) = sym (append-nil st.over)
over_after st (notes.Free t) = sym (append-nil st.over)
over_after st (notes.Fired t s ms cs) = sym (append-nil st.over)
over_after st (notes.Dead t s by) = sym (append-nil st.over)
over_after st (notes.Admit t) = sym (append-nil st.over)
over_after st (notes.Suspend t) = sym (append-nil st.over)
over_after st (notes.Book t r f) = sym (append-nil st.over)
over_after st (notes.Unbook t) = sym (append-nil st.over)
over_after st (notes.Put t d) = sym (append-nil st.over)
over_after st (notes.Take t) = sym (append-nil st.over)
over_after st (notes.Draw n) = sym (append-nil st.over)
over_after st notes.Leave = sym (append-nil st.over)
over_after st (notes.Left n) = sym (append-nil st.over)
over_after st (notes.Over t r how) = refl

pub over_so : (st : ArbiterState) (earlier : List Note) → (arbiters.kept st earlier).over ≡ st.over ++ over_there earlier
over_so st [] = sym (append-nil st.over)
over_so st (note ∷ earlier) = over_so (arbiters.after st note) earlier ∙ ap (λ ts. ts ++ over_there earlier) (over_after st note) ∙ append_assoc st.over (noted_over note) (over_there earlier)

-- ---- no other ask is noted so

abbrev pub is_over_ask : Ask → Bool
is_over_ask (asks.Over t r how) = true
is_over_ask _ = false

of_given : (b : Bool) (m note : Note) → noted_over m ≡ [] → given b m ≡ Some note → noted_over note ≡ []
of_given b m note none is = ap noted_over ((given_some b m note is).1) ∙ none

of_some : (m note : Note) → noted_over m ≡ [] → Some m ≡ Some note → noted_over note ≡ []
of_some m note none is = some_so (λ n. noted_over n ≡ []) is none

of_commit : (task : Task) (ms : List MsgId) (note : Note) → IsCommitNote task.id task.spot ms note → noted_over note ≡ []
of_commit task ms note (inl found) = ap noted_over found.1
of_commit task ms note (inr found) = ap noted_over found.1

of_admit : (w : Parts) (i : ℕ) (earlier : List Note) (note : Note) → note_of w (places.Arbiter i) earlier asks.Admit ≡ Some note → noted_over note ≡ []
of_admit w i earlier note is = by_part (slice_get w.arbiters i) is
  where
    by_kind : (part : ArbiterPart) (kind : Kind) → note_by_kind w i kind part earlier asks.Admit ≡ Some note → noted_over note ≡ []
    by_kind part kinds.Receive now = absurd (cc)
    by_kind part kinds.Choice now = absurd (cc)
    by_kind part kinds.Interleave now = of_some (notes.Admit (interleaves.admit_note (interleave_after w i earlier))) note refl now

    by_part : (o : Option ArbiterPart) → note_at_arbiter w i o earlier asks.Admit ≡ Some note → noted_over note ≡ []
    by_part None now = absurd (cc)
    by_part (Some part) now = by_kind part part.kind now

pub noted_other : (w : Parts) (place : Place) (earlier : List Note) (ask : Ask) (note : Note) → is_over_ask ask ≡ false → note_of w place earlier ask ≡ Some note → noted_over note ≡ []
noted_other w (places.Port p) earlier (asks.Post m) note out is = of_given _ _ note refl is
noted_other w (places.Port p) earlier (asks.Claim t s) note out is = of_given _ _ note refl is
noted_other w (places.Port p) earlier (asks.Consume t) note out is = of_given _ _ note refl is
noted_other w (places.Port p) earlier (asks.Free t) note out is = of_given _ _ note refl is
noted_other w (places.Port p) earlier (asks.Commit t ms) note out is = absurd (cc)
noted_other w (places.Port p) earlier asks.Admit note out is = absurd (cc)
noted_other w (places.Port p) earlier (asks.Suspend t) note out is = absurd (cc)
noted_other w (places.Port p) earlier (asks.Book t r) note out is = absurd (cc)
noted_other w (places.Port p) earlier (asks.Unbook t) note out is = absurd (cc)
noted_other w (places.Port p) earlier (asks.Put t) note out is = absurd (cc)
noted_other w (places.Port p) earlier asks.Take note out is = absurd (cc)
noted_other w (places.Port p) earlier asks.Draw note out is = absurd (cc)
noted_other w (places.Port p) earlier asks.Leave note out is = absurd (cc)
noted_other w (places.Port p) earlier asks.Left note out is = absurd (cc)
noted_other w (places.Port p) earlier (asks.Over t r how) note out is = absurd (cc)
noted_other w (places.Site b k) earlier (asks.Post m) note out is = absurd (cc)
noted_other w (places.Site b k) earlier (asks.Claim t s) note out is = absurd (cc)
noted_other w (places.Site b k) earlier (asks.Consume t) note out is = absurd (cc)
noted_other w (places.Site b k) earlier (asks.Free t) note out is = absurd (cc)
noted_other w (places.Site b k) earlier (asks.Commit t ms) note out is = of_commit t ms note (commit_notes w (places.Site b k) earlier t ms note is)
noted_other w (places.Site b k) earlier asks.Admit note out is = absurd (cc)
noted_other w (places.Site b k) earlier (asks.Suspend t) note out is = of_some _ note refl is
noted_other w (places.Site b k) earlier (asks.Book t r) note out is = absurd (cc)
noted_other w (places.Site b k) earlier (asks.Unbook t) note out is = absurd (cc)
noted_other w (places.Site b k) earlier (asks.Put t) note out is = absurd (cc)
noted_other w (places.Site b k) earlier asks.Take note out is = absurd (cc)
noted_other w (places.Site b k) earlier asks.Draw note out is = absurd (cc)
noted_other w (places.Site b k) earlier asks.Leave note out is = absurd (cc)
noted_other w (places.Site b k) earlier asks.Left note out is = absurd (cc)
noted_other w (places.Site b k) earlier (asks.Over t r how) note out is = absurd (cc)
noted_other w (places.Queue q) earlier (asks.Post m) note out is = absurd (cc)
noted_other w (places.Queue q) earlier (asks.Claim t s) note out is = absurd (cc)
noted_other w (places.Queue q) earlier (asks.Consume t) note out is = absurd (cc)
noted_other w (places.Queue q) earlier (asks.Free t) note out is = absurd (cc)
noted_other w (places.Queue q) earlier (asks.Commit t ms) note out is = absurd (cc)
noted_other w (places.Queue q) earlier asks.Admit note out is = absurd (cc)
noted_other w (places.Queue q) earlier (asks.Suspend t) note out is = absurd (cc)
noted_other w (places.Queue q) earlier (asks.Book t r) note out is = of_given _ _ note refl is
noted_other w (places.Queue q) earlier (asks.Unbook t) note out is = of_given _ _ note refl is
noted_other w (places.Queue q) earlier (asks.Put t) note out is = of_given _ _ note refl is
noted_other w (places.Queue q) earlier asks.Take note out is = of_some _ note refl is
noted_other w (places.Queue q) earlier asks.Draw note out is = absurd (cc)
noted_other w (places.Queue q) earlier asks.Leave note out is = absurd (cc)
noted_other w (places.Queue q) earlier asks.Left note out is = absurd (cc)
noted_other w (places.Queue q) earlier (asks.Over t r how) note out is = absurd (cc)
noted_other w places.Meter earlier (asks.Post m) note out is = absurd (cc)
noted_other w places.Meter earlier (asks.Claim t s) note out is = absurd (cc)
noted_other w places.Meter earlier (asks.Consume t) note out is = absurd (cc)
noted_other w places.Meter earlier (asks.Free t) note out is = absurd (cc)
noted_other w places.Meter earlier (asks.Commit t ms) note out is = absurd (cc)
noted_other w places.Meter earlier asks.Admit note out is = absurd (cc)
noted_other w places.Meter earlier (asks.Suspend t) note out is = absurd (cc)
noted_other w places.Meter earlier (asks.Book t r) note out is = absurd (cc)
noted_other w places.Meter earlier (asks.Unbook t) note out is = absurd (cc)
noted_other w places.Meter earlier (asks.Put t) note out is = absurd (cc)
noted_other w places.Meter earlier asks.Take note out is = absurd (cc)
noted_other w places.Meter earlier asks.Draw note out is = of_some _ note refl is
noted_other w places.Meter earlier asks.Leave note out is = of_given _ _ note refl is
noted_other w places.Meter earlier asks.Left note out is = of_some _ note refl is
noted_other w places.Meter earlier (asks.Over t r how) note out is = absurd (cc)
noted_other w (places.Arbiter i) earlier (asks.Post m) note out is = absurd (no_some _ note (none_at w (asks.Post m) (λ a. refl) (λ a. refl) i (slice_get w.arbiters i) earlier) is)
noted_other w (places.Arbiter i) earlier (asks.Claim t s) note out is = absurd (no_some _ note (none_at w (asks.Claim t s) (λ a. refl) (λ a. refl) i (slice_get w.arbiters i) earlier) is)
noted_other w (places.Arbiter i) earlier (asks.Consume t) note out is = absurd (no_some _ note (none_at w (asks.Consume t) (λ a. refl) (λ a. refl) i (slice_get w.arbiters i) earlier) is)
noted_other w (places.Arbiter i) earlier (asks.Free t) note out is = absurd (no_some _ note (none_at w (asks.Free t) (λ a. refl) (λ a. refl) i (slice_get w.arbiters i) earlier) is)
noted_other w (places.Arbiter i) earlier (asks.Commit t ms) note out is = of_commit t ms note (commit_notes w (places.Arbiter i) earlier t ms note is)
noted_other w (places.Arbiter i) earlier asks.Admit note out is = of_admit w i earlier note is
noted_other w (places.Arbiter i) earlier (asks.Suspend t) note out is = absurd (no_some _ note (none_at w (asks.Suspend t) (λ a. refl) (λ a. refl) i (slice_get w.arbiters i) earlier) is)
noted_other w (places.Arbiter i) earlier (asks.Book t r) note out is = absurd (no_some _ note (none_at w (asks.Book t r) (λ a. refl) (λ a. refl) i (slice_get w.arbiters i) earlier) is)
noted_other w (places.Arbiter i) earlier (asks.Unbook t) note out is = absurd (no_some _ note (none_at w (asks.Unbook t) (λ a. refl) (λ a. refl) i (slice_get w.arbiters i) earlier) is)
noted_other w (places.Arbiter i) earlier (asks.Put t) note out is = absurd (no_some _ note (none_at w (asks.Put t) (λ a. refl) (λ a. refl) i (slice_get w.arbiters i) earlier) is)
noted_other w (places.Arbiter i) earlier asks.Take note out is = absurd (no_some _ note (none_at w asks.Take (λ a. refl) (λ a. refl) i (slice_get w.arbiters i) earlier) is)
noted_other w (places.Arbiter i) earlier asks.Draw note out is = absurd (no_some _ note (none_at w asks.Draw (λ a. refl) (λ a. refl) i (slice_get w.arbiters i) earlier) is)
noted_other w (places.Arbiter i) earlier asks.Leave note out is = absurd (no_some _ note (none_at w asks.Leave (λ a. refl) (λ a. refl) i (slice_get w.arbiters i) earlier) is)
noted_other w (places.Arbiter i) earlier asks.Left note out is = absurd (no_some _ note (none_at w asks.Left (λ a. refl) (λ a. refl) i (slice_get w.arbiters i) earlier) is)
noted_other w (places.Arbiter i) earlier (asks.Over t r how) note out is = absurd (cc)

pub quiet_other : (ask : Ask) → is_quiet ask ≡ true → is_over_ask ask ≡ false
quiet_other (asks.Post m) is = refl
quiet_other (asks.Claim t s) is = refl
quiet_other (asks.Consume t) is = refl
quiet_other (asks.Free t) is = refl
quiet_other (asks.Commit t ms) is = refl
quiet_other asks.Admit is = refl
quiet_other (asks.Suspend t) is = refl
quiet_other (asks.Book t r) is = refl
quiet_other (asks.Unbook t) is = refl
quiet_other (asks.Put t) is = refl
quiet_other asks.Take is = refl
quiet_other asks.Draw is = refl
quiet_other asks.Leave is = refl
quiet_other asks.Left is = refl
quiet_other (asks.Over t r how) is = absurd (cc)

-- ---- an entry shows at most one event

shows_one : (a : ℕ) (note : Note) → (shown a note ≡ []) ⊎ ((ev : Event) × (shown a note ≡ ev ∷ []))
shows_one a (notes.Post m) = inr (events.Post m, refl)
shows_one a (notes.Claim t s r) = inl refl
shows_one a (notes.Consume t) = inl refl
shows_one a (notes.Free t) = inl refl
shows_one a (notes.Fired t s ms cs) = inr (events.Fire t s ms cs, refl)
shows_one a (notes.Dead t s by) = inl refl
shows_one a (notes.Admit None) = inl refl
shows_one a (notes.Admit (Some t)) = inr (events.Admit t, refl)
shows_one a (notes.Over t r hows.Done) = inr (events.End t ends.Done, refl)
shows_one a (notes.Over t r (hows.Failed value)) = inr (events.End t (ends.Failed value), refl)
shows_one a (notes.Over t r hows.Shed) = inr (events.End t ends.Shed, refl)
shows_one a (notes.Over t r hows.Dropped) = inl refl
shows_one a (notes.Suspend t) = inr (events.End t ends.Yield, refl)
shows_one a (notes.Book t r f) = inl refl
shows_one a (notes.Unbook t) = inl refl
shows_one a (notes.Put t d) = inr (events.Put t d, refl)
shows_one a (notes.Take None) = inl refl
shows_one a (notes.Take (Some t)) = inr (events.Start t a, refl)
shows_one a (notes.Draw n) = inl refl
shows_one a notes.Leave = inl refl
shows_one a (notes.Left n) = inl refl

-- ---- one entry

module _ (w : Parts) (n : ℕ) (lacks : Lacks) (es : List Entry) (e : Entry) (step : Step w lacks es e) (holds : Holds w n lacks es) where
  abbrev st : State
  st = state_of w lacks es e.actor

  abbrev h : List Event
  h = visible es

  abbrev after : List Event
  after = visible (es ++ e ∷ [])

  -- who is over stays over
  pub over_on : (r : TaskId) → is_over h r ≡ true → is_over after r ≡ true
  over_on r over = by (shows_one e.actor e.note)
    where
      by : (event_of e ≡ []) ⊎ ((ev : Event) × (event_of e ≡ ev ∷ [])) → is_over after r ≡ true
      by (inl none) = subst (λ g. is_over g r ≡ true) (sym (visible-push es e ∙ ap (λ evs. h ++ evs) none ∙ append-nil h)) over
      by (inr one) = subst (λ g. is_over g r ≡ true) (sym (visible-push es e ∙ ap (λ evs. h ++ evs) one.1)) (over_stays h one.0 r (lasts_fired w h holds.legal) over)

  -- an ask in hand is noted over for a root that is over
  hand_over : (a bound : ℕ) (place : Place) (ask : Ask) (r : TaskId) → IsOwed w h a bound place ask → note_of w place (notes_at es place) ask ≡ Some e.note → has_task (noted_over e.note) r ≡ true → is_over h r ≡ true
  hand_over a bound place (asks.Consume t) r owed gives over = absurd (no_both over (ap (λ ts. has_task ts r) (noted_other w place (notes_at es place) (asks.Consume t) e.note refl gives)))
  hand_over a bound place (asks.Free t) r owed gives over = absurd (no_both over (ap (λ ts. has_task ts r) (noted_other w place (notes_at es place) (asks.Free t) e.note refl gives)))
  hand_over a bound place (asks.Unbook t) r owed gives over = absurd (no_both over (ap (λ ts. has_task ts r) (noted_other w place (notes_at es place) (asks.Unbook t) e.note refl gives)))
  hand_over a bound place (asks.Put t) r owed gives over = absurd (no_both over (ap (λ ts. has_task ts r) (noted_other w place (notes_at es place) (asks.Put t) e.note refl gives)))
  hand_over a bound place (asks.Post m) r owed gives over = absurd owed
  hand_over a bound place (asks.Claim t s) r owed gives over = absurd owed
  hand_over a bound place (asks.Commit t ms) r owed gives over = absurd owed
  hand_over a bound place asks.Admit r owed gives over = absurd owed
  hand_over a bound place (asks.Suspend t) r owed gives over = absurd owed
  hand_over a bound place (asks.Book t b) r owed gives over = absurd owed
  hand_over a bound place asks.Take r owed gives over = absurd owed
  hand_over a bound place asks.Draw r owed gives over = absurd owed
  hand_over a bound place asks.Leave r owed gives over = absurd owed
  hand_over a bound place asks.Left r owed gives over = absurd owed
  hand_over a bound place (asks.Over t x hows.Done) r owed gives over = absurd owed
  hand_over a bound place (asks.Over t x (hows.Failed value)) r owed gives over = absurd owed
  hand_over a bound place (asks.Over t x hows.Shed) r owed gives over = absurd owed
  hand_over a bound (places.Arbiter i) (asks.Over t x hows.Dropped) r owed gives over = subst (λ u. is_over h u ≡ true) (sym (of_one x r (subst (λ m. has_task (noted_over m) r ≡ true) (over_note w t x hows.Dropped i (slice_get w.arbiters i) (notes_at es (places.Arbiter i)) e.note gives) over))) owed
  hand_over a bound (places.Port p) (asks.Over t x hows.Dropped) r owed gives over = absurd (cc)
  hand_over a bound (places.Site b k) (asks.Over t x hows.Dropped) r owed gives over = absurd (cc)
  hand_over a bound (places.Queue q) (asks.Over t x hows.Dropped) r owed gives over = absurd (cc)
  hand_over a bound places.Meter (asks.Over t x hows.Dropped) r owed gives over = absurd (cc)

  of_hand : (x : Asked) (rest : List Asked) → Given w es e x → owed_by w lacks es e.actor ≡ x ∷ rest → (r : TaskId) → has_task (noted_over e.note) r ≡ true → is_over h r ≡ true
  of_hand x rest given split r over = let owed = owed_each w n lacks es holds e.actor x (subst (Among x) (sym split) (inl refl)) in hand_over e.actor owed.0 x.place x.ask r owed.1 given.gives over

  of_quiet : (x : Asked) → Given w es e x → is_quiet x.ask ≡ true → (r : TaskId) → has_task (noted_over e.note) r ≡ true → is_over after r ≡ true
  of_quiet x given quiet r over = absurd (no_both over (ap (λ ts. has_task ts r) (noted_other w x.place (notes_at es x.place) x.ask e.note (quiet_other x.ask quiet) given.gives)))

  -- the end of a running task
  of_end : (task : Task) (how : How) → is_run_end how ≡ true → Runs w h e.actor task → e.note ≡ notes.Over task.id task.root how → is_over after task.root ≡ true
  of_end task how last runs note = by how last note
    where
      root_so : (ev : Event) → root_of (h ++ ev ∷ []) task.id ≡ task.root
      root_so ev = root_stays h (ev ∷ []) task.id runs.fires ∙ sym (ap (λ (t : Task). t.root) runs.as_seen)

      now : (how : EndHow) → event_of e ≡ events.End task.id how ∷ [] → has_task (last_by (events.End task.id how)) task.id ≡ true → is_over after task.root ≡ true
      now how shows is = subst (λ g. is_over g task.root ≡ true) (sym (visible-push es e ∙ ap (λ evs. h ++ evs) shows)) (subst (λ r. is_over (h ++ events.End task.id how ∷ []) r ≡ true) (root_so (events.End task.id how)) (over_now h (events.End task.id how) task.id is))

      self : has_task (task.id ∷ []) task.id ≡ true
      self = or_left _ false (same_task-self task.id)

      by : (how : How) → is_run_end how ≡ true → e.note ≡ notes.Over task.id task.root how → is_over after task.root ≡ true
      by hows.Done is noted = now ends.Done (ap (shown e.actor) noted) self
      by (hows.Failed value) is noted = now (ends.Failed value) (ap (shown e.actor) noted) self
      by hows.Shed is noted = now ends.Shed (ap (shown e.actor) noted) self
      by hows.Dropped is noted = absurd (cc)

  -- what is noted over now is over
  noted_now : (xs ys : List Asked) → owed_by w lacks es e.actor ≡ xs → Owes w es e st xs ys → (r : TaskId) → has_task (noted_over e.note) r ≡ true → is_over after r ≡ true
  noted_now xs ys is (less x given split) r over = over_on r (of_hand x ys given (is ∙ split) r over)
  noted_now xs ys is (dropped x rest t d given note split now) r over = over_on r (of_hand x rest given (is ∙ split) r over)
  noted_now xs ys is (admitted i more t numbers given note now) r over = of_quiet _ given refl r over
  noted_now xs ys is (booked spot given note was now) r over = of_quiet _ given refl r over
  noted_now xs ys is (got d k given free note now) r over = of_quiet _ given refl r over
  noted_now xs ys is (fired spot more had cs spots phase given note was now) r over = of_quiet _ given refl r over
  noted_now xs ys is (same x given quiet now) r over = of_quiet x given quiet r over
  noted_now xs ys is (ended task how given last runs now) r over = by (over_note w task.id task.root how task.arbiter (slice_get w.arbiters task.arbiter) (notes_at es (places.Arbiter task.arbiter)) e.note given.gives)
    where
      by : e.note ≡ notes.Over task.id task.root how → is_over after r ≡ true
      by note = subst (λ u. is_over after u ≡ true) (sym (of_one task.root r (subst (λ m. has_task (noted_over m) r ≡ true) note over))) (of_end task how last runs note)

  pub overs_noted-kept : OversNoted es → OversNoted (es ++ e ∷ [])
  overs_noted-kept known i r is = of_more (over_there (notes_at es (places.Arbiter i))) (over_there (note_at (places.Arbiter i) e)) r _ (subst (λ ts. has_task ts r ≡ true) (ap over_there (notes_at-push es e (places.Arbiter i)) ∙ split (notes_at es (places.Arbiter i)) (note_at (places.Arbiter i) e)) is) (λ old. over_on r (known i r old)) (λ new. noted_now _ _ refl (owes w n lacks es e holds step) r (here (same_place e.place (places.Arbiter i)) new))
    where
      split : (xs ys : List Note) → over_there (xs ++ ys) ≡ over_there xs ++ over_there ys
      split xs ys = grind (arith, common_steps)

      here : (b : Bool) → has_task (over_there (if b then e.note ∷ [] else [])) r ≡ true → has_task (noted_over e.note) r ≡ true
      here true now = subst (λ ts. has_task ts r ≡ true) (append-nil (noted_over e.note)) now
      here false now = absurd (cc)

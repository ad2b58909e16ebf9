-- What an actor does by one entry: its ask, the note that it got, and its state then.
use Rattle.std.proofs.Common.{inl, inr, ◌⊎◌, ◌≡◌, ℕ, Bool, true, false, List, [], ◌∷◌, ◌++◌, map, Option, Some, None, refl, sym, subst}
use Rattle.std.specs.Prelude.{if◌then◌else◌, nat_lt, ◌^◌}
use Rattle.std.specs.List.{slice_get}
use Rattle.ccr_base.specs.declared.names.MsgId.{MsgId}
use Rattle.ccr_base.specs.declared.names.Place.{Place}
use Rattle.ccr_base.specs.declared.names.Place.TheVariants as places
use Rattle.ccr_base.specs.declared.names.Spot.{Spot}
use Rattle.ccr_base.specs.declared.names.TaskId.{TaskId}
use Rattle.ccr_base.specs.declared.patterns.Slot.{Slot}
use Rattle.ccr_base.specs.declared.tasks.By.{By}
use Rattle.ccr_base.specs.declared.tasks.Task.{Task}
use Rattle.ccr_base.proofs.Options.{no_some}
use Rattle.ccr_wiring.specs.declared.parts.ArbiterPart.{ArbiterPart}
use Rattle.ccr_wiring.specs.declared.parts.Kind.{Kind}
use Rattle.ccr_wiring.specs.declared.parts.Kind.TheVariants as kinds
use Rattle.ccr_wiring.specs.declared.parts.Parts.{Parts}
use Rattle.ccr_places.specs.declared.notes.ClaimNote.{ClaimNote}
use Rattle.ccr_places.specs.declared.notes.ClaimNote.TheVariants.{Got, Busy, Short}
use Rattle.ccr_places.specs.declared.notes.Note.{Note}
use Rattle.ccr_places.specs.declared.notes.Note.TheVariants as notes
use Rattle.ccr_places.specs.Arbiters as arbiters
use Rattle.ccr_places.specs.Interleaves as interleaves
use Rattle.ccr_places.specs.Ports.{first_fitting}
use Rattle.ccr_places.specs.Ports as ports
use Rattle.ccr_places.specs.Queues as queues
use Rattle.ccr_places.specs.Sites as sites
use Rattle.ccr_claim.specs.declared.asks.Ask.TheVariants as asks
use Rattle.ccr_claim.specs.declared.asks.Asked.{Asked}
use Rattle.ccr_claim.specs.declared.plan.Had.{Had}
use Rattle.ccr_claim.specs.Plans.{slots_in, in_pattern, names_of, resumes, commit_place, firing_task}
use Rattle.ccr_claim.specs.Attempts.{at_place, Phase, booking, claiming, claimed, attempt_ask, over_dropped}
use Rattle.ccr_actor.specs.Plans.{plan_of}
use Rattle.ccr_actor.specs.Actors.{State, Turn, settle, admit, drive, go_on, stop, turn, turn_of, ask_in, after, after_in, after_admit, after_attempt, after_work, settled, put_admitted, admit_too, give_up, fire, spots_left, work_ask, name_at}
use Rattle.ccr_runs.specs.declared.entries.Entry.{Entry}
use Rattle.ccr_runs.specs.Places.{note_of, note_at_arbiter, note_by_kind, first_branch, arbiter_after, interleave_after, site_after, commit_note}
use Rattle.ccr_runs.specs.EntryRuns.{Lacks, state_of, port_at, notes_at, reply_of, waits, queue_at}
use Rattle.ccr_runs.specs.Views.{view, cut_view}
use Rattle.ccr_runs.specs.Visible.{visible}
use Rattle.ccr_net.proofs.Parts.OneMoreEntry.{Step}
use Rattle.ccr_net.proofs.Kept.WholeInvariant.{hand_settles, spots_drive}
use Rattle.ccr_net.proofs.Parts.NotesAnswerAsks.{Given, given_to, given_some}

-- a booking that isn't refused
abbrev pub is_booked_by : Note → Bool
is_booked_by (notes.Book task resumes None) = true
is_booked_by _ = false

-- the fired task, where it doesn't wait
abbrev pub handed : Parts → List Entry → Entry → TaskId → Spot → Option Task
handed w es e name spot = if waits w spot then None else Some (view w (visible (es ++ e ∷ [])) name)

-- what the actor did
pub data Move (w : Parts) (es : List Entry) (e : Entry) (st next : State) : Type 0 where
  settles : (x : Asked) (more : List Asked) → st.hand ≡ x ∷ more → Given w es e x → next ≡ record st { hand = more } → Move w es e st next
  drops : (x : Asked) (more : List Asked) (t d : TaskId) → st.hand ≡ x ∷ more → Given w es e x → e.note ≡ notes.Put t (Some d)
      → next ≡ record st { hand = over_dropped (view w (visible (es ++ e ∷ [])) d) ∷ more; domains = admit_too w st (view w (visible (es ++ e ∷ [])) d) } → Move w es e st next
  admits : (i : ℕ) (more : List ℕ) (t : TaskId) → st.hand ≡ [] → st.domains ≡ i ∷ more → Given w es e (at_place (places.Arbiter i) asks.Admit) → e.note ≡ notes.Admit (Some t)
      → next ≡ put_admitted st more (view w (visible (es ++ e ∷ [])) t) → Move w es e st next
  strikes : (i : ℕ) (more : List ℕ) → st.hand ≡ [] → st.domains ≡ i ∷ more → Given w es e (at_place (places.Arbiter i) asks.Admit) → next ≡ record st { domains = more } → Move w es e st next
  books : (spot : Spot) (more : List Spot) → st.hand ≡ [] → st.spots ≡ spot ∷ more → st.phase ≡ booking → Given w es e (attempt_ask (plan_of w spot) (name_at e.actor st) booking) → e.note ≡ notes.Book (name_at e.actor st) (resumes spot) None
      → next ≡ record st { phase = claiming (slots_in (plan_of w spot).pattern) [] } → Move w es e st next
  claims : (spot : Spot) (more : List Spot) (slot : Slot) (slots : List Slot) (had : List Had) (k : ℕ) → st.hand ≡ [] → st.spots ≡ spot ∷ more → st.phase ≡ claiming (slot ∷ slots) had → Given w es e (attempt_ask (plan_of w spot) (name_at e.actor st) (claiming (slot ∷ slots) had)) → ports.claim_note (port_at es slot.port) slot ≡ Got k → e.note ≡ notes.Claim (name_at e.actor st) slot (Got k)
      → next ≡ record st { phase = claimed (plan_of w spot) (first_fitting k slot.pred (port_at es slot.port).items) (claiming (slot ∷ slots) had) } → Move w es e st next
  fires : (spot : Spot) (more : List Spot) (had : List Had) (cs : List TaskId) → st.hand ≡ [] → st.spots ≡ spot ∷ more → st.phase ≡ claiming [] had → Given w es e (attempt_ask (plan_of w spot) (name_at e.actor st) (claiming [] had)) → e.note ≡ notes.Fired (name_at e.actor st) spot (names_of (in_pattern (plan_of w spot).pattern had)) cs
      → next ≡ fire w e.actor st spot more (handed w es e (name_at e.actor st) spot) (map (cut_view w (visible (es ++ e ∷ []))) cs) → Move w es e st next
  gives_up : (spot : Spot) (more : List Spot) → st.hand ≡ [] → st.spots ≡ spot ∷ more → Given w es e (attempt_ask (plan_of w spot) (name_at e.actor st) st.phase) → is_booked_by e.note ≡ false → next ≡ give_up w e.actor st spot more → Move w es e st next
  goes : (x : Asked) → turn st ≡ go_on → work_ask e.actor st.work ≡ Some x → Given w es e x → next ≡ after_work w st st.work (reply_of w es e) → Move w es e st next

admit_begins : (short : Bool) (hand : List Asked) (numbers : List ℕ) (spots : List Spot) (i : ℕ) (more : List ℕ) → turn_of short hand numbers spots ≡ admit i more → (hand ≡ []) × (numbers ≡ i ∷ more)
admit_begins short (y ∷ hand) numbers spots i more is = absurd (cc)
admit_begins true [] numbers spots i more is = absurd (cc)
admit_begins false [] (j ∷ numbers) spots i more is = (refl, cc)
admit_begins false [] [] (s ∷ spots) i more is = absurd (cc)
admit_begins false [] [] [] i more is = absurd (cc)

pub spots_of_left : (b : Bool) (spots : List Spot) (spot : Spot) (more : List Spot) → (if b then spots else []) ≡ spot ∷ more → spots ≡ spot ∷ more
spots_of_left true spots spot more is = is
spots_of_left false spots spot more is = absurd (cc)

-- ---- the note of a commit

abbrev pub IsCommitNote : TaskId → Spot → List MsgId → Note → Type 0
IsCommitNote t s ms note = ((cs : List TaskId) × (note ≡ notes.Fired t s ms cs)) ⊎ ((by : By) × (note ≡ notes.Dead t s by))

of_dead : (task : Task) (ms : List MsgId) (cs : List TaskId) (dead : Option By) (note : Note) → note ≡ commit_note task ms dead (notes.Fired task.id task.spot ms cs) → IsCommitNote task.id task.spot ms note
of_dead task ms cs None note is = inl (cs, is)
of_dead task ms cs (Some by) note is = inr (by, is)

pub commit_notes : (w : Parts) (place : Place) (earlier : List Note) (task : Task) (ms : List MsgId) (note : Note) → note_of w place earlier (asks.Commit task ms) ≡ Some note → IsCommitNote task.id task.spot ms note
commit_notes w (places.Port p) earlier task ms note is = absurd (cc)
commit_notes w (places.Queue p) earlier task ms note is = absurd (cc)
commit_notes w places.Meter earlier task ms note is = absurd (cc)
commit_notes w (places.Site b k) earlier task ms note is = of_dead task ms [] (sites.dead_by (site_after b k earlier)) note (given_some _ _ note is).1
commit_notes w (places.Arbiter i) earlier task ms note is = by_part (slice_get w.arbiters i) is
  where
    by_kind : (part : ArbiterPart) (kind : Kind) → note_by_kind w i kind part earlier (asks.Commit task ms) ≡ Some note → IsCommitNote task.id task.spot ms note
    by_kind part kinds.Receive now = of_dead task ms [] (arbiters.dead_by (arbiter_after (first_branch w i) part earlier)) note (given_some _ _ note now).1
    by_kind part kinds.Choice now = of_dead task ms [] (arbiters.dead_by (arbiter_after (first_branch w i) part earlier)) note (given_some _ _ note now).1
    by_kind part kinds.Interleave now = of_dead task ms (interleaves.cut_note (interleave_after w i earlier) task.spot) (interleaves.dead_by (interleave_after w i earlier)) note (given_some _ _ note now).1

    by_part : (o : Option ArbiterPart) → note_at_arbiter w i o earlier (asks.Commit task ms) ≡ Some note → IsCommitNote task.id task.spot ms note
    by_part None now = absurd (cc)
    by_part (Some part) now = by_kind part part.kind now

-- ---- each step is one of them

module _ (w : Parts) (lacks : Lacks) (es : List Entry) (e : Entry) (step : Step w lacks es e) where
  abbrev st : State
  st = state_of w lacks es e.actor

  abbrev name : TaskId
  name = name_at e.actor st

  settled_by : (x : Asked) (more : List Asked) → st.hand ≡ x ∷ more → Given w es e x → (note : Note) → e.note ≡ note → Move w es e st (settled w st more (reply_of w es e))
  settled_by x more hand got (notes.Put t (Some d)) note = drops x more t d hand got note (rw note refl)
  settled_by x more hand got (notes.Put t None) note = settles x more hand got (rw note refl)
  settled_by x more hand got (notes.Post m) note = settles x more hand got (rw note refl)
  settled_by x more hand got (notes.Claim t s (Got k)) note = settles x more hand got (rw note refl)
  settled_by x more hand got (notes.Claim t s (Busy u)) note = settles x more hand got (rw note refl)
  settled_by x more hand got (notes.Claim t s (Short k)) note = settles x more hand got (rw note refl)
  settled_by x more hand got (notes.Consume t) note = settles x more hand got (rw note refl)
  settled_by x more hand got (notes.Free t) note = settles x more hand got (rw note refl)
  settled_by x more hand got (notes.Fired t s ms cs) note = settles x more hand got (rw note refl)
  settled_by x more hand got (notes.Dead t s by) note = settles x more hand got (rw note refl)
  settled_by x more hand got (notes.Admit t) note = settles x more hand got (rw note refl)
  settled_by x more hand got (notes.Over t r how) note = settles x more hand got (rw note refl)
  settled_by x more hand got (notes.Suspend t) note = settles x more hand got (rw note refl)
  settled_by x more hand got (notes.Book t r None) note = settles x more hand got (rw note refl)
  settled_by x more hand got (notes.Book t r (Some k)) note = settles x more hand got (rw note refl)
  settled_by x more hand got (notes.Unbook t) note = settles x more hand got (rw note refl)
  settled_by x more hand got (notes.Take t) note = settles x more hand got (rw note refl)
  settled_by x more hand got (notes.Draw None) note = settles x more hand got (rw note refl)
  settled_by x more hand got (notes.Draw (Some k)) note = settles x more hand got (rw note refl)
  settled_by x more hand got notes.Leave note = settles x more hand got (rw note refl)
  settled_by x more hand got (notes.Left k) note = settles x more hand got (rw note refl)

  -- an Interleave answers to an admission by its note alone
  admit_note_at : (i : ℕ) (note : Note) → note_of w (places.Arbiter i) (notes_at es (places.Arbiter i)) asks.Admit ≡ Some note → (t : Option TaskId) × (note ≡ notes.Admit t)
  admit_note_at i note is = by_part (slice_get w.arbiters i) is
    where
      by_kind : (part : ArbiterPart) (kind : Kind) → note_by_kind w i kind part (notes_at es (places.Arbiter i)) asks.Admit ≡ Some note → (t : Option TaskId) × (note ≡ notes.Admit t)
      by_kind part kinds.Receive now = absurd (cc)
      by_kind part kinds.Choice now = absurd (cc)
      by_kind part kinds.Interleave now = (interleaves.admit_note (interleave_after w i (notes_at es (places.Arbiter i))), cc)

      by_part : (o : Option ArbiterPart) → note_at_arbiter w i o (notes_at es (places.Arbiter i)) asks.Admit ≡ Some note → (t : Option TaskId) × (note ≡ notes.Admit t)
      by_part None now = absurd (cc)
      by_part (Some part) now = by_kind part part.kind now

  admitted_by : (i : ℕ) (more : List ℕ) → (st.hand ≡ []) × (st.domains ≡ i ∷ more) → Given w es e (at_place (places.Arbiter i) asks.Admit) → (t : Option TaskId) → e.note ≡ notes.Admit t → Move w es e st (after_admit st more (reply_of w es e))
  admitted_by i more begins got (Some t) note = admits i more t begins.0 begins.1 got note (rw note refl)
  admitted_by i more begins got None note = strikes i more begins.0 begins.1 got (rw note refl)

  driven : (spot : Spot) (more : List Spot) → st.hand ≡ [] → st.spots ≡ spot ∷ more → (ph : Phase) → st.phase ≡ ph → Given w es e (attempt_ask (plan_of w spot) name ph) → Move w es e st (after_attempt w e.actor st spot more (reply_of w es e))
  driven spot more hand spots booking phase got = by_full (queues.book_note (queue_at w es (plan_of w spot).queue) (resumes spot)) (given_some (queues.may_book (queue_at w es (plan_of w spot).queue) name) (notes.Book name (resumes spot) (queues.book_note (queue_at w es (plan_of w spot).queue) (resumes spot))) e.note got.gives).1
    where
      by_full : (o : Option ℕ) → e.note ≡ notes.Book name (resumes spot) o → Move w es e st (after_attempt w e.actor st spot more (reply_of w es e))
      by_full None note = books spot more hand spots phase got note (rw note refl)
      by_full (Some n) note = gives_up spot more hand spots (subst (λ p. Given w es e (attempt_ask (plan_of w spot) name p)) (sym phase) got) (rw note refl) (rw note refl)
  driven spot more hand spots (claiming (slot ∷ slots) had) phase got = by_answer (ports.claim_note (port_at es slot.port) slot) refl (given_some (ports.may_claim (port_at es slot.port) name slot) (notes.Claim name slot (ports.claim_note (port_at es slot.port) slot)) e.note got.gives).1
    where
      given_up : is_booked_by e.note ≡ false → after_attempt w e.actor st spot more (reply_of w es e) ≡ give_up w e.actor st spot more → Move w es e st (after_attempt w e.actor st spot more (reply_of w es e))
      given_up quiet is = gives_up spot more hand spots (subst (λ p. Given w es e (attempt_ask (plan_of w spot) name p)) (sym phase) got) quiet is

      by_answer : (o : ClaimNote) → ports.claim_note (port_at es slot.port) slot ≡ o → e.note ≡ notes.Claim name slot o → Move w es e st (after_attempt w e.actor st spot more (reply_of w es e))
      by_answer (Got k) is note = claims spot more slot slots had k hand spots phase got is note (rw (note, got.there, phase) refl)
      by_answer (Busy u) is note = given_up (rw note refl) (rw note refl)
      by_answer (Short k) is note = given_up (rw note refl) (rw note refl)
  driven spot more hand spots (claiming [] had) phase got = by_note (commit_notes w (commit_place (plan_of w spot) spot) (notes_at es (commit_place (plan_of w spot) spot)) (firing_task (plan_of w spot) name (in_pattern (plan_of w spot).pattern had)) (names_of (in_pattern (plan_of w spot).pattern had)) e.note got.gives)
    where
      by_note : IsCommitNote name spot (names_of (in_pattern (plan_of w spot).pattern had)) e.note → Move w es e st (after_attempt w e.actor st spot more (reply_of w es e))
      by_note (inl found) = fires spot more had found.0 hand spots phase got found.1 (rw found.1 refl)
      by_note (inr found) = gives_up spot more hand spots (subst (λ p. Given w es e (attempt_ask (plan_of w spot) name p)) (sym phase) got) (rw found.1 refl) (rw found.1 refl)

  pub moved : Move w es e st (after w e.actor st (reply_of w es e))
  moved = by (turn st) refl
    where
      worked : turn st ≡ go_on → (o : Option Asked) → work_ask e.actor st.work ≡ o → Move w es e st (after_work w st st.work (reply_of w es e))
      worked turns None asks_so = absurd (no_some _ step.asking asks_so (subst (λ u. ask_in w e.actor st u ≡ Some step.asking) turns step.asks))
      worked turns (Some x) asks_so = goes x turns asks_so (given_to w lacks es e step go_on x turns asks_so) refl

      by : (tu : Turn) → turn st ≡ tu → Move w es e st (after_in w e.actor st tu (reply_of w es e))
      by (settle x more) turns = settled_by x more (hand_settles st.is_short st.hand st.domains (spots_left st) x more turns) (given_to w lacks es e step (settle x more) x turns refl) e.note refl
      by (admit i more) turns = let got = given_to w lacks es e step (admit i more) (at_place (places.Arbiter i) asks.Admit) turns refl in let noted = admit_note_at i e.note got.gives in admitted_by i more (admit_begins st.is_short st.hand st.domains (spots_left st) i more turns) got noted.0 noted.1
      by (drive spot more) turns = let begins = spots_drive st.is_short st.hand st.domains (spots_left st) spot more turns in driven spot more begins.0 (spots_of_left (nat_lt st.attempt (2 ^ 32)) st.spots spot more begins.1) st.phase refl (given_to w lacks es e step (drive spot more) (attempt_ask (plan_of w spot) name st.phase) turns refl)
      by go_on turns = worked turns (work_ask e.actor st.work) refl
      by stop turns = absurd (no_some _ step.asking refl (subst (λ u. ask_in w e.actor st u ≡ Some step.asking) turns step.asks))

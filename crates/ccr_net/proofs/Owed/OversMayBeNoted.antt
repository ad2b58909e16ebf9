-- Each root that an actor is to note over for a dropped task may be noted so, and so may the root of a task at work.
use Rattle.std.proofs.Common.{inl, inr, ◌⊎◌, ◌≡◌, ◌≤◌, ◌<◌, ℕ, ◌+◌, Bool, true, false, not, ◌&&◌, ◌||◌, List, [], ◌∷◌, ◌++◌, map, Option, Some, None, refl, sym, arith, ap, ◌∙◌, subst, append-nil}
use Rattle.std.specs.Prelude.{◌==◌, if◌then◌else◌, IsSomeAnd}
use Rattle.std.specs.List.{slice_get}
use Rattle.std.specs.Option.{option_map_or}
use Rattle.std.specs.FinSet as set
use Rattle.ccr_base.specs.declared.names.Place.{Place}
use Rattle.ccr_base.specs.declared.names.Place.TheVariants as places
use Rattle.ccr_base.specs.declared.names.Spot.TheVariants.{Branch}
use Rattle.ccr_base.specs.declared.names.TaskId.{TaskId}
use Rattle.ccr_base.specs.declared.tasks.By.{By}
use Rattle.ccr_base.specs.declared.tasks.Cut.{Cut}
use Rattle.ccr_base.specs.declared.tasks.How.TheVariants as hows
use Rattle.ccr_base.specs.declared.tasks.Task.{Task}
use Rattle.ccr_base.specs.Names.{same_task, has_task}
use Rattle.ccr_wiring.specs.declared.parts.ArbiterPart.{ArbiterPart}
use Rattle.ccr_wiring.specs.declared.parts.Kind.{Kind}
use Rattle.ccr_wiring.specs.declared.parts.Kind.TheVariants as kinds
use Rattle.ccr_wiring.specs.declared.parts.Parts.{Parts}
use Rattle.ccr_wiring.specs.Valid.{HasDomains}
use Rattle.ccr_wiring.specs.Wirings.{Placement, placement, branch_of}
use Rattle.ccr_model.specs.declared.history.Event.{Event}
use Rattle.ccr_model.specs.declared.history.Event.TheVariants as events
use Rattle.ccr_model.specs.Firings.{Firing, firings, firing_named}
use Rattle.ccr_model.specs.Interleaves.{is_placement_in, is_of_interleave}
use Rattle.ccr_model.specs.Legal.{IsLegal}
use Rattle.ccr_model.specs.Rules.{is_concurrent_task}
use Rattle.ccr_model.specs.Sites.{root_of}
use Rattle.ccr_model.specs.TaskData.{placement_of}
use Rattle.ccr_model.specs.Tasks.{queued, is_interleave, is_over, is_branch_where}
use Rattle.ccr_base.proofs.Booleans.{same_number, eq-self, no_both, both, or_left, or_right, or_before, or_between, refuted, not_true, and_false}
use Rattle.ccr_model.proofs.AllowedDrops.{DropFacts, drop_allowed}
use Rattle.ccr_model.proofs.FiredTasks.{IsFired, placement_stays, root_stays}
use Rattle.ccr_model.proofs.AllowedFirings.{fired_by_has}
use Rattle.ccr_model.proofs.FiringPlacements.{firing_with_placement}
use Rattle.ccr_model.proofs.Roots.{AreRooted-legal, IsAtWork, at_work_admitted, running_works, queued_works, not_over}
use Rattle.ccr_base.proofs.SameNames.{same_task-is, same_task-self}
use Rattle.ccr_model.proofs.TaskLists.{among_left, of_one, has_at, not_more}
use Rattle.ccr_model.proofs.WhoWasPut.{ArePlaced-legal, placement_by}
use Rattle.ccr_places.specs.declared.notes.Note.{Note}
use Rattle.ccr_places.specs.declared.notes.Note.TheVariants as notes
use Rattle.ccr_places.specs.Arbiters.{ArbiterState}
use Rattle.ccr_places.specs.Arbiters as arbiters
use Rattle.ccr_places.specs.Interleaves.{InterleaveState, Waiting}
use Rattle.ccr_places.specs.Interleaves as interleaves
use Rattle.ccr_claim.specs.declared.asks.Ask.{Ask}
use Rattle.ccr_claim.specs.declared.asks.Ask.TheVariants as asks
use Rattle.ccr_claim.specs.declared.asks.Asked.{Asked}
use Rattle.ccr_claim.specs.Attempts.{at_place, attempt_ask, claiming, consume_ask, cut_ask, put_asks}
use Rattle.ccr_actor.specs.Plans.{plan_of, is_interleave_number}
use Rattle.ccr_actor.specs.Actors.{State, name_at}
use Rattle.ccr_runs.specs.declared.entries.Entry.{Entry}
use Rattle.ccr_runs.specs.Places.{note_of, note_at_arbiter, note_by_kind, arbiter_note, interleave_note, first_branch, arbiter_after, interleave_after, commit_note}
use Rattle.ccr_runs.specs.EntryRuns.{Lacks, state_of, notes_at, same_place, domain_at}
use Rattle.ccr_runs.specs.Views.{cut_view, domain_of_task}
use Rattle.ccr_runs.specs.Visible.{visible, shown}
use Rattle.ccr_net.proofs.Parts.OneMoreEntry.{Step, notes_at-push, visible-push}
use Rattle.ccr_net.proofs.Parts.PortsAndHandsMatch.{IsOwed}
use Rattle.ccr_net.proofs.Parts.ArbitersMatch.{fired_there, is_of, kept_shape, none_at_first}
use Rattle.ccr_net.proofs.Kept.WholeInvariant.{Holds}
use Rattle.ccr_net.proofs.Parts.TasksAreBookedOnce.{in-more, in-less}
use Rattle.ccr_net.proofs.Parts.DomainsMatch.{IsKeptRoot}
use Rattle.ccr_net.proofs.Parts.MeterMatches.{bit}
use Rattle.ccr_net.proofs.Owed.EntriesAreMoves.{handed}
use Rattle.ccr_net.proofs.Parts.NotesAnswerAsks.{Given, given_some, over_note}
use Rattle.ccr_net.proofs.Owed.NotedOversAreOver.{OversNoted, over_so, over_there}
use Rattle.ccr_net.proofs.Owed.EntriesChangeOwing.{Owes, less, dropped, admitted, booked, got, fired, same, ended, owes, is_quiet}
use Rattle.ccr_net.proofs.Owed.OwedByOneOnce.{owed_by, owed_each, last_allowed}
use Rattle.ccr_net.proofs.Owed.OwedByOneOnce as owed
use Rattle.ccr_net.proofs.Parts.GotNamesStandAlone.{found_member}
use Rattle.ccr_net.proofs.Parts.TasksStartOnce.{runs}
use Rattle.ccr_net.proofs.Played.PlacesByNumber.{same_place-is}

-- the root that the ask notes over
abbrev pub ends_root : Ask → List TaskId
ends_root (asks.Over t r how) = r ∷ []
ends_root _ = []

ends_root-quiet : (ask : Ask) → is_quiet ask ≡ true → ends_root ask ≡ []
ends_root-quiet (asks.Post m) is = refl
ends_root-quiet (asks.Claim t s) is = refl
ends_root-quiet (asks.Consume t) is = absurd (cc)
ends_root-quiet (asks.Free t) is = absurd (cc)
ends_root-quiet (asks.Commit t ms) is = refl
ends_root-quiet asks.Admit is = refl
ends_root-quiet (asks.Over t r how) is = absurd (cc)
ends_root-quiet (asks.Suspend t) is = refl
ends_root-quiet (asks.Book t r) is = refl
ends_root-quiet (asks.Unbook t) is = absurd (cc)
ends_root-quiet (asks.Put t) is = absurd (cc)
ends_root-quiet asks.Take is = refl
ends_root-quiet asks.Draw is = refl
ends_root-quiet asks.Leave is = refl
ends_root-quiet asks.Left is = refl

-- whether a root may be noted over at the arbiter
abbrev pub over_in : Parts → ℕ → Kind → ArbiterPart → List Note → TaskId → Bool
over_in w i kinds.Receive part earlier r = arbiters.may_over (arbiter_after (first_branch w i) part earlier) r
over_in w i kinds.Choice part earlier r = arbiters.may_over (arbiter_after (first_branch w i) part earlier) r
over_in w i kinds.Interleave part earlier r = interleaves.may_over (interleave_after w i earlier) r

abbrev pub over_of : Parts → ℕ → Option ArbiterPart → List Note → TaskId → Bool
over_of w i None earlier r = false
over_of w i (Some part) earlier r = over_in w i part.kind part earlier r

abbrev pub may_over_at : Parts → List Entry → ℕ → TaskId → Bool
may_over_at w es i r = over_of w i (slice_get w.arbiters i) (notes_at es (places.Arbiter i)) r

abbrev is_about : ℕ → TaskId → Asked → Bool
is_about i r x = owed.is_about places.Arbiter ends_root i r x

abbrev many : ℕ → TaskId → List Asked → ℕ
many i r xs = owed.many places.Arbiter ends_root i r xs

-- the ends of dropped tasks are owed once
abbrev pub OversStand : Parts → Lacks → List Entry → Type 0
OversStand w lacks es = owed.OwedOnce places.Arbiter ends_root w lacks (may_over_at w) es

-- ---- a note at an arbiter

over_still : (st : ArbiterState) (u r : TaskId) → arbiters.may_over st r ≡ true → (arbiters.may_over (arbiters.after_over st u) r ≡ true) ⊎ (has_task (u ∷ []) r ≡ true)
over_still st u r is = by (has_task (u ∷ []) r) refl
  where
    parts : (has_task st.fired r ≡ true) × (not (has_task st.over r) ≡ true)
    parts = both (has_task st.fired r) (not (has_task st.over r)) is

    by : (b : Bool) → has_task (u ∷ []) r ≡ b → (arbiters.may_over (arbiters.after_over st u) r ≡ true) ⊎ (b ≡ true)
    by true e = inr refl
    by false e = inl (let none : has_task (st.over ++ u ∷ []) r ≡ false = not_more st.over (u ∷ []) r (not_true _ parts.1) e in rw (parts.0, none) refl)

over_kept : (st : ArbiterState) (ask : Ask) (note : Note) (r : TaskId) → arbiter_note st ask ≡ Some note → arbiters.may_over st r ≡ true → (arbiters.may_over (arbiters.after st note) r ≡ true) ⊎ (has_task (ends_root ask) r ≡ true)
over_kept st (asks.Commit t ms) note r is stands = by_dead (arbiters.dead_by st) ((given_some (arbiters.may_commit st t) (commit_note t ms (arbiters.dead_by st) (notes.Fired t.id t.spot ms [])) note is).1)
  where
    parts : (has_task st.fired r ≡ true) × (not (has_task st.over r) ≡ true)
    parts = both (has_task st.fired r) (not (has_task st.over r)) stands

    by_dead : (dead : Option By) → note ≡ commit_note t ms dead (notes.Fired t.id t.spot ms []) → (arbiters.may_over (arbiters.after st note) r ≡ true) ⊎ (has_task [] r ≡ true)
    by_dead None noted = inl (rw (noted, among_left st.fired (t.id ∷ []) r parts.0) parts.1)
    by_dead (Some dead) noted = inl (rw noted stands)
over_kept st (asks.Over t u how) note r is stands = of_still (over_still st u r stands)
  where
    of_still : (arbiters.may_over (arbiters.after_over st u) r ≡ true) ⊎ (has_task (u ∷ []) r ≡ true) → (arbiters.may_over (arbiters.after st note) r ≡ true) ⊎ (has_task (u ∷ []) r ≡ true)
    of_still (inl now) = inl (rw ((given_some (arbiters.may_over st u) (notes.Over t u how) note is).1) now)
    of_still (inr about) = inr about
over_kept st (asks.Post m) note r is stands = absurd (cc)
over_kept st (asks.Claim u s) note r is stands = absurd (cc)
over_kept st (asks.Consume u) note r is stands = absurd (cc)
over_kept st (asks.Free u) note r is stands = absurd (cc)
over_kept st asks.Admit note r is stands = absurd (cc)
over_kept st (asks.Suspend u) note r is stands = absurd (cc)
over_kept st (asks.Book u b) note r is stands = absurd (cc)
over_kept st (asks.Unbook u) note r is stands = absurd (cc)
over_kept st (asks.Put u) note r is stands = absurd (cc)
over_kept st asks.Take note r is stands = absurd (cc)
over_kept st asks.Draw note r is stands = absurd (cc)
over_kept st asks.Leave note r is stands = absurd (cc)
over_kept st asks.Left note r is stands = absurd (cc)

-- ---- a note at a domain

with_root : (place : InterleaveState) (x : Waiting) (r : TaskId) → interleaves.is_admitted place r ≡ true → interleaves.is_admitted (interleaves.with_root place x) r ≡ true
with_root place x r is = by (interleaves.is_concurrent (interleaves.group_at place x.spot))
  where
    by : (b : Bool) → (set.contains (if b then set.insert place.shared x.task else place.shared) r || set.contains (if b then place.alone else set.insert place.alone x.task) r) ≡ true
    by true = rw (in-more place.shared x.task r) (or_before (same_task r x.task) (set.contains place.shared r) (set.contains place.alone r) is)
    by false = rw (in-more place.alone x.task r) (or_between (same_task r x.task) (set.contains place.shared r) (set.contains place.alone r) is)

admission : (place : InterleaveState) (o : Option TaskId) (r : TaskId) → interleaves.is_admitted place r ≡ true → interleaves.is_admitted (interleaves.after_admit place o) r ≡ true
admission place None r is = is
admission place (Some t) r is = by (slice_get place.waiting 0) refl
  where
    by : (o : Option Waiting) → slice_get place.waiting 0 ≡ o → interleaves.is_admitted (interleaves.after_admission place) r ≡ true
    by None e = rw e is
    by (Some x) e = rw e (with_root place x r is)

domain_kept : (place : InterleaveState) (ask : Ask) (note : Note) (r : TaskId) → interleave_note place ask ≡ Some note → interleaves.may_over place r ≡ true → (interleaves.may_over (interleaves.after place note) r ≡ true) ⊎ (has_task (ends_root ask) r ≡ true)
domain_kept place (asks.Commit t ms) note r is stands = by_dead (interleaves.dead_by place) ((given_some (interleaves.may_commit place t) (commit_note t ms (interleaves.dead_by place) (notes.Fired t.id t.spot ms (interleaves.cut_note place t.spot))) note is).1)
  where
    by_dead : (dead : Option By) → note ≡ commit_note t ms dead (notes.Fired t.id t.spot ms (interleaves.cut_note place t.spot)) → (interleaves.may_over (interleaves.after place note) r ≡ true) ⊎ (has_task [] r ≡ true)
    by_dead None noted = inl (rw noted stands)
    by_dead (Some dead) noted = inl (rw noted stands)
domain_kept place asks.Admit note r is stands = inl (rw noted (admission place (interleaves.admit_note place) r stands))
  where
    noted : note ≡ notes.Admit (interleaves.admit_note place)
    noted = cc
domain_kept place (asks.Over t u how) note r is stands = by (same_task r u) refl
  where
    noted : note ≡ notes.Over t u how
    noted = (given_some (interleaves.may_over place u) (notes.Over t u how) note is).1

    by : (b : Bool) → same_task r u ≡ b → (interleaves.may_over (interleaves.after place note) r ≡ true) ⊎ (b || false ≡ true)
    by true e = inr refl
    by false e = inl (rw (noted, in-less place.shared u r, in-less place.alone u r, e) stands)
domain_kept place (asks.Post m) note r is stands = absurd (cc)
domain_kept place (asks.Claim u s) note r is stands = absurd (cc)
domain_kept place (asks.Consume u) note r is stands = absurd (cc)
domain_kept place (asks.Free u) note r is stands = absurd (cc)
domain_kept place (asks.Suspend u) note r is stands = absurd (cc)
domain_kept place (asks.Book u b) note r is stands = absurd (cc)
domain_kept place (asks.Unbook u) note r is stands = absurd (cc)
domain_kept place (asks.Put u) note r is stands = absurd (cc)
domain_kept place asks.Take note r is stands = absurd (cc)
domain_kept place asks.Draw note r is stands = absurd (cc)
domain_kept place asks.Leave note r is stands = absurd (cc)
domain_kept place asks.Left note r is stands = absurd (cc)

pub arbiter-push : (first : ℕ) (part : ArbiterPart) (earlier : List Note) (note : Note) → arbiter_after first part (earlier ++ note ∷ []) ≡ arbiters.after (arbiter_after first part earlier) note
arbiter-push first part earlier note = pushed (arbiter_after first part []) earlier
  where
    pushed : (st : ArbiterState) (earlier : List Note) → arbiters.kept st (earlier ++ note ∷ []) ≡ arbiters.after (arbiters.kept st earlier) note
    pushed st [] = refl
    pushed st (x ∷ earlier) = pushed (arbiters.after st x) earlier

pub domain-push : (w : Parts) (i : ℕ) (earlier : List Note) (note : Note) → interleave_after w i (earlier ++ note ∷ []) ≡ interleaves.after (interleave_after w i earlier) note
domain-push w i earlier note = pushed (interleave_after w i []) earlier
  where
    pushed : (st : InterleaveState) (earlier : List Note) → interleaves.kept st (earlier ++ note ∷ []) ≡ interleaves.after (interleaves.kept st earlier) note
    pushed st [] = refl
    pushed st (x ∷ earlier) = pushed (interleaves.after st x) earlier

part_kept : (w : Parts) (i : ℕ) (o : Option ArbiterPart) (earlier : List Note) (ask : Ask) (note : Note) (r : TaskId) → note_at_arbiter w i o earlier ask ≡ Some note → over_of w i o earlier r ≡ true → (over_of w i o (earlier ++ note ∷ []) r ≡ true) ⊎ (has_task (ends_root ask) r ≡ true)
part_kept w i None earlier ask note r is stands = absurd (cc)
part_kept w i (Some part) earlier ask note r is stands = by part.kind is stands
  where
    by : (kind : Kind) → note_by_kind w i kind part earlier ask ≡ Some note → over_in w i kind part earlier r ≡ true → (over_in w i kind part (earlier ++ note ∷ []) r ≡ true) ⊎ (has_task (ends_root ask) r ≡ true)
    by kinds.Receive now over = rw (arbiter-push (first_branch w i) part earlier note) (over_kept (arbiter_after (first_branch w i) part earlier) ask note r now over)
    by kinds.Choice now over = rw (arbiter-push (first_branch w i) part earlier note) (over_kept (arbiter_after (first_branch w i) part earlier) ask note r now over)
    by kinds.Interleave now over = rw (domain-push w i earlier note) (domain_kept (interleave_after w i earlier) ask note r now over)

-- ---- who is at work

none_over_first : (first : ℕ) (part : ArbiterPart) → (arbiter_after first part []).over ≡ []
none_over_first first part = by part.kind refl
  where
    by : (kind : Kind) → part.kind ≡ kind → (arbiter_after first part []).over ≡ []
    by kinds.Receive is = rw is refl
    by kinds.Choice is = rw is refl
    by kinds.Interleave is = rw is refl

kept_admitted : (b : Bool) (place : InterleaveState) (r : TaskId) → IsKeptRoot b place r → interleaves.is_admitted place r ≡ true
kept_admitted true place r is = or_left _ _ is
kept_admitted false place r is = or_right (set.contains place.shared r) _ is

module _ (w : Parts) (domains : HasDomains w) (n : ℕ) (lacks : Lacks) (es : List Entry) (holds : Holds w n lacks es) (noted : OversNoted es) where
  abbrev h : List Event
  h = visible es

  -- the root of who is at work may be noted over
  pub at_work_may : (t : TaskId) → IsAtWork h t → may_over_at w es (domain_of_task w h t) (root_of h t) ≡ true
  at_work_may t work = ap (λ i. may_over_at w es i root) (ap (λ o. option_map_or (λ (z : Placement). z.domain) o 0) placed) ∙ of_part (slice_get w.arbiters s.domain) refl (domains (branch_of fires.0.spot) s found.1)
    where
      root : TaskId
      root = root_of h t

      fires : IsFired h t
      fires = (ArePlaced-legal w h holds.legal).all_fired t work.put_so

      found : (r : Placement) × (placement w (branch_of fires.0.spot) ≡ Some r)
      found = firing_with_placement w h holds.legal fires.0 (found_member (λ (f : Firing). same_task f.task t) (firings h) fires.0 fires.1).0

      s : Placement
      s = found.0

      placed : placement_of w h t ≡ Some s
      placed = placement_by w h t fires.0 fires.1 ∙ found.1

      earlier : List Note
      earlier = notes_at es (places.Arbiter s.domain)

      ordinary : (part : ArbiterPart) → arbiters.may_over (arbiter_after (first_branch w s.domain) part earlier) root ≡ true
      ordinary part = rw (there, none) refl
        where
          start : ArbiterState
          start = arbiter_after (first_branch w s.domain) part []

          rooted : (g : Firing) × (firing_named h root ≡ Some g) × (g.spot ≡ Branch (branch_of fires.0.spot))
          rooted = AreRooted-legal w h holds.legal t fires.0 fires.1

          passes : is_branch_where w (is_of s.domain) rooted.0.spot ≡ true
          passes = ap (is_branch_where w (is_of s.domain)) rooted.2 ∙ ap (λ o. option_map_or (is_of s.domain) o false) found.1 ∙ eq-self s.domain

          there : has_task (arbiter_after (first_branch w s.domain) part earlier).fired root ≡ true
          there = ap (λ ts. has_task ts root) ((kept_shape start earlier).fired ∙ ap (λ ts. ts ++ fired_there earlier) (none_at_first (first_branch w s.domain) part) ∙ holds.arbiters s.domain) ∙ fired_by_has w (is_of s.domain) h root rooted.0 rooted.1 passes

          none : has_task (arbiter_after (first_branch w s.domain) part earlier).over root ≡ false
          none = refuted _ (λ is. no_both (noted s.domain root (subst (λ ts. has_task ts root ≡ true) (over_so start earlier ∙ ap (λ ts. ts ++ over_there earlier) (none_over_first (first_branch w s.domain) part)) is)) (not_over w h holds.legal t work))

      of_part : (o : Option ArbiterPart) → slice_get w.arbiters s.domain ≡ o → IsSomeAnd o (λ (part : ArbiterPart). part.kind ≡ s.kind) → over_of w s.domain o earlier root ≡ true
      of_part None at none = absurd none
      of_part (Some part) at kind_so = by_kind part.kind refl
        where
          shared : part.kind ≡ kinds.Interleave → interleaves.may_over (interleave_after w s.domain earlier) root ≡ true
          shared is = kept_admitted (is_concurrent_task w h root) (domain_at w es s.domain) root ((holds.domains s.domain number).roots_so root (at_work_admitted w h holds.legal s.domain t within work))
            where
              number : is_interleave_number w s.domain ≡ true
              number = ap (λ o. option_map_or (λ (p : ArbiterPart). is_interleave p.kind) o false) at ∙ ap is_interleave is

              within : is_of_interleave w h s.domain t ≡ true
              within = ap (λ o. option_map_or (is_placement_in s.domain) o false) placed ∙ ap (λ k. is_interleave k && (s.domain == s.domain)) (sym kind_so ∙ is) ∙ eq-self s.domain

          by_kind : (kind : Kind) → part.kind ≡ kind → over_in w s.domain kind part earlier root ≡ true
          by_kind kinds.Receive is = ordinary part
          by_kind kinds.Choice is = ordinary part
          by_kind kinds.Interleave is = shared is

  -- who owes the end of a dropped task owes it for a root that is over
  lasts : (r : TaskId) → is_over h r ≡ false → (a bound : ℕ) (place : Place) (ask : Ask) → IsOwed w h a bound place ask → has_task (ends_root ask) r ≡ false
  lasts r out a bound place (asks.Over t u hows.Dropped) is = of_test (has_task (u ∷ []) r) refl
    where
      of_test : (b : Bool) → has_task (u ∷ []) r ≡ b → has_task (u ∷ []) r ≡ false
      of_test false e = e
      of_test true e = absurd (no_both (subst (λ x. is_over h x ≡ true) (sym (of_one u r e)) is) out)
  lasts r out a bound place (asks.Over t u hows.Done) is = absurd is
  lasts r out a bound place (asks.Over t u (hows.Failed value)) is = absurd is
  lasts r out a bound place (asks.Over t u hows.Shed) is = absurd is
  lasts r out a bound place (asks.Post m) is = refl
  lasts r out a bound place (asks.Claim u s) is = refl
  lasts r out a bound place (asks.Consume u) is = refl
  lasts r out a bound place (asks.Free u) is = refl
  lasts r out a bound place (asks.Commit u ms) is = refl
  lasts r out a bound place asks.Admit is = refl
  lasts r out a bound place (asks.Suspend u) is = refl
  lasts r out a bound place (asks.Book u b) is = refl
  lasts r out a bound place (asks.Unbook u) is = refl
  lasts r out a bound place (asks.Put u) is = refl
  lasts r out a bound place asks.Take is = refl
  lasts r out a bound place asks.Draw is = refl
  lasts r out a bound place asks.Leave is = refl
  lasts r out a bound place asks.Left is = refl

  lasts_none : (r : TaskId) → is_over h r ≡ false → (a i : ℕ) → many i r (owed_by w lacks es a) ≡ 0
  lasts_none r out a i = owed.many-zero places.Arbiter ends_root i r (owed_by w lacks es a) (λ x is. of_owed x (owed_each w n lacks es holds a x is))
    where
      of_owed : (x : Asked) → (bound : ℕ) × IsOwed w h a bound x.place x.ask → is_about i r x ≡ false
      of_owed x is = rw (lasts r out a is.0 x.place x.ask is.1) (and_false (same_place x.place (places.Arbiter i)))

-- ---- one entry

-- a put is noted for no such ask
put_no_over : (w : Parts) (earlier : List Note) (place : Place) (ask : Ask) (note : Note) (t : TaskId) (d : Option TaskId) (i : ℕ) (r : TaskId) → note_of w place earlier ask ≡ Some note → note ≡ notes.Put t d → (same_place place (places.Arbiter i) && has_task (ends_root ask) r) ≡ false
put_no_over w earlier (places.Arbiter j) (asks.Over u v how) note t d i r gives is = absurd (let over = over_note w u v how j (slice_get w.arbiters j) earlier note gives in let both_are : notes.Over u v how ≡ notes.Put t d = sym over ∙ is in cc)
put_no_over w earlier (places.Port j) (asks.Over u v how) note t d i r gives is = refl
put_no_over w earlier (places.Site j k) (asks.Over u v how) note t d i r gives is = refl
put_no_over w earlier (places.Queue j) (asks.Over u v how) note t d i r gives is = refl
put_no_over w earlier places.Meter (asks.Over u v how) note t d i r gives is = refl
put_no_over w earlier place (asks.Post m) note t d i r gives is = and_false (same_place place (places.Arbiter i))
put_no_over w earlier place (asks.Claim u s) note t d i r gives is = and_false (same_place place (places.Arbiter i))
put_no_over w earlier place (asks.Consume u) note t d i r gives is = and_false (same_place place (places.Arbiter i))
put_no_over w earlier place (asks.Free u) note t d i r gives is = and_false (same_place place (places.Arbiter i))
put_no_over w earlier place (asks.Commit u ms) note t d i r gives is = and_false (same_place place (places.Arbiter i))
put_no_over w earlier place asks.Admit note t d i r gives is = and_false (same_place place (places.Arbiter i))
put_no_over w earlier place (asks.Suspend u) note t d i r gives is = and_false (same_place place (places.Arbiter i))
put_no_over w earlier place (asks.Book u b) note t d i r gives is = and_false (same_place place (places.Arbiter i))
put_no_over w earlier place (asks.Unbook u) note t d i r gives is = and_false (same_place place (places.Arbiter i))
put_no_over w earlier place (asks.Put u) note t d i r gives is = and_false (same_place place (places.Arbiter i))
put_no_over w earlier place asks.Take note t d i r gives is = and_false (same_place place (places.Arbiter i))
put_no_over w earlier place asks.Draw note t d i r gives is = and_false (same_place place (places.Arbiter i))
put_no_over w earlier place asks.Leave note t d i r gives is = and_false (same_place place (places.Arbiter i))
put_no_over w earlier place asks.Left note t d i r gives is = and_false (same_place place (places.Arbiter i))

module _ (w : Parts) (domains : HasDomains w) (n : ℕ) (lacks : Lacks) (es : List Entry) (e : Entry) (step : Step w lacks es e) (holds : Holds w n lacks es) (holds' : Holds w n lacks (es ++ e ∷ [])) (noted : OversNoted es) where
  abbrev st : State
  st = state_of w lacks es e.actor

  abbrev name : TaskId
  name = name_at e.actor st

  abbrev now : List Event
  now = visible es

  abbrev after : List Event
  after = visible (es ++ e ∷ [])

  kept_or_taken : (x : Asked) → Given w es e x → (i : ℕ) (r : TaskId) → may_over_at w es i r ≡ true → (may_over_at w (es ++ e ∷ []) i r ≡ true) ⊎ (is_about i r x ≡ true)
  kept_or_taken x given i r stands = by (same_place x.place (places.Arbiter i)) refl
    where
      with_note : Bool → List Note
      with_note c = notes_at es (places.Arbiter i) ++ (if c then e.note ∷ [] else [])

      changes : notes_at (es ++ e ∷ []) (places.Arbiter i) ≡ with_note (same_place x.place (places.Arbiter i))
      changes = notes_at-push es e (places.Arbiter i) ∙ ap (λ pl. with_note (same_place pl (places.Arbiter i))) given.there

      seen : (c : Bool) → same_place x.place (places.Arbiter i) ≡ c → may_over_at w (es ++ e ∷ []) i r ≡ over_of w i (slice_get w.arbiters i) (with_note c) r
      seen c at = ap (λ notes. over_of w i (slice_get w.arbiters i) notes r) (changes ∙ ap with_note at)

      by : (b : Bool) → same_place x.place (places.Arbiter i) ≡ b → (may_over_at w (es ++ e ∷ []) i r ≡ true) ⊎ (b && has_task (ends_root x.ask) r ≡ true)
      by false at = inl (seen false at ∙ ap (λ notes. over_of w i (slice_get w.arbiters i) notes r) (append-nil (notes_at es (places.Arbiter i))) ∙ stands)
      by true at = of_kept (part_kept w i (slice_get w.arbiters i) (notes_at es (places.Arbiter i)) x.ask e.note r gives stands)
        where
          gives : note_at_arbiter w i (slice_get w.arbiters i) (notes_at es (places.Arbiter i)) x.ask ≡ Some e.note
          gives = rw (same_place-is x.place (places.Arbiter i) at) at given.gives

          of_kept : (over_of w i (slice_get w.arbiters i) (notes_at es (places.Arbiter i) ++ e.note ∷ []) r ≡ true) ⊎ (has_task (ends_root x.ask) r ≡ true) → (may_over_at w (es ++ e ∷ []) i r ≡ true) ⊎ (true && has_task (ends_root x.ask) r ≡ true)
          of_kept (inl is) = inl (seen true at ∙ is)
          of_kept (inr is) = inr is

  about_quiet : (x : Asked) (i : ℕ) (r : TaskId) → is_quiet x.ask ≡ true → is_about i r x ≡ false
  about_quiet x i r quiet = rw (ends_root-quiet x.ask quiet) (and_false (same_place x.place (places.Arbiter i)))

  abbrev On : Type 0
  On = owed.OwesOn places.Arbiter ends_root w lacks (may_over_at w) es e

  abbrev IsNew : ℕ → TaskId → Type 0
  IsNew i r = owed.New places.Arbiter ends_root w lacks (may_over_at w) es e i r

  abbrev new : List Asked
  new = owed_by w lacks (es ++ e ∷ []) e.actor

  abbrev old : List Asked
  old = owed_by w lacks es e.actor

  others_stay : (x : Asked) → Given w es e x → ((i : ℕ) (r : TaskId) → is_about i r x ≡ false) → (a i : ℕ) (r : TaskId) → 1 ≤ many i r (owed_by w lacks es a) → may_over_at w es i r ≡ true → (may_over_at w (es ++ e ∷ []) i r ≡ true) ⊎ (many i r new < many i r old)
  others_stay x given none a i r some stands = of_kept (kept_or_taken x given i r stands)
    where
      of_kept : (may_over_at w (es ++ e ∷ []) i r ≡ true) ⊎ (is_about i r x ≡ true) → (may_over_at w (es ++ e ∷ []) i r ≡ true) ⊎ (many i r new < many i r old)
      of_kept (inl is) = inl is
      of_kept (inr is) = absurd (no_both is (none i r))

  no_more : ((i : ℕ) (r : TaskId) → many i r new ≤ many i r old) → (x : Asked) → Given w es e x → ((i : ℕ) (r : TaskId) → is_about i r x ≡ false) → On
  no_more le x given none = record { own = λ i r. inl (le i r); stays = others_stay x given none }

  taken_first : (x : Asked) → Given w es e x → old ≡ x ∷ new → On
  taken_first x given split = record {
    own = λ i r. inl (let was = ap (many i r) split in omega (arith, was));
    stays = λ a i r some stands. of_kept i r (kept_or_taken x given i r stands);
  }
    where
      of_kept : (i : ℕ) (r : TaskId) → (may_over_at w (es ++ e ∷ []) i r ≡ true) ⊎ (is_about i r x ≡ true) → (may_over_at w (es ++ e ∷ []) i r ≡ true) ⊎ (many i r new < many i r old)
      of_kept i r (inl is) = inl is
      of_kept i r (inr is) = inr (let one = ap bit is in let was = ap (many i r) split in omega (arith, one, was))

  -- one more is about this root at this arbiter
  one_more : (j : ℕ) (u : TaskId) → ((r : TaskId) → (i : ℕ) → many i r new ≡ bit ((j == i) && (same_task r u || false)) + many i r old) → IsNew j u → (i : ℕ) (r : TaskId) → (many i r new ≤ many i r old) ⊎ IsNew i r
  one_more j u count is_new i r = by (j == i) refl (same_task r u) refl
    where
      by : (b : Bool) → (j == i) ≡ b → (c : Bool) → same_task r u ≡ c → (many i r new ≤ many i r old) ⊎ IsNew i r
      by false at c named = inl (let one : many i r new ≡ bit (false && (same_task r u || false)) + many i r old = count r i ∙ ap (λ b. bit (b && (same_task r u || false)) + many i r old) at in omega (arith, one))
      by true at false named = inl (let one : many i r new ≡ bit (true && false) + many i r old = count r i ∙ (λ k. bit (at k && (named k || false)) + many i r old) in omega (arith, one))
      by true at true named = inr (subst (λ k. IsNew k r) (same_number j i at) (subst (IsNew j) (sym (same_task-is r u named)) is_new))

  on_of : Owes w es e st old new → On
  on_of (less x given split) = taken_first x given split
  on_of (dropped x rest t d given note split is) = record { own = one_more (domain_of_task w after d) (root_of after d) (λ r i. count i r) is_new; stays = others_stay x given no_over }
    where
      no_over : (i : ℕ) (r : TaskId) → is_about i r x ≡ false
      no_over i r = put_no_over w (notes_at es x.place) x.place x.ask e.note t (Some d) i r given.gives note

      count : (i : ℕ) (r : TaskId) → many i r new ≡ bit ((domain_of_task w after d == i) && (same_task r (root_of after d) || false)) + many i r old
      count i r = let one = ap (many i r) is in let was = ap (many i r) split in let none = ap bit (no_over i r) in omega (arith, one, was, none)

      event : Event
      event = events.Put t (Some d)

      shows : after ≡ now ++ event ∷ []
      shows = visible-push es e ∙ ap (λ m. now ++ shown e.actor m) note

      facts : DropFacts w now t d
      facts = drop_allowed w now t d (last_allowed w now event (subst (IsLegal w) shows holds'.legal))

      work : IsAtWork now d
      work = queued_works w now holds.legal facts.its.branch.queue d (has_at (queued w now facts.its.branch.queue) 0 d facts.oldest)

      fires : IsFired now d
      fires = (ArePlaced-legal w now holds.legal).all_fired d work.put_so

      root_so : root_of after d ≡ root_of now d
      root_so = ap (λ g. root_of g d) shows ∙ root_stays now (event ∷ []) d fires

      arbiter_so : domain_of_task w after d ≡ domain_of_task w now d
      arbiter_so = ap (λ g. domain_of_task w g d) shows ∙ ap (λ o. option_map_or (λ (s : Placement). s.domain) o 0) (placement_stays w now (event ∷ []) d fires)

      lasting : is_over now (root_of after d) ≡ false
      lasting = ap (is_over now) root_so ∙ not_over w now holds.legal d work

      may_before : may_over_at w es (domain_of_task w after d) (root_of after d) ≡ true
      may_before = (λ k. may_over_at w es (arbiter_so k) (root_so k)) ∙ at_work_may w domains n lacks es holds noted d work

      nobody : (b : ℕ) → many (domain_of_task w after d) (root_of after d) (owed_by w lacks es b) ≡ 0
      nobody b = lasts_none w domains n lacks es holds noted (root_of after d) lasting b (domain_of_task w after d)

      is_new : IsNew (domain_of_task w after d) (root_of after d)
      is_new = record {
        one = let one = count (domain_of_task w after d) (root_of after d) in let self : bit ((domain_of_task w after d == domain_of_task w after d) && (same_task (root_of after d) (root_of after d) || false)) ≡ 1 = rw (eq-self (domain_of_task w after d), same_task-self (root_of after d)) refl in let none = nobody e.actor in omega (arith, one, self, none);
        met = of_kept (kept_or_taken x given (domain_of_task w after d) (root_of after d) may_before);
        nobody = λ b other. nobody b;
      }
        where
          of_kept : (may_over_at w (es ++ e ∷ []) (domain_of_task w after d) (root_of after d) ≡ true) ⊎ (is_about (domain_of_task w after d) (root_of after d) x ≡ true) → may_over_at w (es ++ e ∷ []) (domain_of_task w after d) (root_of after d) ≡ true
          of_kept (inl kept) = kept
          of_kept (inr about) = absurd (no_both about (no_over (domain_of_task w after d) (root_of after d)))
  on_of (admitted i more t numbers given note is) = no_more (λ k r. (let one = ap (many k r) is in omega (arith, one))) _ given (λ k r. about_quiet (at_place (places.Arbiter i) asks.Admit) k r refl)
  on_of (booked spot given note was is) = no_more (λ k r. (let one = ap (many k r) is in omega (arith, one))) _ given (λ k r. refl)
  on_of (got d k given free note is) = no_more (λ j r. (let one = ap (many j r) is in omega (arith, one))) _ given (λ j r. about_quiet (at_place (places.Port d.slot.port) (asks.Claim name d.slot)) j r refl)
  on_of (same x given quiet is) = no_more (λ k r. (let one = ap (many k r) is in omega (arith, one))) x given (λ k r. about_quiet x k r quiet)
  on_of (fired spot more had cs spots phase given note was is) = no_more counted _ given (λ k r. about_quiet (attempt_ask (plan_of w spot) name (claiming [] had)) k r refl)
    where
      task : Option Task
      task = handed w es e name spot

      cuts : List Cut
      cuts = map (cut_view w after) cs

      none_put : (o : Option Task) (k : ℕ) (r : TaskId) → many k r (put_asks o) ≡ 0
      none_put None k r = refl
      none_put (Some v) k r = refl

      counted : (k : ℕ) (r : TaskId) → many k r new ≤ many k r old
      counted k r =
          let one = ap (many k r) is ∙ owed.many-append places.Arbiter ends_root k r (map (consume_ask name) had) (map cut_ask cuts ++ put_asks task) in
          let behind = owed.many-append places.Arbiter ends_root k r (map cut_ask cuts) (put_asks task) in
          let no_cuts = owed.many-none places.Arbiter ends_root k r cut_ask (λ c. refl) cuts in
          let no_had = owed.many-none places.Arbiter ends_root k r (consume_ask name) (λ c. refl) had in
          let no_put = none_put task k r in
          omega (arith, one, behind, no_cuts, no_had, no_put)
  on_of (ended task how given last run is) = record { own = λ i r. inl (let one = ap (many i r) is in omega (arith, one)); stays = stays }
    where
      work : IsAtWork now task.id
      work = running_works w now holds.legal task.id (runs now e.actor task.id run.alone)

      lasting : is_over now task.root ≡ false
      lasting = ap (is_over now) (ap (λ (t : Task). t.root) run.as_seen) ∙ not_over w now holds.legal task.id work

      -- nobody owes the end of a root that isn't over
      stays : (a i : ℕ) (r : TaskId) → 1 ≤ many i r (owed_by w lacks es a) → may_over_at w es i r ≡ true → (may_over_at w (es ++ e ∷ []) i r ≡ true) ⊎ (many i r new < many i r old)
      stays a i r some may = of_kept (kept_or_taken (at_place (places.Arbiter task.arbiter) (asks.Over task.id task.root how)) given i r may)
        where
          of_kept : (may_over_at w (es ++ e ∷ []) i r ≡ true) ⊎ ((task.arbiter == i) && has_task (task.root ∷ []) r ≡ true) → (may_over_at w (es ++ e ∷ []) i r ≡ true) ⊎ (many i r new < many i r old)
          of_kept (inl kept) = inl kept
          of_kept (inr about) = absurd (let same_root = of_one task.root r (both (task.arbiter == i) (has_task (task.root ∷ []) r) about).1 in let none = lasts_none w domains n lacks es holds noted task.root lasting a i in let mine : many i r (owed_by w lacks es a) ≡ 0 = ap (λ u. many i u (owed_by w lacks es a)) same_root ∙ none in omega (arith, mine, some))

  pub overs_on : On
  overs_on = on_of (owes w n lacks es e holds step)

-- A root is noted over once, at its domain.
use Rattle.std.proofs.Common.{◌⊎◌, inr, inl, ◌≡◌, ◌≤◌, ◌<◌, ℕ, zero, suc, ◌+◌, Bool, true, false, not, ◌&&◌, ◌||◌, List, [], ◌∷◌, ◌++◌, length, Option, Some, None, refl, sym, arith, ap, ◌∙◌, subst, append-nil}
use Rattle.std.specs.Prelude.{if◌then◌else◌, slice_get}
use Rattle.std.specs.FinSet as set
use Rattle.std.specs.Option.{option_map_or}
use Rattle.ccr_base.specs.declared.names.Place.{Place}
use Rattle.ccr_base.specs.declared.names.Place.TheVariants as places
use Rattle.ccr_base.specs.declared.names.TaskId.{TaskId}
use Rattle.ccr_base.specs.declared.tasks.By.{By}
use Rattle.ccr_base.specs.declared.tasks.How.{How}
use Rattle.ccr_base.specs.Names.{same_task, has_task}
use Rattle.ccr_wiring.specs.declared.parts.ArbiterPart.{ArbiterPart}
use Rattle.ccr_wiring.specs.declared.parts.Kind.{Kind}
use Rattle.ccr_wiring.specs.declared.parts.Kind.TheVariants as kinds
use Rattle.ccr_wiring.specs.declared.parts.Parts.{Parts}
use Rattle.ccr_wiring.specs.Valid.{IsValid}
use Rattle.ccr_wiring.specs.Wirings.{Placement, placement, branch_of}
use Rattle.ccr_model.specs.Firings.{Firing, fired, firing_named}
use Rattle.ccr_model.specs.Tasks.{is_branch_where}
use Rattle.ccr_model.proofs.Allowing.{OneName-legal}
use Rattle.ccr_base.proofs.Booleans.{both, eq-self, no_both, same_number}
use Rattle.ccr_model.proofs.AllowedFirings.{BranchFacts, BranchFacts-where, fired_by_named}
use Rattle.ccr_model.proofs.FiredTasks.{IsFired, IsFired-append, placement_stays}
use Rattle.ccr_model.proofs.Members.{Among, Among-either, Among-left, Among-right}
use Rattle.ccr_base.proofs.SameNames.{same_task-is, has_task-append}
use Rattle.ccr_model.proofs.WhoWasPut.{placement_by}
use Rattle.ccr_places.specs.declared.notes.Note.{Note}
use Rattle.ccr_places.specs.declared.notes.Note.TheVariants as notes
use Rattle.ccr_places.specs.Arbiters.{ArbiterState}
use Rattle.ccr_places.specs.Arbiters as arbiters
use Rattle.ccr_places.specs.Interleaves.{InterleaveState, Waiting}
use Rattle.ccr_places.specs.Interleaves as interleaves
use Rattle.ccr_places.specs.TaskSets.{task_cmp}
use Rattle.ccr_places.specs.NotedTasks.{noted_fired, noted_over}
use Rattle.ccr_claim.specs.declared.asks.Ask.{Ask}
use Rattle.ccr_claim.specs.declared.asks.Ask.TheVariants as asks
use Rattle.ccr_runs.specs.declared.entries.Entry.{Entry}
use Rattle.ccr_runs.specs.Places.{arbiter_after, arbiter_note, commit_note, first_branch, interleave_after, interleave_note, note_at_arbiter, note_by_kind, note_of}
use Rattle.ccr_runs.specs.EntryRuns.{IsRunAfter, Lacks, made_by, notes_at, port_at, same_place, state_of}
use Rattle.ccr_runs.specs.Views.{domain_of_task}
use Rattle.ccr_runs.specs.Visible.{event_of, visible}
use Rattle.ccr_net.proofs.Parts.StepsKeepActors.{unfired}
use Rattle.ccr_net.proofs.Parts.ArbitersMatch.{is_of, none_at_first}
use Rattle.ccr_net.proofs.Kept.WholeInvariant.{Holds}
use Rattle.ccr_net.proofs.Parts.TasksAreBookedOnce.{in-less, in-more}
use Rattle.ccr_net.proofs.Parts.MeterMatches.{bit}
use Rattle.ccr_net.proofs.Parts.NotesAnswerAsks.{given_some}
use Rattle.ccr_net.proofs.Conditions.CommitsMeetConditions.{noted_has_fired}
use Rattle.ccr_net.proofs.Owed.NotedOversAreOver.{is_over_ask, noted_other}
use Rattle.ccr_net.proofs.Played.PlacesByNumber.{same_place-is}
use Rattle.ccr_net.proofs.Played.PlayedRunsAreRuns.{run_on}
use Rattle.ccr_net.proofs.Parts.OneMoreEntry.{Step, Step-made, along_run, notes_at-push, visible-push}
use Rattle.ccr_rests.specs.Ends.{EndsOnce, tells, telling_of}
use Rattle.ccr_rests.proofs.HeldRuns.{along_held, holds_so}
use Rattle.ccr_rests.proofs.BookingsOnce.{less}
use Rattle.ccr_rests.proofs.EntryCounts.{AreOwn, Parted, count, count-push, ends_once, none_else, own-push, parted}
use Rattle.ccr_rests.proofs.Fires.{IsFiring, firing_told, told_firing, told_there}
use Rattle.ccr_rests.proofs.Rising.{fires_itself}
use Rattle.ccr_net.proofs.Owed.OversMayBeNoted.{arbiter-push, domain-push}

-- ---- a note at a receiver or a choice

fires_more : (f s o : Bool) → bit ((f || (s || false)) && o) ≤ bit (f && o) + bit (s || false)
fires_more true s true = omega arith
fires_more true s false = omega arith
fires_more false true true = omega arith
fires_more false true false = omega arith
fires_more false false o = omega arith

ends_more : (f o s : Bool) → (s ≡ true → f && not o ≡ true) → bit (s || false) + bit (f && not (o || (s || false))) ≤ bit (f && not o)
ends_more true false true may = omega arith
ends_more true true true may = absurd (let is = may refl in cc)
ends_more false o true may = absurd (let is = may refl in cc)
ends_more true true false may = omega arith
ends_more true false false may = omega arith
ends_more false o false may = omega arith

-- a root that is noted over might be, and only a firing makes that so
arbiter_may : (st : ArbiterState) (ask : Ask) (note : Note) (r : TaskId) → arbiter_note st ask ≡ Some note → bit (has_task (noted_over note) r) + bit (arbiters.may_over (arbiters.after st note) r) ≤ bit (arbiters.may_over st r) + bit (has_task (noted_fired note) r)
arbiter_may st (asks.Commit t ms) note r is = by_dead (arbiters.dead_by st) (given_some (arbiters.may_commit st t) (commit_note t ms (arbiters.dead_by st) (notes.Fired t.id t.spot ms [])) note is).1
  where
    by_dead : (dead : Option By) → note ≡ commit_note t ms dead (notes.Fired t.id t.spot ms []) → bit (has_task (noted_over note) r) + bit (arbiters.may_over (arbiters.after st note) r) ≤ bit (arbiters.may_over st r) + bit (has_task (noted_fired note) r)
    by_dead None noted = rw (noted, has_task-append st.fired (t.id ∷ []) r) (let more = fires_more (has_task st.fired r) (same_task r t.id) (not (has_task st.over r)) in omega (arith, more))
    by_dead (Some dead) noted = rw noted (omega arith)
arbiter_may st (asks.Over t u how) note r is = rw (parts.1, has_task-append st.over (u ∷ []) r) (let fewer = ends_more (has_task st.fired r) (has_task st.over r) (same_task r u) (λ same. ap (arbiters.may_over st) (same_task-is r u same) ∙ parts.0) in omega (arith, fewer))
  where
    parts : (arbiters.may_over st u ≡ true) × (note ≡ notes.Over t u how)
    parts = given_some (arbiters.may_over st u) (notes.Over t u how) note is
arbiter_may st (asks.Post m) note r is = absurd (cc)
arbiter_may st (asks.Claim u s) note r is = absurd (cc)
arbiter_may st (asks.Consume u) note r is = absurd (cc)
arbiter_may st (asks.Free u) note r is = absurd (cc)
arbiter_may st asks.Admit note r is = absurd (cc)
arbiter_may st (asks.Suspend u) note r is = absurd (cc)
arbiter_may st (asks.Book u b) note r is = absurd (cc)
arbiter_may st (asks.Unbook u) note r is = absurd (cc)
arbiter_may st (asks.Put u) note r is = absurd (cc)
arbiter_may st asks.Take note r is = absurd (cc)
arbiter_may st asks.Draw note r is = absurd (cc)
arbiter_may st asks.Leave note r is = absurd (cc)
arbiter_may st asks.Left note r is = absurd (cc)

-- ---- a note at a domain of Interleaves

-- how often the task waits
abbrev waits_count : List Waiting → TaskId → ℕ
waits_count [] r = 0
waits_count (x ∷ xs) r = bit (same_task r x.task) + waits_count xs r

waits-append : (xs ys : List Waiting) (r : TaskId) → waits_count (xs ++ ys) r ≡ waits_count xs r + waits_count ys r
waits-append [] ys r = omega arith
waits-append (x ∷ xs) ys r = let rest = waits-append xs ys r in omega (arith, rest)

-- who waits may be admitted, and who is admitted may be noted over
abbrev may_end : InterleaveState → TaskId → ℕ
may_end place r = bit (interleaves.is_admitted place r) + waits_count place.waiting r

rooted : (a b c : Bool) → bit ((a || b) || c) ≤ bit (b || c) + bit a
rooted true b c = omega arith
rooted false b c = omega arith

rooted_other : (a b c : Bool) → bit (b || (a || c)) ≤ bit (b || c) + bit a
rooted_other true true c = omega arith
rooted_other true false c = omega arith
rooted_other false b c = omega arith

admits_more : (place : InterleaveState) (x : Waiting) (r : TaskId) → bit (interleaves.is_admitted (interleaves.with_root place x) r) ≤ bit (interleaves.is_admitted place r) + bit (same_task r x.task)
admits_more place x r = by (interleaves.is_concurrent (interleaves.group_at place x.spot))
  where
    by : (b : Bool) → bit (set.contains (if b then set.insert place.shared x.task else place.shared) r || set.contains (if b then place.alone else set.insert place.alone x.task) r) ≤ bit (interleaves.is_admitted place r) + bit (same_task r x.task)
    by true = rw (in-more place.shared x.task r) (rooted (same_task r x.task) (set.contains place.shared r) (set.contains place.alone r))
    by false = rw (in-more place.alone x.task r) (rooted_other (same_task r x.task) (set.contains place.shared r) (set.contains place.alone r))

admission : (place : InterleaveState) (o : Option TaskId) (r : TaskId) → may_end (interleaves.after_admit place o) r ≤ may_end place r
admission place None r = omega arith
admission place (Some t) r = by place.waiting refl
  where
    by : (xs : List Waiting) → place.waiting ≡ xs → may_end (interleaves.after_admission place) r ≤ may_end place r
    by [] at = rw at (omega arith)
    by (x ∷ xs) at = rw at (let more = admits_more place x r in omega (arith, more))

spares : (b : Bool) (xs : List Waiting) (x : Waiting) (r : TaskId) → waits_count ((if b then [] else xs) ++ x ∷ []) r ≤ waits_count xs r + bit (same_task r x.task)
spares true xs x r = omega arith
spares false xs x r = let all = waits-append xs (x ∷ []) r in omega (arith, all)

or_none : (b : Bool) → bit (b || false) ≡ bit b
or_none true = refl
or_none false = refl

domain_may : (place : InterleaveState) (ask : Ask) (note : Note) (r : TaskId) → interleave_note place ask ≡ Some note → bit (has_task (noted_over note) r) + may_end (interleaves.after place note) r ≤ may_end place r + bit (has_task (noted_fired note) r)
domain_may place (asks.Commit t ms) note r is = by_dead (interleaves.dead_by place) (given_some (interleaves.may_commit place t) (commit_note t ms (interleaves.dead_by place) (notes.Fired t.id t.spot ms (interleaves.cut_note place t.spot))) note is).1
  where
    by_dead : (dead : Option By) → note ≡ commit_note t ms dead (notes.Fired t.id t.spot ms (interleaves.cut_note place t.spot)) → bit (has_task (noted_over note) r) + may_end (interleaves.after place note) r ≤ may_end place r + bit (has_task (noted_fired note) r)
    by_dead None noted = rw noted (let more = spares (interleaves.is_teardown (interleaves.group_at place t.spot)) place.waiting (record { task = t.id; spot = t.spot }) r in let one = or_none (same_task r t.id) in omega (arith, more, one))
    by_dead (Some dead) noted = rw noted (omega arith)
domain_may place asks.Admit note r is = rw noted (let more = admission place (interleaves.admit_note place) r in omega (arith, more))
  where
    noted : note ≡ notes.Admit (interleaves.admit_note place)
    noted = cc
domain_may place (asks.Over t u how) note r is = rw (parts.1, in-less place.shared u r, in-less place.alone u r) (let one = less (same_task r u) (set.contains place.shared r) (set.contains place.alone r) (λ same. ap (interleaves.is_admitted place) (same_task-is r u same) ∙ parts.0) in omega (arith, one))
  where
    parts : (interleaves.may_over place u ≡ true) × (note ≡ notes.Over t u how)
    parts = given_some (interleaves.may_over place u) (notes.Over t u how) note is
domain_may place (asks.Post m) note r is = absurd (cc)
domain_may place (asks.Claim u s) note r is = absurd (cc)
domain_may place (asks.Consume u) note r is = absurd (cc)
domain_may place (asks.Free u) note r is = absurd (cc)
domain_may place (asks.Suspend u) note r is = absurd (cc)
domain_may place (asks.Book u b) note r is = absurd (cc)
domain_may place (asks.Unbook u) note r is = absurd (cc)
domain_may place (asks.Put u) note r is = absurd (cc)
domain_may place asks.Take note r is = absurd (cc)
domain_may place asks.Draw note r is = absurd (cc)
domain_may place asks.Leave note r is = absurd (cc)
domain_may place asks.Left note r is = absurd (cc)

-- ---- at whichever arbiter

-- how often the root may still be noted over there
abbrev may_in : Parts → ℕ → Kind → ArbiterPart → List Note → TaskId → ℕ
may_in w i kinds.Receive part earlier r = bit (arbiters.may_over (arbiter_after (first_branch w i) part earlier) r)
may_in w i kinds.Choice part earlier r = bit (arbiters.may_over (arbiter_after (first_branch w i) part earlier) r)
may_in w i kinds.Interleave part earlier r = may_end (interleave_after w i earlier) r

abbrev may_of : Parts → ℕ → Option ArbiterPart → List Note → TaskId → ℕ
may_of w i None earlier r = 0
may_of w i (Some part) earlier r = may_in w i part.kind part earlier r

part_may : (w : Parts) (i : ℕ) (o : Option ArbiterPart) (earlier : List Note) (ask : Ask) (note : Note) (r : TaskId) → note_at_arbiter w i o earlier ask ≡ Some note → bit (has_task (noted_over note) r) + may_of w i o (earlier ++ note ∷ []) r ≤ may_of w i o earlier r + bit (has_task (noted_fired note) r)
part_may w i None earlier ask note r is = absurd (cc)
part_may w i (Some part) earlier ask note r is = by part.kind is
  where
    by : (kind : Kind) → note_by_kind w i kind part earlier ask ≡ Some note → bit (has_task (noted_over note) r) + may_in w i kind part (earlier ++ note ∷ []) r ≤ may_in w i kind part earlier r + bit (has_task (noted_fired note) r)
    by kinds.Receive now = rw (arbiter-push (first_branch w i) part earlier note) (arbiter_may (arbiter_after (first_branch w i) part earlier) ask note r now)
    by kinds.Choice now = rw (arbiter-push (first_branch w i) part earlier note) (arbiter_may (arbiter_after (first_branch w i) part earlier) ask note r now)
    by kinds.Interleave now = rw (domain-push w i earlier note) (domain_may (interleave_after w i earlier) ask note r now)

-- before all notes no root may be
may_first : (w : Parts) (i : ℕ) (o : Option ArbiterPart) (r : TaskId) → may_of w i o [] r ≡ 0
may_first w i None r = refl
may_first w i (Some part) r = by part.kind
  where
    by : (kind : Kind) → may_in w i kind part [] r ≡ 0
    by kinds.Receive = ap (λ ts. bit (has_task ts r && not (has_task (arbiter_after (first_branch w i) part []).over r))) (none_at_first (first_branch w i) part)
    by kinds.Choice = ap (λ ts. bit (has_task ts r && not (has_task (arbiter_after (first_branch w i) part []).over r))) (none_at_first (first_branch w i) part)
    by kinds.Interleave = rw (set.contains-empty task_cmp r) refl

abbrev may_at : Parts → List Entry → ℕ → TaskId → ℕ
may_at w es i r = may_of w i (slice_get w.arbiters i) (notes_at es (places.Arbiter i)) r

entry_may : (w : Parts) (lacks : Lacks) (es : List Entry) (e : Entry) → Step w lacks es e → (i : ℕ) (r : TaskId) → bit (tells noted_over (places.Arbiter i) r e) + may_at w (es ++ e ∷ []) i r ≤ may_at w es i r + bit (tells noted_fired (places.Arbiter i) r e)
entry_may w lacks es e step i r = subst (λ ns. bit (tells noted_over (places.Arbiter i) r e) + may_of w i (slice_get w.arbiters i) ns r ≤ may_at w es i r + bit (tells noted_fired (places.Arbiter i) r e)) (sym (notes_at-push es e (places.Arbiter i))) (by (same_place e.place (places.Arbiter i)) refl)
  where
    by : (b : Bool) → same_place e.place (places.Arbiter i) ≡ b → bit (b && has_task (noted_over e.note) r) + may_of w i (slice_get w.arbiters i) (notes_at es (places.Arbiter i) ++ (if b then e.note ∷ [] else [])) r ≤ may_at w es i r + bit (b && has_task (noted_fired e.note) r)
    by true at = part_may w i (slice_get w.arbiters i) (notes_at es (places.Arbiter i)) step.asking.ask e.note r (subst (λ pl. note_of w pl (notes_at es pl) step.asking.ask ≡ Some e.note) (sym step.there ∙ same_place-is e.place (places.Arbiter i) at) step.gives)
    by false at = subst (λ ns. 0 + may_of w i (slice_get w.arbiters i) ns r ≤ may_at w es i r + 0) (sym (append-nil (notes_at es (places.Arbiter i)))) (omega arith)

-- ---- along a run

pub record RootsKnown (w : Parts) (es : List Entry) : Type 0 where
  pub balanced : (i : ℕ) (r : TaskId) → count noted_over (places.Arbiter i) r es + may_at w es i r ≤ count noted_fired (places.Arbiter i) r es
  pub once : (i : ℕ) (r : TaskId) → count noted_fired (places.Arbiter i) r es ≤ 1
  pub own : AreOwn noted_fired es

module _ (w : Parts) (n : ℕ) (lacks : Lacks) (es : List Entry) (e : Entry) (holds : Holds w n lacks es) (step : Step w lacks es e) (known : RootsKnown w es) where
  own_firing : (t : TaskId) → IsFiring e.note t → e.actor ≡ t.actor
  own_firing t is = sym (ap (λ (u : TaskId). u.actor) (fires_itself w n lacks es e holds step t is.spot is.messages is.cuts is.noted))

  -- who fires hasn't fired before
  fresh : (i : ℕ) (r : TaskId) → tells noted_fired (places.Arbiter i) r e ≡ true → count noted_fired (places.Arbiter i) r es ≡ 0
  fresh i r is = by (count noted_fired (places.Arbiter i) r es) refl
    where
      firing : IsFiring e.note r
      firing = told_firing (places.Arbiter i) r e is

      by : (k : ℕ) → count noted_fired (places.Arbiter i) r es ≡ k → count noted_fired (places.Arbiter i) r es ≡ 0
      by zero at = at
      by (suc k) at = absurd (no_both (subst (λ t. has_task (fired (visible es)) t ≡ true) (fires_itself w n lacks es e holds step r firing.spot firing.messages firing.cuts firing.noted) (noted_has_fired es (places.Arbiter i) r (told_there (places.Arbiter i) r es (omega (arith, at))))) (unfired w (visible es) (port_at es) e.actor (state_of w lacks es e.actor) (holds.actors e.actor).claims))

  once_on : (i : ℕ) (r : TaskId) → count noted_fired (places.Arbiter i) r (es ++ e ∷ []) ≤ 1
  once_on i r = by (tells noted_fired (places.Arbiter i) r e) refl
    where
      by : (b : Bool) → tells noted_fired (places.Arbiter i) r e ≡ b → count noted_fired (places.Arbiter i) r (es ++ e ∷ []) ≤ 1
      by true at = (let none = fresh i r at in let all = count-push noted_fired (places.Arbiter i) r es e in let one = ap bit at in omega (arith, none, all, one))
      by false at = (let few = known.once i r in let all = count-push noted_fired (places.Arbiter i) r es e in let one = ap bit at in omega (arith, few, all, one))

  pub roots_known-kept : RootsKnown w (es ++ e ∷ [])
  roots_known-kept = record {
    balanced = λ i r. (let before = known.balanced i r in let change = entry_may w lacks es e step i r in let overs = count-push noted_over (places.Arbiter i) r es e in let fires = count-push noted_fired (places.Arbiter i) r es e in omega (arith, before, change, overs, fires));
    once = once_on;
    own = own-push noted_fired es e (λ t has. own_firing t (firing_told e.note t has)) known.own;
  }

-- ---- at which domain

over_asked : (ask : Ask) → is_over_ask ask ≡ true → (t : TaskId) × (r : TaskId) × (how : How) × (ask ≡ asks.Over t r how)
over_asked (asks.Over t r how) is = (t, r, how, refl)
over_asked (asks.Post m) is = absurd (cc)
over_asked (asks.Claim u s) is = absurd (cc)
over_asked (asks.Consume u) is = absurd (cc)
over_asked (asks.Free u) is = absurd (cc)
over_asked (asks.Commit u ms) is = absurd (cc)
over_asked asks.Admit is = absurd (cc)
over_asked (asks.Suspend u) is = absurd (cc)
over_asked (asks.Book u b) is = absurd (cc)
over_asked (asks.Unbook u) is = absurd (cc)
over_asked (asks.Put u) is = absurd (cc)
over_asked asks.Take is = absurd (cc)
over_asked asks.Draw is = absurd (cc)
over_asked asks.Leave is = absurd (cc)
over_asked asks.Left is = absurd (cc)

over_told : (note : Note) (r : TaskId) → has_task (noted_over note) r ≡ true → noted_over note ≡ [] → ⊥
over_told (notes.Over t u how) r has none = absurd (cc)
over_told (notes.Fired u s ms cs) r has none = absurd (cc)
over_told (notes.Post m) r has none = absurd (cc)
over_told (notes.Claim u s k) r has none = absurd (cc)
over_told (notes.Consume u) r has none = absurd (cc)
over_told (notes.Free u) r has none = absurd (cc)
over_told (notes.Dead u s by) r has none = absurd (cc)
over_told (notes.Admit u) r has none = absurd (cc)
over_told (notes.Suspend u) r has none = absurd (cc)
over_told (notes.Book u b f) r has none = absurd (cc)
over_told (notes.Unbook u) r has none = absurd (cc)
over_told (notes.Put u d) r has none = absurd (cc)
over_told (notes.Take u) r has none = absurd (cc)
over_told (notes.Draw k) r has none = absurd (cc)
over_told notes.Leave r has none = absurd (cc)
over_told (notes.Left k) r has none = absurd (cc)

-- only an arbiter notes a root over
at_arbiter : (w : Parts) (place : Place) (earlier : List Note) (ask : Ask) (note : Note) (r : TaskId) → note_of w place earlier ask ≡ Some note → has_task (noted_over note) r ≡ true → (i : ℕ) × (place ≡ places.Arbiter i)
at_arbiter w place earlier ask note r is has = by (is_over_ask ask) refl
  where
    of_place : (pl : Place) (t u : TaskId) (how : How) → note_of w pl earlier (asks.Over t u how) ≡ Some note → (i : ℕ) × (pl ≡ places.Arbiter i)
    of_place (places.Arbiter i) t u how now = (i, refl)
    of_place (places.Port p) t u how now = absurd (cc)
    of_place (places.Site b k) t u how now = absurd (cc)
    of_place (places.Queue q) t u how now = absurd (cc)
    of_place places.Meter t u how now = absurd (cc)

    by : (b : Bool) → is_over_ask ask ≡ b → (i : ℕ) × (place ≡ places.Arbiter i)
    by true at = (let found = over_asked ask at in of_place place found.0 found.1 found.2 (subst (λ x. note_of w place earlier x ≡ Some note) found.3 is))
    by false at = absurd (over_told note r has (noted_other w place earlier ask note at is))

-- ---- the law

module _ (w : Parts) (workers : ℕ) (lacks : Lacks) (valid : IsValid w) (few : workers ≤ 16) where
  run_known : (es : List Entry) → IsRunAfter w workers lacks [] es → RootsKnown w es
  run_known = along_held w workers lacks valid few (RootsKnown w) (roots_known-kept w (length w.posters + workers) lacks) (record { balanced = λ i r. (let none = may_first w i (slice_get w.arbiters i) r in omega (arith, none)); once = λ i r. omega arith; own = λ x is t has. absurd is })

  module _ (past : List Entry) (e : Entry) (more : List Entry) (run : IsRunAfter w workers lacks [] (past ++ e ∷ more)) where
    parts : Parted w workers lacks past e more
    parts = parted w workers lacks past e more run

    step : Step w lacks past e
    step = Step-made w lacks past e parts.made

    module _ (i : ℕ) (r : TaskId) (is : tells noted_over (places.Arbiter i) r e ≡ true) where
      not_fired : bit (tells noted_fired (places.Arbiter i) r e) ≤ 0
      not_fired = by (tells noted_fired (places.Arbiter i) r e) refl
        where
          by : (b : Bool) → tells noted_fired (places.Arbiter i) r e ≡ b → bit b ≤ 0
          by false at = omega arith
          by true at = absurd (no_both (both (same_place e.place (places.Arbiter i)) (has_task (noted_over e.note) r) is).1 (ap (λ x. has_task (noted_over x) r) (told_firing (places.Arbiter i) r e at).noted))

      over_then : (count noted_fired (places.Arbiter i) r past ≡ 1) × (count noted_over (places.Arbiter i) r past ≡ 0)
      over_then =
          let known = run_known past parts.run in
          let before = known.balanced i r in
          let once = known.once i r in
          let change = entry_may w lacks past e step i r in
          let ends = ap bit is in
          let none = not_fired in
          (omega (arith, before, once, change, ends, none), omega (arith, before, once, change, ends, none))

      pub root_once : EndsOnce noted_fired noted_over (places.Arbiter i) r past e more
      root_once =
          let all = run_known (past ++ e ∷ more) run in
          let few_fired = all.once i r in
          let sums = all.balanced i r in
          ends_once noted_fired noted_over (places.Arbiter i) r past e more (run_known past parts.run).own is over_then.0 over_then.1 few_fired (omega (arith, few_fired, sums))

      -- the root fired at a branch of this arbiter
      named : (f : Firing) × (firing_named (visible past) r ≡ Some f) × (is_branch_where w (is_of i) f.spot ≡ true)
      named =
          let holds = holds_so w workers lacks valid few past parts.run in
          fired_by_named w (is_of i) (visible past) r (OneName-legal w (visible past) holds.legal) (ap (λ ts. has_task ts r) (sym (holds.arbiters i)) ∙ told_there (places.Arbiter i) r past (let one = over_then.0 in omega (arith, one)))

      its_arbiter : domain_of_task w (visible past) r ≡ i
      its_arbiter = ap (λ o. option_map_or (λ (s : Placement). s.domain) o 0) (placement_by w (visible past) r named.0 named.1 ∙ ap (λ s. placement w (branch_of s)) facts.is_branch ∙ facts.is_placement) ∙ same_number facts.placement.domain i facts.passes
        where
          facts : BranchFacts w (is_of i) (named.0).spot
          facts = BranchFacts-where w (is_of i) (named.0).spot named.2

      its_firing : IsFired (visible past) r
      its_firing = (named.0, named.1)

    -- only the root's domain notes it over, and it has fired
    root_placed : (r : TaskId) → has_task (noted_over e.note) r ≡ true → (e.place ≡ places.Arbiter (domain_of_task w (visible past) r)) × IsFired (visible past) r
    root_placed r has = (at ∙ ap places.Arbiter (sym (its_arbiter found.0 r told)), its_firing found.0 r told)
      where
        found : (i : ℕ) × (step.asking.place ≡ places.Arbiter i)
        found = at_arbiter w step.asking.place (notes_at past step.asking.place) step.asking.ask e.note r step.gives has

        at : e.place ≡ places.Arbiter found.0
        at = step.there ∙ found.1

        told : tells noted_over (places.Arbiter found.0) r e ≡ true
        told = (λ k. same_place (at k) (places.Arbiter found.0) && has k) ∙ ap (λ b. b && true) (eq-self found.0)

    pub root_domain : (r : TaskId) → has_task (noted_over e.note) r ≡ true → e.place ≡ places.Arbiter (domain_of_task w (visible past) r)
    root_domain r has = (root_placed r has).0

  -- ---- nowhere else

  -- each entry that notes a root over is at the domain of the root, as the whole run has it
  record OversPlaced (es : List Entry) : Type 0 where
    run : IsRunAfter w workers lacks [] es
    placed : (x : Entry) → Among x es → (r : TaskId) → has_task (noted_over x.note) r ≡ true → (x.place ≡ places.Arbiter (domain_of_task w (visible es) r)) × IsFired (visible es) r

  overs_placed : (es : List Entry) → IsRunAfter w workers lacks [] es → OversPlaced es
  overs_placed es run = along_run w workers lacks OversPlaced kept (record { run = tt; placed = λ x is r has. absurd is }) es run
    where
      kept : (past : List Entry) (e : Entry) → OversPlaced past → e.actor < length w.posters + workers → made_by w lacks past e.actor ≡ Some e → OversPlaced (past ++ e ∷ [])
      kept past e known low made = record { run = on; placed = λ x is r has. of x r has (Among-either x past (e ∷ []) is) }
        where
          on : IsRunAfter w workers lacks [] (past ++ e ∷ [])
          on = run_on w workers lacks [] past e known.run low made

          later : (x : Entry) (r : TaskId) → (x.place ≡ places.Arbiter (domain_of_task w (visible past) r)) × IsFired (visible past) r → (x.place ≡ places.Arbiter (domain_of_task w (visible (past ++ e ∷ [])) r)) × IsFired (visible (past ++ e ∷ [])) r
          later x r is = subst (λ g. (x.place ≡ places.Arbiter (domain_of_task w g r)) × IsFired g r) (sym (visible-push past e)) (is.0 ∙ ap (λ o. places.Arbiter (option_map_or (λ (s : Placement). s.domain) o 0)) (sym (placement_stays w (visible past) (event_of e) r is.1)), IsFired-append (visible past) (event_of e) r is.1)

          of : (x : Entry) (r : TaskId) → has_task (noted_over x.note) r ≡ true → Among x past ⊎ Among x (e ∷ []) → (x.place ≡ places.Arbiter (domain_of_task w (visible (past ++ e ∷ [])) r)) × IsFired (visible (past ++ e ∷ [])) r
          of x r has (inl old) = later x r (known.placed x old r has)
          of x r has (inr (inl same)) = subst (λ (y : Entry). (y.place ≡ places.Arbiter (domain_of_task w (visible (past ++ e ∷ [])) r)) × IsFired (visible (past ++ e ∷ [])) r) (sym same) (later e r (root_placed past e [] on r (subst (λ (y : Entry). has_task (noted_over y.note) r ≡ true) same has)))
          of x r has (inr (inr none)) = absurd none

  module _ (past : List Entry) (e : Entry) (more : List Entry) (run : IsRunAfter w workers lacks [] (past ++ e ∷ more)) (r : TaskId) (has : has_task (noted_over e.note) r ≡ true) where
    abbrev its_domain : ℕ
    its_domain = domain_of_task w (visible (past ++ e ∷ more)) r

    placed_there : (x : Entry) → Among x (past ++ e ∷ more) → has_task (noted_over x.note) r ≡ true → same_place x.place (places.Arbiter its_domain) ≡ true
    placed_there x is also = ap (λ pl. same_place pl (places.Arbiter its_domain)) ((overs_placed (past ++ e ∷ more) run).placed x is r also).0 ∙ eq-self its_domain

    ends_there : EndsOnce noted_fired noted_over (places.Arbiter its_domain) r past e more
    ends_there = root_once past e more run its_domain r (λ i. placed_there e (Among-right e past (e ∷ more) (inl refl)) has i && has i)

    pub root_before : telling_of noted_over r past ≡ []
    root_before = none_else noted_over (places.Arbiter its_domain) r past ends_there.not_ended_before (λ x is also. placed_there x (Among-left x past (e ∷ more) is) also)

    pub root_later : telling_of noted_over r more ≡ []
    root_later = none_else noted_over (places.Arbiter its_domain) r more ends_there.not_ended_later (λ x is also. placed_there x (Among-right x past (e ∷ more) (inr is)) also)

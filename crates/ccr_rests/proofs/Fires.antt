-- Who has fired after an entry, and what that does to the state of its actor.
use Rattle.std.proofs.Common.{inl, inr, ◌⊎◌, ◌≡◌, ◌≤◌, ℕ, ◌+◌, Bool, true, false, ◌&&◌, List, [], ◌∷◌, ◌++◌, map, Option, Some, None, refl, sym, arith, ap, ◌∙◌, subst}
use Rattle.std.specs.Prelude.{if◌then◌else◌}
use Rattle.ccr_base.specs.declared.names.MsgId.{MsgId}
use Rattle.ccr_base.specs.declared.names.Place.{Place}
use Rattle.ccr_base.specs.declared.names.Spot.{Spot}
use Rattle.ccr_base.specs.declared.names.TaskId.{TaskId}
use Rattle.ccr_base.specs.declared.tasks.How.TheVariants as hows
use Rattle.ccr_base.specs.declared.tasks.Task.{Task}
use Rattle.ccr_base.specs.Names.{has_task}
use Rattle.ccr_wiring.specs.declared.parts.Parts.{Parts}
use Rattle.ccr_model.specs.Firings.{fired}
use Rattle.ccr_base.proofs.Booleans.{both}
use Rattle.ccr_model.proofs.Stable.{fired-append}
use Rattle.ccr_model.proofs.TaskLists.{among_left, among_right, of_more, of_one}
use Rattle.ccr_places.specs.declared.notes.Note.{Note}
use Rattle.ccr_places.specs.declared.notes.Note.TheVariants as notes
use Rattle.ccr_places.specs.NotedTasks.{noted_fired}
use Rattle.ccr_actor.specs.Actors.{State, after, after_attempt, after_in, fire}
use Rattle.ccr_runs.specs.declared.entries.Entry.{Entry}
use Rattle.ccr_runs.specs.EntryRuns.{Lacks, notes_at, reply_of, reply_to, same_place, state_of, waits}
use Rattle.ccr_runs.specs.Views.{cut_view, view}
use Rattle.ccr_runs.specs.Visible.{event_of, shown, visible}
use Rattle.ccr_net.proofs.Kept.WholeInvariant.{Holds}
use Rattle.ccr_net.proofs.Parts.ArbitersMatch.{fired_there}
use Rattle.ccr_net.proofs.Conditions.CommitsMeetConditions.{shows_fired}
use Rattle.ccr_net.proofs.Parts.MeterMatches.{bit}
use Rattle.ccr_net.proofs.Parts.OneMoreEntry.{Step, visible-push}
use Rattle.ccr_rests.specs.Ends.{tells}
use Rattle.ccr_rests.proofs.EntryCounts.{count, count-first}
use Rattle.ccr_rests.proofs.NoteKinds.{kind_noted}
use Rattle.ccr_rests.proofs.Rising.{Tries, tries}

pub record IsFiring (note : Note) (t : TaskId) : Type 0 where
  pub spot : Spot
  pub messages : List MsgId
  pub cuts : List TaskId
  pub noted : note ≡ notes.Fired t spot messages cuts

-- only a firing shows that a task fired
shows_firing : (a : ℕ) (note : Note) (t : TaskId) → has_task (fired (shown a note)) t ≡ true → IsFiring note t
shows_firing a (notes.Fired u s ms cs) t has = record { spot = s; messages = ms; cuts = cs; noted = ap (λ v. notes.Fired v s ms cs) (sym (of_one u t has)) }
shows_firing a (notes.Post m) t has = absurd (cc)
shows_firing a (notes.Claim u s r) t has = absurd (cc)
shows_firing a (notes.Consume u) t has = absurd (cc)
shows_firing a (notes.Free u) t has = absurd (cc)
shows_firing a (notes.Dead u s by) t has = absurd (cc)
shows_firing a (notes.Admit None) t has = absurd (cc)
shows_firing a (notes.Admit (Some u)) t has = absurd (cc)
shows_firing a (notes.Over u r hows.Done) t has = absurd (cc)
shows_firing a (notes.Over u r (hows.Failed value)) t has = absurd (cc)
shows_firing a (notes.Over u r hows.Shed) t has = absurd (cc)
shows_firing a (notes.Over u r hows.Dropped) t has = absurd (cc)
shows_firing a (notes.Suspend u) t has = absurd (cc)
shows_firing a (notes.Book u r f) t has = absurd (cc)
shows_firing a (notes.Unbook u) t has = absurd (cc)
shows_firing a (notes.Put u d) t has = absurd (cc)
shows_firing a (notes.Take None) t has = absurd (cc)
shows_firing a (notes.Take (Some u)) t has = absurd (cc)
shows_firing a (notes.Draw k) t has = absurd (cc)
shows_firing a notes.Leave t has = absurd (cc)
shows_firing a (notes.Left k) t has = absurd (cc)

-- who has fired then fired before, or the entry is its firing
pub fired_then : (es : List Entry) (e : Entry) (t : TaskId) → has_task (fired (visible (es ++ e ∷ []))) t ≡ true → (has_task (fired (visible es)) t ≡ true) ⊎ IsFiring e.note t
fired_then es e t has = of_more (fired (visible es)) (fired (event_of e)) t ((has_task (fired (visible es)) t ≡ true) ⊎ IsFiring e.note t) (ap (λ ts. has_task ts t) (sym (ap fired (visible-push es e) ∙ fired-append (visible es) (event_of e))) ∙ has) (λ old. inl old) (λ new. inr (shows_firing e.actor e.note t new))

-- only a firing notes that a task fired
pub firing_told : (note : Note) (t : TaskId) → has_task (noted_fired note) t ≡ true → IsFiring note t
firing_told note t has = shows_firing 0 note t (shows_fired 0 note t has)

pub told_firing : (pl : Place) (t : TaskId) (e : Entry) → tells noted_fired pl t e ≡ true → IsFiring e.note t
told_firing pl t e is = firing_told e.note t (both (same_place e.place pl) (has_task (noted_fired e.note) t) is).1

-- what is told to have fired has fired by the notes of the place
pub told_there : (pl : Place) (t : TaskId) (es : List Entry) → 1 ≤ count noted_fired pl t es → has_task (fired_there (notes_at es pl)) t ≡ true
told_there pl t [] some = absurd (omega (arith, some))
told_there pl t (e ∷ es) some = by (same_place e.place pl) (count-first noted_fired pl t e es) (told_there pl t es)
  where
    of_told : (c : Bool) → has_task (noted_fired e.note) t ≡ c → count noted_fired pl t (e ∷ es) ≡ bit (true && c) + count noted_fired pl t es → (1 ≤ count noted_fired pl t es → has_task (fired_there (notes_at es pl)) t ≡ true) → has_task (noted_fired e.note ++ fired_there (notes_at es pl)) t ≡ true
    of_told true told sums rest = among_left (noted_fired e.note) (fired_there (notes_at es pl)) t told
    of_told false told sums rest = among_right (noted_fired e.note) (fired_there (notes_at es pl)) t (rest (omega (arith, sums, some)))

    by : (b : Bool) → count noted_fired pl t (e ∷ es) ≡ bit (b && has_task (noted_fired e.note) t) + count noted_fired pl t es → (1 ≤ count noted_fired pl t es → has_task (fired_there (notes_at es pl)) t ≡ true) → has_task (fired_there ((if b then e.note ∷ [] else []) ++ notes_at es pl)) t ≡ true
    by false first rest = rest (omega (arith, first, some))
    by true first rest = of_told (has_task (noted_fired e.note) t) refl first rest

-- ---- the firing's actor

-- a firing ends the attempt, and is counted
pub record Counts (st next : State) : Type 0 where
  pub attempt : next.attempt ≡ st.attempt + 1
  pub fired : next.fired ≡ st.fired + 1

pub fire_counts : (w : Parts) (n : ℕ) (lacks : Lacks) (es : List Entry) (e : Entry) → Holds w n lacks es → Step w lacks es e → (t : TaskId) → IsFiring e.note t → Counts (state_of w lacks es e.actor) (after w e.actor (state_of w lacks es e.actor) (reply_of w es e))
fire_counts w n lacks es e holds step t is = subst (Counts (state_of w lacks es e.actor)) (sym next_so) (record { attempt = refl; fired = refl })
  where
    three : kind_noted e.note ≡ 3
    three = ap kind_noted is.noted

    tried : Tries w es e (state_of w lacks es e.actor)
    tried = tries w n lacks es e holds step (omega (arith, three)) (omega (arith, three))

    handed : Option Task
    handed = if waits w is.spot then None else Some (view w (visible (es ++ e ∷ [])) t)

    next_so : after w e.actor (state_of w lacks es e.actor) (reply_of w es e) ≡ fire w e.actor (state_of w lacks es e.actor) tried.spot tried.more handed (map (cut_view w (visible (es ++ e ∷ []))) is.cuts)
    next_so = ap (λ tu. after_in w e.actor (state_of w lacks es e.actor) tu (reply_of w es e)) tried.turns ∙ ap (λ note. after_attempt w e.actor (state_of w lacks es e.actor) tried.spot tried.more (reply_to w (visible (es ++ e ∷ [])) (notes_at es e.place) note)) is.noted

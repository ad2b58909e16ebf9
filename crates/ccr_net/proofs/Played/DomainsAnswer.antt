-- A domain of Interleaves, which keeps its waiting tasks whole, answers each ask of a run as the run has it.
use Rattle.std.proofs.Common.{◌≡◌, ℕ, Bool, true, false, List, [], ◌∷◌, ◌++◌, map, Option, Some, None, refl, sym, ap, ◌∙◌}
use Rattle.std.specs.Prelude.{if◌then◌else◌, slice_get, drop, is_some}
use Rattle.std.specs.Option.{option_map, option_map_or}
use Rattle.std.proofs.lemmas.Option.{slice_get-map}
use Rattle.std.proofs.lemmas.List.{drop-map}
use Rattle.ccr_base.specs.declared.names.MsgId.{MsgId}
use Rattle.ccr_base.specs.declared.names.Place.TheVariants as places
use Rattle.ccr_base.specs.declared.names.TaskId.{TaskId}
use Rattle.ccr_base.specs.declared.tasks.By.{By}
use Rattle.ccr_base.specs.declared.tasks.Cut.{Cut}
use Rattle.ccr_base.specs.declared.tasks.Task.{Task}
use Rattle.ccr_wiring.specs.declared.parts.Parts.{Parts}
use Rattle.ccr_wiring.specs.Wirings.{Placement, placements}
use Rattle.ccr_model.specs.declared.history.Event.{Event}
use Rattle.ccr_model.specs.Tasks.{is_interleave}
use Rattle.ccr_base.proofs.Booleans.{eq-self}
use Rattle.ccr_base.proofs.Options.{some_then, some_is}
use Rattle.ccr_base.proofs.Lists.{map_twice}
use Rattle.ccr_places.specs.Commits.{cut_tasks}
use Rattle.ccr_places.specs.declared.notes.Note.{Note}
use Rattle.ccr_places.specs.declared.notes.Note.TheVariants as notes
use Rattle.ccr_places.specs.Interleaves as interleaves
use Rattle.ccr_places.specs.Interleaves.{InterleaveState, InterleaveTasks, Waiting, group_at}
use Rattle.ccr_interleave.specs.Replies as kept
use Rattle.ccr_claim.specs.declared.asks.Ask.{Ask}
use Rattle.ccr_claim.specs.declared.asks.Ask.TheVariants as asks
use Rattle.ccr_claim.specs.declared.asks.Reply.{Reply}
use Rattle.ccr_claim.specs.declared.asks.Reply.TheVariants as replies
use Rattle.ccr_claim.specs.Attempts.{at_place}
use Rattle.ccr_object.specs.declared.object.Object.TheVariants.{Interleave}
use Rattle.ccr_object.specs.Interleaves as objects
use Rattle.ccr_object.specs.Objects.{answer, after}
use Rattle.ccr_actor.specs.Plans.{is_interleave_number}
use Rattle.ccr_runs.specs.declared.entries.Entry.{Entry}
use Rattle.ccr_runs.specs.Places.{branches_from, groups_in, note_of, note_at_arbiter, note_by_kind, interleave_note, commit_note}
use Rattle.ccr_runs.specs.EntryRuns.{Lacks, notes_at, reply_to, same_place, waits, domain_at}
use Rattle.ccr_runs.specs.Views.{view, cut_view}
use Rattle.ccr_runs.specs.Visible.{visible, event_of}
use Rattle.ccr_net.proofs.Kept.WholeInvariant.{Holds}
use Rattle.ccr_net.proofs.Played.BuiltTasksAreTold.{IsBuilt}
use Rattle.ccr_net.proofs.Parts.DomainsMatch.{domain_at-push}
use Rattle.ccr_net.proofs.Parts.NotesAnswerAsks.{Given, given_some}
use Rattle.ccr_net.proofs.Kept.WhatWiringsHave.{PlainFacts}
use Rattle.ccr_net.proofs.Played.OtherObjectsStay.{waiting_fired}
use Rattle.ccr_net.proofs.Played.ObjectsFollowNotes.{AnswersAs, told_interleave}
use Rattle.ccr_net.proofs.Played.DomainsBeginAlike.{domain_arbiter, domain_branch, domain_object}
use Rattle.ccr_net.proofs.Parts.OneMoreEntry.{visible-push}
use Rattle.ccr_net.proofs.Played.ToldTasksStay.{map_behind, views-stay}

-- the task that the ask commits
abbrev pub CommitTells : Parts → List Entry → Entry → ℕ → Ask → Type 0
CommitTells w es e i (asks.Commit task messages) = IsBuilt w es e i task messages
CommitTells w es e i _ = Unit {0}

-- the whole tasks of those that wait
abbrev whole_waiting : Parts → List Event → List Waiting → List Task
whole_waiting w h xs = map (λ (x : Waiting). view w h x.task) xs

-- an admission takes out the oldest
admission_list : (st : InterleaveState) → (interleaves.after_admission st).waiting ≡ drop 1 st.waiting
admission_list st = by st.waiting refl
  where
    by : (xs : List Waiting) → st.waiting ≡ xs → (interleaves.after_admission st).waiting ≡ drop 1 st.waiting
    by [] is = rw is refl
    by (x ∷ xs) is = rw is refl

module _ (w : Parts) (n : ℕ) (lacks : Lacks) (es : List Entry) (e : Entry) (plain : PlainFacts w) (holds : Holds w n lacks es) (i : ℕ) (number : is_interleave_number w i ≡ true) where
  abbrev h : List Event
  h = visible es

  abbrev later : List Event
  later = visible (es ++ e ∷ [])

  abbrev state : InterleaveState
  state = domain_at w es i

  abbrev told : InterleaveTasks
  told = record { state = state; tasks = whole_waiting w h state.waiting }

  waiting_stay : whole_waiting w later state.waiting ≡ whole_waiting w h state.waiting
  waiting_stay = ap (λ g. whole_waiting w g state.waiting) (visible-push es e) ∙ views-stay (λ (x : Waiting). x.task) w h (event_of e) state.waiting (waiting_fired w n lacks es holds i (branches_from i 0 (placements w)) (groups_in w i))

  -- the answer and the object after it, from their parts
  played : (ask : Ask) (reply : Reply) (note : Note) → e.place ≡ places.Arbiter i → e.note ≡ note → reply_to w later (notes_at es e.place) note ≡ reply → objects.answer told ask ≡ Some (reply, note) → Interleave (objects.after told ask) ≡ told_interleave w later (interleaves.after state note) → AnswersAs w es (at_place (places.Arbiter i) ask) e
  played ask reply note there is replied answered left = record {
    answers = ap (λ object. answer object ask) (domain_object w plain i number es) ∙ answered ∙ (λ j. Some (sym (ap (reply_to w later (notes_at es e.place)) is ∙ replied) j, sym is j));
    goes = ap (λ object. after object ask) (domain_object w plain i number es) ∙ left ∙ ap (told_interleave w later) (sym pushed) ∙ sym (domain_object w plain i number (es ++ e ∷ []));
  }
    where
      pushed : domain_at w (es ++ e ∷ []) i ≡ interleaves.after state note
      pushed = domain_at-push w es e i ∙ ap (λ b. if b then interleaves.after state e.note else state) (ap (λ p. same_place p (places.Arbiter i)) there ∙ eq-self i) ∙ ap (interleaves.after state) is

  -- a state with the same waiting tasks
  stays_with : (new : InterleaveState) → new.waiting ≡ state.waiting → Interleave (record { state = new; tasks = told.tasks }) ≡ told_interleave w later new
  stays_with new same = λ j. Interleave (record { state = new; tasks = (sym waiting_stay ∙ ap (whole_waiting w later) (sym same)) j })

  -- ---- a commit

  cuts_same : (c : Bool) → map (cut_view w later) (if c then map (λ (x : Waiting). x.task) state.waiting else []) ≡ (if c then map kept.cut_of told.tasks else [])
  cuts_same true = map_twice (cut_view w later) (λ (x : Waiting). x.task) state.waiting ∙ sym (map_twice kept.cut_of (λ (x : Waiting). view w later x.task) state.waiting) ∙ ap (map kept.cut_of) waiting_stay
  cuts_same false = refl

  cut_names : (c : Bool) → cut_tasks (if c then map kept.cut_of told.tasks else []) ≡ (if c then map (λ (x : Waiting). x.task) state.waiting else [])
  cut_names true = map_twice (λ (cut : Cut). cut.task) kept.cut_of told.tasks ∙ map_twice (λ (t : Task). t.id) (λ (x : Waiting). view w h x.task) state.waiting
  cut_names false = refl

  commit_answers : (task : Task) (ms : List MsgId) → e.place ≡ places.Arbiter i → interleave_note state (asks.Commit task ms) ≡ Some e.note → IsBuilt w es e i task ms → AnswersAs w es (at_place (places.Arbiter i) (asks.Commit task ms)) e
  commit_answers task ms there gives built = by_dead (interleaves.dead_by state) refl
    where
      found : (interleaves.may_commit state task ≡ true) × (e.note ≡ commit_note task ms (interleaves.dead_by state) (notes.Fired task.id task.spot ms (interleaves.cut_note state task.spot)))
      found = given_some (interleaves.may_commit state task) (commit_note task ms (interleaves.dead_by state) (notes.Fired task.id task.spot ms (interleaves.cut_note state task.spot))) e.note gives

      noted : (o : Option By) → interleaves.dead_by state ≡ o → e.note ≡ commit_note task ms o (notes.Fired task.id task.spot ms (interleaves.cut_note state task.spot))
      noted o is = found.1 ∙ ap (λ x. commit_note task ms x (notes.Fired task.id task.spot ms (interleaves.cut_note state task.spot))) is

      waits_so : waits w task.spot ≡ true
      waits_so = ap (waits w) built.branch ∙ ap (λ o. option_map_or (λ (s : Placement). is_interleave s.kind) o false) built.sits ∙ domain_branch w plain i number built.number built.seat built.sits built.at_i

      whole : e.note ≡ notes.Fired task.id task.spot ms (interleaves.cut_note state task.spot) → task ≡ view w later task.id
      whole note = built.whole (interleaves.cut_note state task.spot) note

      spared_so : (c : Bool) → (if c then [] else told.tasks) ≡ whole_waiting w later (if c then [] else state.waiting)
      spared_so true = refl
      spared_so false = sym waiting_stay

      by_dead : (o : Option By) → interleaves.dead_by state ≡ o → AnswersAs w es (at_place (places.Arbiter i) (asks.Commit task ms)) e
      by_dead None is = played (asks.Commit task ms) (replies.Fired None (kept.cuts_at told task.spot)) (notes.Fired task.id task.spot ms (interleaves.cut_note state task.spot)) there (noted None is)
          (λ j. replies.Fired (if waits_so j then None else Some (view w later task.id)) (cuts_same (interleaves.is_teardown (group_at state task.spot)) j))
          (rw (found.0, is) (λ j. Some (replies.Fired None (kept.cuts_at told task.spot), notes.Fired task.id task.spot ms (cut_names (interleaves.is_teardown (group_at state task.spot)) j))))
          (rw (found.0, is) (λ j. Interleave (record { state = interleaves.after_firing state task.id task.spot; tasks = ((λ k. spared_so (interleaves.is_teardown (group_at state task.spot)) k ++ whole (noted None is) k ∷ []) ∙ sym (map_behind (λ (x : Waiting). view w later x.task) (interleaves.spared state task.spot) ((record { task = task.id; spot = task.spot }) ∷ []))) j })))
      by_dead (Some cause) is = played (asks.Commit task ms) (replies.Dead cause) (notes.Dead task.id task.spot cause) there (noted (Some cause) is) refl (rw (found.0, is) refl) (rw (found.0, is) (stays_with state refl))

  -- ---- an admission

  first_is : (x : Waiting) → interleaves.next_admitted state ≡ Some x → slice_get state.waiting 0 ≡ Some x
  first_is x is =
      let found = some_then (λ (y : Waiting). if interleaves.may_admit state y.spot then Some y else None) (slice_get state.waiting 0) x is in
      found.1 ∙ ap Some (same found.0 (interleaves.may_admit state found.0.spot) found.2)
    where
      same : (y : Waiting) (c : Bool) → (if c then Some y else None) ≡ Some x → y ≡ x
      same y true now = cc
      same y false now = absurd (cc)

  admitted_so : (o : Option Waiting) → ((x : Waiting) → o ≡ Some x → slice_get state.waiting 0 ≡ Some x) → option_map (view w later) (option_map (λ (x : Waiting). x.task) o) ≡ (if is_some (option_map (λ (x : Waiting). x.task) o) then slice_get told.tasks 0 else None)
  admitted_so None first = refl
  admitted_so (Some x) first = sym (ap (λ ts. slice_get ts 0) (sym waiting_stay) ∙ slice_get-map (λ (y : Waiting). view w later y.task) state.waiting 0 ∙ ap (option_map (λ (y : Waiting). view w later y.task)) (first x refl))

  left_so : (o : Option TaskId) → Interleave (if is_some o then kept.after_oldest told else told) ≡ told_interleave w later (interleaves.after_admit state o)
  left_so None = stays_with state refl
  left_so (Some t) = λ j. Interleave (record { state = interleaves.after_admission state; tasks = (ap (drop 1) (sym waiting_stay) ∙ drop-map (λ (x : Waiting). view w later x.task) 1 state.waiting ∙ ap (whole_waiting w later) (sym (admission_list state))) j })

  -- ---- all asks

  by_ask : (ask : Ask) → e.place ≡ places.Arbiter i → interleave_note state ask ≡ Some e.note → CommitTells w es e i ask → AnswersAs w es (at_place (places.Arbiter i) ask) e
  by_ask (asks.Commit task ms) there gives tells = commit_answers task ms there gives tells
  by_ask asks.Admit there gives tells =
      played asks.Admit (replies.Admitted (kept.next_task told)) (notes.Admit (interleaves.admit_note state)) there (sym (some_is gives)) (ap replies.Admitted (admitted_so (interleaves.next_admitted state) first_is)) refl (left_so (interleaves.admit_note state))
  by_ask (asks.Over t r how) there gives tells =
      let found = given_some (interleaves.may_over state r) (notes.Over t r how) e.note gives in
      played (asks.Over t r how) replies.Done (notes.Over t r how) there found.1 refl
      (ap (λ b. if b then Some (replies.Done, notes.Over t r how) else None) found.0)
      (ap (λ b. Interleave (if b then record told { state = interleaves.after_over state r } else told)) found.0 ∙ stays_with (interleaves.after_over state r) refl)
  by_ask (asks.Post m) there gives tells = absurd (cc)
  by_ask (asks.Claim t s) there gives tells = absurd (cc)
  by_ask (asks.Consume t) there gives tells = absurd (cc)
  by_ask (asks.Free t) there gives tells = absurd (cc)
  by_ask (asks.Suspend t) there gives tells = absurd (cc)
  by_ask (asks.Book t r) there gives tells = absurd (cc)
  by_ask (asks.Unbook t) there gives tells = absurd (cc)
  by_ask (asks.Put t) there gives tells = absurd (cc)
  by_ask asks.Take there gives tells = absurd (cc)
  by_ask asks.Draw there gives tells = absurd (cc)
  by_ask asks.Leave there gives tells = absurd (cc)
  by_ask asks.Left there gives tells = absurd (cc)

  -- the note that the place gives is the domain's
  pub domain_note : (ask : Ask) → note_of w (places.Arbiter i) (notes_at es (places.Arbiter i)) ask ≡ interleave_note state ask
  domain_note ask =
      let its = domain_arbiter w i number in
      ap (λ o. note_at_arbiter w i o (notes_at es (places.Arbiter i)) ask) its.at_i ∙ ap (λ kind. note_by_kind w i kind its.part (notes_at es (places.Arbiter i)) ask) its.kind_so

  pub domain_answers : (ask : Ask) → Given w es e (at_place (places.Arbiter i) ask) → CommitTells w es e i ask → AnswersAs w es (at_place (places.Arbiter i) ask) e
  domain_answers ask got tells = by_ask ask got.there (sym (domain_note ask) ∙ got.gives) tells

-- What an actor owes: the asks in its hand, and those by which its attempt would hand back; and how an entry of its changes that.
use Rattle.std.proofs.Common.{inl, inr, ◌⊎◌, ◌≡◌, ℕ, Bool, true, false, List, [], ◌∷◌, ◌++◌, map, reverse, Option, Some, None, refl, sym, ap, ◌∙◌, subst, append-nil}
use Rattle.std.specs.Prelude.{nat_lt, ◌^◌}
use Rattle.std.proofs.lemmas.List.{reverse-append}
use Rattle.ccr_base.specs.declared.messages.Sent.{Sent}
use Rattle.ccr_base.specs.declared.names.Place.TheVariants as places
use Rattle.ccr_base.specs.declared.names.Spot.{Spot}
use Rattle.ccr_base.specs.declared.names.TaskId.{TaskId}
use Rattle.ccr_base.specs.declared.tasks.How.{How}
use Rattle.ccr_base.specs.declared.tasks.How.TheVariants as hows
use Rattle.ccr_base.specs.declared.tasks.Task.{Task}
use Rattle.ccr_base.specs.declared.tasks.Cut.{Cut}
use Rattle.ccr_handler.specs.declared.segments.PlayEnd.{PlayEnd}
use Rattle.ccr_handler.specs.declared.segments.PlayEnd.TheVariants as plays
use Rattle.ccr_wiring.specs.declared.parts.Parts.{Parts}
use Rattle.ccr_model.specs.declared.history.Event.{Event}
use Rattle.ccr_model.specs.Tasks.{running_by}
use Rattle.ccr_model.proofs.FiredTasks.{IsFired}
use Rattle.ccr_base.proofs.Booleans.{eq-self}
use Rattle.ccr_base.proofs.Options.{some_so}
use Rattle.ccr_places.specs.declared.notes.ClaimNote.TheVariants.{Got}
use Rattle.ccr_places.specs.declared.notes.Note.TheVariants as notes
use Rattle.ccr_places.specs.Ports.{first_fitting}
use Rattle.ccr_places.specs.Ports as ports
use Rattle.ccr_claim.specs.declared.asks.Ask.{Ask}
use Rattle.ccr_claim.specs.declared.asks.Ask.TheVariants as asks
use Rattle.ccr_claim.specs.declared.asks.Asked.{Asked}
use Rattle.ccr_claim.specs.declared.plan.Had.{Had}
use Rattle.ccr_claim.specs.Plans.{in_pattern, names_of, resumes}
use Rattle.ccr_claim.specs.Attempts.{at_place, Phase, booking, claiming, attempt_ask, release, free_ask, unbook_ask, firing_hand, put_ask, over_dropped}
use Rattle.ccr_actor.specs.Plans.{plan_of}
use Rattle.ccr_actor.specs.Actors.{State, Work, lines, round, taking, playing, posting, shedding, resting, go_on, turn, after, after_work, in_attempt, shorten, fire, give_up, driven_on, admit_too, put_admitted, work_ask, play_ask, end_ask, name_at, spots_left}
use Rattle.ccr_actor.proofs.StepsOfAttempts.{none-owed, same-attempt}
use Rattle.ccr_actor.specs.Courses.{owing}
use Rattle.ccr_runs.specs.declared.entries.Entry.{Entry}
use Rattle.ccr_runs.specs.EntryRuns.{Lacks, state_of, port_at, reply_of}
use Rattle.ccr_runs.specs.Views.{view, cut_view}
use Rattle.ccr_runs.specs.Visible.{visible}
use Rattle.ccr_net.proofs.Parts.OneMoreEntry.{Step, state_of-own}
use Rattle.ccr_net.proofs.Parts.WorkMatches.{WorkMatches, RunsTask}
use Rattle.ccr_net.proofs.Parts.PhasesFitPlans.{StateFits, PhaseFits}
use Rattle.ccr_net.proofs.Kept.WholeInvariant.{Holds, none_go_on}
use Rattle.ccr_net.proofs.Parts.NotesAnswerAsks.{Given}
use Rattle.ccr_net.proofs.Owed.WorkKeepsStates.{Worked, worked}
use Rattle.ccr_net.proofs.Owed.EntriesAreMoves.{Move, settles, drops, admits, strikes, books, claims, fires, gives_up, goes, handed, moved}

-- an ask that settles nothing
abbrev pub is_quiet : Ask → Bool
is_quiet (asks.Post m) = true
is_quiet (asks.Claim t s) = true
is_quiet (asks.Consume t) = false
is_quiet (asks.Free t) = false
is_quiet (asks.Commit t ms) = true
is_quiet asks.Admit = true
is_quiet (asks.Over t r how) = false
is_quiet (asks.Suspend t) = true
is_quiet (asks.Book t r) = true
is_quiet (asks.Unbook t) = false
is_quiet (asks.Put t) = false
is_quiet asks.Take = true
is_quiet asks.Draw = true
is_quiet asks.Leave = true
is_quiet asks.Left = true

-- an end of a task that ran
abbrev pub is_run_end : How → Bool
is_run_end hows.Done = true
is_run_end (hows.Failed value) = true
is_run_end hows.Shed = true
is_run_end hows.Dropped = false

-- the actor runs the task as the history has it
pub record Runs (w : Parts) (h : List Event) (a : ℕ) (task : Task) : Type 0 where
  pub alone : running_by h a ≡ task.id ∷ []
  pub fires : IsFired h task.id
  pub as_seen : task ≡ view w h task.id

-- what an attempt that got these would hand back
abbrev pub hands_back : Parts → Spot → TaskId → List Had → List Asked
hands_back w spot name had = map (free_ask name) (reverse had) ++ unbook_ask (plan_of w spot).queue name ∷ []

-- how what the entry's actor owes changes
pub data Owes (w : Parts) (es : List Entry) (e : Entry) (st : State) (xs ys : List Asked) : Type 0 where
  less : (x : Asked) → Given w es e x → xs ≡ x ∷ ys → Owes w es e st xs ys
  dropped : (x : Asked) (rest : List Asked) (t d : TaskId) → Given w es e x → e.note ≡ notes.Put t (Some d) → xs ≡ x ∷ rest → ys ≡ over_dropped (view w (visible (es ++ e ∷ [])) d) ∷ rest → Owes w es e st xs ys
  admitted : (i : ℕ) (more : List ℕ) (t : TaskId) → st.domains ≡ i ∷ more → Given w es e (at_place (places.Arbiter i) asks.Admit) → e.note ≡ notes.Admit (Some t) → ys ≡ put_ask (view w (visible (es ++ e ∷ [])) t) ∷ xs → Owes w es e st xs ys
  booked : (spot : Spot) → Given w es e (attempt_ask (plan_of w spot) (name_at e.actor st) booking) → e.note ≡ notes.Book (name_at e.actor st) (resumes spot) None → xs ≡ [] → ys ≡ unbook_ask (plan_of w spot).queue (name_at e.actor st) ∷ [] → Owes w es e st xs ys
  got : (d : Had) (k : ℕ) → Given w es e (at_place (places.Port d.slot.port) (asks.Claim (name_at e.actor st) d.slot)) → ports.claim_note (port_at es d.slot.port) d.slot ≡ Got k → e.note ≡ notes.Claim (name_at e.actor st) d.slot (Got k) → ys ≡ free_ask (name_at e.actor st) d ∷ xs → Owes w es e st xs ys
  fired : (spot : Spot) (more : List Spot) (had : List Had) (cs : List TaskId) → st.spots ≡ spot ∷ more → st.phase ≡ claiming [] had → Given w es e (attempt_ask (plan_of w spot) (name_at e.actor st) (claiming [] had)) → e.note ≡ notes.Fired (name_at e.actor st) spot (names_of (in_pattern (plan_of w spot).pattern had)) cs
      → xs ≡ hands_back w spot (name_at e.actor st) had → ys ≡ firing_hand (name_at e.actor st) had (handed w es e (name_at e.actor st) spot) (map (cut_view w (visible (es ++ e ∷ []))) cs) → Owes w es e st xs ys
  same : (x : Asked) → Given w es e x → is_quiet x.ask ≡ true → ys ≡ xs → Owes w es e st xs ys
  ended : (task : Task) (how : How) → Given w es e (at_place (places.Arbiter task.arbiter) (asks.Over task.id task.root how)) → is_run_end how ≡ true → Runs w (visible es) e.actor task → ys ≡ xs → Owes w es e st xs ys

-- ---- what an attempt hands back

owing_short : (w : Parts) (a : ℕ) (st : State) → owing w a (shorten w a st) ≡ owing w a st
owing_short w a st = append-nil (st.hand ++ in_attempt w a st st.spots)

pub owing_next : (w : Parts) (a : ℕ) (st new next : State) → (new ≡ next) ⊎ (new ≡ shorten w a next) → owing w a new ≡ owing w a next
owing_next w a st new next (inl is) = ap (owing w a) is
owing_next w a st new next (inr is) = ap (owing w a) is ∙ owing_short w a next

-- who drives nothing has no attempt under way
pub driven : (w : Parts) (st : State) → StateFits w st → spots_left st ≡ [] → st.phase ≡ booking
driven w st fits none = by st.phase refl st.spots refl (nat_lt st.attempt (2 ^ 32)) refl fits.phase_so none
  where
    by : (ph : Phase) → st.phase ≡ ph → (spots : List Spot) → st.spots ≡ spots → (b : Bool) → nat_lt st.attempt (2 ^ 32) ≡ b → PhaseFits w st.attempt st.phase st.spots → spots_left st ≡ [] → st.phase ≡ booking
    by booking phase spots at b left fit gone = phase
    by (claiming slots had) phase [] at b left fit gone = absurd (rw (phase, at) at fit)
    by (claiming slots had) phase (s ∷ spots) at true left fit gone = absurd (let some : s ∷ spots ≡ [] = (rw (left, at) at gone) in cc)
    by (claiming slots had) phase (s ∷ spots) at false left fit gone = absurd (let low : nat_lt st.attempt (2 ^ 32) ≡ true = (rw (phase, at) at fit).0 in cc)

-- nor has who goes on
pub idle_booking : (w : Parts) (st : State) → StateFits w st → turn st ≡ go_on → st.phase ≡ booking
idle_booking w st fits turns = driven w st fits (none_go_on st.is_short st.hand st.domains (spots_left st) turns).1

-- ---- asks of work

-- whose end or rest it is
runs_task : (w : Parts) (h : List Event) (a : ℕ) (task : Task) (index : ℕ) (left : List Sent) → RunsTask w h a task index left → Runs w h a task
runs_task w h a task index left is = record { alone = is.alone; fires = is.fires; as_seen = is.as_seen }

abbrev pub WorkAsks : Parts → List Event → ℕ → Asked → Type 0
WorkAsks w h a x = (is_quiet x.ask ≡ true) ⊎ ((task : Task) × (how : How) × (x ≡ at_place (places.Arbiter task.arbiter) (asks.Over task.id task.root how)) × (is_run_end how ≡ true) × Runs w h a task)

some_ask : (w : Parts) (h : List Event) (a : ℕ) (y x : Asked) → Some y ≡ Some x → WorkAsks w h a y → WorkAsks w h a x
some_ask w h a y x is asks = some_so (WorkAsks w h a) is asks

pub work_asks : (w : Parts) (h : List Event) (a : ℕ) (wk : Work) (x : Asked) → WorkMatches w h a wk → work_ask a wk ≡ Some x → WorkAsks w h a x
work_asks w h a (lines index []) x match is = some_ask w h a _ x is (inl refl)
work_asks w h a (lines index (sent ∷ sents)) x match is = some_ask w h a _ x is (inl refl)
work_asks w h a round x match is = some_ask w h a _ x is (inl refl)
work_asks w h a (taking left queue more) x match is = some_ask w h a _ x is (inl refl)
work_asks w h a (playing task index play) x match is = by_posts play.posts refl is
  where
    by_end : (end : PlayEnd) (ps : List Sent) → RunsTask w h a task index ps → WorkAsks w h a (end_ask task play end)
    by_end plays.Done ps run = inr (task, hows.Done, refl, refl, runs_task w h a task index ps run)
    by_end (plays.Failed value) ps run = inr (task, hows.Failed value, refl, refl, runs_task w h a task index ps run)
    by_end (plays.Yield site) ps run = inl refl

    by_posts : (ps : List Sent) → play.posts ≡ ps → Some (play_ask task play ps) ≡ Some x → WorkAsks w h a x
    by_posts [] posts now = some_ask w h a _ x now (by_end play.end play.posts match.0)
    by_posts (sent ∷ ps) posts now = some_ask w h a _ x now (inl refl)
work_asks w h a (posting task index play sent) x match is = some_ask w h a _ x is (inl refl)
work_asks w h a (shedding task) x match is = some_ask w h a _ x is (inr (task, hows.Shed, refl, refl, runs_task w h a task match.0 (match.1 ∷ match.2) match.3))
work_asks w h a resting x match is = absurd (cc)

-- ---- each step

module _ (w : Parts) (n : ℕ) (lacks : Lacks) (es : List Entry) (e : Entry) (holds : Holds w n lacks es) (step : Step w lacks es e) where
  abbrev st : State
  st = state_of w lacks es e.actor

  abbrev name : TaskId
  name = name_at e.actor st

  -- the attempt under way at this spot
  under_way : (spot : Spot) (more : List Spot) (ph : Phase) → st.hand ≡ [] → st.spots ≡ spot ∷ more → st.phase ≡ ph → owing w e.actor st ≡ release (plan_of w spot) name ph
  under_way spot more ph hand spots phase = rw (hand, spots, phase) refl

  of_move : (next : State) → Move w es e st next → Owes w es e st (owing w e.actor st) (owing w e.actor next)
  of_move next (settles x more hand given is) = less x given (rw hand refl ∙ ap (λ xs. x ∷ xs) (sym now))
    where
      now : owing w e.actor next ≡ more ++ in_attempt w e.actor st st.spots
      now = ap (owing w e.actor) is ∙ ap (λ xs. more ++ xs) (same-attempt w e.actor (record st { hand = more }) st st.spots refl refl)
  of_move next (drops x more t d hand given note is) = dropped x (more ++ in_attempt w e.actor st st.spots) t d given note (rw hand refl) (ap (owing w e.actor) is ∙ ap (λ xs. over_dropped (view w (visible (es ++ e ∷ [])) d) ∷ (more ++ xs)) (same-attempt w e.actor (record st { hand = over_dropped (view w (visible (es ++ e ∷ [])) d) ∷ more; domains = admit_too w st (view w (visible (es ++ e ∷ [])) d) }) st st.spots refl refl))
  of_move next (admits i more t hand numbers given note is) = admitted i more t numbers given note (ap (owing w e.actor) is ∙ ap (λ xs. put_ask (view w (visible (es ++ e ∷ [])) t) ∷ xs) (same-attempt w e.actor (put_admitted st more (view w (visible (es ++ e ∷ [])) t)) st st.spots refl refl ∙ sym (ap (λ xs. xs ++ in_attempt w e.actor st st.spots) hand)))
  of_move next (strikes i more hand numbers given is) = same _ given refl (ap (owing w e.actor) is ∙ ap (λ xs. st.hand ++ xs) (same-attempt w e.actor (record st { domains = more }) st st.spots refl refl))
  of_move next (books spot more hand spots phase given note is) = booked spot given note (under_way spot more booking hand spots phase) (ap (owing w e.actor) is ∙ rw (hand, spots) refl)
  of_move next (claims spot more slot slots had k hand spots phase given free note is) = got d k given free note (ap (owing w e.actor) is ∙ rw (hand, spots) (ap (λ ds. map (free_ask name) ds ++ unbook_ask (plan_of w spot).queue name ∷ []) (reverse-append had (d ∷ []))) ∙ ap (λ xs. free_ask name d ∷ xs) (sym (under_way spot more (claiming (slot ∷ slots) had) hand spots phase)))
    where
      d : Had
      d = record { slot = slot; messages = first_fitting k slot.pred (port_at es slot.port).items }
  of_move next (fires spot more had cs hand spots phase given note is) = fired spot more had cs spots phase given note (under_way spot more (claiming [] had) hand spots phase) (ap (owing w e.actor) is ∙ rw phase (ap (λ xs. firing_hand name had task cuts ++ xs) (none-owed w e.actor (fire w e.actor st spot more task cuts) (driven_on st spot more) refl) ∙ append-nil (firing_hand name had task cuts)))
    where
      task : Option Task
      task = handed w es e name spot

      cuts : List Cut
      cuts = map (cut_view w (visible (es ++ e ∷ []))) cs
  of_move next (gives_up spot more hand spots given quiet is) = same _ given (asks_quiet st.phase) (ap (owing w e.actor) is ∙ ap (λ xs. release (plan_of w spot) name st.phase ++ xs) (none-owed w e.actor (give_up w e.actor st spot more) more refl) ∙ append-nil (release (plan_of w spot) name st.phase) ∙ sym (under_way spot more st.phase hand spots refl))
    where
      asks_quiet : (ph : Phase) → is_quiet (attempt_ask (plan_of w spot) name ph).ask ≡ true
      asks_quiet booking = refl
      asks_quiet (claiming [] had) = refl
      asks_quiet (claiming (slot ∷ slots) had) = refl
  of_move next (goes x turns asks given is) = by (work_asks w (visible es) e.actor st.work x (holds.actors e.actor).work asks)
    where
      went : Worked w st (after_work w st st.work (reply_of w es e))
      went = worked w st st.work refl (reply_of w es e)

      idle : st.phase ≡ booking
      idle = idle_booking w st (holds.actors e.actor).fits turns

      stays : owing w e.actor next ≡ owing w e.actor st
      stays = ap (owing w e.actor) is ∙ (λ i. went.hand i ++ (none-owed w e.actor (after_work w st st.work (reply_of w es e)) (after_work w st st.work (reply_of w es e)).spots (went.phase ∙ idle) ∙ sym (none-owed w e.actor st st.spots idle)) i)

      by : WorkAsks w (visible es) e.actor x → Owes w es e st (owing w e.actor st) (owing w e.actor next)
      by (inl quiet) = same x given quiet stays
      by (inr over) = ended over.0 over.1 (subst (Given w es e) over.2 given) over.3 over.4 stays

  pub owes : Owes w es e st (owing w e.actor st) (owing w e.actor (state_of w lacks (es ++ e ∷ []) e.actor))
  owes = subst (Owes w es e st (owing w e.actor st)) (sym (owing_next w e.actor st (state_of w lacks (es ++ e ∷ []) e.actor) (after w e.actor st (reply_of w es e)) (state_of-own w lacks es e e.actor (eq-self e.actor)))) (of_move (after w e.actor st (reply_of w es e)) (moved w lacks es e step))

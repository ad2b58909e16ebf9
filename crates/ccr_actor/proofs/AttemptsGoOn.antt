-- An attempt that runs, after an answer: where it stands, and which state of the actor that is.
use Rattle.std.proofs.Common.{◌≡◌, ℕ, Bool, true, false, List, [], ◌∷◌, Some, None, Ok, Err, refl, sym, subst, inl, inr, ◌∙◌}
use Rattle.ccr_base.specs.declared.list.OutOfMemory.{OutOfMemory}
use Rattle.ccr_base.specs.declared.messages.Msg.{Msg}
use Rattle.ccr_base.specs.declared.names.Spot.{Spot}
use Rattle.ccr_base.specs.declared.names.TaskId.{TaskId}
use Rattle.ccr_base.specs.declared.patterns.Slot.{Slot}
use Rattle.ccr_base.specs.declared.tasks.By.{By}
use Rattle.ccr_base.specs.declared.tasks.Cut.{Cut}
use Rattle.ccr_base.specs.declared.tasks.Task.{Task}
use Rattle.ccr_wiring.specs.declared.parts.Parts.{Parts}
use Rattle.ccr_claim.specs.declared.asks.Due.{Due}
use Rattle.ccr_claim.specs.declared.asks.Reply.{Reply}
use Rattle.ccr_claim.specs.declared.asks.Reply.TheVariants as replies
use Rattle.ccr_claim.specs.declared.outcomes.Outcome.TheVariants as outcomes
use Rattle.ccr_claim.specs.declared.outcomes.Why.{Why}
use Rattle.ccr_claim.specs.declared.outcomes.Why.TheVariants as whys
use Rattle.ccr_claim.specs.declared.plan.ClaimPlan.{ClaimPlan}
use Rattle.ccr_claim.specs.declared.plan.Had.{Had}
use Rattle.ccr_claim.specs.Asks.{MaybeReply, due_of, fits, may_come}
use Rattle.ccr_claim.specs.Plans.{slots_in}
use Rattle.ccr_claim.specs.Attempts.{AttemptState, Phase, booking, claiming, had_in, attempt_ask, release, claimed, progress_of, IsAfter}
use Rattle.ccr_actor.specs.Actors.{State, name_at, after_attempt}
use Rattle.ccr_actor.specs.Courses.{HasEnded, RunsAt, owing, heard, IsHeard}
use Rattle.ccr_actor.specs.Plans.{plan_of}
use Rattle.ccr_claim.proofs.AttemptHandsSettle.{release_settles, firing_settles}

-- whether the reply is one to an attempt that runs
abbrev pub is_own : Reply → Bool
is_own replies.Done = false
is_own (replies.Got m) = true
is_own (replies.Busy t) = true
is_own (replies.Short n) = true
is_own (replies.Fired t cuts) = true
is_own (replies.Dead by) = true
is_own (replies.Admitted t) = false
is_own replies.Booked = true
is_own (replies.Full n) = true
is_own (replies.Dropped t) = false
is_own (replies.Taken t) = false
is_own (replies.Drawn n) = false
is_own replies.Spent = false
is_own (replies.Left n) = false

book_own : (r : Reply) (task : TaskId) (resumes : Bool) (plan : ClaimPlan) → fits (due_of (attempt_ask plan task booking).ask) r ≡ true → is_own r ≡ true
book_own replies.Done task resumes plan is = cc is
book_own (replies.Got m) task resumes plan is = refl
book_own (replies.Busy t) task resumes plan is = refl
book_own (replies.Short n) task resumes plan is = refl
book_own (replies.Fired t cuts) task resumes plan is = refl
book_own (replies.Dead by) task resumes plan is = refl
book_own (replies.Admitted t) task resumes plan is = cc is
book_own replies.Booked task resumes plan is = refl
book_own (replies.Full n) task resumes plan is = refl
book_own (replies.Dropped t) task resumes plan is = cc is
book_own (replies.Taken t) task resumes plan is = cc is
book_own (replies.Drawn n) task resumes plan is = cc is
book_own replies.Spent task resumes plan is = cc is
book_own (replies.Left n) task resumes plan is = cc is

claim_own : (r : Reply) (task : TaskId) (plan : ClaimPlan) (slot : Slot) (slots : List Slot) (had : List Had) → fits (due_of (attempt_ask plan task (claiming (slot ∷ slots) had)).ask) r ≡ true → is_own r ≡ true
claim_own replies.Done task plan slot slots had is = cc is
claim_own (replies.Got m) task plan slot slots had is = refl
claim_own (replies.Busy t) task plan slot slots had is = refl
claim_own (replies.Short n) task plan slot slots had is = refl
claim_own (replies.Fired t cuts) task plan slot slots had is = refl
claim_own (replies.Dead by) task plan slot slots had is = refl
claim_own (replies.Admitted t) task plan slot slots had is = cc is
claim_own replies.Booked task plan slot slots had is = refl
claim_own (replies.Full n) task plan slot slots had is = refl
claim_own (replies.Dropped t) task plan slot slots had is = cc is
claim_own (replies.Taken t) task plan slot slots had is = cc is
claim_own (replies.Drawn n) task plan slot slots had is = cc is
claim_own replies.Spent task plan slot slots had is = cc is
claim_own (replies.Left n) task plan slot slots had is = cc is

commit_own : (r : Reply) (task : TaskId) (plan : ClaimPlan) (had : List Had) → fits (due_of (attempt_ask plan task (claiming [] had)).ask) r ≡ true → is_own r ≡ true
commit_own replies.Done task plan had is = cc is
commit_own (replies.Got m) task plan had is = refl
commit_own (replies.Busy t) task plan had is = refl
commit_own (replies.Short n) task plan had is = refl
commit_own (replies.Fired t cuts) task plan had is = refl
commit_own (replies.Dead by) task plan had is = refl
commit_own (replies.Admitted t) task plan had is = cc is
commit_own replies.Booked task plan had is = refl
commit_own (replies.Full n) task plan had is = refl
commit_own (replies.Dropped t) task plan had is = cc is
commit_own (replies.Taken t) task plan had is = cc is
commit_own (replies.Drawn n) task plan had is = cc is
commit_own replies.Spent task plan had is = cc is
commit_own (replies.Left n) task plan had is = cc is

pub own : (plan : ClaimPlan) (task : TaskId) (phase : Phase) (r : Reply) → fits (due_of (attempt_ask plan task phase).ask) r ≡ true → is_own r ≡ true
own plan task booking r is = book_own r task false plan is
own plan task (claiming [] had) r is = commit_own r task plan had is
own plan task (claiming (slot ∷ slots) had) r is = claim_own r task plan slot slots had is

-- the attempt that runs in this state
abbrev under : Parts → ℕ → State → Spot → Due → AttemptState
under wiring actor state spot due = record { plan = plan_of wiring spot; task = name_at actor state; hand = []; phase = state.phase; ended = None; due = due }

abbrev Heard : Parts → ℕ → State → Spot → List Spot → MaybeReply → AttemptState → Type 0
Heard wiring actor state spot more answer new = IsHeard wiring actor (name_at actor state) state spot more (heard wiring actor state spot more answer) (progress_of new.ended) new

-- it hands back what it had
gone : (plan : ClaimPlan) (task : TaskId) (phase : Phase) (why : Why) (due : Due) → HasEnded (record { plan = plan; task = task; hand = release plan task phase; phase = booking; ended = Some (outcomes.GaveUp why); due = due })
gone plan task phase why due = record { phase = refl; ended = refl; hand = release_settles plan task phase }

owes : (wiring : Parts) (actor : ℕ) (state : State) (spot : Spot) (more : List Spot) → state.hand ≡ [] → state.spots ≡ spot ∷ more → release (plan_of wiring spot) (name_at actor state) state.phase ≡ owing wiring actor state
owes wiring actor state spot more none at = rw (none, at) refl

module _ (wiring : Parts) (actor : ℕ) (state : State) (spot : Spot) (more : List Spot) (due : Due) (none : state.hand ≡ []) (at : state.spots ≡ spot ∷ more) where
  booked : (new : AttemptState) → IsAfter (under wiring actor state spot due) (Ok replies.Booked) new → Heard wiring actor state spot more (Ok replies.Booked) new
  booked new (inl is) = subst (Heard wiring actor state spot more (Ok replies.Booked)) (sym is) (record { reached = refl; runs = record { plan = refl; task = refl; ended = refl; hand = refl } })
  booked new (inr is) = subst (Heard wiring actor state spot more (Ok replies.Booked)) (sym is) (record { owes = owes wiring actor (after_attempt wiring actor state spot more replies.Booked) spot more none at; ended = gone (plan_of wiring spot) (name_at actor state) (claiming (slots_in (plan_of wiring spot).pattern) []) whys.Memory _ })

  got : (m : List Msg) (new : AttemptState) → IsAfter (under wiring actor state spot due) (Ok (replies.Got m)) new → Heard wiring actor state spot more (Ok (replies.Got m)) new
  got m new (inl is) = subst (Heard wiring actor state spot more (Ok (replies.Got m))) (sym is) (record { reached = refl; runs = record { plan = refl; task = refl; ended = refl; hand = refl } })
  got m new (inr is) = subst (Heard wiring actor state spot more (Ok (replies.Got m))) (sym is) (record { owes = owes wiring actor (after_attempt wiring actor state spot more (replies.Got m)) spot more none at; ended = gone (plan_of wiring spot) (name_at actor state) (claimed (plan_of wiring spot) m state.phase) whys.Memory _ })

  fired_none : (cuts : List Cut) (new : AttemptState) → IsAfter (under wiring actor state spot due) (Ok (replies.Fired None cuts)) new → Heard wiring actor state spot more (Ok (replies.Fired None cuts)) new
  fired_none cuts new (inl is) = subst (Heard wiring actor state spot more (Ok (replies.Fired None cuts))) (sym is) (record { reached = refl; ended = record { phase = refl; ended = refl; hand = firing_settles (name_at actor state) (had_in state.phase) None cuts } })
  fired_none cuts new (inr is) = subst (Heard wiring actor state spot more (Ok (replies.Fired None cuts))) (sym is) (record { reached = refl; ended = record { phase = refl; ended = refl; hand = firing_settles (name_at actor state) (had_in state.phase) None cuts } })

  fired_some : (t : Task) (cuts : List Cut) (new : AttemptState) → IsAfter (under wiring actor state spot due) (Ok (replies.Fired (Some t) cuts)) new → Heard wiring actor state spot more (Ok (replies.Fired (Some t) cuts)) new
  fired_some t cuts new (inl is) = subst (Heard wiring actor state spot more (Ok (replies.Fired (Some t) cuts))) (sym is) (record { reached = refl; ended = record { phase = refl; ended = refl; hand = firing_settles (name_at actor state) (had_in state.phase) (Some t) cuts } })
  fired_some t cuts new (inr is) = subst (Heard wiring actor state spot more (Ok (replies.Fired (Some t) cuts))) (sym is) (record { reached = refl; ended = record { phase = refl; ended = refl; hand = firing_settles (name_at actor state) (had_in state.phase) (Some t) cuts } })

  full : (n : ℕ) (new : AttemptState) → IsAfter (under wiring actor state spot due) (Ok (replies.Full n)) new → Heard wiring actor state spot more (Ok (replies.Full n)) new
  full n new (inl is) = subst (Heard wiring actor state spot more (Ok (replies.Full n))) (sym is) (record { reached = refl; ended = gone (plan_of wiring spot) (name_at actor state) state.phase (whys.Full n) _ })
  full n new (inr is) = subst (Heard wiring actor state spot more (Ok (replies.Full n))) (sym is) (record { reached = refl; ended = gone (plan_of wiring spot) (name_at actor state) state.phase (whys.Full n) _ })

  busy : (t : TaskId) (new : AttemptState) → IsAfter (under wiring actor state spot due) (Ok (replies.Busy t)) new → Heard wiring actor state spot more (Ok (replies.Busy t)) new
  busy t new (inl is) = subst (Heard wiring actor state spot more (Ok (replies.Busy t))) (sym is) (record { reached = refl; ended = gone (plan_of wiring spot) (name_at actor state) state.phase _ _ })
  busy t new (inr is) = subst (Heard wiring actor state spot more (Ok (replies.Busy t))) (sym is) (record { reached = refl; ended = gone (plan_of wiring spot) (name_at actor state) state.phase _ _ })

  few : (n : ℕ) (new : AttemptState) → IsAfter (under wiring actor state spot due) (Ok (replies.Short n)) new → Heard wiring actor state spot more (Ok (replies.Short n)) new
  few n new (inl is) = subst (Heard wiring actor state spot more (Ok (replies.Short n))) (sym is) (record { reached = refl; ended = gone (plan_of wiring spot) (name_at actor state) state.phase _ _ })
  few n new (inr is) = subst (Heard wiring actor state spot more (Ok (replies.Short n))) (sym is) (record { reached = refl; ended = gone (plan_of wiring spot) (name_at actor state) state.phase _ _ })

  dead : (by : By) (new : AttemptState) → IsAfter (under wiring actor state spot due) (Ok (replies.Dead by)) new → Heard wiring actor state spot more (Ok (replies.Dead by)) new
  dead by new (inl is) = subst (Heard wiring actor state spot more (Ok (replies.Dead by))) (sym is) (record { reached = refl; ended = gone (plan_of wiring spot) (name_at actor state) state.phase _ _ })
  dead by new (inr is) = subst (Heard wiring actor state spot more (Ok (replies.Dead by))) (sym is) (record { reached = refl; ended = gone (plan_of wiring spot) (name_at actor state) state.phase _ _ })

  refused : (e : OutOfMemory) (new : AttemptState) → IsAfter (under wiring actor state spot due) (Err e) new → Heard wiring actor state spot more (Err e) new
  refused e new (inl is) = subst (Heard wiring actor state spot more (Err e)) (sym is) (record { owes = owes wiring actor state spot more none at; ended = gone (plan_of wiring spot) (name_at actor state) state.phase whys.Memory _ })
  refused e new (inr is) = subst (Heard wiring actor state spot more (Err e)) (sym is) (record { owes = owes wiring actor state spot more none at; ended = gone (plan_of wiring spot) (name_at actor state) state.phase whys.Memory _ })

  replied : (r : Reply) → is_own r ≡ true → (new : AttemptState) → IsAfter (under wiring actor state spot due) (Ok r) new → Heard wiring actor state spot more (Ok r) new
  replied replies.Done is new after = cc is
  replied (replies.Got m) is new after = got m new after
  replied (replies.Busy t) is new after = busy t new after
  replied (replies.Short n) is new after = few n new after
  replied (replies.Fired None cuts) is new after = fired_none cuts new after
  replied (replies.Fired (Some t) cuts) is new after = fired_some t cuts new after
  replied (replies.Dead by) is new after = dead by new after
  replied (replies.Admitted t) is new after = cc is
  replied replies.Booked is new after = booked new after
  replied (replies.Full n) is new after = full n new after
  replied (replies.Dropped t) is new after = cc is
  replied (replies.Taken t) is new after = cc is
  replied (replies.Drawn n) is new after = cc is
  replied replies.Spent is new after = cc is
  replied (replies.Left n) is new after = cc is

  answered : (answer : MaybeReply) → may_come due answer ≡ true → due ≡ due_of (attempt_ask (plan_of wiring spot) (name_at actor state) state.phase).ask → (new : AttemptState) → IsAfter (under wiring actor state spot due) answer new → Heard wiring actor state spot more answer new
  answered (Ok r) may is new after = replied r (own (plan_of wiring spot) (name_at actor state) state.phase r (subst (λ d. fits d r ≡ true) is may)) new after
  answered (Err e) may is new after = refused e new after

-- the attempt that runs at the first spot, after an answer
pub heard_at : (wiring : Parts) (actor : ℕ) (state : State) (spot : Spot) (more : List Spot) (attempt : AttemptState) (answer : MaybeReply) (new : AttemptState) → state.hand ≡ [] → state.spots ≡ spot ∷ more → state.phase ≡ attempt.phase → RunsAt wiring (name_at actor state) spot attempt
    → may_come attempt.due answer ≡ true → attempt.due ≡ due_of (attempt_ask attempt.plan attempt.task attempt.phase).ask → IsAfter attempt answer new → Heard wiring actor state spot more answer new
heard_at wiring actor state spot more attempt answer new none at phase runs may is after =
    let same : attempt ≡ under wiring actor state spot attempt.due = rw (← runs.plan, ← runs.task, ← runs.ended, ← runs.hand, phase) refl in
    answered wiring actor state spot more attempt.due none at answer may (is ∙ rw (runs.plan, runs.task, phase) refl) new (subst (λ x. IsAfter x answer new) same after)

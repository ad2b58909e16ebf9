-- The asks of an attempt with their answers, and what they settle.
use Rattle.std.specs.Prelude.{◌≡◌, ℕ, Bool, true, false, List, [], ◌∷◌, ◌++◌, length, map, filter, flat_map, take, drop, reverse, nat_le, Option, Some, None, Ok, if◌then◌else◌}
use Rattle.std.specs.Bool.{IsTrue}
use Rattle.ccr_base.specs.declared.names.Place.{Place}
use Rattle.ccr_base.specs.declared.names.TaskId.{TaskId}
use Rattle.ccr_base.specs.declared.tasks.Cut.{Cut}
use Rattle.ccr_base.specs.declared.tasks.Task.{Task}
use Rattle.ccr_claim.specs.declared.asks.Ask.TheVariants as asks
use Rattle.ccr_claim.specs.declared.asks.Asked.{Asked}
use Rattle.ccr_claim.specs.declared.asks.Reply.TheVariants as replies
use Rattle.ccr_claim.specs.declared.outcomes.Next.{Next}
use Rattle.ccr_claim.specs.declared.outcomes.Next.TheVariants as nexts
use Rattle.ccr_claim.specs.declared.plan.ClaimPlan.{ClaimPlan}
use Rattle.ccr_claim.specs.Asks.{MaybeReply, is_settling, may_come}
use Rattle.ccr_claim.specs.Attempts.{AttemptState, at_place, begun, next, sent, after, after_all, out_of_memory, attempt_after, cut_ask, put_asks, waits}

-- an ask with its answer
pub record AttemptStep : Type 0 where
  pub asked : Asked
  pub answer : MaybeReply

-- the ask, where it is one
abbrev pub asked_in : Next → List Asked
asked_in (nexts.Ask place ask) = at_place place ask ∷ []
asked_in (nexts.Ended outcome) = []

-- the step that this answer completes
abbrev pub step_of : AttemptState → MaybeReply → List AttemptStep
step_of state answer = map (λ (asked : Asked). record { asked = asked; answer = answer }) (asked_in (next state))

-- the steps that these answers complete
abbrev pub steps_from : AttemptState → List MaybeReply → List AttemptStep
steps_from state [] = []
steps_from state (answer ∷ answers) = step_of state answer ++ steps_from (after state answer) answers

-- each answer is one that its ask may have
abbrev pub MayFollow : AttemptState → List MaybeReply → Type 0
MayFollow state [] = Unit {0}
MayFollow state (answer ∷ answers) = IsTrue (may_come (sent state).due answer) × MayFollow (after state answer) answers

-- the attempt that found no memory after so many answers
abbrev pub short_after : ClaimPlan → TaskId → ℕ → List MaybeReply → AttemptState
short_after plan task n answers = out_of_memory (after_all (begun plan task) (take n answers))

-- the steps of the attempt, if it found no memory after so many of them
abbrev pub steps : ClaimPlan → TaskId → Option ℕ → List MaybeReply → List AttemptStep
steps plan task None answers = steps_from (begun plan task) answers
steps plan task (Some n) answers =
    if nat_le n (length answers) then steps_from (begun plan task) (take n answers) ++ steps_from (short_after plan task n answers) (drop n answers) else
    steps_from (begun plan task) answers

-- the answers may come in this order; where the attempt is out of memory after so many of them, those behind may come after it gave up
abbrev pub AreSplit : Bool → ClaimPlan → TaskId → ℕ → List MaybeReply → Type 0
AreSplit true plan task n answers = MayFollow (begun plan task) (take n answers) × MayFollow (short_after plan task n answers) (drop n answers)
AreSplit false plan task n answers = MayFollow (begun plan task) answers

-- its answers are such as its asks may have
abbrev pub AreAnswers : ClaimPlan → TaskId → Option ℕ → List MaybeReply → Type 0
AreAnswers plan task None answers = MayFollow (begun plan task) answers
AreAnswers plan task (Some n) answers = AreSplit (nat_le n (length answers)) plan task n answers

-- the asks of the steps
abbrev pub asks_of : List AttemptStep → List Asked
asks_of past = map (λ (step : AttemptStep). step.asked) past

-- those that settle
abbrev pub settling : List Asked → List Asked
settling asked = filter (λ (a : Asked). is_settling a.ask) asked

-- the place, where the answer is that messages were got there
abbrev pub got_at : MaybeReply → Place → List Place
got_at (Ok (replies.Got messages)) place = place ∷ []
got_at _ place = []

-- the place, where the answer is that room was booked there
abbrev pub booked_at : MaybeReply → Place → List Place
booked_at (Ok replies.Booked) place = place ∷ []
booked_at _ place = []

-- what a commit fired
pub record Shot : Type 0 where
  pub task : Option Task
  pub cuts : List Cut

-- the firing, where the answer is one
abbrev pub shot_by : MaybeReply → List Shot
shot_by (Ok (replies.Fired task cuts)) = record { task = task; cuts = cuts } ∷ []
shot_by _ = []

-- the places at which a claim got its messages
abbrev pub claims : List AttemptStep → List Place
claims past = flat_map (λ (step : AttemptStep). got_at step.answer step.asked.place) past

-- the places at which the task was booked
abbrev pub bookings : List AttemptStep → List Place
bookings past = flat_map (λ (step : AttemptStep). booked_at step.answer step.asked.place) past

-- the firings that were answered
abbrev pub shots : List AttemptStep → List Shot
shots past = flat_map (λ (step : AttemptStep). shot_by step.answer) past

-- the tasks that they cut
abbrev pub cuts_of : List Shot → List Cut
cuts_of fired = flat_map (λ (shot : Shot). shot.cuts) fired

-- to hand back what was got at this place
abbrev pub free_at : TaskId → Place → Asked
free_at task place = at_place place (asks.Free task)

-- to take for good what was got at this place
abbrev pub consume_at : TaskId → Place → Asked
consume_at task place = at_place place (asks.Consume task)

-- to give back the room that was booked at this place
abbrev pub unbook_at : TaskId → Place → Asked
unbook_at task place = at_place place (asks.Unbook task)

-- each claim is freed, the last first, and then each booking ended
abbrev pub released : TaskId → List AttemptStep → List Asked
released task past = map (free_at task) (reverse (claims past)) ++ map (unbook_at task) (bookings past)

-- the cut tasks are unbooked, and the task is put unless it waits
abbrev pub shot_asks : Shot → List Asked
shot_asks shot = map cut_ask shot.cuts ++ put_asks shot.task

-- each claim is consumed, and then the firing completed
abbrev pub completed : TaskId → List AttemptStep → List Asked
completed task past = map (consume_at task) (claims past) ++ flat_map shot_asks (shots past)

-- the law holds of each attempt that was so answered, by its steps and by what it is behind them
abbrev pub OfAttempts : (ClaimPlan → TaskId → List AttemptStep → AttemptState → Type 0) → Type 0
OfAttempts law =
    (plan : ClaimPlan) (task : TaskId) (lack : Option ℕ) (answers : List MaybeReply)
    → AreAnswers plan task lack answers
    → law plan task (steps plan task lack answers) (attempt_after plan task lack answers)

-- it never fired, and all that it settled is what it gives back
abbrev pub IsReleased : TaskId → List AttemptStep → Type 0
IsReleased task steps = (shots steps ≡ []) × (settling (asks_of steps) ≡ released task steps)

-- it fired once, and all that it settled is what that firing settles
abbrev pub IsCompleted : TaskId → List AttemptStep → Bool → Type 0
IsCompleted task steps waiting = ((shot : Shot) × (shots steps ≡ shot ∷ []) × (waiting ≡ waits shot.task)) × (settling (asks_of steps) ≡ completed task steps)

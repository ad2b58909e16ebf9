-- The steps of an actor as attempts one after the other, with what it asks between them.
use Rattle.std.specs.Prelude.{◌≡◌, ◌⊎◌, ℕ, Bool, true, false, List, [], ◌∷◌, map, flat_map, Option, Some, Ok}
use Rattle.ccr_base.specs.declared.names.Spot.{Spot}
use Rattle.ccr_base.specs.declared.names.TaskId.{TaskId}
use Rattle.ccr_base.specs.declared.tasks.Task.{Task}
use Rattle.ccr_wiring.specs.declared.parts.Parts.{Parts}
use Rattle.ccr_claim.specs.declared.asks.Ask.{Ask}
use Rattle.ccr_claim.specs.declared.asks.Ask.TheVariants as asks
use Rattle.ccr_claim.specs.declared.outcomes.Outcome.TheVariants as outcomes
use Rattle.ccr_claim.specs.declared.outcomes.Why.{Why}
use Rattle.ccr_claim.specs.declared.plan.ClaimPlan.{ClaimPlan}
use Rattle.ccr_claim.specs.Asks.{MaybeReply}
use Rattle.ccr_claim.specs.Attempts.{AttemptState, attempt_after, waits}
use Rattle.ccr_claim.specs.Settling.{AttemptStep, Shot, steps, asks_of, settling, shots, released, completed}
use Rattle.ccr_actor.specs.Plans.{plan_of}
use Rattle.ccr_actor.specs.Nets as nets

-- an attempt: what it was about, its name, after how many answers it found no memory, and its answers
pub record Trial : Type 0 where
  pub plan : ClaimPlan
  pub task : TaskId
  pub lack : Option ℕ
  pub answers : List MaybeReply

-- how the attempt stands after these answers
abbrev pub state_of : Trial → AttemptState
state_of t = attempt_after t.plan t.task t.lack t.answers

-- the steps that the attempt made
abbrev pub steps_of : Trial → List AttemptStep
steps_of t = steps t.plan t.task t.lack t.answers

-- what an actor did: a step that belongs to no attempt, or all the steps of an attempt
pub data Stretch : Type 0 where
  between : AttemptStep → Stretch
  attempt : Trial → Stretch

-- the steps of a stretch: the one between attempts, or all of an attempt
abbrev pub steps_in : Stretch → List AttemptStep
steps_in (between step) = step ∷ []
steps_in (attempt t) = steps_of t

-- an actor's step, as a step of an attempt
abbrev pub as_answered : nets.Step → AttemptStep
as_answered step = record { asked = step.asked; answer = Ok step.reply }

-- whether nothing but an attempt asks it: the booking, the claims and the commit, and what ends a claim or a booking
abbrev pub is_of_attempt : Ask → Bool
is_of_attempt (asks.Book task resumes) = true
is_of_attempt (asks.Claim task slot) = true
is_of_attempt (asks.Commit task messages) = true
is_of_attempt (asks.Consume task) = true
is_of_attempt (asks.Free task) = true
is_of_attempt (asks.Unbook task) = true
is_of_attempt _ = false

-- it was given up: it never fired, each claim that it got was freed, the last first, and then its booking ended
abbrev pub GaveUp : Trial → Type 0
GaveUp t = (why : Why) × ((state_of t).ended ≡ Some (outcomes.GaveUp why)) × (shots (steps_of t) ≡ []) × (settling (asks_of (steps_of t)) ≡ released t.task (steps_of t))

-- it fired, once: each claim was consumed, in order, each cut task unbooked, and its task put unless it waits
abbrev pub Fired : Trial → Type 0
Fired t =
    (shot : Shot) × (dropped : Option Task) × ((state_of t).ended ≡ Some (outcomes.Fired (waits shot.task) dropped))
    × (shots (steps_of t) ≡ shot ∷ [])
    × (settling (asks_of (steps_of t)) ≡ completed t.task (steps_of t))

-- it bears the actor's name, and its plan is that of a spot
abbrev pub IsOwn : Parts → ℕ → Trial → Type 0
IsOwn wiring actor t = (t.task.actor ≡ actor) × (spot : Spot) × (t.plan ≡ plan_of wiring spot)

-- nothing of it is left to do
abbrev pub IsDone : Parts → ℕ → Stretch → Type 0
IsDone wiring actor (between step) = is_of_attempt step.asked.ask ≡ false
IsDone wiring actor (attempt t) = IsOwn wiring actor t × (GaveUp t ⊎ Fired t)

-- each stretch is whole
abbrev pub AreDone : Parts → ℕ → List Stretch → Type 0
AreDone wiring actor [] = Unit {0}
AreDone wiring actor (stretch ∷ stretches) = IsDone wiring actor stretch × AreDone wiring actor stretches

-- the steps are such stretches one after the other
abbrev pub AreSettled : Parts → ℕ → List nets.Step → Type 0
AreSettled wiring actor steps = (stretches : List Stretch) × (map as_answered steps ≡ flat_map steps_in stretches) × AreDone wiring actor stretches

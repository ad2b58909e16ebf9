-- What the fields of an attempt stand for.
use Rattle.std.specs.Prelude.{◌≡◌, ℕ, ◌+◌, ◌≤◌, Bool, List, [], ◌∷◌, ◌++◌, map, reverse, length, Option, Some, None, MatchOption, if◌then◌else◌}
use Rattle.ccr_base.specs.declared.names.TaskId.{TaskId}
use Rattle.ccr_base.specs.declared.patterns.Slot.{Slot}
use Rattle.ccr_base.specs.declared.tasks.Cut.{Cut}
use Rattle.ccr_base.specs.declared.tasks.Task.{Task}
use Rattle.ccr_claim.specs.declared.asks.Ask.{Ask}
use Rattle.ccr_claim.specs.declared.asks.Ask.TheVariants as asks
use Rattle.ccr_claim.specs.declared.asks.Asked.{Asked}
use Rattle.ccr_claim.specs.declared.asks.Due.{Due}
use Rattle.ccr_claim.specs.declared.asks.Due.TheVariants as dues
use Rattle.ccr_claim.specs.declared.firing.Firing.{Firing}
use Rattle.ccr_claim.specs.declared.outcomes.Outcome.{Outcome}
use Rattle.ccr_claim.specs.declared.outcomes.Outcome.TheVariants as outcomes
use Rattle.ccr_claim.specs.declared.plan.ClaimPlan.{ClaimPlan}
use Rattle.ccr_claim.specs.declared.plan.Had.{Had}
use Rattle.ccr_claim.specs.declared.stages.Unanswered.{Unanswered}
use Rattle.ccr_claim.specs.declared.stages.Unanswered.TheVariants as unanswered
use Rattle.ccr_claim.specs.declared.stages.Stage.{Stage}
use Rattle.ccr_claim.specs.declared.stages.Stage.TheVariants as stages
use Rattle.ccr_claim.specs.Plans.{slots_in}
use Rattle.ccr_claim.specs.Firings.{ready_of}
use Rattle.ccr_claim.specs.Attempts.{AttemptState, Phase, booking, claiming, free_ask, consume_ask, unbook_ask, cut_ask, put_asks}

-- the phase; the next slot stands last
abbrev pub phase_in : Stage → List Slot → List Had → Phase
phase_in stages.Claiming left had = claiming (reverse left) had
phase_in _ left had = booking

-- what completes a firing: the claims that stand last come first
abbrev pub completing : TaskId → List Had → List Cut → Option Task → List Asked
completing task had cuts put = map (consume_ask task) (reverse had) ++ (map cut_ask cuts ++ put_asks put)

-- what hands back: the claims that stand last come first, and then the booking
abbrev pub releasing : TaskId → ℕ → List Had → Bool → List Asked
releasing task queue had booked = map (free_ask task) (reverse had) ++ (if booked then unbook_ask queue task ∷ [] else [])

-- what is to be settled
abbrev pub hand_in : Stage → TaskId → ℕ → List Had → Bool → List Cut → Option Task → List Asked
hand_in stages.Booking task queue had booked cuts put = []
hand_in stages.Claiming task queue had booked cuts put = []
hand_in (stages.Fired waits) task queue had booked cuts put = completing task had cuts put
hand_in (stages.GaveUp why) task queue had booked cuts put = releasing task queue had booked

-- how the attempt ended
abbrev pub ended_in : Stage → Option Task → Option Outcome
ended_in stages.Booking dropped = None
ended_in stages.Claiming dropped = None
ended_in (stages.Fired waits) dropped = Some (outcomes.Fired waits dropped)
ended_in (stages.GaveUp why) dropped = Some (outcomes.GaveUp why)

-- which replies an ask of the hand may have
abbrev pub hand_due : Unanswered → Due
hand_due unanswered.Nothing = dues.Nothing
hand_due unanswered.Ask = dues.Settled
hand_due unanswered.Put = dues.Put

-- which replies the claim of the first slot may have, or else the commit
abbrev pub claim_due : List Slot → Due
claim_due (slot ∷ slots) = dues.Claim slot
claim_due [] = dues.Commit

-- which replies an ask in this stage may have
abbrev pub stage_due : Stage → List Slot → Unanswered → Due
stage_due stages.Booking slots how = dues.Booking
stage_due stages.Claiming slots how = claim_due slots
stage_due (stages.Fired waits) slots how = hand_due how
stage_due (stages.GaveUp why) slots how = hand_due how

-- which replies the unanswered ask may have; the next slot stands last
abbrev pub due_in : Stage → Unanswered → List Slot → Due
due_in stage unanswered.Nothing left = dues.Nothing
due_in stage unanswered.Ask left = stage_due stage (reverse left) unanswered.Ask
due_in stage unanswered.Put left = stage_due stage (reverse left) unanswered.Put

-- the state that the fields stand for
abbrev pub seen : ClaimPlan → TaskId → Stage → Unanswered → List Slot → List Had → Bool → List Cut → Option Task → Option Task → AttemptState
seen plan task stage waiting left had booked cuts put dropped = record {
  plan = plan;
  task = task;
  hand = hand_in stage task plan.queue had booked cuts put;
  phase = phase_in stage left had;
  ended = ended_in stage dropped;
  due = due_in stage waiting left;
}

-- how an ask of the hand is unanswered
abbrev pub unanswered_by : Ask → Unanswered
unanswered_by (asks.Put task) = unanswered.Put
unanswered_by _ = unanswered.Ask

-- the first of the old hand is taken out, and the new one is the rest
abbrev pub IsFirst : Option Asked → List Asked → List Asked → Type 0
IsFirst taken old new = MatchOption taken ((old ≡ []) × (new ≡ [])) (λ asked. old ≡ asked ∷ new)

-- while it claims and no ask is unanswered, the commit is ready once no slot is left
abbrev pub IsReady : Stage → Unanswered → Option Firing → Option Firing → Type 0
IsReady stages.Claiming unanswered.Nothing firing ready = firing ≡ ready
IsReady _ _ firing ready = Unit {0}

-- before its claims it has got nothing, and all slots of the pattern are left
abbrev pub IsUnclaimed : Stage → List Slot → List Had → List Slot → Type 0
IsUnclaimed stages.Booking left had slots = (had ≡ []) × (left ≡ reverse slots)
IsUnclaimed _ left had slots = Unit {0}

-- there is spare capacity for what the slots that are left get
abbrev pub HasSpare : Stage → ℕ → ℕ → ℕ → Type 0
HasSpare stages.Booking left had capacity = had + left ≤ capacity
HasSpare stages.Claiming left had capacity = had + left ≤ capacity
HasSpare _ left had capacity = Unit {0}

-- what is true of the fields
pub record IsSound (plan : ClaimPlan) (task : TaskId) (stage : Stage) (waiting : Unanswered) (left : List Slot) (had : List Had) (capacity : ℕ) (firing : Option Firing) : Type 0 where
  pub ready : IsReady stage waiting firing (ready_of left plan task had)
  pub unclaimed : IsUnclaimed stage left had (slots_in plan.pattern)
  pub spare : HasSpare stage (length left) (length had) capacity

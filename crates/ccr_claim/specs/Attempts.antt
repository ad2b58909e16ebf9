-- The steps of an attempt: what it asks, and what it has in hand once it fires or is given up.
use Rattle.std.specs.Prelude.{◌≡◌, ◌⊎◌, ℕ, Bool, true, false, List, [], ◌∷◌, ◌++◌, length, map, fold, take, drop, nat_le, reverse, Option, Some, None, Ok, Err, if◌then◌else◌}
use Rattle.ccr_base.specs.declared.messages.Msg.{Msg}
use Rattle.ccr_base.specs.declared.names.Place.{Place}
use Rattle.ccr_base.specs.declared.names.Place.TheVariants as places
use Rattle.ccr_base.specs.declared.names.TaskId.{TaskId}
use Rattle.ccr_base.specs.declared.patterns.Slot.{Slot}
use Rattle.ccr_base.specs.declared.tasks.Cut.{Cut}
use Rattle.ccr_base.specs.declared.tasks.How.TheVariants as hows
use Rattle.ccr_base.specs.declared.tasks.Task.{Task}
use Rattle.ccr_claim.specs.declared.asks.Ask.{Ask}
use Rattle.ccr_claim.specs.declared.asks.Ask.TheVariants as asks
use Rattle.ccr_claim.specs.declared.asks.Asked.{Asked}
use Rattle.ccr_claim.specs.declared.asks.Due.{Due}
use Rattle.ccr_claim.specs.declared.asks.Due.TheVariants as dues
use Rattle.ccr_claim.specs.declared.asks.Reply.{Reply}
use Rattle.ccr_claim.specs.declared.asks.Reply.TheVariants as replies
use Rattle.ccr_claim.specs.declared.outcomes.Next.{Next}
use Rattle.ccr_claim.specs.declared.outcomes.Next.TheVariants as nexts
use Rattle.ccr_claim.specs.declared.outcomes.Outcome.{Outcome}
use Rattle.ccr_claim.specs.declared.outcomes.Outcome.TheVariants as outcomes
use Rattle.ccr_claim.specs.declared.outcomes.Progress.{Progress}
use Rattle.ccr_claim.specs.declared.outcomes.Progress.TheVariants as progresses
use Rattle.ccr_claim.specs.declared.outcomes.Why.{Why}
use Rattle.ccr_claim.specs.declared.outcomes.Why.TheVariants as whys
use Rattle.ccr_claim.specs.declared.plan.ClaimPlan.{ClaimPlan}
use Rattle.ccr_claim.specs.declared.plan.Had.{Had}
use Rattle.ccr_claim.specs.Asks.{MaybeReply, due_of}
use Rattle.ccr_claim.specs.Plans.{slots_in, narrowed, in_pattern, names_of, firing_task, resumes, commit_place}

-- an ask of this place
abbrev pub at_place : Place → Ask → Asked
at_place place ask = record { place = place; ask = ask }

-- where an attempt is: its booking comes next, or the claims of these slots and then the commit
pub data Phase : Type 0 where
  booking : Phase
  claiming : List Slot → List Had → Phase

-- what the ports gave so far
abbrev pub had_in : Phase → List Had
had_in booking = []
had_in (claiming slots had) = had

-- ---- the asks

-- the commit of what the ports gave
abbrev pub commit_ask : ClaimPlan → TaskId → List Msg → Asked
commit_ask plan name messages = at_place (commit_place plan plan.spot) (asks.Commit (firing_task plan name messages) (names_of messages))

-- the ask for the next slot's messages; the commit once there is no slot left
abbrev pub claim_ask : ClaimPlan → TaskId → List Slot → List Had → Asked
claim_ask plan name (slot ∷ slots) had = at_place (places.Port slot.port) (asks.Claim name slot)
claim_ask plan name [] had = commit_ask plan name (in_pattern plan.pattern had)

-- the ask in this phase
abbrev pub attempt_ask : ClaimPlan → TaskId → Phase → Asked
attempt_ask plan name booking = at_place (places.Queue plan.queue) (asks.Book name (resumes plan.spot))
attempt_ask plan name (claiming slots had) = claim_ask plan name slots had

-- to hand the messages back
abbrev pub free_ask : TaskId → Had → Asked
free_ask name had = at_place (places.Port had.slot.port) (asks.Free name)

-- to take the messages for good
abbrev pub consume_ask : TaskId → Had → Asked
consume_ask name had = at_place (places.Port had.slot.port) (asks.Consume name)

-- to give the room in the queue back
abbrev pub unbook_ask : ℕ → TaskId → Asked
unbook_ask queue name = at_place (places.Queue queue) (asks.Unbook name)

-- to give back the room that a cut task had
abbrev pub cut_ask : Cut → Asked
cut_ask cut = unbook_ask cut.queue cut.task

-- to queue the task
abbrev pub put_ask : Task → Asked
put_ask task = at_place (places.Queue task.queue) (asks.Put task)

-- nothing, where the task waits in an Interleave
abbrev pub put_asks : Option Task → List Asked
put_asks None = []
put_asks (Some task) = put_ask task ∷ []

-- a dropped task is noted over
abbrev pub over_dropped : Task → Asked
over_dropped task = at_place (places.Arbiter task.arbiter) (asks.Over task.id task.root hows.Dropped)

-- what an attempt that is given up hands back
abbrev pub release : ClaimPlan → TaskId → Phase → List Asked
release plan name booking = []
release plan name (claiming slots had) = map (free_ask name) (reverse had) ++ unbook_ask plan.queue name ∷ []

-- what an attempt that fired has to settle
abbrev pub firing_hand : TaskId → List Had → Option Task → List Cut → List Asked
firing_hand name had task cuts = map (consume_ask name) had ++ (map cut_ask cuts ++ put_asks task)

-- ---- the state

-- the attempt: what it is about, its name, what it must settle, its phase, how it ended, and which replies its unanswered ask may have
pub record AttemptState : Type 0 where
  pub plan : ClaimPlan
  pub task : TaskId
  pub hand : List Asked
  pub phase : Phase
  pub ended : Option Outcome
  pub due : Due

-- an attempt before its first ask
abbrev pub begun : ClaimPlan → TaskId → AttemptState
begun plan task = record { plan = plan; task = task; hand = []; phase = booking; ended = None; due = dues.Nothing }

-- where it stands
abbrev pub progress_of : Option Outcome → Progress
progress_of None = progresses.Running
progress_of (Some (outcomes.Fired waits dropped)) = progresses.Fired waits
progress_of (Some (outcomes.GaveUp why)) = progresses.GaveUp why

-- what it does next: it settles, or it has ended, or it goes on
abbrev pub next_of : ClaimPlan → TaskId → List Asked → Option Outcome → Phase → Next
next_of plan task (asked ∷ more) ended phase = nexts.Ask asked.place asked.ask
next_of plan task [] (Some outcome) phase = nexts.Ended outcome
next_of plan task [] None phase = nexts.Ask (attempt_ask plan task phase).place (attempt_ask plan task phase).ask

-- what the attempt does next: an ask, or its end
abbrev pub next : AttemptState → Next
next state = next_of state.plan state.task state.hand state.ended state.phase

-- the dropped task is handed out once
abbrev pub told : Outcome → Outcome
told (outcomes.Fired waits dropped) = outcomes.Fired waits None
told (outcomes.GaveUp why) = outcomes.GaveUp why

-- the attempt once its next ask was sent
abbrev pub sent_of : AttemptState → List Asked → Option Outcome → AttemptState
sent_of state (asked ∷ more) ended = record state { hand = more; due = due_of asked.ask }
sent_of state [] (Some outcome) = record state { hand = []; ended = Some (told outcome) }
sent_of state [] None = record state { hand = []; due = due_of (attempt_ask state.plan state.task state.phase).ask }

-- once its next ask is made, or its outcome told
abbrev pub sent : AttemptState → AttemptState
sent state = sent_of state state.hand state.ended

-- ---- the state after an answer

-- it is given up
abbrev pub given_up : Why → AttemptState → AttemptState
given_up why state = record state { hand = release state.plan state.task state.phase; phase = booking; ended = Some (outcomes.GaveUp why); due = dues.Nothing }

-- the port of the claim
abbrev pub port_of : Phase → ℕ
port_of booking = 0
port_of (claiming [] had) = 0
port_of (claiming (slot ∷ slots) had) = slot.port

-- the phase after a claim got these messages
abbrev pub claimed : ClaimPlan → List Msg → Phase → Phase
claimed plan messages booking = booking
claimed plan messages (claiming [] had) = claiming [] had
claimed plan messages (claiming (slot ∷ slots) had) = claiming (narrowed plan.pattern (length messages) slots) (had ++ (record { slot = slot; messages = messages }) ∷ [])

-- whether the task waits in an Interleave
abbrev pub waits : Option Task → Bool
waits None = true
waits (Some task) = false

-- the put of the fired task dropped this one
abbrev pub with_dropped : Option Task → Option Outcome → Option Outcome
with_dropped dropped (Some (outcomes.Fired waits other)) = Some (outcomes.Fired waits dropped)
with_dropped dropped ended = ended

-- after this reply
abbrev pub replied : AttemptState → Reply → AttemptState
replied state replies.Booked = record state { phase = claiming (slots_in state.plan.pattern) []; due = dues.Nothing }
replied state (replies.Got messages) = record state { phase = claimed state.plan messages state.phase; due = dues.Nothing }
replied state (replies.Fired task cuts) = record state {
  hand = firing_hand state.task (had_in state.phase) task cuts;
  phase = booking;
  ended = Some (outcomes.Fired (waits task) None);
  due = dues.Nothing;
}
replied state (replies.Full n) = given_up (whys.Full n) state
replied state (replies.Busy task) = given_up (whys.Busy (port_of state.phase) task) state
replied state (replies.Short n) = given_up (whys.Short (port_of state.phase) n) state
replied state (replies.Dead by) = given_up (whys.Dead by) state
replied state (replies.Dropped task) = record state { ended = with_dropped task state.ended; due = dues.Nothing }
replied state _ = record state { due = dues.Nothing }

-- after this answer
abbrev pub answered : AttemptState → MaybeReply → AttemptState
answered state (Ok reply) = replied state reply
answered state (Err refused) = given_up whys.Memory state

-- an attempt that is out of memory is given up, unless it has ended
abbrev pub out_of_memory_of : Option Outcome → AttemptState → AttemptState
out_of_memory_of None state = given_up whys.Memory state
out_of_memory_of (Some outcome) state = state

-- it found no memory itself, which ends it unless it has ended
abbrev pub out_of_memory : AttemptState → AttemptState
out_of_memory state = out_of_memory_of state.ended state

-- one step: the ask, and its answer
abbrev pub after : AttemptState → MaybeReply → AttemptState
after state answer = answered (sent state) answer

-- after these answers, where there was memory throughout
abbrev pub after_all : AttemptState → List MaybeReply → AttemptState
after_all state answers = fold after state answers

-- the attempt after these answers, if it found no memory after so many of them
abbrev pub attempt_after : ClaimPlan → TaskId → Option ℕ → List MaybeReply → AttemptState
attempt_after plan task None answers = after_all (begun plan task) answers
attempt_after plan task (Some n) answers =
    if nat_le n (length answers) then after_all (out_of_memory (after_all (begun plan task) (take n answers))) (drop n answers) else
    after_all (begun plan task) answers

-- after this answer, or given up then out of memory
abbrev pub IsAfter : AttemptState → MaybeReply → AttemptState → Type 0
IsAfter state answer new = (new ≡ answered state answer) ⊎ (new ≡ out_of_memory (answered state answer))

-- after this reply, or given up then out of memory
abbrev pub IsAfterReply : AttemptState → Reply → AttemptState → Type 0
IsAfterReply state reply new = IsAfter state (Ok reply) new

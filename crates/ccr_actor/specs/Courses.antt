-- What the course of an actor stands for, and what holds of its attempt.
use Rattle.std.specs.Prelude.{◌≡◌, ◌⊎◌, ◌==◌, not, ◌<◌, ◌+◌, ◌^◌, ℕ, Bool, true, false, List, [], ◌∷◌, ◌++◌, length, Option, Some, None, Result, Ok, Err, IsSome, OnErr, if◌then◌else◌}
use Rattle.ccr_base.specs.Bounds.{most_empty_rounds}
use Rattle.ccr_base.specs.declared.list.OutOfMemory.{OutOfMemory}
use Rattle.ccr_base.specs.declared.names.Spot.{Spot}
use Rattle.ccr_base.specs.declared.names.TaskId.{TaskId}
use Rattle.ccr_base.specs.declared.tasks.Task.{Task}
use Rattle.ccr_wiring.specs.declared.parts.Parts.{Parts}
use Rattle.ccr_wiring.specs.Valid.{IsValid}
use Rattle.ccr_wiring.specs.Wirings.{segment_of, domain_of_spot}
use Rattle.ccr_claim.specs.declared.asks.Asked.{Asked}
use Rattle.ccr_claim.specs.declared.asks.Due.{Due}
use Rattle.ccr_claim.specs.declared.asks.Due.TheVariants as dues
use Rattle.ccr_claim.specs.declared.asks.Reply.{Reply}
use Rattle.ccr_claim.specs.declared.asks.Reply.TheVariants as replies
use Rattle.ccr_claim.specs.declared.outcomes.Outcome.{Outcome}
use Rattle.ccr_claim.specs.declared.outcomes.Progress.{Progress}
use Rattle.ccr_claim.specs.declared.outcomes.Progress.TheVariants as progresses
use Rattle.ccr_claim.specs.declared.outcomes.Why.{Why}
use Rattle.ccr_claim.specs.declared.outcomes.Why.TheVariants as whys
use Rattle.ccr_claim.specs.Asks.{AreSettling, MaybeReply, due_of, fits, may_come}
use Rattle.ccr_claim.specs.Attempts.{AttemptState, Phase, booking, attempt_ask, put_asks, over_dropped}
use Rattle.ccr_claim.specs.Lines.{IsLineOf}
use Rattle.ccr_actor.specs.declared.course.Course.{Course}
use Rattle.ccr_actor.specs.declared.course.Part.{Part}
use Rattle.ccr_actor.specs.declared.course.Part.TheVariants as parts
use Rattle.ccr_actor.specs.declared.work.Playing.{Playing}
use Rattle.ccr_actor.specs.declared.work.Work.{Work as Works}
use Rattle.ccr_actor.specs.declared.work.Work.TheVariants as works
use Rattle.ccr_actor.specs.Acting.{Acting, Asking, quiet, settling, going, kept}
use Rattle.ccr_actor.specs.Actors.{State, most_admitted, most_fired, most_taken, spots_left, settled, after, in_attempt, end_attempt, driven_on, after_attempt, shorten}
use Rattle.ccr_actor.specs.Inside.{work_of}
use Rattle.ccr_actor.specs.Needs.{attempt_needs, settling_needs, work_needs, work_unnumbered}
use Rattle.ccr_actor.specs.Plans.{plan_of}

-- what the attempt owes; nothing where there is none
abbrev pub hand_of : Option AttemptState → List Asked
hand_of None = []
hand_of (Some attempt) = attempt.hand

-- how far the attempt is; a new one books first
abbrev pub phase_of : Option AttemptState → Phase
phase_of None = booking
phase_of (Some attempt) = attempt.phase

-- which replies its unanswered ask may have
abbrev pub due_at : Option AttemptState → Due
due_at None = dues.Nothing
due_at (Some attempt) = attempt.due

-- which replies the ask of its phase may have
abbrev pub due_next : Option AttemptState → Due
due_next None = dues.Nothing
due_next (Some attempt) = due_of (attempt_ask attempt.plan attempt.task attempt.phase).ask

-- that a dropped task's root is over, where one was dropped
abbrev pub dropped_asks : Option Task → List Asked
dropped_asks None = []
dropped_asks (Some task) = over_dropped task ∷ []

-- the state that the fields stand for
abbrev pub state_of : Course → State
state_of course = record {
  hand = dropped_asks course.dropped ++ (hand_of course.attempt ++ put_asks course.put);
  domains = course.domains.items;
  admitted = course.admitted;
  spots = course.spots;
  phase = phase_of course.attempt;
  fired = course.fired;
  work = work_of course.work;
  attempt = course.count;
  taken = course.taken;
  empty = course.empty;
  is_short = course.short;
}

-- the same but for the state
pub record IsBeside (old new : Course) : Type 0 where
  pub wiring : new.wiring ≡ old.wiring
  pub number : new.number ≡ old.number
  pub short : new.short ≡ old.short

-- nothing is in hand
pub record IsIdle (course : Course) : Type 0 where
  pub dropped : course.dropped ≡ None
  pub hand : hand_of course.attempt ≡ []
  pub put : course.put ≡ None

-- ---- the attempt

-- it has ended
pub record HasEnded (attempt : AttemptState) : Type 0 where
  pub phase : attempt.phase ≡ booking
  pub ended : IsSome attempt.ended
  pub hand : AreSettling attempt.hand

-- there is none, or it has ended
abbrev pub IsPast : Option AttemptState → Type 0
IsPast None = Unit {0}
IsPast (Some attempt) = HasEnded attempt

-- whether the attempt goes on
abbrev pub runs_by : Option Outcome → Bool
runs_by None = true
runs_by (Some outcome) = false

-- whether an attempt runs
abbrev pub is_running : Option AttemptState → Bool
is_running None = false
is_running (Some attempt) = runs_by attempt.ended

-- it runs at this spot, under this name
pub record RunsAt (wiring : Parts) (name : TaskId) (spot : Spot) (attempt : AttemptState) : Type 0 where
  pub plan : attempt.plan ≡ plan_of wiring spot
  pub task : attempt.task ≡ name
  pub ended : attempt.ended ≡ None
  pub hand : attempt.hand ≡ []

-- it runs at the first of the spots
abbrev pub Runs : Parts → TaskId → List Spot → Option AttemptState → Type 0
Runs wiring name (spot ∷ more) (Some attempt) = RunsAt wiring name spot attempt
Runs wiring name _ _ = ⊥

-- the attempt that runs is driven: nothing comes before it
pub record IsUnderWay (course : Course) : Type 0 where
  pub runs : Runs course.wiring.now (record { actor = course.number; attempt = course.count }) course.spots course.attempt
  pub dropped : course.dropped ≡ None
  pub put : course.put ≡ None
  pub domains : course.domains.items ≡ []
  pub count : course.count < 2 ^ 32

-- what the actor owes where it finds no memory
abbrev pub owing : Parts → ℕ → State → List Asked
owing wiring actor state = state.hand ++ in_attempt wiring actor state state.spots

-- the state after an answer to the attempt's ask; running out of memory changes nothing yet
abbrev pub heard : Parts → ℕ → State → Spot → List Spot → MaybeReply → State
heard wiring actor state spot more (Ok reply) = after_attempt wiring actor state spot more reply
heard wiring actor state spot more (Err refused) = state

-- the Interleave of a firing that waits
abbrev pub waiting_at : Parts → Spot → Bool → List ℕ
waiting_at wiring spot waits = if waits then domain_of_spot wiring spot ∷ [] else []

-- a firing, after which this is in hand
abbrev pub fired_on : Parts → State → Spot → List Spot → Bool → List Asked → State
fired_on wiring state spot more waits hand = record (end_attempt state hand (driven_on state spot more)) { fired = state.fired + 1; domains = waiting_at wiring spot waits; admitted = 0 }

-- it runs on in this phase
pub record GoesOn (wiring : Parts) (name : TaskId) (spot : Spot) (state target : State) (attempt : AttemptState) : Type 0 where
  pub reached : target ≡ record state { phase = attempt.phase }
  pub runs : RunsAt wiring name spot attempt

-- it ended so
pub record EndsSo (target wanted : State) (attempt : AttemptState) : Type 0 where
  pub reached : target ≡ wanted
  pub ended : HasEnded attempt

-- it was given up out of memory
pub record EndsOwing (wiring : Parts) (actor : ℕ) (target : State) (attempt : AttemptState) : Type 0 where
  pub owes : attempt.hand ≡ owing wiring actor target
  pub ended : HasEnded attempt

-- whether memory ran out
abbrev pub is_memory : Why → Bool
is_memory whys.Memory = true
is_memory _ = false

-- it was given up, out of memory or not
abbrev pub IsGivenUp : Bool → Parts → ℕ → State → List Spot → State → AttemptState → Type 0
IsGivenUp true wiring actor state more target attempt = EndsOwing wiring actor target attempt
IsGivenUp false wiring actor state more target attempt = EndsSo target (end_attempt state attempt.hand more) attempt

-- where the attempt stands after an answer, and which state that is
abbrev pub IsHeard : Parts → ℕ → TaskId → State → Spot → List Spot → State → Progress → AttemptState → Type 0
IsHeard wiring actor name state spot more target progresses.Running attempt = GoesOn wiring name spot state target attempt
IsHeard wiring actor name state spot more target (progresses.Fired waits) attempt = EndsSo target (fired_on wiring state spot more waits attempt.hand) attempt
IsHeard wiring actor name state spot more target (progresses.GaveUp why) attempt = IsGivenUp (is_memory why) wiring actor state more target attempt

-- ---- steps

-- the state is this one as far as it counts, or what it owes is in hand
abbrev pub IsStep : {E : Type 0} → Result E OutOfMemory → Parts → ℕ → State → State → Type 0
IsStep (Ok done) wiring actor target new = kept new ≡ kept target
IsStep (Err refused) wiring actor target new = new.hand ≡ owing wiring actor target

-- it is this state as far as it counts; or that wasn't short, and it is short of it now
abbrev pub IsThereOrShort : Parts → ℕ → State → State → Type 0
IsThereOrShort wiring actor target new = (kept new ≡ kept target) ⊎ ((target.is_short ≡ false) × (kept new ≡ kept (shorten wiring actor target)))

-- whichever state the step led to, if as short as the old one, it is this state, or short of it now
abbrev pub IsReached : {E : Type 0} → Result E OutOfMemory → Course → Course → Type 0
IsReached made old new =
    (target : State) →
    target.is_short ≡ old.short →
    IsStep made old.wiring.now old.number target (state_of old) →
    IsThereOrShort old.wiring.now old.number target (state_of new)

-- where the step found no memory and the actor wasn't short, it is short of that state now
abbrev pub IsShortened : {E : Type 0} → Result E OutOfMemory → Course → Course → Type 0
IsShortened made old new =
    (target : State) →
    OnErr made (old.short ≡ false → IsStep made old.wiring.now old.number target (state_of old) → kept (state_of new) ≡ kept (shorten old.wiring.now old.number target))

-- the attempt at the first spot heard this answer
abbrev pub HasHeard : {E : Type 0} → Result E OutOfMemory → Course → MaybeReply → Course → Type 0
HasHeard made old answer new =
    (spot : Spot) (more : List Spot) →
    old.spots ≡ spot ∷ more →
    IsStep made old.wiring.now old.number (heard old.wiring.now old.number (state_of old) spot more answer) (state_of new)

-- ---- what is unanswered

-- the replies that an ask that settles may have
abbrev pub IsSettlingDue : Due → Type 0
IsSettlingDue dues.Settled = Unit {0}
IsSettlingDue dues.Put = Unit {0}
IsSettlingDue _ = ⊥

-- the task that a put dropped
abbrev pub dropped_by : Reply → Option Task
dropped_by (replies.Dropped task) = task
dropped_by _ = None

-- the reply is one to an ask of the hand; the attempt awaits it where it asked
abbrev pub IsTold : Part → Due → Reply → Type 0
IsTold parts.Hand due reply = IsSettlingDue due × (fits due reply ≡ true)
IsTold _ due reply = due ≡ dues.Nothing

-- what the actor waits for in this part of its course
abbrev pub asking_in : Part → Due → Asking
asking_in parts.Over due = settling due
asking_in parts.Hand due = settling due
asking_in parts.Put due = settling due
asking_in _ due = going due

-- what the actor waits for, once this was asked; nothing where nothing was
abbrev pub asking_by : Option (Part × Asked) → Asking
asking_by None = quiet
asking_by (Some taken) = asking_in taken.0 (due_of taken.1.ask)

-- which replies the attempt awaits, where this part asked
abbrev pub attempt_due : Part → Due → Due
attempt_due parts.Hand due = due
attempt_due parts.Drive due = due
attempt_due _ due = dues.Nothing

-- the same once an ask was taken out
abbrev pub taken_due : Option (Part × Asked) → Due
taken_due None = dues.Nothing
taken_due (Some taken) = attempt_due taken.0 (due_of taken.1.ask)

-- while an ask of the hand is unanswered
pub record IsSettling (course : Course) (due : Due) : Type 0 where
  pub dropped : course.dropped ≡ None
  pub past : IsPast course.attempt
  pub due_is : IsSettlingDue due

-- while another is, what comes before it is empty
pub record IsFree (course : Course) : Type 0 where
  pub idle : IsIdle course
  pub short : course.short ≡ false
  pub past : IsPast course.attempt

-- the part that asked
abbrev pub IsAsked : Course → Part → Due → Type 0
IsAsked course parts.Admit due = IsFree course × (0 < length course.domains.items)
IsAsked course parts.Drive due = IsUnderWay course × ((course.short ≡ false) × (due ≡ due_next course.attempt))
IsAsked course parts.Work due = IsFree course × ((course.domains.items ≡ []) × (spots_left (state_of course) ≡ []))
IsAsked course _ due = IsSettling course due

-- a reply to an ask of the hand comes; running out of memory doesn't
abbrev pub IsToldSo : Part → Due → MaybeReply → Type 0
IsToldSo part due (Ok reply) = IsTold part due reply
IsToldSo part due (Err refused) = ⊥

-- the answer is one to the ask of this part
abbrev pub IsAnswered : Course → Part → MaybeReply → Type 0
IsAnswered course parts.Admit answer = IsFree course × ((0 < length course.domains.items) × (due_at course.attempt ≡ dues.Nothing))
IsAnswered course parts.Drive answer = IsUnderWay course × ((course.short ≡ false) × ((due_at course.attempt ≡ due_next course.attempt) × (may_come (due_at course.attempt) answer ≡ true)))
IsAnswered course parts.Work answer = IsFree course × ((course.domains.items ≡ []) × ((spots_left (state_of course) ≡ []) × (due_at course.attempt ≡ dues.Nothing)))
IsAnswered course part answer = (course.dropped ≡ None) × (IsPast course.attempt × IsToldSo part (due_at course.attempt) answer)

-- the state after the answer; running out of memory changes nothing yet
abbrev pub target : Part → Parts → ℕ → State → MaybeReply → State
target part wiring actor state (Err refused) = state
target parts.Admit wiring actor state (Ok reply) = after wiring actor state reply
target parts.Drive wiring actor state (Ok reply) = after wiring actor state reply
target parts.Work wiring actor state (Ok reply) = after wiring actor state reply
target _ wiring actor state (Ok reply) = settled wiring state state.hand reply

-- whether the answer needs memory for what is kept of it; a refused ask found none
abbrev pub answer_needs : Part → Parts → State → MaybeReply → Bool
answer_needs part wiring state (Err refused) = true
answer_needs parts.Admit wiring state (Ok reply) = false
answer_needs parts.Drive wiring state (Ok reply) = attempt_needs reply
answer_needs parts.Work wiring state (Ok reply) = work_needs wiring state state.work reply
answer_needs _ wiring state (Ok reply) = settling_needs wiring state reply

-- the same of an answer to the attempt
abbrev pub heard_needs : MaybeReply → Bool
heard_needs (Ok reply) = attempt_needs reply
heard_needs (Err refused) = true

-- whether the answer is a task without numbers
abbrev pub answer_unnumbered : Part → Parts → State → MaybeReply → Bool
answer_unnumbered parts.Work wiring state (Ok reply) = work_unnumbered wiring state.work reply
answer_unnumbered _ wiring state answer = false

-- ---- what is made ready

-- the causes of the post of the next line
abbrev pub IsLine : Works → Option (List ℕ) → Type 0
IsLine (works.Lines l) causes = IsLineOf l.left causes
IsLine _ causes = Unit {0}

-- a spot is driven next
pub record IsDriving (course : Course) : Type 0 where
  pub idle : IsIdle course
  pub short : course.short ≡ false
  pub domains : course.domains.items ≡ []
  pub spots : not (length (spots_left (state_of course)) == 0) ≡ true

-- the work goes on next
pub record IsWorking (course : Course) : Type 0 where
  pub idle : IsIdle course
  pub short : course.short ≡ false
  pub domains : course.domains.items ≡ []
  pub spots : not (length (spots_left (state_of course)) == 0) ≡ false

-- what is asked next is made ready
pub record IsReady (course : Course) : Type 0 where
  pub attempt : IsPast course.attempt ⊎ IsUnderWay course
  pub drives : IsDriving course → IsUnderWay course
  pub works : IsWorking course → IsLine course.work course.line

-- ---- counts

-- fewer than so many, where there is something to go on with
abbrev pub AreFew : {A : Type 0} → ℕ → List A → ℕ → Type 0
AreFew most [] count = Unit {0}
AreFew most (one ∷ more) count = count < most

-- a drive has fewer firings, and a run of admissions fewer admissions
pub record IsBounded (state : State) : Type 0 where
  pub spots : AreFew most_fired state.spots state.fired
  pub domains : AreFew most_admitted state.domains state.admitted

pub record IsPlayCounted (p : Playing) (posts : ℕ) : Type 0 where
  pub segment : p.segment ≡ segment_of p.task.spot
  pub few : p.index + posts < 2 ^ 32

-- the counts of what an actor does stay within their types
abbrev pub IsCounted : Works → ℕ → ℕ → Type 0
IsCounted (works.Lines l) taken empty = l.index + length l.left < 2 ^ 32
IsCounted works.Round taken empty = (taken < most_taken) × (empty < most_empty_rounds)
IsCounted (works.Taking left queue more) taken empty = (queue + length more.now + 1 < 2 ^ 32) × ((taken < most_taken) × (empty < most_empty_rounds))
IsCounted (works.Playing p) taken empty = IsPlayCounted p (length p.posts.items) × (empty < most_empty_rounds)
IsCounted (works.Posting p sent) taken empty = IsPlayCounted p (length p.posts.items + 1) × (empty < most_empty_rounds)
IsCounted (works.Shedding task) taken empty = empty < most_empty_rounds
IsCounted works.Resting taken empty = Unit {0}

-- ---- the actor

-- what the actor waits for, where an ask has no reply yet
abbrev pub asking_at : Option (Part × Due) → Asking
asking_at None = quiet
asking_at (Some unanswered) = asking_in unanswered.0 unanswered.1

-- what contracts see of the fields of an actor
abbrev pub seen : Course → Option (Part × Due) → Acting
seen course unanswered = record { wiring = course.wiring.now; actor = course.number; state = kept (state_of course); asking = asking_at unanswered }

-- the ask of which part is unanswered, if any
abbrev pub IsUnanswered : Course → Option (Part × Due) → Type 0
IsUnanswered course None = IsReady course × (due_at course.attempt ≡ dues.Nothing)
IsUnanswered course (Some unanswered) = IsAsked course unanswered.0 unanswered.1 × (due_at course.attempt ≡ attempt_due unanswered.0 unanswered.1)

-- what holds of the fields of an actor
pub record IsSound (course : Course) (unanswered : Option (Part × Due)) : Type 0 where
  pub valid : IsValid course.wiring.now
  pub asked : IsUnanswered course unanswered
  pub counted : course.short ≡ false → IsCounted course.work course.taken course.empty
  pub bounded : course.short ≡ false → IsBounded (state_of course)

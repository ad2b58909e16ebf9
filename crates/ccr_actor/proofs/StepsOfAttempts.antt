-- Steps of the course: what follows from where the attempt stands.
use Rattle.std.proofs.Common.{◌≡◌, ℕ, ◌^◌, cond, arith, Bool, true, false, List, [], ◌∷◌, Option, Some, None, Result, Ok, Err, refl, sym, ap, subst, ◌∙◌, drop}
use Rattle.std.specs.Prelude.{OnOk, OnErr, nat_lt, slice_get, unwrap_or}
use Rattle.std.proofs.lemmas.Bool.Decides.{nat_tests}
use Rattle.std.proofs.lemmas.List.{append-nil}
use Rattle.ccr_base.specs.declared.list.OutOfMemory.{OutOfMemory}
use Rattle.ccr_base.specs.declared.names.Spot.{Spot}
use Rattle.ccr_base.specs.declared.names.TaskId.{TaskId}
use Rattle.ccr_wiring.specs.declared.parts.Parts.{Parts}
use Rattle.ccr_claim.specs.declared.asks.Asked.{Asked}
use Rattle.ccr_base.specs.declared.tasks.Task.{Task}
use Rattle.ccr_claim.specs.declared.asks.Reply.{Reply}
use Rattle.ccr_claim.specs.declared.asks.Reply.TheVariants as replies
use Rattle.ccr_claim.specs.Asks.{MaybeReply, may_come}
use Rattle.ccr_claim.specs.Attempts.{AttemptState, booking, over_dropped, progress_of, IsAfter}
use Rattle.ccr_actor.specs.declared.course.Course.{Course}
use Rattle.ccr_actor.specs.declared.course.Part.TheVariants as parts
use Rattle.ccr_actor.specs.Acting.{kept}
use Rattle.ccr_actor.specs.Actors.{State, turn_of, drive, after_in, admit_too, settled, in_attempt, end_attempt}
use Rattle.ccr_actor.specs.Courses.{IsUnderWay, target, dropped_by, phase_of, RunsAt, Runs, IsPast, IsHeard, IsStep, owing, heard, fired_on, state_of, hand_of, due_at, due_next}
use Rattle.ccr_actor.proofs.AttemptsGoOn.{heard_at}

-- nothing is owed where no attempt is under way
pub none-owed : (wiring : Parts) (actor : ℕ) (state : State) (spots : List Spot) → state.phase ≡ booking → in_attempt wiring actor state spots ≡ []
none-owed wiring actor state [] is = refl
none-owed wiring actor state (spot ∷ more) is = rw is refl

pub owed-hand : (wiring : Parts) (actor : ℕ) (state : State) → state.phase ≡ booking → owing wiring actor state ≡ state.hand
owed-hand wiring actor state is = rw (none-owed wiring actor state state.spots is) (append-nil state.hand)

-- two states in one phase of one attempt owe alike for it
pub same-attempt : (wiring : Parts) (actor : ℕ) (one two : State) (spots : List Spot) → one.phase ≡ two.phase → one.attempt ≡ two.attempt → in_attempt wiring actor one spots ≡ in_attempt wiring actor two spots
same-attempt wiring actor one two [] phase attempt = refl
same-attempt wiring actor one two (spot ∷ more) phase attempt = rw (phase, attempt) refl

-- a step that reaches this state, or has its hand
pub ends : {E : Type 0} (result : Result E OutOfMemory) (wiring : Parts) (actor : ℕ) (target wanted new : State) → target ≡ wanted → wanted.phase ≡ booking → OnOk result (new ≡ wanted) → OnErr result (new.hand ≡ wanted.hand) → IsStep result wiring actor target new
ends (Ok done) wiring actor target wanted new is phase ok err = ap kept (ok ∙ sym is)
ends (Err refused) wiring actor target wanted new is phase ok err = err ∙ (sym (owed-hand wiring actor wanted phase) ∙ ap (owing wiring actor) (sym is))

-- an attempt that runs is at a first spot
pub first_spot : (wiring : Parts) (name : TaskId) (spots : List Spot) (attempt : Option AttemptState) → Runs wiring name spots attempt → (spot : Spot) × (more : List Spot) × (spots ≡ spot ∷ more)
first_spot wiring name [] attempt runs = absurd runs
first_spot wiring name (spot ∷ more) attempt runs = (spot, more, refl)

runs_at : (wiring : Parts) (name : TaskId) (spots : List Spot) (o : Option AttemptState) (spot : Spot) (more : List Spot) (attempt : AttemptState) → spots ≡ spot ∷ more → o ≡ Some attempt → Runs wiring name spots o → RunsAt wiring name spot attempt
runs_at wiring name spots o spot more attempt at is runs =
    subst (λ o. Runs wiring name (spot ∷ more) o) is (subst (λ ss. Runs wiring name ss o) at runs)

-- nothing else is in hand
pub hand_alone : (course : Course) → course.dropped ≡ None → course.put ≡ None → (state_of course).hand ≡ hand_of course.attempt
hand_alone course dropped put = rw (dropped, put) (append-nil (hand_of course.attempt))

-- the attempt of this course, after an answer
pub heard_in : (course : Course) (attempt new : AttemptState) (answer : MaybeReply) (spot : Spot) (more : List Spot) → course.attempt ≡ Some attempt → course.dropped ≡ None → course.put ≡ None → course.spots ≡ spot ∷ more
    → Runs course.wiring.now (record { actor = course.number; attempt = course.count }) course.spots course.attempt → due_at course.attempt ≡ due_next course.attempt → may_come (due_at course.attempt) answer ≡ true → IsAfter attempt answer new
    → IsHeard course.wiring.now course.number (record { actor = course.number; attempt = course.count }) (state_of course) spot more (heard course.wiring.now course.number (state_of course) spot more answer) (progress_of new.ended) new
heard_in course attempt new answer spot more is dropped put at runs due may after =
    let here = runs_at course.wiring.now (record { actor = course.number; attempt = course.count }) course.spots course.attempt spot more attempt at is runs in
    let none : (state_of course).hand ≡ [] = hand_alone course dropped put ∙ (ap hand_of is ∙ here.hand) in
    heard_at course.wiring.now course.number (state_of course) spot more attempt answer new none at (rw is refl) here (subst (λ o. may_come (due_at o) answer ≡ true) is may) (subst (λ o. due_at o ≡ due_next o) is due) after

-- the first of the spots
pub is_first : (spots : List Spot) (first spot : Spot) (more : List Spot) → slice_get spots 0 ≡ Some first → spots ≡ spot ∷ more → first ≡ spot
is_first spots first spot more look at = ap (λ o. unwrap_or o first) (sym look ∙ ap (λ ss. slice_get ss 0) at)

-- a firing of the attempt, seen from the state before
pub fired_in : (course : Course) (new : AttemptState) (first spot : Spot) (more : List Spot) (waits : Bool) → course.dropped ≡ None → course.put ≡ None → course.spots ≡ spot ∷ more → first ≡ spot
    → fired_on course.wiring.now (state_of (record course { attempt = Some new })) first (drop 1 course.spots) waits (state_of (record course { attempt = Some new })).hand ≡ fired_on course.wiring.now (state_of course) spot more waits new.hand
fired_in course new first spot more waits dropped put at is = rw (hand_alone (record course { attempt = Some new }) dropped put, is, at) refl

-- likewise where it was given up
pub given_in : (course : Course) (new : AttemptState) (spot : Spot) (more : List Spot) → course.dropped ≡ None → course.put ≡ None → course.spots ≡ spot ∷ more
    → end_attempt (state_of (record course { attempt = Some new })) (state_of (record course { attempt = Some new })).hand (drop 1 course.spots) ≡ end_attempt (state_of course) new.hand more
given_in course new spot more dropped put at = rw (hand_alone (record course { attempt = Some new }) dropped put, at) refl

-- a step that reaches this state as far as it counts, or has its hand
pub ends_kept : {E : Type 0} (result : Result E OutOfMemory) (wiring : Parts) (actor : ℕ) (target new : State) → target.phase ≡ booking → OnOk result (kept new ≡ kept target) → OnErr result (new.hand ≡ target.hand) → IsStep result wiring actor target new
ends_kept (Ok done) wiring actor target new phase ok err = ok
ends_kept (Err refused) wiring actor target new phase ok err = err ∙ sym (owed-hand wiring actor target phase)

pub past_phase : (o : Option AttemptState) → IsPast o → phase_of o ≡ booking
past_phase None past = refl
past_phase (Some attempt) past = past.phase

-- another attempt with the same hand
pub same_state : (course : Course) (o : Option AttemptState) → hand_of o ≡ hand_of course.attempt → phase_of o ≡ phase_of course.attempt → state_of (record course { attempt = o }) ≡ state_of course
same_state course o hand phase = rw (hand, phase) refl

-- a dropped task is noted over at once
pub settled_drop : (wiring : Parts) (state : State) (more : List Asked) (task : Task) (r : Reply) → dropped_by r ≡ Some task → settled wiring state more r ≡ record state { hand = over_dropped task ∷ more; domains = admit_too wiring state task }
settled_drop wiring state more task replies.Done is = cc is
settled_drop wiring state more task (replies.Got m) is = cc is
settled_drop wiring state more task (replies.Busy t) is = cc is
settled_drop wiring state more task (replies.Short n) is = cc is
settled_drop wiring state more task (replies.Fired t cuts) is = cc is
settled_drop wiring state more task (replies.Dead by) is = cc is
settled_drop wiring state more task (replies.Admitted t) is = cc is
settled_drop wiring state more task replies.Booked is = cc is
settled_drop wiring state more task (replies.Full n) is = cc is
settled_drop wiring state more task (replies.Dropped t) is = rw is refl
settled_drop wiring state more task (replies.Taken t) is = cc is
settled_drop wiring state more task (replies.Drawn n) is = cc is
settled_drop wiring state more task replies.Spent is = cc is
settled_drop wiring state more task (replies.Left n) is = cc is

pub always_ok : {E : Type 0} (result : Result E OutOfMemory) (P : Type 0) → P → OnOk result P
always_ok (Ok done) P p = p
always_ok (Err refused) P p = tt

pub always_err : {E : Type 0} (result : Result E OutOfMemory) (P : Type 0) → P → OnErr result P
always_err (Ok done) P p = tt
always_err (Err refused) P p = p

-- the turn of a course that drives
pub driven-turn : (short : Bool) (hand : List Asked) (domains : List ℕ) (left : Bool) (spots : List Spot) (spot : Spot) (more : List Spot) → short ≡ false → hand ≡ [] → domains ≡ [] → left ≡ true → spots ≡ spot ∷ more → turn_of short hand domains (cond left spots []) ≡ drive spot more
driven-turn short hand domains left spots spot more s h a l at = rw (s, h, a, l, at) refl

pub hand_runs : (wiring : Parts) (name : TaskId) (spots : List Spot) (o : Option AttemptState) → Runs wiring name spots o → hand_of o ≡ []
hand_runs wiring name [] o runs = absurd runs
hand_runs wiring name (spot ∷ more) None runs = absurd runs
hand_runs wiring name (spot ∷ more) (Some attempt) runs = runs.hand

-- the state after an answer to the attempt that is driven
pub driven_target : (course : Course) (spot : Spot) (more : List Spot) (answer : MaybeReply) → IsUnderWay course → course.short ≡ false → course.spots ≡ spot ∷ more → target parts.Drive course.wiring.now course.number (state_of course) answer ≡ heard course.wiring.now course.number (state_of course) spot more answer
driven_target course spot more (Err refused) way short at = refl
driven_target course spot more (Ok reply) way short at =
    let name : TaskId = record { actor = course.number; attempt = course.count } in
    let none : (state_of course).hand ≡ [] = hand_alone course way.dropped way.put ∙ hand_runs course.wiring.now name course.spots course.attempt way.runs in
    let left : nat_lt course.count (2 ^ 32) ≡ true = grind (arith, nat_tests, way.count) in
    ap (λ t. after_in course.wiring.now course.number (state_of course) t reply) (driven-turn course.short (state_of course).hand course.domains.items (nat_lt course.count (2 ^ 32)) course.spots spot more short none way.domains left at)

-- Which answers need memory: what the parts of the code say of it, and what contracts see.
use Rattle.std.proofs.Common.{◌≡◌, ◌<◌, ◌≤◌, ◌^◌, ℕ, Bool, true, false, List, [], ◌∷◌, length, Option, Some, None, Result, Ok, Err, refl, sym, ap, subst, inl, inr, arith, ◌∙◌}
use Rattle.std.specs.Prelude.{nat_lt, IfOk, IsOk, OnOk, OnErr}
use Rattle.std.specs.List.{slice_get}
use Rattle.std.specs.Option.{option_map_or}
use Rattle.std.proofs.lemmas.Bool.Decides.{nat_tests}
use Rattle.std.proofs.lemmas.Option.{slice_get_past}
use Rattle.ccr_base.specs.declared.list.OutOfMemory.{OutOfMemory}
use Rattle.ccr_base.specs.declared.names.Spot.{Spot}
use Rattle.ccr_base.specs.declared.names.TaskId.{TaskId}
use Rattle.ccr_base.proofs.Booleans.{or_left, or_right}
use Rattle.ccr_wiring.specs.declared.parts.Parts.{Parts}
use Rattle.ccr_wiring.specs.declared.parts.PosterPart.{PosterPart}
use Rattle.ccr_claim.specs.declared.asks.Asked.{Asked}
use Rattle.ccr_claim.specs.declared.asks.Due.{Due}
use Rattle.ccr_claim.specs.declared.asks.Reply.{Reply}
use Rattle.ccr_claim.specs.declared.asks.Reply.TheVariants as replies
use Rattle.ccr_claim.specs.declared.outcomes.Progress.{Progress}
use Rattle.ccr_claim.specs.declared.outcomes.Progress.TheVariants as progresses
use Rattle.ccr_claim.specs.Asks.{MaybeReply, due_of, fits, may_come}
use Rattle.ccr_claim.specs.Attempts.{AttemptState, attempt_ask, progress_of, IsAfter}
use Rattle.ccr_actor.specs.declared.course.Course.{Course}
use Rattle.ccr_actor.specs.declared.course.Part.{Part}
use Rattle.ccr_actor.specs.declared.course.Part.TheVariants as parts
use Rattle.ccr_actor.specs.Acting.{kept, state_after_reply}
use Rattle.ccr_actor.specs.Actors.{State, Turn, turn, turn_of, spots_left, admit, go_on, drive, lines, round, fresh_state, start}
use Rattle.ccr_actor.specs.Courses.{answer_needs, answer_unnumbered, asking_in, due_at, due_next, heard_needs, is_memory, seen, state_of, target, IsAsked, IsBeside, IsFree, IsStep}
use Rattle.ccr_actor.specs.Needs.{attempt_needs, kept_needs, needs_memory, next_needs, settling_needs, takes_unnumbered, turn_needs, turn_unnumbered}
use Rattle.ccr_actor.proofs.FieldsAfterAStep.{asked_long, target_short}
use Rattle.ccr_actor.proofs.AttemptsGoOn.{is_own, own}
use Rattle.ccr_actor.proofs.WhatCountsIsKept.{kept_short, kept_whole}
use Rattle.ccr_actor.proofs.StepsOfAttempts.{driven-turn, first_spot, hand_alone, hand_runs}

-- ---- the attempt

-- it was given up out of memory, or its task waits
abbrev pub wants : Progress → Bool
wants progresses.Running = false
wants (progresses.Fired waits) = waits
wants (progresses.GaveUp why) = is_memory why

no : {A : Type 0} → false ≡ true → A
no is = absurd (cc is)

-- so it is only where the reply needs memory
own-needs : (r : Reply) (state new : AttemptState) → is_own r ≡ true → IsAfter state (Ok r) new → wants (progress_of new.ended) ≡ true → attempt_needs r ≡ true
own-needs replies.Done state new is after w = no is
own-needs (replies.Got m) state new is after w = refl
own-needs (replies.Busy t) state new is (inl at) w = no (sym (ap (λ (x : AttemptState). wants (progress_of x.ended)) at) ∙ w)
own-needs (replies.Busy t) state new is (inr at) w = no (sym (ap (λ (x : AttemptState). wants (progress_of x.ended)) at) ∙ w)
own-needs (replies.Short n) state new is (inl at) w = no (sym (ap (λ (x : AttemptState). wants (progress_of x.ended)) at) ∙ w)
own-needs (replies.Short n) state new is (inr at) w = no (sym (ap (λ (x : AttemptState). wants (progress_of x.ended)) at) ∙ w)
own-needs (replies.Fired None cuts) state new is after w = refl
own-needs (replies.Fired (Some t) cuts) state new is (inl at) w = no (sym (ap (λ (x : AttemptState). wants (progress_of x.ended)) at) ∙ w)
own-needs (replies.Fired (Some t) cuts) state new is (inr at) w = no (sym (ap (λ (x : AttemptState). wants (progress_of x.ended)) at) ∙ w)
own-needs (replies.Dead by) state new is (inl at) w = no (sym (ap (λ (x : AttemptState). wants (progress_of x.ended)) at) ∙ w)
own-needs (replies.Dead by) state new is (inr at) w = no (sym (ap (λ (x : AttemptState). wants (progress_of x.ended)) at) ∙ w)
own-needs (replies.Admitted t) state new is after w = no is
own-needs replies.Booked state new is after w = refl
own-needs (replies.Full n) state new is (inl at) w = no (sym (ap (λ (x : AttemptState). wants (progress_of x.ended)) at) ∙ w)
own-needs (replies.Full n) state new is (inr at) w = no (sym (ap (λ (x : AttemptState). wants (progress_of x.ended)) at) ∙ w)
own-needs (replies.Dropped t) state new is after w = no is
own-needs (replies.Taken t) state new is after w = no is
own-needs (replies.Drawn n) state new is after w = no is
own-needs replies.Spent state new is after w = no is
own-needs (replies.Left n) state new is after w = no is

answer-needs : (answer : MaybeReply) (state new : AttemptState) → may_come state.due answer ≡ true → state.due ≡ due_of (attempt_ask state.plan state.task state.phase).ask → IsAfter state answer new → wants (progress_of new.ended) ≡ true → heard_needs answer ≡ true
answer-needs (Ok r) state new may is after w = own-needs r state new (own state.plan state.task state.phase r (subst (λ d. fits d r ≡ true) is may)) after w
answer-needs (Err e) state new may is after w = refl

-- the attempt of a course
pub heard_wants : (o : Option AttemptState) (state new : AttemptState) (answer : MaybeReply) → o ≡ Some state → may_come (due_at o) answer ≡ true → due_at o ≡ due_next o → IsAfter state answer new → wants (progress_of new.ended) ≡ true → heard_needs answer ≡ true
heard_wants o state new answer at may is after w = answer-needs answer state new (subst (λ o. may_come (due_at o) answer ≡ true) at may) (subst (λ o. due_at o ≡ due_next o) at is) after w

pub on_err : {E : Type 0} (result : Result E OutOfMemory) (P Q : Type 0) → (P → Q) → OnErr result P → OnErr result Q
on_err (Ok done) P Q so is = tt
on_err (Err refused) P Q so is = so is

-- what it needs, as an answer to the drive
pub driven_needs : (wiring : Parts) (state : State) (answer : MaybeReply) → heard_needs answer ≡ true → answer_needs parts.Drive wiring state answer ≡ true
driven_needs wiring state (Ok r) is = is
driven_needs wiring state (Err e) is = refl

-- ---- the turn

free-hand : (course : Course) → IsFree course → (state_of course).hand ≡ []
free-hand course free = hand_alone course free.idle.dropped free.idle.put ∙ free.idle.hand

-- what holds of the turn of an actor that has an Interleave to ask
admits : (P : Turn → Type 0) (short : Bool) (hand : List Asked) (domains : List ℕ) (spots : List Spot) → short ≡ false → hand ≡ [] → 0 < length domains → ((domain : ℕ) (more : List ℕ) → P (admit domain more)) → P (turn_of short hand domains spots)
admits P true hand domains spots long none few all = absurd (cc long)
admits P false (one ∷ hand) domains spots long none few all = absurd (cc none)
admits P false [] [] spots long none few all = absurd (omega (arith, few))
admits P false [] (domain ∷ more) spots long none few all = all domain more

work-turn : (short : Bool) (hand : List Asked) (domains : List ℕ) (spots : List Spot) → short ≡ false → hand ≡ [] → domains ≡ [] → spots ≡ [] → turn_of short hand domains spots ≡ go_on
work-turn short hand domains spots s h a p = rw (s, h, a, p) refl

-- the turn of a course that works
works : (course : Course) (due : Due) → IsAsked course parts.Work due → turn (state_of course) ≡ go_on
works course due asked = work-turn course.short (state_of course).hand course.domains.items (spots_left (state_of course)) asked.0.short (free-hand course asked.0) asked.1.0 asked.1.1

-- and of one that drives
drives : (course : Course) (due : Due) → IsAsked course parts.Drive due → (spot : Spot) × (more : List Spot) × (turn (state_of course) ≡ drive spot more)
drives course due asked =
    let way = asked.0 in
    let name : TaskId = record { actor = course.number; attempt = course.count } in
    let first = first_spot course.wiring.now name course.spots course.attempt way.runs in
    let none : (state_of course).hand ≡ [] = hand_alone course way.dropped way.put ∙ hand_runs course.wiring.now name course.spots course.attempt way.runs in
    let left : nat_lt course.count (2 ^ 32) ≡ true = grind (arith, nat_tests, way.count) in
    (first.0, first.1, driven-turn course.short (state_of course).hand course.domains.items (nat_lt course.count (2 ^ 32)) course.spots first.0 first.1 asked.1.0 none way.domains left first.2)

-- ---- what contracts see of it

-- what the code says of an answer is what the definition says
needs-so : (course : Course) (part : Part) (due : Due) (reply : Reply) → IsAsked course part due → course.short ≡ false → kept_needs (seen course (Some (part, due))) (asking_in part due) reply ≡ answer_needs part course.wiring.now (state_of course) (Ok reply)
needs-so course parts.Over due reply asked long = ap (λ (s : State). settling_needs course.wiring.now s reply) (kept_whole (state_of course) long)
needs-so course parts.Hand due reply asked long = ap (λ (s : State). settling_needs course.wiring.now s reply) (kept_whole (state_of course) long)
needs-so course parts.Put due reply asked long = ap (λ (s : State). settling_needs course.wiring.now s reply) (kept_whole (state_of course) long)
needs-so course parts.Admit due reply asked long =
    let s = state_of course in
    ap (λ (s : State). turn_needs course.wiring.now s (turn s) reply) (kept_whole s long)
    ∙ admits (λ t. turn_needs course.wiring.now s t reply ≡ false) course.short s.hand course.domains.items (spots_left s) long (free-hand course asked.0) asked.1 (λ domain more. refl)
needs-so course parts.Drive due reply asked long =
    let s = state_of course in
    let goes = drives course due asked in
    ap (λ (s : State). turn_needs course.wiring.now s (turn s) reply) (kept_whole s long) ∙ ap (λ t. turn_needs course.wiring.now s t reply) goes.2
needs-so course parts.Work due reply asked long =
    let s = state_of course in
    ap (λ (s : State). turn_needs course.wiring.now s (turn s) reply) (kept_whole s long) ∙ ap (λ t. turn_needs course.wiring.now s t reply) (works course due asked)

unnumbered-so : (course : Course) (part : Part) (due : Due) (reply : Reply) → IsAsked course part due → takes_unnumbered (seen course (Some (part, due))) reply ≡ answer_unnumbered part course.wiring.now (state_of course) (Ok reply)
unnumbered-so course parts.Over due reply asked = refl
unnumbered-so course parts.Hand due reply asked = refl
unnumbered-so course parts.Put due reply asked = refl
unnumbered-so course parts.Admit due reply asked =
    let s = state_of course in
    ap (λ (s : State). turn_unnumbered course.wiring.now s (turn s) reply) (kept_whole s asked.0.short)
    ∙ admits (λ t. turn_unnumbered course.wiring.now s t reply ≡ false) course.short s.hand course.domains.items (spots_left s) asked.0.short (free-hand course asked.0) asked.1 (λ domain more. refl)
unnumbered-so course parts.Drive due reply asked =
    let s = state_of course in
    let goes = drives course due asked in
    ap (λ (s : State). turn_unnumbered course.wiring.now s (turn s) reply) (kept_whole s asked.1.0) ∙ ap (λ t. turn_unnumbered course.wiring.now s t reply) goes.2
unnumbered-so course parts.Work due reply asked =
    let s = state_of course in
    ap (λ (s : State). turn_unnumbered course.wiring.now s (turn s) reply) (kept_whole s asked.0.short) ∙ ap (λ t. turn_unnumbered course.wiring.now s t reply) (works course due asked)

-- the state before what is asked next is made ready
mid-is : (old mid : Course) (part : Part) (due : Due) (reply : Reply) → IsAsked old part due → old.short ≡ false → mid.short ≡ false → kept (state_of mid) ≡ kept (target part old.wiring.now old.number (state_of old) (Ok reply))
    → state_after_reply (seen old (Some (part, due))) (asking_in part due) reply ≡ state_of mid
mid-is old mid part due reply asked long still step =
    let wanted = target part old.wiring.now old.number (state_of old) (Ok reply) in
    let reached = state_after_reply (seen old (Some (part, due))) (asking_in part due) reply in
    let same : kept reached ≡ kept wanted = asked_long old part due reply asked in
    let wanted_long : wanted.is_short ≡ false = target_short part old.wiring.now old.number (state_of old) (Ok reply) ∙ long in
    let reached_long : reached.is_short ≡ false = sym (kept_short reached) ∙ (ap (λ (s : State). s.is_short) same ∙ (kept_short wanted ∙ wanted_long)) in
    sym (kept_whole reached reached_long) ∙ (same ∙ (sym step ∙ kept_whole (state_of mid) still))

needs-reply : {E : Type 0} (made : Result E OutOfMemory) (old mid new : Course) (part : Part) (due : Due) (reply : Reply) → IsAsked old part due → IsBeside old mid → IsStep made old.wiring.now old.number (target part old.wiring.now old.number (state_of old) (Ok reply)) (state_of mid)
    → OnErr made (answer_needs part old.wiring.now (state_of old) (Ok reply) ≡ true) → OnOk made (mid.short ≡ false → new.short ≡ true → next_needs (state_of mid) ≡ true) → old.short ≡ false → new.short ≡ true → needs_memory (seen old (Some (part, due))) reply ≡ true
needs-reply (Ok done) old mid new part due reply asked beside step kept_so next_so long short =
    let a = seen old (Some (part, due)) in
    let still : mid.short ≡ false = beside.short ∙ long in
    or_right (kept_needs a (asking_in part due) reply) (next_needs (state_after_reply a (asking_in part due) reply)) (ap next_needs (mid-is old mid part due reply asked long still step) ∙ next_so still short)
needs-reply (Err e) old mid new part due reply asked beside step kept_so next_so long short =
    let a = seen old (Some (part, due)) in
    or_left (kept_needs a (asking_in part due) reply) (next_needs (state_after_reply a (asking_in part due) reply)) (needs-so old part due reply asked long ∙ kept_so)

-- short then, it needed memory
pub got_needs : {E : Type 0} (made : Result E OutOfMemory) (old mid new : Course) (part : Part) (due : Due) (answer : MaybeReply) → IsAsked old part due → IsBeside old mid → IsStep made old.wiring.now old.number (target part old.wiring.now old.number (state_of old) answer) (state_of mid)
    → OnErr made (answer_needs part old.wiring.now (state_of old) answer ≡ true) → OnOk made (mid.short ≡ false → new.short ≡ true → next_needs (state_of mid) ≡ true)
    → IfOk answer (λ r. (seen old (Some (part, due))).state.is_short ≡ false → (seen new None).state.is_short ≡ true → needs_memory (seen old (Some (part, due))) r ≡ true)
got_needs made old mid new part due (Ok reply) asked beside step kept_so next_so = λ long short.
    needs-reply made old mid new part due reply asked beside step kept_so next_so (sym (kept_short (state_of old)) ∙ long) (sym (kept_short (state_of new)) ∙ short)
got_needs made old mid new part due (Err e) asked beside step kept_so next_so = tt

unnumbered-reply : {E : Type 0} (made : Result E OutOfMemory) (old new : Course) (part : Part) (due : Due) (reply : Reply) → IsAsked old part due → OnOk made (answer_unnumbered part old.wiring.now (state_of old) (Ok reply) ≡ false) → OnErr made (new.short ≡ true) → takes_unnumbered (seen old (Some (part, due))) reply ≡ true → (seen new None).state.is_short ≡ true
unnumbered-reply (Ok done) old new part due reply asked numbered short is = no (sym numbered ∙ (sym (unnumbered-so old part due reply asked) ∙ is))
unnumbered-reply (Err e) old new part due reply asked numbered short is = kept_short (state_of new) ∙ short

-- it is short where the task has no numbers
pub got_unnumbered : {E : Type 0} (made : Result E OutOfMemory) (old new : Course) (part : Part) (due : Due) (answer : MaybeReply) → IsAsked old part due → OnOk made (answer_unnumbered part old.wiring.now (state_of old) answer ≡ false) → OnErr made (new.short ≡ true)
    → IfOk answer (λ r. takes_unnumbered (seen old (Some (part, due))) r ≡ true → (seen new None).state.is_short ≡ true)
got_unnumbered made old new part due (Ok reply) asked numbered short = unnumbered-reply made old new part due reply asked numbered short
got_unnumbered made old new part due (Err e) asked numbered short = tt

-- ---- before the first step

round-needs : (wiring : Parts) (number : ℕ) → slice_get wiring.posters number ≡ None → next_needs (start wiring number) ≡ false
round-needs wiring number none = ap (λ o. next_needs (fresh_state (option_map_or (λ (p : PosterPart). lines 0 p.posts) o round))) none

-- a worker begins, since a round needs no memory
pub worker_begins : {E : Type 0} (result : Result E OutOfMemory) (wiring : Parts) (number : ℕ) → length wiring.posters ≤ number → OnErr result (next_needs (start wiring number) ≡ true) → IsOk result
worker_begins (Ok made) wiring number past needs = refl
worker_begins (Err refused) wiring number past needs = no (sym (round-needs wiring number (slice_get_past wiring.posters number past)) ∙ needs)

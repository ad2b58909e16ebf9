-- What holds of the fields of an actor, before and after a step.
use Rattle.std.proofs.Common.{◌≡◌, ◌⊎◌, ℕ, true, false, [], Option, Some, None, Result, Ok, Err, refl, sym, ap, subst, inl, inr, ◌∙◌, ◌^◌, cond, arith, Bor}
use Rattle.std.specs.Prelude.{nat_lt, OnErr, IsErr}
use Rattle.std.proofs.lemmas.Bool.Decides.{nat_tests}
use Rattle.ccr_claim.specs.Attempts.{booking}
use Rattle.ccr_base.specs.declared.list.OutOfMemory.{OutOfMemory}
use Rattle.ccr_base.proofs.Booleans.{no_both}
use Rattle.ccr_wiring.specs.declared.parts.Parts.{Parts}
use Rattle.std.specs.Option.{option_map}
use Rattle.ccr_claim.specs.declared.asks.Asked.{Asked}
use Rattle.ccr_claim.specs.declared.asks.Due.{Due}
use Rattle.ccr_claim.specs.declared.asks.Due.TheVariants as dues
use Rattle.ccr_claim.specs.declared.asks.Reply.{Reply}
use Rattle.ccr_claim.specs.Asks.{MaybeReply, due_of, may_come, is_refusable}
use Rattle.ccr_actor.specs.declared.course.Course.{Course}
use Rattle.ccr_actor.specs.declared.course.Part.{Part}
use Rattle.ccr_actor.specs.declared.course.Part.TheVariants as parts
use Rattle.ccr_actor.specs.Acting.{Acting, Asking, quiet, due_in, pair_of, kept, next, sent, sent_state, asking_of, answered, state_after_reply, IsAfter}
use Rattle.ccr_actor.specs.Actors.{State, Turn, settle, admit, drive, go_on, stop, turn, asked, spots_left, after, shorten}
use Rattle.ccr_actor.specs.declared.work.Work.{Work as Works}
use Rattle.ccr_actor.specs.declared.work.Work.TheVariants as works
use Rattle.ccr_actor.specs.Inside.{work_of}
use Rattle.ccr_actor.specs.Within.{IsPaced, IsWithin}
use Rattle.ccr_actor.specs.Courses.{IsAsked, IsBeside, IsBounded, IsCounted, IsReached, IsReady, IsSound, IsPast, IsShortened, IsUnderWay, phase_of, IsSettlingDue, IsStep, IsUnanswered, asking_at, asking_by, asking_in, due_at, seen, state_of, target}
use Rattle.ccr_actor.proofs.WhatCountsIsKept.{kept_asked, kept_asking, kept_sent, kept_whole, kept_short, kept_settled, settled_short, after_short}
use Rattle.ccr_actor.proofs.StepsOfAttempts.{past_phase, first_spot}
use Rattle.ccr_actor.proofs.Bounds.{bounded_after, bounded_settled}

-- no ask is unanswered
pub none_asked : (unanswered : Option (Part × Due)) → asking_at unanswered ≡ quiet → unanswered ≡ None
none_asked None is = refl
none_asked (Some (parts.Over, due)) is = cc is
none_asked (Some (parts.Hand, due)) is = cc is
none_asked (Some (parts.Put, due)) is = cc is
none_asked (Some (parts.Admit, due)) is = cc is
none_asked (Some (parts.Drive, due)) is = cc is
none_asked (Some (parts.Work, due)) is = cc is

pub due_same : (part : Part) (due : Due) → due_in (asking_in part due) ≡ due
due_same parts.Over due = refl
due_same parts.Hand due = refl
due_same parts.Put due = refl
due_same parts.Admit due = refl
due_same parts.Drive due = refl
due_same parts.Work due = refl

-- an ask of the hand is never refused
never-refused : (due : Due) → IsSettlingDue due → is_refusable due ≡ true → ⊥
never-refused dues.Nothing settles may = absurd settles
never-refused dues.Settled settles may = cc may
never-refused dues.Put settles may = cc may
never-refused dues.Done settles may = absurd settles
never-refused dues.Booking settles may = absurd settles
never-refused (dues.Claim slot) settles may = absurd settles
never-refused dues.Commit settles may = absurd settles
never-refused dues.Admission settles may = absurd settles
never-refused dues.Take settles may = absurd settles
never-refused dues.Draw settles may = absurd settles
never-refused dues.Left settles may = absurd settles

-- ---- the state after an answer

pub target_short : (part : Part) (wiring : Parts) (actor : ℕ) (state : State) (answer : MaybeReply) → (target part wiring actor state answer).is_short ≡ state.is_short
target_short parts.Over wiring actor state (Ok reply) = settled_short wiring state state.hand reply
target_short parts.Hand wiring actor state (Ok reply) = settled_short wiring state state.hand reply
target_short parts.Put wiring actor state (Ok reply) = settled_short wiring state state.hand reply
target_short parts.Admit wiring actor state (Ok reply) = after_short wiring actor state reply
target_short parts.Drive wiring actor state (Ok reply) = after_short wiring actor state reply
target_short parts.Work wiring actor state (Ok reply) = after_short wiring actor state reply
target_short parts.Over wiring actor state (Err refused) = refl
target_short parts.Hand wiring actor state (Err refused) = refl
target_short parts.Put wiring actor state (Err refused) = refl
target_short parts.Admit wiring actor state (Err refused) = refl
target_short parts.Drive wiring actor state (Err refused) = refl
target_short parts.Work wiring actor state (Err refused) = refl

pub target_refused : (part : Part) (wiring : Parts) (actor : ℕ) (state : State) (refused : OutOfMemory) → target part wiring actor state (Err refused) ≡ state
target_refused parts.Over wiring actor state refused = refl
target_refused parts.Hand wiring actor state refused = refl
target_refused parts.Put wiring actor state refused = refl
target_refused parts.Admit wiring actor state refused = refl
target_refused parts.Drive wiring actor state refused = refl
target_refused parts.Work wiring actor state refused = refl

target-bounded : (part : Part) (wiring : Parts) (actor : ℕ) (state : State) (answer : MaybeReply) → IsBounded state → IsBounded (target part wiring actor state answer)
target-bounded parts.Over wiring actor state (Ok reply) is = bounded_settled wiring state state.hand reply is
target-bounded parts.Hand wiring actor state (Ok reply) is = bounded_settled wiring state state.hand reply is
target-bounded parts.Put wiring actor state (Ok reply) is = bounded_settled wiring state state.hand reply is
target-bounded parts.Admit wiring actor state (Ok reply) is = bounded_after wiring actor state reply is
target-bounded parts.Drive wiring actor state (Ok reply) is = bounded_after wiring actor state reply is
target-bounded parts.Work wiring actor state (Ok reply) is = bounded_after wiring actor state reply is
target-bounded parts.Over wiring actor state (Err refused) is = is
target-bounded parts.Hand wiring actor state (Err refused) is = is
target-bounded parts.Put wiring actor state (Err refused) is = is
target-bounded parts.Admit wiring actor state (Err refused) is = is
target-bounded parts.Drive wiring actor state (Err refused) is = is
target-bounded parts.Work wiring actor state (Err refused) is = is

-- an ask of the admissions, the drive or the work is made only while the actor isn't short
pub asked_long : (course : Course) (part : Part) (due : Due) (reply : Reply) → IsAsked course part due → kept (state_after_reply (seen course (Some (part, due))) (asking_in part due) reply) ≡ kept (target part course.wiring.now course.number (state_of course) (Ok reply))
asked_long course parts.Over due reply asked = kept_settled course.wiring.now (state_of course) reply
asked_long course parts.Hand due reply asked = kept_settled course.wiring.now (state_of course) reply
asked_long course parts.Put due reply asked = kept_settled course.wiring.now (state_of course) reply
asked_long course parts.Admit due reply asked = ap (λ (s : State). kept (after course.wiring.now course.number s reply)) (kept_whole (state_of course) asked.0.short)
asked_long course parts.Drive due reply asked = ap (λ (s : State). kept (after course.wiring.now course.number s reply)) (kept_whole (state_of course) asked.1.0)
asked_long course parts.Work due reply asked = ap (λ (s : State). kept (after course.wiring.now course.number s reply)) (kept_whole (state_of course) asked.0.short)

-- which is so wherever the ask may be refused
pub long_refused : (course : Course) (part : Part) (due : Due) → IsAsked course part due → is_refusable due ≡ true → course.short ≡ false
long_refused course parts.Over due asked may = absurd (never-refused due asked.due_is may)
long_refused course parts.Hand due asked may = absurd (never-refused due asked.due_is may)
long_refused course parts.Put due asked may = absurd (never-refused due asked.due_is may)
long_refused course parts.Admit due asked may = asked.0.short
long_refused course parts.Drive due asked may = asked.1.0
long_refused course parts.Work due asked may = asked.0.short

-- ---- what is bounded

whole-bounded : (new wanted : State) → new.is_short ≡ false → kept new ≡ kept wanted → IsBounded wanted → IsBounded new
whole-bounded new wanted long same is =
    let also : wanted.is_short ≡ false = sym (kept_short wanted) ∙ (sym (ap (λ (s : State). s.is_short) same) ∙ (kept_short new ∙ long)) in
    subst IsBounded (sym (sym (kept_whole new long) ∙ (same ∙ kept_whole wanted also))) is

pub bounded_still : (part : Part) (wiring : Parts) (actor : ℕ) (old new : State) (answer : MaybeReply) → new.is_short ≡ false → (old.is_short ≡ false → IsBounded old)
    → (kept new ≡ kept (target part wiring actor old answer)) ⊎ (((target part wiring actor old answer).is_short ≡ false) × (kept new ≡ kept (shorten wiring actor (target part wiring actor old answer)))) → IsBounded new
bounded_still part wiring actor old new answer long bounded (inl same) =
    let before : old.is_short ≡ false = sym (target_short part wiring actor old answer) ∙ (sym (kept_short (target part wiring actor old answer)) ∙ (sym (ap (λ (s : State). s.is_short) same) ∙ (kept_short new ∙ long))) in
    whole-bounded new (target part wiring actor old answer) long same (target-bounded part wiring actor old answer (bounded before))
bounded_still part wiring actor old new answer long bounded (inr short) = absurd (no_both (sym (kept_short new) ∙ ap (λ (s : State). s.is_short) short.1) long)

pub bounded_sent : (state : State) (t : Turn) → IsBounded state → IsBounded (sent_state state t)
bounded_sent state (settle one more) is = record { spots = is.spots; domains = is.domains }
bounded_sent state (admit domain more) is = is
bounded_sent state (drive spot more) is = is
bounded_sent state go_on is = record { spots = is.spots; domains = is.domains }
bounded_sent state stop is = is

-- ---- what contracts see of it

-- the state after a reply, or short then
pub acted : (course new : Course) (part : Part) (due : Due) (reply : Reply) → IsAsked course part due → new.wiring ≡ course.wiring → new.number ≡ course.number
    → (kept (state_of new) ≡ kept (target part course.wiring.now course.number (state_of course) (Ok reply))) ⊎ (((target part course.wiring.now course.number (state_of course) (Ok reply)).is_short ≡ false) × (kept (state_of new) ≡ kept (shorten course.wiring.now course.number (target part course.wiring.now course.number (state_of course) (Ok reply)))))
    → IsAfter (seen course (Some (part, due))) (Ok reply) (seen new None)
acted course new part due reply asked wiring number (inl same) =
    let a = seen course (Some (part, due)) in
    inl (rw (wiring, number) (ap (λ (s : State). record { wiring = course.wiring.now; actor = course.number; state = s; asking = quiet }) (same ∙ sym (asked_long course part due reply asked))))
acted course new part due reply asked wiring number (inr short) =
    let a = seen course (Some (part, due)) in
    let wanted = target part course.wiring.now course.number (state_of course) (Ok reply) in
    let long : (kept (state_of course)).is_short ≡ false = kept_short (state_of course) ∙ (sym (target_short part course.wiring.now course.number (state_of course) (Ok reply)) ∙ short.0) in
    let reached : (answered a reply).state ≡ wanted = asked_long course part due reply asked ∙ kept_whole wanted short.0 in
    inr (long, rw (wiring, number) (ap (λ (s : State). record { wiring = course.wiring.now; actor = course.number; state = s; asking = quiet }) (short.1 ∙ ap (λ (s : State). kept (shorten course.wiring.now course.number s)) (sym reached))))

-- short after a refusal
pub acted_short : (course new : Course) (part : Part) (due : Due) (refused : OutOfMemory) → course.short ≡ false → new.wiring ≡ course.wiring → new.number ≡ course.number
    → kept (state_of new) ≡ kept (shorten course.wiring.now course.number (state_of course)) → IsAfter (seen course (Some (part, due))) (Err refused) (seen new None)
acted_short course new part due refused long wiring number short =
    rw (wiring, number) (ap (λ (s : State). record { wiring = course.wiring.now; actor = course.number; state = s; asking = quiet }) (short ∙ ap (λ (s : State). kept (shorten course.wiring.now course.number s)) (sym (kept_whole (state_of course) long))))

-- ---- what stays within its bounds

paced : (work : Works) (taken empty : ℕ) → IsCounted work taken empty → IsPaced (work_of work) taken empty
paced (works.Lines l) taken empty is = tt
paced works.Round taken empty is = is
paced (works.Taking left queue more) taken empty is = is.1
paced (works.Playing p) taken empty is = (let few = is.0.few in omega (arith, few), is.1)
paced (works.Posting p sent) taken empty is = (let few = is.0.few in omega (arith, few), is.1)
paced (works.Shedding task) taken empty is = is
paced works.Resting taken empty is = tt

-- nothing is left to be driven only where no attempt is under way
booked : (course : Course) → IsPast course.attempt ⊎ IsUnderWay course → spots_left (state_of course) ≡ [] → phase_of course.attempt ≡ booking
booked course (inl past) none = past_phase course.attempt past
booked course (inr way) none =
    let first = first_spot course.wiring.now (record { actor = course.number; attempt = course.count }) course.spots course.attempt way.runs in
    let left : nat_lt course.count (2 ^ 32) ≡ true = grind (arith, nat_tests, way.count) in
    cc (sym first.2 ∙ (sym (ap (λ b. cond b course.spots []) left) ∙ none))

pub within : (course : Course) → IsSound course None → (kept (state_of course)).is_short ≡ false → IsWithin (kept (state_of course))
within course sound long =
    let short : course.short ≡ false = sym (kept_short (state_of course)) ∙ long in
    subst IsWithin (sym (kept_whole (state_of course) short)) (record { bounded = sound.bounded short; paced = paced course.work course.taken course.empty (sound.counted short); driven = booked course sound.asked.0.attempt })

-- ---- once the next ask is made

-- which ask is unanswered then
abbrev pub unanswered_by : Option (Part × Asked) → Option (Part × Due)
unanswered_by None = None
unanswered_by (Some taken) = Some (taken.0, due_of taken.1.ask)

asking-same : (taken : Option (Part × Asked)) → asking_at (unanswered_by taken) ≡ asking_by taken
asking-same None = refl
asking-same (Some taken) = refl

same-acting : (one two : Parts) (n m : ℕ) (s t : State) (p q : Asking) → one ≡ two → n ≡ m → s ≡ t → p ≡ q → ◌≡◌ {A = Acting} (record { wiring = one; actor = n; state = s; asking = p }) (record { wiring = two; actor = m; state = t; asking = q })
same-acting one two n m s t p q wiring actor state asking = rw (wiring, actor, state, asking) refl

pub sent_seen : (old new : Course) (taken : Option (Part × Asked)) → new.wiring ≡ old.wiring → new.number ≡ old.number → state_of new ≡ sent_state (state_of old) (turn (state_of old)) → asking_by taken ≡ asking_of (turn (state_of old)) (asked old.wiring.now old.number (state_of old))
    → seen new (unanswered_by taken) ≡ sent (seen old None)
sent_seen old new taken wiring number state asking =
    let k = kept (state_of old) in
    same-acting new.wiring.now old.wiring.now new.number old.number (kept (state_of new)) (sent_state k (turn k)) (asking_at (unanswered_by taken)) (asking_of (turn k) (asked old.wiring.now old.number k))
    (rw (wiring) refl) number (ap kept state ∙ kept_sent (state_of old)) (asking-same taken ∙ (asking ∙ sym (kept_asking old.wiring.now old.number (state_of old))))

pub next_asks : (old : Course) (one : Option Asked) → one ≡ asked old.wiring.now old.number (state_of old) → option_map pair_of one ≡ option_map pair_of (next (seen old None))
next_asks old one is = ap (option_map pair_of) (is ∙ sym (kept_asked old.wiring.now old.number (state_of old)))

pub next_sound : (old new : Course) (taken : Option (Part × Asked)) → IsSound old None → new.wiring ≡ old.wiring → new.short ≡ old.short → state_of new ≡ sent_state (state_of old) (turn (state_of old))
    → IsUnanswered new (unanswered_by taken) → (new.short ≡ false → IsCounted new.work new.taken new.empty) → IsSound new (unanswered_by taken)
next_sound old new taken sound wiring short state asked counted = record {
  valid = rw (wiring) sound.valid;
  asked = asked;
  counted = counted;
  bounded = λ long. subst IsBounded (sym state) (bounded_sent (state_of old) (turn (state_of old)) (sound.bounded (sym short ∙ long)));
}

-- no ask is unanswered where contracts see none
nothing : (course : Course) (unanswered : Option (Part × Due)) (a : Acting) → seen course unanswered ≡ a → a.asking ≡ quiet → unanswered ≡ None
nothing course unanswered a view is = none_asked unanswered (ap (λ (x : Acting). x.asking) view ∙ is)

pub sound_none : (course : Course) (unanswered : Option (Part × Due)) (a : Acting) → IsSound course unanswered → seen course unanswered ≡ a → a.asking ≡ quiet → IsSound course None
sound_none course unanswered a sound view is = subst (IsSound course) (nothing course unanswered a view is) sound

pub seen_none : (course : Course) (unanswered : Option (Part × Due)) (a : Acting) → seen course unanswered ≡ a → a.asking ≡ quiet → seen course None ≡ a
seen_none course unanswered a view is = subst (λ u. seen course u ≡ a) (nothing course unanswered a view is) view

pub still_none : (course new : Course) (unanswered : Option (Part × Due)) (a : Acting) → seen course unanswered ≡ a → a.asking ≡ quiet → IsSound new None → IsSound new unanswered
still_none course new unanswered a view is sound = subst (IsSound new) (sym (nothing course unanswered a view is)) sound

-- ---- once it is answered

-- the answer is one that the ask may have
pub may_so : (old : Course) (unanswered : Option (Part × Due)) (a : Acting) (part : Part) (due : Due) (answer : MaybeReply) → seen old unanswered ≡ a → unanswered ≡ Some (part, due) → may_come (due_in a.asking) answer ≡ true → may_come due answer ≡ true
may_so old unanswered a part due answer view is may =
    let same : due_in a.asking ≡ due = sym (ap (λ (x : Acting). due_in x.asking) view) ∙ (ap (λ u. due_in (asking_at u)) is ∙ due_same part due) in
    subst (λ d. may_come d answer ≡ true) same may

-- what the end of a step says
pub record IsFinished {E : Type 0} (made : Result E OutOfMemory) (old new : Course) : Type 0 where
  pub state : IsReached made old new
  pub refused : IsShortened made old new
  pub same : (new.wiring ≡ old.wiring) × (new.number ≡ old.number)

-- the same, seen from before the answer
pub reached_so : {E : Type 0} (made : Result E OutOfMemory) (old mid new : Course) (part : Part) (answer : MaybeReply) → IsBeside old mid → IsStep made old.wiring.now old.number (target part old.wiring.now old.number (state_of old) answer) (state_of mid) → IsFinished made mid new
    → (kept (state_of new) ≡ kept (target part old.wiring.now old.number (state_of old) answer)) ⊎ (((target part old.wiring.now old.number (state_of old) answer).is_short ≡ false) × (kept (state_of new) ≡ kept (shorten old.wiring.now old.number (target part old.wiring.now old.number (state_of old) answer))))
reached_so made old mid new part answer beside step finished =
    let wanted = target part old.wiring.now old.number (state_of old) answer in
    let there : IsStep made mid.wiring.now mid.number wanted (state_of mid) = rw (beside.wiring, beside.number) step in
    let got = finished.state wanted (target_short part old.wiring.now old.number (state_of old) answer ∙ sym beside.short) there in
    let P : Parts → ℕ → Type 0 = λ w n. (kept (state_of new) ≡ kept wanted) ⊎ ((wanted.is_short ≡ false) × (kept (state_of new) ≡ kept (shorten w n wanted))) in
    subst (λ n. P old.wiring.now n) beside.number (subst (λ w. P w mid.number) (ap (λ (w : Bor Parts). w.now) beside.wiring) got)

refused-so : {E : Type 0} (made : Result E OutOfMemory) (old mid new : Course) (part : Part) (refused : OutOfMemory) → IsErr made → old.short ≡ false → IsBeside old mid → IsStep made old.wiring.now old.number (target part old.wiring.now old.number (state_of old) (Err refused)) (state_of mid) → IsFinished made mid new
    → kept (state_of new) ≡ kept (shorten old.wiring.now old.number (state_of old))
refused-so (Ok done) old mid new part refused err long beside step finished = absurd (cc err)
refused-so {E = Made} (Err e) old mid new part refused err long beside step finished =
    let wanted = target part old.wiring.now old.number (state_of old) (Err refused) in
    let Q : Parts → ℕ → Type 0 = λ w n. IsStep {E = Made} (Err e) w n wanted (state_of mid) in
    let there : Q mid.wiring.now mid.number = subst (λ n. Q mid.wiring.now n) (sym beside.number) (subst (λ w. Q w old.number) (ap (λ (w : Bor Parts). w.now) (sym beside.wiring)) step) in
    let got : kept (state_of new) ≡ kept (shorten mid.wiring.now mid.number wanted) = finished.refused wanted (beside.short ∙ long) there in
    let P : Parts → ℕ → Type 0 = λ w n. kept (state_of new) ≡ kept (shorten w n wanted) in
    subst (λ n. P old.wiring.now n) beside.number (subst (λ w. P w mid.number) (ap (λ (w : Bor Parts). w.now) beside.wiring) got)
    ∙ ap (λ (s : State). kept (shorten old.wiring.now old.number s)) (target_refused part old.wiring.now old.number (state_of old) refused)

pub got_after : {E : Type 0} (made : Result E OutOfMemory) (old mid new : Course) (part : Part) (due : Due) (answer : MaybeReply) → IsAsked old part due → may_come due answer ≡ true → IsBeside old mid → IsStep made old.wiring.now old.number (target part old.wiring.now old.number (state_of old) answer) (state_of mid)
    → OnErr answer (IsErr made) → IsFinished made mid new → IsAfter (seen old (Some (part, due))) answer (seen new None)
got_after made old mid new part due (Ok reply) asked may beside step refused finished =
    acted old new part due reply asked (finished.same.0 ∙ beside.wiring) (finished.same.1 ∙ beside.number) (reached_so made old mid new part (Ok reply) beside step finished)
got_after made old mid new part due (Err e) asked may beside step refused finished =
    let long = long_refused old part due asked may in
    acted_short old new part due e long (finished.same.0 ∙ beside.wiring) (finished.same.1 ∙ beside.number) (refused-so made old mid new part e refused long beside step finished)

pub got_sound : {E : Type 0} (made : Result E OutOfMemory) (old mid new : Course) (unanswered : Option (Part × Due)) (part : Part) (answer : MaybeReply) → IsSound old unanswered → IsBeside old mid → IsStep made old.wiring.now old.number (target part old.wiring.now old.number (state_of old) answer) (state_of mid)
    → IsFinished made mid new → IsReady new → due_at new.attempt ≡ dues.Nothing → (new.short ≡ false → IsCounted new.work new.taken new.empty) → IsSound new None
got_sound made old mid new unanswered part answer sound beside step finished ready idle counted = record {
  valid = rw (finished.same.0, beside.wiring) sound.valid;
  asked = (ready, idle);
  counted = counted;
  bounded = λ long. bounded_still part old.wiring.now old.number (state_of old) (state_of new) answer long sound.bounded (reached_so made old mid new part answer beside step finished);
}

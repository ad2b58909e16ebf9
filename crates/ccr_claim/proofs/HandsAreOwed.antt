-- What stands after each step of an attempt: its hand is the rest of what it owes.
use Rattle.std.proofs.Common.{◌≡◌, ◌⊎◌, ℕ, ◌+◌, ◌*◌, ◌≤◌, Bool, true, false, List, [], ◌∷◌, ◌++◌, length, map, take, drop, reverse, Option, Some, None, Ok, Err, refl, sym, ap, inl, inr, ◌∙◌, arith, subst, cond}
use Rattle.std.specs.Prelude.{nat_le}
use Rattle.std.specs.List.{flat_map}
use Rattle.std.proofs.lemmas.List.{append-nil, append_assoc, map-append, length-append, length-map, length-reverse, reverse-append, length_push}
use Rattle.std.proofs.lemmas.List.Elements.{filter-append}
use Rattle.ccr_base.specs.declared.messages.Msg.{Msg}
use Rattle.ccr_base.specs.declared.names.Place.{Place}
use Rattle.ccr_base.specs.declared.names.Place.TheVariants as places
use Rattle.ccr_base.specs.declared.names.TaskId.{TaskId}
use Rattle.ccr_base.specs.declared.patterns.Pattern.{Pattern}
use Rattle.ccr_base.specs.declared.patterns.Pattern.TheVariants.{Slots, Gather}
use Rattle.ccr_base.specs.declared.patterns.Slot.{Slot}
use Rattle.ccr_base.specs.declared.tasks.Cut.{Cut}
use Rattle.ccr_base.specs.declared.tasks.Task.{Task}
use Rattle.ccr_base.proofs.Lists.{flat_push}
use Rattle.ccr_claim.specs.declared.asks.Ask.{Ask}
use Rattle.ccr_claim.specs.declared.asks.Ask.TheVariants as asks
use Rattle.ccr_claim.specs.declared.asks.Asked.{Asked}
use Rattle.ccr_claim.specs.declared.asks.Due.TheVariants as dues
use Rattle.ccr_claim.specs.declared.asks.Reply.TheVariants as replies
use Rattle.ccr_claim.specs.declared.outcomes.Outcome.{Outcome}
use Rattle.ccr_claim.specs.declared.outcomes.Outcome.TheVariants as outcomes
use Rattle.ccr_claim.specs.declared.outcomes.Why.{Why}
use Rattle.ccr_claim.specs.declared.outcomes.Why.TheVariants as whys
use Rattle.ccr_claim.specs.declared.plan.ClaimPlan.{ClaimPlan}
use Rattle.ccr_claim.specs.declared.plan.Had.{Had}
use Rattle.ccr_claim.specs.Asks.{AreSettling, MaybeReply, is_settling, due_of, may_come}
use Rattle.ccr_claim.specs.Plans.{slots_in, narrowed}
use Rattle.ccr_claim.specs.Attempts.{AttemptState, Phase, booking, claiming, attempt_ask, claim_ask, free_ask, consume_ask, unbook_ask, cut_ask, put_asks, release, firing_hand, waits, begun, sent, out_of_memory, after, after_all, attempt_after}
use Rattle.ccr_claim.specs.Settling.{AttemptStep, Shot, AreSplit, step_of, steps_from, MayFollow, short_after, steps, AreAnswers, asks_of, settling, got_at, booked_at, shot_by, claims, bookings, shots, cuts_of, free_at, consume_at, released, completed}
use Rattle.ccr_claim.proofs.AttemptHandsSettle.{release_settles, firing_settles}

-- ---- lists

-- a step of which nothing comes
none_more : {A : Type 0} (f : AttemptStep → List A) → (past : List AttemptStep) (s : AttemptStep) → f s ≡ [] → flat_map f (past ++ s ∷ []) ≡ flat_map f past
none_more f past s none = flat_push f past s ∙ ap (λ ys. flat_map f past ++ ys) none ∙ append-nil (flat_map f past)

map-reverse : {A : Type 0} {B : Type 0} (f : A → B) → (xs : List A) → map f (reverse xs) ≡ reverse (map f xs)
map-reverse f [] = refl
map-reverse f (x ∷ xs) = ap (map f) (reverse-append (x ∷ []) xs) ∙ map-append f (reverse xs) (x ∷ []) ∙ ap (λ ys. ys ++ f x ∷ []) (map-reverse f xs) ∙ sym (reverse-append (f x ∷ []) (map f xs))

asks-push : (past : List AttemptStep) (s : AttemptStep) → asks_of (past ++ s ∷ []) ≡ asks_of past ++ s.asked ∷ []
asks-push past s = map-append (λ (step : AttemptStep). step.asked) past (s ∷ [])

-- an ask that doesn't settle
settling-other : (past : List AttemptStep) (s : AttemptStep) → is_settling s.asked.ask ≡ false → settling (asks_of (past ++ s ∷ [])) ≡ settling (asks_of past)
settling-other past s other = rw (asks-push past s, filter-append (λ (a : Asked). is_settling a.ask) (asks_of past) (s.asked ∷ []), other) (append-nil (settling (asks_of past)))

-- an ask of the hand
settling-hand : (past : List AttemptStep) (s : AttemptStep) (more : List Asked) → settling (asks_of (past ++ s ∷ []) ++ more) ≡ settling (asks_of past ++ s.asked ∷ more)
settling-hand past s more = rw (asks-push past s, append_assoc (asks_of past) (s.asked ∷ []) more) refl

-- a hand behind asks that don't settle
settling-behind : (front hand : List Asked) → settling front ≡ [] → settling (front ++ hand) ≡ settling hand
settling-behind front hand none = filter-append (λ (a : Asked). is_settling a.ask) front hand ∙ ap (λ ys. ys ++ settling hand) none

settling-all : (hand : List Asked) → AreSettling hand → settling hand ≡ hand
settling-all [] all = refl
settling-all (asked ∷ more) all = rw (all.0) (ap (λ ys. asked ∷ ys) (settling-all more all.1))

put-length : (task : Option Task) → length (put_asks task) ≤ 1
put-length None = omega arith
put-length (Some task) = omega arith

-- ---- what stands

abbrev place_of : Had → Place
place_of had = places.Port had.slot.port

abbrev got_in : AttemptStep → List Place
got_in step = got_at step.answer step.asked.place

abbrev booked_in : AttemptStep → List Place
booked_in step = booked_at step.answer step.asked.place

abbrev shot_in : AttemptStep → List Shot
shot_in step = shot_by step.answer

-- how many asks are still to come at most, but for cuts
abbrev to_go : ℕ → List Asked → Phase → Option Outcome → ℕ
to_go slots hand booking None = 2 * slots + 3
to_go slots hand (claiming left had) None = 2 * length left + length had + 2
to_go slots hand phase (Some outcome) = length hand

abbrev IsPhase : ClaimPlan → List AttemptStep → Phase → Type 0
IsPhase plan past booking = (claims past ≡ []) × (bookings past ≡ [])
IsPhase plan past (claiming left had) = (claims past ≡ map place_of had) × (bookings past ≡ places.Queue plan.queue ∷ [])

-- while it goes on
record IsGoing (plan : ClaimPlan) (past : List AttemptStep) (phase : Phase) : Type 0 where
  had : IsPhase plan past phase
  unfired : shots past ≡ []
  unsettled : settling (asks_of past) ≡ []

-- it fired once
abbrev HasFired : List AttemptStep → Bool → Type 0
HasFired past waiting = (shot : Shot) × (shots past ≡ shot ∷ []) × (waiting ≡ waits shot.task)

-- once it has ended
abbrev IsOwing : TaskId → List AttemptStep → List Asked → Outcome → Type 0
IsOwing task past hand (outcomes.GaveUp why) = (shots past ≡ []) × (settling (asks_of past ++ hand) ≡ released task past)
IsOwing task past hand (outcomes.Fired waiting dropped) = HasFired past waiting × (settling (asks_of past ++ hand) ≡ completed task past)

abbrev IsHand : ClaimPlan → TaskId → List AttemptStep → List Asked → Phase → Option Outcome → Type 0
IsHand plan task past hand phase None = (hand ≡ []) × IsGoing plan past phase
IsHand plan task past hand phase (Some outcome) = AreSettling hand × IsOwing task past hand outcome

-- how many asks there are at most
abbrev most : ClaimPlan → List AttemptStep → ℕ
most plan past = 2 * length (slots_in plan.pattern) + 3 + length (cuts_of (shots past))

record Stands (plan : ClaimPlan) (task : TaskId) (past : List AttemptStep) (hand : List Asked) (phase : Phase) (ended : Option Outcome) : Type 0 where
  rest : IsHand plan task past hand phase ended
  count : length past + to_go (length (slots_in plan.pattern)) hand phase ended ≤ most plan past

abbrev between : ClaimPlan → TaskId → List Asked → Phase → Option Outcome → AttemptState
between plan task hand phase ended = record { plan = plan; task = task; hand = hand; phase = phase; ended = ended; due = dues.Nothing }

-- the state, between two asks
pub record StandsAt (plan : ClaimPlan) (task : TaskId) (past : List AttemptStep) (state : AttemptState) : Type 0 where
  hand : List Asked
  phase : Phase
  ended : Option Outcome
  is : state ≡ between plan task hand phase ended
  stands : Stands plan task past hand phase ended

-- ---- it goes on

-- one more step that gets nothing
same_phase : (plan : ClaimPlan) (past : List AttemptStep) (s : AttemptStep) (phase : Phase) → IsPhase plan past phase → got_in s ≡ [] → booked_in s ≡ [] → IsPhase plan (past ++ s ∷ []) phase
same_phase plan past s booking is got at = (none_more got_in past s got ∙ is.0, none_more booked_in past s at ∙ is.1)
same_phase plan past s (claiming left had) is got at = (none_more got_in past s got ∙ is.0, none_more booked_in past s at ∙ is.1)

going_more : (plan : ClaimPlan) (past : List AttemptStep) (s : AttemptStep) (phase : Phase) → IsGoing plan past phase → got_in s ≡ [] → booked_in s ≡ [] → shot_in s ≡ [] → is_settling s.asked.ask ≡ false → IsGoing plan (past ++ s ∷ []) phase
going_more plan past s phase going got at shot other = record {
  had = same_phase plan past s phase going.had got at;
  unfired = none_more shot_in past s shot ∙ going.unfired;
  unsettled = settling-other past s other ∙ going.unsettled;
}

-- ---- it is given up

frees-both : (task : TaskId) (had : List Had) → map (free_at task) (map place_of had) ≡ map (free_ask task) had
frees-both task [] = refl
frees-both task (h ∷ had) = ap (λ ys. free_ask task h ∷ ys) (frees-both task had)

frees-at : (task : TaskId) (had : List Had) → map (free_at task) (reverse (map place_of had)) ≡ map (free_ask task) (reverse had)
frees-at task had = ap (map (free_at task)) (sym (map-reverse place_of had)) ∙ frees-both task (reverse had)

consumes-at : (task : TaskId) (had : List Had) → map (consume_at task) (map place_of had) ≡ map (consume_ask task) had
consumes-at task [] = refl
consumes-at task (h ∷ had) = ap (λ ys. consume_ask task h ∷ ys) (consumes-at task had)

-- what is handed back is what the steps so far got
release-is : (plan : ClaimPlan) (task : TaskId) (past : List AttemptStep) (phase : Phase) → IsPhase plan past phase → release plan task phase ≡ released task past
release-is plan task past booking is = rw (is.0, is.1) refl
release-is plan task past (claiming left had) is = rw (is.0, is.1) (ap (λ ys. ys ++ unbook_ask plan.queue task ∷ []) (sym (frees-at task had)))

release-length : (plan : ClaimPlan) (task : TaskId) (left : List Slot) (had : List Had) → length (release plan task (claiming left had)) ≡ length had + 1
release-length plan task left had = length-append (map (free_ask task) (reverse had)) (unbook_ask plan.queue task ∷ []) ∙ ap (λ n. n + 1) (length-map (reverse had) (free_ask task) ∙ length-reverse had)

-- less is handed back than was to come
release-less : (plan : ClaimPlan) (task : TaskId) (slots : ℕ) (phase : Phase) → length (release plan task phase) + 1 ≤ to_go slots [] phase None
release-less plan task slots booking = omega arith
release-less plan task slots (claiming left had) = omega (arith, release-length plan task left had)

give_up : (plan : ClaimPlan) (task : TaskId) (past : List AttemptStep) (phase : Phase) (why : Why) → IsGoing plan past phase → length past + length (release plan task phase) ≤ most plan past → Stands plan task past (release plan task phase) booking (Some (outcomes.GaveUp why))
give_up plan task past phase why going few = record {
  rest = (release_settles plan task phase, (going.unfired, settling-behind (asks_of past) (release plan task phase) going.unsettled ∙ settling-all (release plan task phase) (release_settles plan task phase) ∙ release-is plan task past phase going.had));
  count = few;
}

-- the answer to an ask that goes on gives it up
give_up_at : (plan : ClaimPlan) (task : TaskId) (past : List AttemptStep) (s : AttemptStep) (phase : Phase) (why : Why) → Stands plan task past [] phase None → got_in s ≡ [] → booked_in s ≡ [] → shot_in s ≡ [] → is_settling s.asked.ask ≡ false → Stands plan task (past ++ s ∷ []) (release plan task phase) booking (Some (outcomes.GaveUp why))
give_up_at plan task past s phase why st got at shot other =
    let few : length (past ++ s ∷ []) + length (release plan task phase) ≤ most plan (past ++ s ∷ []) =
    rw (none_more shot_in past s shot) (omega (arith, st.count, length_push past s, release-less plan task (length (slots_in plan.pattern)) phase)) in
    give_up plan task (past ++ s ∷ []) phase why (going_more plan past s phase st.rest.1 got at shot other) few

-- ---- the steps

abbrev step_at : Asked → MaybeReply → AttemptStep
step_at asked answer = record { asked = asked; answer = answer }

gave_up_at : (plan : ClaimPlan) (task : TaskId) (past : List AttemptStep) (s : AttemptStep) (phase : Phase) (why : Why) → Stands plan task past [] phase None → got_in s ≡ [] → booked_in s ≡ [] → shot_in s ≡ [] → is_settling s.asked.ask ≡ false → StandsAt plan task (past ++ s ∷ []) (between plan task (release plan task phase) booking (Some (outcomes.GaveUp why)))
gave_up_at plan task past s phase why st got at shot other = record { hand = release plan task phase; phase = booking; ended = Some (outcomes.GaveUp why); is = refl; stands = give_up_at plan task past s phase why st got at shot other }

-- the queue booked the task
booked_on : (plan : ClaimPlan) (task : TaskId) (past : List AttemptStep) → Stands plan task past [] booking None → Stands plan task (past ++ step_at (attempt_ask plan task booking) (Ok replies.Booked) ∷ []) [] (claiming (slots_in plan.pattern) []) None
booked_on plan task past st =
    let s : AttemptStep = step_at (attempt_ask plan task booking) (Ok replies.Booked) in
    let going = st.rest.1 in
    record {
      rest = (
        refl,
        record {
          had = (none_more got_in past s refl ∙ going.had.0, flat_push booked_in past s ∙ ap (λ ys. ys ++ places.Queue plan.queue ∷ []) going.had.1);
          unfired = none_more shot_in past s refl ∙ going.unfired;
          unsettled = settling-other past s refl ∙ going.unsettled;
        },
      );
      count = rw (none_more shot_in past s refl) (omega (arith, st.count, length_push past s));
    }

book_step : (plan : ClaimPlan) (task : TaskId) (past : List AttemptStep) (answer : MaybeReply) → Stands plan task past [] booking None → may_come dues.Booking answer ≡ true → StandsAt plan task (past ++ step_at (attempt_ask plan task booking) answer ∷ []) (after (between plan task [] booking None) answer)
book_step plan task past (Err e) st may = gave_up_at plan task past (step_at (attempt_ask plan task booking) (Err e)) booking whys.Memory st refl refl refl refl
book_step plan task past (Ok replies.Booked) st may = record { hand = []; phase = claiming (slots_in plan.pattern) []; ended = None; is = refl; stands = booked_on plan task past st }
book_step plan task past (Ok (replies.Full n)) st may = gave_up_at plan task past (step_at (attempt_ask plan task booking) (Ok (replies.Full n))) booking (whys.Full n) st refl refl refl refl
book_step plan task past (Ok replies.Done) st may = cc may
book_step plan task past (Ok (replies.Got m)) st may = cc may
book_step plan task past (Ok (replies.Busy t)) st may = cc may
book_step plan task past (Ok (replies.Short n)) st may = cc may
book_step plan task past (Ok (replies.Fired t cuts)) st may = cc may
book_step plan task past (Ok (replies.Dead by)) st may = cc may
book_step plan task past (Ok (replies.Admitted t)) st may = cc may
book_step plan task past (Ok (replies.Dropped d)) st may = cc may
book_step plan task past (Ok (replies.Taken t)) st may = cc may
book_step plan task past (Ok (replies.Drawn n)) st may = cc may
book_step plan task past (Ok replies.Spent) st may = cc may
book_step plan task past (Ok (replies.Left n)) st may = cc may

-- what was got leaves as many slots
pub narrowed-length : (pattern : Pattern) (got : ℕ) (left : List Slot) → length (narrowed pattern got left) ≡ length left
narrowed-length (Slots slots) got left = refl
narrowed-length (Gather total first second) got [] = refl
narrowed-length (Gather total first second) got (slot ∷ left) = refl

-- the claim of the slot got these messages
claimed_on : (plan : ClaimPlan) (task : TaskId) (past : List AttemptStep) (slot : Slot) (left : List Slot) (had : List Had) (messages : List Msg) → Stands plan task past [] (claiming (slot ∷ left) had) None → Stands plan task (past ++ step_at (claim_ask plan task (slot ∷ left) had) (Ok (replies.Got messages)) ∷ []) [] (claiming (narrowed plan.pattern (length messages) left) (had ++ (record { slot = slot; messages = messages }) ∷ [])) None
claimed_on plan task past slot left had messages st =
    let s : AttemptStep = step_at (claim_ask plan task (slot ∷ left) had) (Ok (replies.Got messages)) in
    let one : Had = record { slot = slot; messages = messages } in
    let going = st.rest.1 in
    record {
      rest = (
        refl,
        record {
          had = (flat_push got_in past s ∙ ap (λ ys. ys ++ places.Port slot.port ∷ []) going.had.0 ∙ sym (map-append place_of had (one ∷ [])), none_more booked_in past s refl ∙ going.had.1);
          unfired = none_more shot_in past s refl ∙ going.unfired;
          unsettled = settling-other past s refl ∙ going.unsettled;
        },
      );
      count = rw (none_more shot_in past s refl) (omega (arith, st.count, length_push past s, length_push had one, narrowed-length plan.pattern (length messages) left));
    }

claim_step : (plan : ClaimPlan) (task : TaskId) (past : List AttemptStep) (slot : Slot) (left : List Slot) (had : List Had) (answer : MaybeReply) → Stands plan task past [] (claiming (slot ∷ left) had) None → may_come (dues.Claim slot) answer ≡ true → StandsAt plan task (past ++ step_at (claim_ask plan task (slot ∷ left) had) answer ∷ []) (after (between plan task [] (claiming (slot ∷ left) had) None) answer)
claim_step plan task past slot left had (Err e) st may = gave_up_at plan task past (step_at (claim_ask plan task (slot ∷ left) had) (Err e)) (claiming (slot ∷ left) had) whys.Memory st refl refl refl refl
claim_step plan task past slot left had (Ok (replies.Busy t)) st may = gave_up_at plan task past (step_at (claim_ask plan task (slot ∷ left) had) (Ok (replies.Busy t))) (claiming (slot ∷ left) had) (whys.Busy slot.port t) st refl refl refl refl
claim_step plan task past slot left had (Ok (replies.Short n)) st may = gave_up_at plan task past (step_at (claim_ask plan task (slot ∷ left) had) (Ok (replies.Short n))) (claiming (slot ∷ left) had) (whys.Short slot.port n) st refl refl refl refl
claim_step plan task past slot left had (Ok (replies.Got m)) st may = record { hand = []; phase = claiming (narrowed plan.pattern (length m) left) (had ++ (record { slot = slot; messages = m }) ∷ []); ended = None; is = refl; stands = claimed_on plan task past slot left had m st }
claim_step plan task past slot left had (Ok replies.Done) st may = cc may
claim_step plan task past slot left had (Ok (replies.Fired t cuts)) st may = cc may
claim_step plan task past slot left had (Ok (replies.Dead by)) st may = cc may
claim_step plan task past slot left had (Ok (replies.Admitted t)) st may = cc may
claim_step plan task past slot left had (Ok replies.Booked) st may = cc may
claim_step plan task past slot left had (Ok (replies.Full n)) st may = cc may
claim_step plan task past slot left had (Ok (replies.Dropped d)) st may = cc may
claim_step plan task past slot left had (Ok (replies.Taken t)) st may = cc may
claim_step plan task past slot left had (Ok (replies.Drawn n)) st may = cc may
claim_step plan task past slot left had (Ok replies.Spent) st may = cc may
claim_step plan task past slot left had (Ok (replies.Left n)) st may = cc may

hand-length : (task : TaskId) (had : List Had) (fired : Option Task) (cuts : List Cut) → length (firing_hand task had fired cuts) ≤ length had + length cuts + 1
hand-length task had fired cuts = omega (arith, length-append (map (consume_ask task) had) (map cut_ask cuts ++ put_asks fired), length-append (map cut_ask cuts) (put_asks fired), length-map had (consume_ask task), length-map cuts cut_ask, put-length fired)

-- the commit fired
fired_on : (plan : ClaimPlan) (task : TaskId) (past : List AttemptStep) (had : List Had) (fired : Option Task) (cuts : List Cut) → Stands plan task past [] (claiming [] had) None → Stands plan task (past ++ step_at (claim_ask plan task [] had) (Ok (replies.Fired fired cuts)) ∷ []) (firing_hand task had fired cuts) booking (Some (outcomes.Fired (waits fired) None))
fired_on plan task past had fired cuts st =
    let s : AttemptStep = step_at (claim_ask plan task [] had) (Ok (replies.Fired fired cuts)) in
    let shot : Shot = record { task = fired; cuts = cuts } in
    let going = st.rest.1 in
    let shots_are : shots (past ++ s ∷ []) ≡ shot ∷ [] = flat_push shot_in past s ∙ ap (λ ys. ys ++ shot ∷ []) going.unfired in
    let claims_are : claims (past ++ s ∷ []) ≡ map place_of had = none_more got_in past s refl ∙ going.had.0 in
    let settles = firing_settles task had fired cuts in
    let whole : firing_hand task had fired cuts ≡ completed task (past ++ s ∷ []) = rw (claims_are, shots_are, consumes-at task had, append-nil (map cut_ask cuts ++ put_asks fired)) refl in
    record {
      rest = (settles, ((shot, shots_are, refl), settling-behind (asks_of (past ++ s ∷ [])) (firing_hand task had fired cuts) (settling-other past s refl ∙ going.unsettled) ∙ settling-all (firing_hand task had fired cuts) settles ∙ whole));
      count = rw (shots_are, append-nil cuts) (omega (arith, st.count, length_push past s, hand-length task had fired cuts, ap (λ ys. length (cuts_of ys)) going.unfired));
    }

commit_step : (plan : ClaimPlan) (task : TaskId) (past : List AttemptStep) (had : List Had) (answer : MaybeReply) → Stands plan task past [] (claiming [] had) None → may_come dues.Commit answer ≡ true → StandsAt plan task (past ++ step_at (claim_ask plan task [] had) answer ∷ []) (after (between plan task [] (claiming [] had) None) answer)
commit_step plan task past had (Err e) st may = gave_up_at plan task past (step_at (claim_ask plan task [] had) (Err e)) (claiming [] had) whys.Memory st refl refl refl refl
commit_step plan task past had (Ok (replies.Dead by)) st may = gave_up_at plan task past (step_at (claim_ask plan task [] had) (Ok (replies.Dead by))) (claiming [] had) (whys.Dead by) st refl refl refl refl
commit_step plan task past had (Ok (replies.Fired t cuts)) st may = record { hand = firing_hand task had t cuts; phase = booking; ended = Some (outcomes.Fired (waits t) None); is = refl; stands = fired_on plan task past had t cuts st }
commit_step plan task past had (Ok replies.Done) st may = cc may
commit_step plan task past had (Ok (replies.Got m)) st may = cc may
commit_step plan task past had (Ok (replies.Busy t)) st may = cc may
commit_step plan task past had (Ok (replies.Short n)) st may = cc may
commit_step plan task past had (Ok (replies.Admitted t)) st may = cc may
commit_step plan task past had (Ok replies.Booked) st may = cc may
commit_step plan task past had (Ok (replies.Full n)) st may = cc may
commit_step plan task past had (Ok (replies.Dropped d)) st may = cc may
commit_step plan task past had (Ok (replies.Taken t)) st may = cc may
commit_step plan task past had (Ok (replies.Drawn n)) st may = cc may
commit_step plan task past had (Ok replies.Spent) st may = cc may
commit_step plan task past had (Ok (replies.Left n)) st may = cc may

-- ---- what settles is answered alone by being done

abbrev IsQuiet : MaybeReply → Type 0
IsQuiet (Ok replies.Done) = Unit {0}
IsQuiet (Ok (replies.Dropped task)) = Unit {0}
IsQuiet _ = ⊥

quiet : (answer : MaybeReply) → (may_come dues.Settled answer ≡ true) ⊎ (may_come dues.Put answer ≡ true) → IsQuiet answer
quiet (Ok replies.Done) may = tt
quiet (Ok (replies.Dropped d)) may = tt
quiet (Err e) (inl may) = cc may
quiet (Err e) (inr may) = cc may
quiet (Ok (replies.Got m)) (inl may) = cc may
quiet (Ok (replies.Got m)) (inr may) = cc may
quiet (Ok (replies.Busy t)) (inl may) = cc may
quiet (Ok (replies.Busy t)) (inr may) = cc may
quiet (Ok (replies.Short n)) (inl may) = cc may
quiet (Ok (replies.Short n)) (inr may) = cc may
quiet (Ok (replies.Fired t cuts)) (inl may) = cc may
quiet (Ok (replies.Fired t cuts)) (inr may) = cc may
quiet (Ok (replies.Dead by)) (inl may) = cc may
quiet (Ok (replies.Dead by)) (inr may) = cc may
quiet (Ok (replies.Admitted t)) (inl may) = cc may
quiet (Ok (replies.Admitted t)) (inr may) = cc may
quiet (Ok replies.Booked) (inl may) = cc may
quiet (Ok replies.Booked) (inr may) = cc may
quiet (Ok (replies.Full n)) (inl may) = cc may
quiet (Ok (replies.Full n)) (inr may) = cc may
quiet (Ok (replies.Taken t)) (inl may) = cc may
quiet (Ok (replies.Taken t)) (inr may) = cc may
quiet (Ok (replies.Drawn n)) (inl may) = cc may
quiet (Ok (replies.Drawn n)) (inr may) = cc may
quiet (Ok replies.Spent) (inl may) = cc may
quiet (Ok replies.Spent) (inr may) = cc may
quiet (Ok (replies.Left n)) (inl may) = cc may
quiet (Ok (replies.Left n)) (inr may) = cc may

settle_quiet : (ask : Ask) (answer : MaybeReply) → is_settling ask ≡ true → may_come (due_of ask) answer ≡ true → IsQuiet answer
settle_quiet (asks.Post m) answer is may = cc is
settle_quiet (asks.Claim t slot) answer is may = cc is
settle_quiet (asks.Consume t) answer is may = quiet answer (inl may)
settle_quiet (asks.Free t) answer is may = quiet answer (inl may)
settle_quiet (asks.Commit t m) answer is may = cc is
settle_quiet asks.Admit answer is may = cc is
settle_quiet (asks.Over t r h) answer is may = quiet answer (inl may)
settle_quiet (asks.Suspend t) answer is may = cc is
settle_quiet (asks.Book t r) answer is may = cc is
settle_quiet (asks.Unbook t) answer is may = quiet answer (inl may)
settle_quiet (asks.Put t) answer is may = quiet answer (inr may)
settle_quiet asks.Take answer is may = cc is
settle_quiet asks.Draw answer is may = cc is
settle_quiet asks.Leave answer is may = cc is
settle_quiet asks.Left answer is may = cc is

same_released : (task : TaskId) (past : List AttemptStep) (s : AttemptStep) → got_in s ≡ [] → booked_in s ≡ [] → released task (past ++ s ∷ []) ≡ released task past
same_released task past s got at = rw (none_more got_in past s got, none_more booked_in past s at) refl

same_completed : (task : TaskId) (past : List AttemptStep) (s : AttemptStep) → got_in s ≡ [] → shot_in s ≡ [] → completed task (past ++ s ∷ []) ≡ completed task past
same_completed task past s got shot = rw (none_more got_in past s got, none_more shot_in past s shot) refl

-- an ask of the hand is done
owing_on : (task : TaskId) (past : List AttemptStep) (s : AttemptStep) (more : List Asked) (outcome : Outcome) → IsOwing task past (s.asked ∷ more) outcome → got_in s ≡ [] → booked_in s ≡ [] → shot_in s ≡ [] → IsOwing task (past ++ s ∷ []) more outcome
owing_on task past s more (outcomes.GaveUp why) is got at shot = (none_more shot_in past s shot ∙ is.0, settling-hand past s more ∙ is.1 ∙ sym (same_released task past s got at))
owing_on task past s more (outcomes.Fired waiting dropped) is got at shot = ((is.0.0, none_more shot_in past s shot ∙ is.0.1, is.0.2), settling-hand past s more ∙ is.1 ∙ sym (same_completed task past s got shot))

settled_on : (plan : ClaimPlan) (task : TaskId) (past : List AttemptStep) (s : AttemptStep) (more : List Asked) (phase : Phase) (outcome : Outcome) → Stands plan task past (s.asked ∷ more) phase (Some outcome) → got_in s ≡ [] → booked_in s ≡ [] → shot_in s ≡ [] → Stands plan task (past ++ s ∷ []) more phase (Some outcome)
settled_on plan task past s more phase outcome st got at shot = record {
  rest = (st.rest.0.1, owing_on task past s more outcome st.rest.1 got at shot);
  count = rw (none_more shot_in past s shot) (omega (arith, st.count, length_push past s));
}

-- which task the put dropped changes nothing
dropped_on : (plan : ClaimPlan) (task : TaskId) (past : List AttemptStep) (hand : List Asked) (phase : Phase) (waiting : Bool) (one other : Option Task) → Stands plan task past hand phase (Some (outcomes.Fired waiting one)) → Stands plan task past hand phase (Some (outcomes.Fired waiting other))
dropped_on plan task past hand phase waiting one other st = record { rest = st.rest; count = st.count }

settle_step : (plan : ClaimPlan) (task : TaskId) (past : List AttemptStep) (asked : Asked) (more : List Asked) (phase : Phase) (outcome : Outcome) (answer : MaybeReply) → Stands plan task past (asked ∷ more) phase (Some outcome) → IsQuiet answer → StandsAt plan task (past ++ step_at asked answer ∷ []) (after (between plan task (asked ∷ more) phase (Some outcome)) answer)
settle_step plan task past asked more phase outcome (Ok replies.Done) st q = record { hand = more; phase = phase; ended = Some outcome; is = refl; stands = settled_on plan task past (step_at asked (Ok replies.Done)) more phase outcome st refl refl refl }
settle_step plan task past asked more phase (outcomes.GaveUp why) (Ok (replies.Dropped d)) st q = record { hand = more; phase = phase; ended = Some (outcomes.GaveUp why); is = refl; stands = settled_on plan task past (step_at asked (Ok (replies.Dropped d))) more phase (outcomes.GaveUp why) st refl refl refl }
settle_step plan task past asked more phase (outcomes.Fired waiting one) (Ok (replies.Dropped d)) st q = record { hand = more; phase = phase; ended = Some (outcomes.Fired waiting d); is = refl; stands = dropped_on plan task (past ++ step_at asked (Ok (replies.Dropped d)) ∷ []) more phase waiting one d (settled_on plan task past (step_at asked (Ok (replies.Dropped d))) more phase (outcomes.Fired waiting one) st refl refl refl) }
settle_step plan task past asked more phase outcome (Err e) st q = absurd q
settle_step plan task past asked more phase outcome (Ok (replies.Got m)) st q = absurd q
settle_step plan task past asked more phase outcome (Ok (replies.Busy t)) st q = absurd q
settle_step plan task past asked more phase outcome (Ok (replies.Short n)) st q = absurd q
settle_step plan task past asked more phase outcome (Ok (replies.Fired t cuts)) st q = absurd q
settle_step plan task past asked more phase outcome (Ok (replies.Dead by)) st q = absurd q
settle_step plan task past asked more phase outcome (Ok (replies.Admitted t)) st q = absurd q
settle_step plan task past asked more phase outcome (Ok replies.Booked) st q = absurd q
settle_step plan task past asked more phase outcome (Ok (replies.Full n)) st q = absurd q
settle_step plan task past asked more phase outcome (Ok (replies.Taken t)) st q = absurd q
settle_step plan task past asked more phase outcome (Ok (replies.Drawn n)) st q = absurd q
settle_step plan task past asked more phase outcome (Ok replies.Spent) st q = absurd q
settle_step plan task past asked more phase outcome (Ok (replies.Left n)) st q = absurd q

ended_step : (answer : MaybeReply) → may_come dues.Nothing answer ≡ true → ⊥
ended_step (Err e) may = cc may
ended_step (Ok reply) may = cc may

-- one step
step : (plan : ClaimPlan) (task : TaskId) (past : List AttemptStep) (hand : List Asked) (phase : Phase) (ended : Option Outcome) (answer : MaybeReply) → Stands plan task past hand phase ended → may_come (sent (between plan task hand phase ended)).due answer ≡ true → StandsAt plan task (past ++ step_of (between plan task hand phase ended) answer) (after (between plan task hand phase ended) answer)
step plan task past (asked ∷ more) phase None answer st may = cc (st.rest.0)
step plan task past (asked ∷ more) phase (Some outcome) answer st may = settle_step plan task past asked more phase outcome answer st (settle_quiet asked.ask answer st.rest.0.0 may)
step plan task past [] phase (Some outcome) answer st may = absurd (ended_step answer may)
step plan task past [] booking None answer st may = book_step plan task past answer st may
step plan task past [] (claiming (slot ∷ left) had) None answer st may = claim_step plan task past slot left had answer st may
step plan task past [] (claiming [] had) None answer st may = commit_step plan task past had answer st may

step_at_any : (plan : ClaimPlan) (task : TaskId) (past : List AttemptStep) (state : AttemptState) (answer : MaybeReply) → StandsAt plan task past state → may_come (sent state).due answer ≡ true → StandsAt plan task (past ++ step_of state answer) (after state answer)
step_at_any plan task past state answer at =
    let P : AttemptState → Type 0 = λ x. may_come (sent x).due answer ≡ true → StandsAt plan task (past ++ step_of x answer) (after x answer) in
    subst P (sym at.is) (λ may. step plan task past at.hand at.phase at.ended answer at.stands may)

-- all steps
along : (plan : ClaimPlan) (task : TaskId) (past : List AttemptStep) (state : AttemptState) (answers : List MaybeReply) → StandsAt plan task past state → MayFollow state answers → StandsAt plan task (past ++ steps_from state answers) (after_all state answers)
along plan task past state [] at may = rw (append-nil past) at
along plan task past state (answer ∷ answers) at may =
    rw (← append_assoc past (step_of state answer) (steps_from (after state answer) answers)) (along plan task (past ++ step_of state answer) (after state answer) answers (step_at_any plan task past state answer at may.0) may.1)

short : (plan : ClaimPlan) (task : TaskId) (past : List AttemptStep) (hand : List Asked) (phase : Phase) (ended : Option Outcome) → Stands plan task past hand phase ended → StandsAt plan task past (out_of_memory (between plan task hand phase ended))
short plan task past hand phase (Some outcome) st = record { hand = hand; phase = phase; ended = Some outcome; is = refl; stands = st }
short plan task past hand phase None st = record { hand = release plan task phase; phase = booking; ended = Some (outcomes.GaveUp whys.Memory); is = refl; stands = give_up plan task past phase whys.Memory st.rest.1 (omega (arith, st.count, fewer)) }
  where
    fewer : length (release plan task phase) + 1 ≤ to_go (length (slots_in plan.pattern)) hand phase None
    fewer = rw st.rest.0 (release-less plan task (length (slots_in plan.pattern)) phase)

short_at : (plan : ClaimPlan) (task : TaskId) (past : List AttemptStep) (state : AttemptState) → StandsAt plan task past state → StandsAt plan task past (out_of_memory state)
short_at plan task past state at =
    let P : AttemptState → Type 0 = λ x. StandsAt plan task past (out_of_memory x) in
    subst P (sym at.is) (short plan task past at.hand at.phase at.ended at.stands)

begins : (plan : ClaimPlan) (task : TaskId) → StandsAt plan task [] (begun plan task)
begins plan task = record { hand = []; phase = booking; ended = None; is = refl; stands = record { rest = (refl, record { had = (refl, refl); unfired = refl; unsettled = refl }); count = omega arith } }

abbrev split : Bool → ClaimPlan → TaskId → ℕ → List MaybeReply → Type 0
split b plan task n answers = AreSplit b plan task n answers → StandsAt plan task (cond b (steps_from (begun plan task) (take n answers) ++ steps_from (short_after plan task n answers) (drop n answers)) (steps_from (begun plan task) answers)) (cond b (after_all (short_after plan task n answers) (drop n answers)) (after_all (begun plan task) answers))

split_at : (b : Bool) (plan : ClaimPlan) (task : TaskId) (n : ℕ) (answers : List MaybeReply) → split b plan task n answers
split_at false plan task n answers = λ may. along plan task [] (begun plan task) answers (begins plan task) may
split_at true plan task n answers = λ may. along plan task (steps_from (begun plan task) (take n answers)) (short_after plan task n answers) (drop n answers) (short_at plan task (steps_from (begun plan task) (take n answers)) (after_all (begun plan task) (take n answers)) (along plan task [] (begun plan task) (take n answers) (begins plan task) may.0)) may.1

-- the attempt, after all its answers
pub stands : (plan : ClaimPlan) (task : TaskId) (lack : Option ℕ) (answers : List MaybeReply) → AreAnswers plan task lack answers → StandsAt plan task (steps plan task lack answers) (attempt_after plan task lack answers)
stands plan task None answers may = along plan task [] (begun plan task) answers (begins plan task) may
stands plan task (Some n) answers may = split_at (nat_le n (length answers)) plan task n answers may

-- ---- the laws

owes : (plan : ClaimPlan) (task : TaskId) (past : List AttemptStep) (hand : List Asked) (phase : Phase) (ended : Option Outcome) (outcome : Outcome) → Stands plan task past hand phase ended → ended ≡ Some outcome → hand ≡ [] → IsOwing task past [] outcome
owes plan task past hand phase ended outcome st is none =
    let P : List Asked → Type 0 = λ h. Stands plan task past h phase (Some outcome) in
    let Q : Option Outcome → Type 0 = λ o. Stands plan task past hand phase o in
    (subst P none (subst Q is st)).rest.1

pub owes_at : (plan : ClaimPlan) (task : TaskId) (past : List AttemptStep) (state : AttemptState) (outcome : Outcome) → StandsAt plan task past state → state.ended ≡ Some outcome → state.hand ≡ [] → IsOwing task past [] outcome
owes_at plan task past state outcome at is none = owes plan task past at.hand at.phase at.ended outcome at.stands (sym (ap (λ (x : AttemptState). x.ended) at.is) ∙ is) (sym (ap (λ (x : AttemptState). x.hand) at.is) ∙ none)

pub gave_up : (plan : ClaimPlan) (task : TaskId) (past : List AttemptStep) (state : AttemptState) (why : Why) → StandsAt plan task past state → state.ended ≡ Some (outcomes.GaveUp why) → state.hand ≡ [] → (shots past ≡ []) × (settling (asks_of past) ≡ released task past)
gave_up plan task past state why at is none = let owed = owes_at plan task past state (outcomes.GaveUp why) at is none in (owed.0, sym (ap settling (append-nil (asks_of past))) ∙ owed.1)

pub fired : (plan : ClaimPlan) (task : TaskId) (past : List AttemptStep) (state : AttemptState) (waiting : Bool) (dropped : Option Task) → StandsAt plan task past state → state.ended ≡ Some (outcomes.Fired waiting dropped) → state.hand ≡ [] → ((shot : Shot) × (shots past ≡ shot ∷ []) × (waiting ≡ waits shot.task)) × (settling (asks_of past) ≡ completed task past)
fired plan task past state waiting dropped at is none = let owed = owes_at plan task past state (outcomes.Fired waiting dropped) at is none in (owed.0, sym (ap settling (append-nil (asks_of past))) ∙ owed.1)

pub stops : (plan : ClaimPlan) (task : TaskId) (past : List AttemptStep) (state : AttemptState) → StandsAt plan task past state → length past ≤ most plan past
stops plan task past state at = omega (arith, at.stands.count)

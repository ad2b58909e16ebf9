-- What an actor's hand, its attempt and its task can still cost is at most what is owed to it.
use Rattle.std.proofs.Common.{◌≡◌, ◌≤◌, inl, inr, ℕ, zero, suc, ◌+◌, ◌*◌, Bool, true, false, List, [], ◌∷◌, ◌++◌, length, map, reverse, Option, Some, None, refl, sym, arith, ap, subst, length-append, append-nil, append_assoc}
use Rattle.std.specs.Prelude.{if◌then◌else◌, nat_lt, nat_le, fold, ◌==◌, ◌||◌}
use Rattle.std.specs.List.{slice_get}
use Rattle.std.specs.Option.{option_map_or}
use Rattle.std.proofs.lemmas.Bool.Decides.{nat_tests}
use Rattle.std.proofs.lemmas.List.{length-reverse}
use Rattle.std.proofs.lemmas.Option.{same_Some}
use Rattle.ccr_base.specs.declared.messages.Sent.{Sent}
use Rattle.ccr_base.specs.declared.names.Place.TheVariants as places
use Rattle.ccr_base.specs.declared.names.Spot.{Spot}
use Rattle.ccr_base.specs.declared.names.TaskId.{TaskId}
use Rattle.ccr_base.specs.declared.patterns.Slot.{Slot}
use Rattle.ccr_base.specs.declared.tasks.Cut.{Cut}
use Rattle.ccr_base.specs.declared.tasks.How.TheVariants as hows
use Rattle.ccr_base.specs.declared.tasks.Task.{Task}
use Rattle.ccr_handler.specs.declared.segments.Play.{Play}
use Rattle.ccr_handler.specs.declared.segments.PlayEnd.{PlayEnd}
use Rattle.ccr_handler.specs.declared.segments.PlayEnd.TheVariants as plays
use Rattle.ccr_wiring.specs.declared.parts.Parts.{Parts}
use Rattle.ccr_wiring.specs.declared.parts.PosterPart.{PosterPart}
use Rattle.ccr_wiring.specs.declared.parts.QueuePart.{QueuePart}
use Rattle.ccr_claim.specs.declared.asks.Ask.{Ask}
use Rattle.ccr_claim.specs.declared.asks.Ask.TheVariants as asks
use Rattle.ccr_claim.specs.declared.asks.Asked.{Asked}
use Rattle.ccr_claim.specs.declared.asks.Due.TheVariants as dues
use Rattle.ccr_claim.specs.declared.asks.Reply.{Reply}
use Rattle.ccr_claim.specs.declared.asks.Reply.TheVariants as replies
use Rattle.ccr_claim.specs.declared.plan.ClaimPlan.{ClaimPlan}
use Rattle.ccr_claim.specs.declared.plan.Had.{Had}
use Rattle.ccr_claim.specs.Asks.{due_of, fits, is_settling}
use Rattle.ccr_claim.specs.Attempts.{at_place, Phase, booking, claiming, claimed, had_in, attempt_ask, free_ask, consume_ask, unbook_ask, cut_ask, put_asks, release, firing_hand}
use Rattle.ccr_claim.specs.Lines.{line_ask}
use Rattle.ccr_actor.specs.Plans.{plan_of}
use Rattle.ccr_actor.specs.Actors.{State, Work, lines, round, taking, playing, posting, shedding, resting, Turn, settle, admit, drive, go_on, stop, turn, name_at, asked, ask_in, settled, after_admit, after_attempt, after_work, after_line, after_round, after_take, after_play, after_end, after_over, take_from, next_round, work_ask, play_ask, post_ask, end_ask, after_in, after, in_attempt, shorten, start, state_after, next}
use Rattle.ccr_actor.specs.Nets.{Step, AreFitting, AreNext, replies_of}
use Rattle.ccr_actor.proofs.TurnsTellStates.{IsTurnOf, turn_is}
use Rattle.ccr_plain.specs.Owed.{cost, gain, most, owed_after, owed_by}
use Rattle.ccr_net.proofs.Parts.OneMoreEntry.{IsNextState, state_after-push}

-- ---- what a state can still cost

abbrev pub hand_weight : List Asked → ℕ
hand_weight [] = 0
hand_weight (one ∷ more) = cost one.ask + hand_weight more

abbrev pub phase_weight : Phase → ℕ
phase_weight booking = 0
phase_weight (claiming slots had) = length had + 2

abbrev pub work_weight : Work → ℕ
work_weight (lines index sents) = 0
work_weight round = 0
work_weight (taking left queue more) = 0
work_weight (playing task index play) = 1
work_weight (posting task index play sent) = 1
work_weight (shedding task) = 1
work_weight resting = 0

abbrev pub weight : State → ℕ
weight state = hand_weight state.hand + phase_weight state.phase + work_weight state.work

-- ---- hands

hand-append : (xs ys : List Asked) → hand_weight (xs ++ ys) ≡ hand_weight xs + hand_weight ys
hand-append [] ys = omega arith
hand-append (x ∷ xs) ys = let rest = hand-append xs ys in omega (arith, rest)

frees-weigh : (name : TaskId) (had : List Had) → hand_weight (map (free_ask name) had) ≡ length had
frees-weigh name [] = refl
frees-weigh name (h ∷ had) = let rest = frees-weigh name had in omega (arith, rest)

consumes-weigh : (name : TaskId) (had : List Had) → hand_weight (map (consume_ask name) had) ≡ length had
consumes-weigh name [] = refl
consumes-weigh name (h ∷ had) = let rest = consumes-weigh name had in omega (arith, rest)

cuts-weigh : (cuts : List Cut) → hand_weight (map cut_ask cuts) ≡ 2 * length cuts
cuts-weigh [] = refl
cuts-weigh (c ∷ cuts) = let rest = cuts-weigh cuts in omega (arith, rest)

release-weighs : (plan : ClaimPlan) (name : TaskId) (phase : Phase) → hand_weight (release plan name phase) ≡ phase_weight phase
release-weighs plan name booking = refl
release-weighs plan name (claiming slots had) =
    let all = hand-append (map (free_ask name) (reverse had)) (unbook_ask plan.queue name ∷ []) in
    let frees = frees-weigh name (reverse had) in
    let same = length-reverse had in
    omega (arith, all, frees, same)

firing-weighs : (name : TaskId) (had : List Had) (task : Option Task) (cuts : List Cut) → hand_weight (firing_hand name had task cuts) + 2 ≤ (length had + 2) + gain (replies.Fired task cuts)
firing-weighs name had task cuts =
    let one = hand-append (map (consume_ask name) had) (map cut_ask cuts ++ put_asks task) in
    let two = hand-append (map cut_ask cuts) (put_asks task) in
    let consumes = consumes-weigh name had in
    let gone = cuts-weigh cuts in
    by task one two consumes gone
  where
    by : (t : Option Task) → hand_weight (map (consume_ask name) had ++ (map cut_ask cuts ++ put_asks t)) ≡ hand_weight (map (consume_ask name) had) + hand_weight (map cut_ask cuts ++ put_asks t) → hand_weight (map cut_ask cuts ++ put_asks t) ≡ hand_weight (map cut_ask cuts) + hand_weight (put_asks t) → hand_weight (map (consume_ask name) had) ≡ length had → hand_weight (map cut_ask cuts) ≡ 2 * length cuts → hand_weight (firing_hand name had t cuts) + 2 ≤ (length had + 2) + gain (replies.Fired t cuts)
    by None one two consumes gone = omega (arith, one, two, consumes, gone)
    by (Some t) one two consumes gone = omega (arith, one, two, consumes, gone)

-- ---- one reply: the ask was affordable, and what is left is within what it costs and brings

abbrev pub IsPaid : State → Ask → Reply → State → Type 0
IsPaid old ask reply new = weight new + cost ask ≤ weight old + gain reply

settled-paid : (w : Parts) (st : State) (one : Asked) (more : List Asked) (r : Reply) → st.hand ≡ one ∷ more → IsPaid st one.ask r (settled w st more r)
settled-paid w st one more r hand = by r (ap hand_weight hand)
  where
    by : (x : Reply) → hand_weight st.hand ≡ cost one.ask + hand_weight more → IsPaid st one.ask x (settled w st more x)
    by replies.Done at = omega (arith, at)
    by (replies.Got m) at = omega (arith, at)
    by (replies.Busy t) at = omega (arith, at)
    by (replies.Short n) at = omega (arith, at)
    by (replies.Fired (Some t) cuts) at = omega (arith, at)
    by (replies.Fired None cuts) at = omega (arith, at)
    by (replies.Dead x) at = omega (arith, at)
    by (replies.Admitted (Some t)) at = omega (arith, at)
    by (replies.Admitted None) at = omega (arith, at)
    by replies.Booked at = omega (arith, at)
    by (replies.Full n) at = omega (arith, at)
    by (replies.Dropped (Some task)) at = omega (arith, at)
    by (replies.Dropped None) at = omega (arith, at)
    by (replies.Taken (Some t)) at = omega (arith, at)
    by (replies.Taken None) at = omega (arith, at)
    by (replies.Drawn n) at = omega (arith, at)
    by replies.Spent at = omega (arith, at)
    by (replies.Left n) at = omega (arith, at)

admit-paid : (w : Parts) (st : State) (more : List ℕ) (r : Reply) → st.hand ≡ [] → IsPaid st asks.Admit r (after_admit st more r)
admit-paid w st more r hand = by r (ap hand_weight hand)
  where
    by : (x : Reply) → hand_weight st.hand ≡ 0 → IsPaid st asks.Admit x (after_admit st more x)
    by replies.Done at = omega arith
    by (replies.Got m) at = omega arith
    by (replies.Busy t) at = omega arith
    by (replies.Short n) at = omega arith
    by (replies.Fired (Some t) cuts) at = omega arith
    by (replies.Fired None cuts) at = omega arith
    by (replies.Dead x) at = omega arith
    by (replies.Admitted (Some t)) at = omega (arith, at)
    by (replies.Admitted None) at = omega arith
    by replies.Booked at = omega arith
    by (replies.Full n) at = omega arith
    by (replies.Dropped (Some task)) at = omega arith
    by (replies.Dropped None) at = omega arith
    by (replies.Taken (Some t)) at = omega arith
    by (replies.Taken None) at = omega arith
    by (replies.Drawn n) at = omega arith
    by replies.Spent at = omega arith
    by (replies.Left n) at = omega arith

-- ---- an attempt

module _ (w : Parts) (a : ℕ) (st : State) (spot : Spot) (more : List Spot) (hand : st.hand ≡ []) where
  abbrev name : TaskId
  name = name_at a st

  at : hand_weight st.hand ≡ 0
  at = ap hand_weight hand

  gives : hand_weight (release (plan_of w spot) (name_at a st) st.phase) ≡ phase_weight st.phase
  gives = release-weighs (plan_of w spot) (name_at a st) st.phase

  books : (r : Reply) → st.phase ≡ booking → fits (due_of (attempt_ask (plan_of w spot) name booking).ask) r ≡ true → IsPaid st (attempt_ask (plan_of w spot) name booking).ask r (after_attempt w a st spot more r)
  books replies.Booked phase fit = let none = ap phase_weight phase in omega (arith, at, none)
  books (replies.Full n) phase fit = omega (arith, at, gives)
  books replies.Done phase fit = absurd (cc)
  books (replies.Got m) phase fit = absurd (cc)
  books (replies.Busy t) phase fit = absurd (cc)
  books (replies.Short n) phase fit = absurd (cc)
  books (replies.Fired t cuts) phase fit = absurd (cc)
  books (replies.Dead x) phase fit = absurd (cc)
  books (replies.Admitted t) phase fit = absurd (cc)
  books (replies.Dropped t) phase fit = absurd (cc)
  books (replies.Taken t) phase fit = absurd (cc)
  books (replies.Drawn n) phase fit = absurd (cc)
  books replies.Spent phase fit = absurd (cc)
  books (replies.Left n) phase fit = absurd (cc)

  claims : (r : Reply) (slot : Slot) (slots : List Slot) (had : List Had) → st.phase ≡ claiming (slot ∷ slots) had → fits (due_of (attempt_ask (plan_of w spot) name (claiming (slot ∷ slots) had)).ask) r ≡ true → IsPaid st (attempt_ask (plan_of w spot) name (claiming (slot ∷ slots) had)).ask r (after_attempt w a st spot more r)
  claims replies.Done slot slots had phase fit = absurd (cc)
  claims (replies.Got m) slot slots had phase fit =
      let old = ap phase_weight phase in
      let new : phase_weight (claimed (plan_of w spot) m st.phase) ≡ length (had ++ (record { slot = slot; messages = m }) ∷ []) + 2 = ap (λ p. phase_weight (claimed (plan_of w spot) m p)) phase in
      let one = length-append had ((record { slot = slot; messages = m }) ∷ []) in
      omega (arith, at, old, new, one)
  claims (replies.Busy t) slot slots had phase fit = omega (arith, at, gives)
  claims (replies.Short n) slot slots had phase fit = omega (arith, at, gives)
  claims (replies.Fired t cuts) slot slots had phase fit = absurd (cc)
  claims (replies.Dead x) slot slots had phase fit = absurd (cc)
  claims (replies.Admitted t) slot slots had phase fit = absurd (cc)
  claims replies.Booked slot slots had phase fit = absurd (cc)
  claims (replies.Full n) slot slots had phase fit = absurd (cc)
  claims (replies.Dropped t) slot slots had phase fit = absurd (cc)
  claims (replies.Taken t) slot slots had phase fit = absurd (cc)
  claims (replies.Drawn n) slot slots had phase fit = absurd (cc)
  claims replies.Spent slot slots had phase fit = absurd (cc)
  claims (replies.Left n) slot slots had phase fit = absurd (cc)

  commits : (r : Reply) (had : List Had) → st.phase ≡ claiming [] had → fits (due_of (attempt_ask (plan_of w spot) name (claiming [] had)).ask) r ≡ true → IsPaid st (attempt_ask (plan_of w spot) name (claiming [] had)).ask r (after_attempt w a st spot more r)
  commits replies.Done had phase fit = absurd (cc)
  commits (replies.Got m) had phase fit = absurd (cc)
  commits (replies.Busy t) had phase fit = absurd (cc)
  commits (replies.Short n) had phase fit = absurd (cc)
  commits (replies.Fired t cuts) had phase fit =
      let old = ap phase_weight phase in
      let new = ap (λ p. hand_weight (firing_hand name (had_in p) t cuts)) phase in
      let fired = firing-weighs name had t cuts in
      omega (arith, at, old, new, fired)
  commits (replies.Dead x) had phase fit = omega (arith, at, gives)
  commits (replies.Admitted t) had phase fit = absurd (cc)
  commits replies.Booked had phase fit = absurd (cc)
  commits (replies.Full n) had phase fit = absurd (cc)
  commits (replies.Dropped t) had phase fit = absurd (cc)
  commits (replies.Taken t) had phase fit = absurd (cc)
  commits (replies.Drawn n) had phase fit = absurd (cc)
  commits replies.Spent had phase fit = absurd (cc)
  commits (replies.Left n) had phase fit = absurd (cc)

  pub drive-paid : (r : Reply) → fits (due_of (attempt_ask (plan_of w spot) (name_at a st) st.phase).ask) r ≡ true → IsPaid st (attempt_ask (plan_of w spot) (name_at a st) st.phase).ask r (after_attempt w a st spot more r)
  drive-paid r = by st.phase refl
    where
      by : (ph : Phase) → st.phase ≡ ph → fits (due_of (attempt_ask (plan_of w spot) name ph).ask) r ≡ true → IsPaid st (attempt_ask (plan_of w spot) name ph).ask r (after_attempt w a st spot more r)
      by booking phase fit = books r phase fit
      by (claiming (slot ∷ slots) had) phase fit = claims r slot slots had phase fit
      by (claiming [] had) phase fit = commits r had phase fit

  pub drive-afforded : cost (attempt_ask (plan_of w spot) (name_at a st) st.phase).ask ≤ phase_weight st.phase
  drive-afforded = by st.phase
    where
      by : (ph : Phase) → cost (attempt_ask (plan_of w spot) name ph).ask ≤ phase_weight ph
      by booking = omega arith
      by (claiming (slot ∷ slots) had) = omega arith
      by (claiming [] had) = omega arith

-- ---- work

-- the new state differs in what it works on alone, which is within what the ask costs and the reply brings
abbrev pub IsWorked : State → Work → Ask → Reply → State → Type 0
IsWorked st wk ask r new = (new.hand ≡ st.hand) × (new.phase ≡ st.phase) × (work_weight new.work + cost ask ≤ work_weight wk + gain r)

round-weighs : (left : Bool) → work_weight (if left then resting else round) ≡ 0
round-weighs true = refl
round-weighs false = refl

next_round-weighs : (taken : ℕ) → work_weight (next_round taken) ≡ 0
next_round-weighs taken = elim (nat_lt taken 32768) as (λ b. work_weight (if b then round else resting) ≡ 0) [ true ↦ refl | false ↦ refl ]

taken-on : (w : Parts) (st : State) (wk : Work) (left queue : ℕ) (parts : List QueuePart) (ask : Ask) (r : Reply) → cost ask ≡ 0 → IsWorked st wk ask r (take_from w st left queue parts)
taken-on w st wk left queue [] ask r free = let none = round-weighs ((left == length w.posters) || nat_le 10000 (st.empty + 1)) in (refl, refl, omega (arith, free, none))
taken-on w st wk left queue (part ∷ parts) ask r free = (refl, refl, omega (arith, free))

round-worked : (w : Parts) (st : State) (ask : Ask) (r : Reply) → st.work ≡ round → cost ask ≡ 0 → IsWorked st round ask r (after_round w st r)
round-worked w st ask replies.Done is free = let none = ap work_weight is in (refl, refl, omega (arith, free, none))
round-worked w st ask (replies.Got m) is free = let none = ap work_weight is in (refl, refl, omega (arith, free, none))
round-worked w st ask (replies.Busy t) is free = let none = ap work_weight is in (refl, refl, omega (arith, free, none))
round-worked w st ask (replies.Short n) is free = let none = ap work_weight is in (refl, refl, omega (arith, free, none))
round-worked w st ask (replies.Fired t cuts) is free = let none = ap work_weight is in (refl, refl, omega (arith, free, none))
round-worked w st ask (replies.Dead x) is free = let none = ap work_weight is in (refl, refl, omega (arith, free, none))
round-worked w st ask (replies.Admitted t) is free = let none = ap work_weight is in (refl, refl, omega (arith, free, none))
round-worked w st ask replies.Booked is free = let none = ap work_weight is in (refl, refl, omega (arith, free, none))
round-worked w st ask (replies.Full n) is free = let none = ap work_weight is in (refl, refl, omega (arith, free, none))
round-worked w st ask (replies.Dropped t) is free = let none = ap work_weight is in (refl, refl, omega (arith, free, none))
round-worked w st ask (replies.Taken t) is free = let none = ap work_weight is in (refl, refl, omega (arith, free, none))
round-worked w st ask (replies.Drawn n) is free = let none = ap work_weight is in (refl, refl, omega (arith, free, none))
round-worked w st ask replies.Spent is free = let none = ap work_weight is in (refl, refl, omega (arith, free, none))
round-worked w st ask (replies.Left n) is free = taken-on w st round n 0 w.queues ask (replies.Left n) free

take-worked : (w : Parts) (st : State) (left queue : ℕ) (more : List QueuePart) (r : Reply) → IsWorked st (taking left queue more) asks.Take r (after_take w st left queue more r)
take-worked w st left queue more replies.Done = taken-on w st (taking left queue more) left (queue + 1) more asks.Take replies.Done refl
take-worked w st left queue more (replies.Got m) = taken-on w st (taking left queue more) left (queue + 1) more asks.Take (replies.Got m) refl
take-worked w st left queue more (replies.Busy t) = taken-on w st (taking left queue more) left (queue + 1) more asks.Take (replies.Busy t) refl
take-worked w st left queue more (replies.Short n) = taken-on w st (taking left queue more) left (queue + 1) more asks.Take (replies.Short n) refl
take-worked w st left queue more (replies.Fired (Some t) cuts) = taken-on w st (taking left queue more) left (queue + 1) more asks.Take (replies.Fired (Some t) cuts) refl
take-worked w st left queue more (replies.Fired None cuts) = taken-on w st (taking left queue more) left (queue + 1) more asks.Take (replies.Fired None cuts) refl
take-worked w st left queue more (replies.Dead x) = taken-on w st (taking left queue more) left (queue + 1) more asks.Take (replies.Dead x) refl
take-worked w st left queue more (replies.Admitted (Some t)) = taken-on w st (taking left queue more) left (queue + 1) more asks.Take (replies.Admitted (Some t)) refl
take-worked w st left queue more (replies.Admitted None) = taken-on w st (taking left queue more) left (queue + 1) more asks.Take (replies.Admitted None) refl
take-worked w st left queue more replies.Booked = taken-on w st (taking left queue more) left (queue + 1) more asks.Take replies.Booked refl
take-worked w st left queue more (replies.Full n) = taken-on w st (taking left queue more) left (queue + 1) more asks.Take (replies.Full n) refl
take-worked w st left queue more (replies.Dropped (Some t)) = taken-on w st (taking left queue more) left (queue + 1) more asks.Take (replies.Dropped (Some t)) refl
take-worked w st left queue more (replies.Dropped None) = taken-on w st (taking left queue more) left (queue + 1) more asks.Take (replies.Dropped None) refl
take-worked w st left queue more (replies.Taken (Some t)) = (refl, refl, omega arith)
take-worked w st left queue more (replies.Taken None) = taken-on w st (taking left queue more) left (queue + 1) more asks.Take (replies.Taken None) refl
take-worked w st left queue more (replies.Drawn n) = taken-on w st (taking left queue more) left (queue + 1) more asks.Take (replies.Drawn n) refl
take-worked w st left queue more replies.Spent = taken-on w st (taking left queue more) left (queue + 1) more asks.Take replies.Spent refl
take-worked w st left queue more (replies.Left n) = taken-on w st (taking left queue more) left (queue + 1) more asks.Take (replies.Left n) refl

over-worked : (w : Parts) (st : State) (task : Task) (wk : Work) (ask : Ask) (r : Reply) → work_weight wk ≡ 1 → cost ask ≡ 1 → IsWorked st wk ask r (after_over w st task)
over-worked w st task wk ask r one costs = let none = next_round-weighs st.taken in (refl, refl, omega (arith, one, costs, none))

end-worked : (w : Parts) (st : State) (task : Task) (index : ℕ) (play : Play) (end : PlayEnd) (r : Reply) → IsWorked st (playing task index play) (end_ask task play end).ask r (after_end w st task end)
end-worked w st task index play plays.Done r = over-worked w st task (playing task index play) (end_ask task play plays.Done).ask r refl refl
end-worked w st task index play (plays.Failed value) r = over-worked w st task (playing task index play) (end_ask task play (plays.Failed value)).ask r refl refl
end-worked w st task index play (plays.Yield site) r = let none = next_round-weighs st.taken in (refl, refl, omega (arith, none))

play-worked : (w : Parts) (st : State) (task : Task) (index : ℕ) (play : Play) (posts : List Sent) (r : Reply) → IsWorked st (playing task index play) (play_ask task play posts).ask r (after_play w st task index play posts r)
play-worked w st task index play [] r = end-worked w st task index play play.end r
play-worked w st task index play (sent ∷ posts) replies.Done = (refl, refl, omega arith)
play-worked w st task index play (sent ∷ posts) (replies.Got m) = (refl, refl, omega arith)
play-worked w st task index play (sent ∷ posts) (replies.Busy t) = (refl, refl, omega arith)
play-worked w st task index play (sent ∷ posts) (replies.Short n) = (refl, refl, omega arith)
play-worked w st task index play (sent ∷ posts) (replies.Fired t cuts) = (refl, refl, omega arith)
play-worked w st task index play (sent ∷ posts) (replies.Dead x) = (refl, refl, omega arith)
play-worked w st task index play (sent ∷ posts) (replies.Admitted t) = (refl, refl, omega arith)
play-worked w st task index play (sent ∷ posts) replies.Booked = (refl, refl, omega arith)
play-worked w st task index play (sent ∷ posts) (replies.Full n) = (refl, refl, omega arith)
play-worked w st task index play (sent ∷ posts) (replies.Dropped t) = (refl, refl, omega arith)
play-worked w st task index play (sent ∷ posts) (replies.Taken t) = (refl, refl, omega arith)
play-worked w st task index play (sent ∷ posts) (replies.Drawn n) = (refl, refl, omega arith)
play-worked w st task index play (sent ∷ posts) replies.Spent = (refl, refl, omega arith)
play-worked w st task index play (sent ∷ posts) (replies.Left n) = (refl, refl, omega arith)

work-worked : (w : Parts) (a : ℕ) (st : State) (wk : Work) (one : Asked) (r : Reply) → st.work ≡ wk → work_ask a wk ≡ Some one → IsWorked st wk one.ask r (after_work w st wk r)
work-worked w a st wk one r = by wk
  where
    told : (y : Asked) (v : Work) (new : State) → IsWorked st v y.ask r new → Some y ≡ Some one → IsWorked st v one.ask r new
    told y v new worked is = subst (λ (x : Asked). IsWorked st v x.ask r new) (same_Some y one is) worked

    by : (v : Work) → st.work ≡ v → work_ask a v ≡ Some one → IsWorked st v one.ask r (after_work w st v r)
    by (lines index []) is = told (line_ask a index []) (lines index []) (after_line w st index []) (refl, refl, omega arith)
    by (lines index (sent ∷ sents)) is = told (line_ask a index (sent ∷ sents)) (lines index (sent ∷ sents)) (after_line w st index (sent ∷ sents)) (refl, refl, omega arith)
    by round is = told (at_place places.Meter asks.Left) round (after_round w st r) (round-worked w st asks.Left r is refl)
    by (taking left queue more) is = told (at_place (places.Queue queue) asks.Take) (taking left queue more) (after_take w st left queue more r) (take-worked w st left queue more r)
    by (playing task index play) is = told (play_ask task play play.posts) (playing task index play) (after_play w st task index play play.posts r) (play-worked w st task index play play.posts r)
    by (posting task index play sent) is = told (post_ask task index sent) (posting task index play sent) (after_work w st (posting task index play sent) r) (refl, refl, omega arith)
    by (shedding task) is = told (at_place (places.Arbiter task.arbiter) (asks.Over task.id task.root hows.Shed)) (shedding task) (after_over w st task) (over-worked w st task (shedding task) (asks.Over task.id task.root hows.Shed) r refl refl)
    by resting is = λ never. absurd (cc)

end-costs : (task : Task) (play : Play) (end : PlayEnd) → cost (end_ask task play end).ask ≤ 1
end-costs task play plays.Done = omega arith
end-costs task play (plays.Failed value) = omega arith
end-costs task play (plays.Yield site) = omega arith

play-costs : (task : Task) (play : Play) (posts : List Sent) → cost (play_ask task play posts).ask ≤ 1
play-costs task play [] = end-costs task play play.end
play-costs task play (sent ∷ posts) = omega arith

work-afforded : (a : ℕ) (wk : Work) (one : Asked) → work_ask a wk ≡ Some one → cost one.ask ≤ work_weight wk
work-afforded a wk one = by wk
  where
    told : (y : Asked) (n : ℕ) → cost y.ask ≤ n → Some y ≡ Some one → cost one.ask ≤ n
    told y n costs is = subst (λ (x : Asked). cost x.ask ≤ n) (same_Some y one is) costs

    by : (v : Work) → work_ask a v ≡ Some one → cost one.ask ≤ work_weight v
    by (lines index []) = told (line_ask a index []) 0 (omega arith)
    by (lines index (sent ∷ sents)) = told (line_ask a index (sent ∷ sents)) 0 (omega arith)
    by round = told (at_place places.Meter asks.Left) 0 (omega arith)
    by (taking left queue more) = told (at_place (places.Queue queue) asks.Take) 0 (omega arith)
    by (playing task index play) = told (play_ask task play play.posts) 1 (play-costs task play play.posts)
    by (posting task index play sent) = told (post_ask task index sent) 1 (omega arith)
    by (shedding task) = told (at_place (places.Arbiter task.arbiter) (asks.Over task.id task.root hows.Shed)) 1 (omega arith)
    by resting = λ never. absurd (cc)

-- ---- each step

module _ (w : Parts) (a : ℕ) (st : State) (one : Asked) where
  told : (P : Asked → Type 0) (y : Asked) → Some y ≡ Some one → P y → P one
  told P y is p = subst P (same_Some y one is) p

  paid-in : (t : Turn) (r : Reply) → IsTurnOf st t → ask_in w a st t ≡ Some one → fits (due_of one.ask) r ≡ true → IsPaid st one.ask r (after_in w a st t r)
  paid-in (settle first more) r is is_next fit = told (λ x. IsPaid st x.ask r (settled w st more r)) first is_next (settled-paid w st first more r is)
  paid-in (admit domain more) r is is_next fit = told (λ x. IsPaid st x.ask r (after_admit st more r)) (at_place (places.Arbiter domain) asks.Admit) is_next (admit-paid w st more r is.1)
  paid-in (drive spot more) r is is_next fit =
      let y = attempt_ask (plan_of w spot) (name_at a st) st.phase in
      let same = same_Some y one is_next in
      subst (λ (x : Asked). IsPaid st x.ask r (after_attempt w a st spot more r)) same (drive-paid w a st spot more is.1 r (subst (λ (x : Asked). fits (due_of x.ask) r ≡ true) (sym same) fit))
  paid-in go_on r is is_next fit =
      let worked = work-worked w a st st.work one r refl is_next in
      let new = after_work w st st.work r in
      let hands = ap hand_weight worked.0 in
      let phases = ap phase_weight worked.1 in
      let less = worked.2 in
      omega (arith, hands, phases, less)
  paid-in stop r is is_next fit = absurd (cc)

  afforded-in : (t : Turn) → IsTurnOf st t → ask_in w a st t ≡ Some one → cost one.ask ≤ weight st
  afforded-in (settle first more) is is_next = told (λ x. cost x.ask ≤ weight st) first is_next (let all = ap hand_weight is in omega (arith, all))
  afforded-in (admit domain more) is is_next = told (λ x. cost x.ask ≤ weight st) (at_place (places.Arbiter domain) asks.Admit) is_next (omega arith)
  afforded-in (drive spot more) is is_next = told (λ x. cost x.ask ≤ weight st) (attempt_ask (plan_of w spot) (name_at a st) st.phase) is_next (let less = drive-afforded w a st spot more is.1 in omega (arith, less))
  afforded-in go_on is is_next = let less = work-afforded a st.work one is_next in omega (arith, less)
  afforded-in stop is is_next = absurd (cc)

  -- what the ask costs is there
  pub afforded : asked w a st ≡ Some one → cost one.ask ≤ weight st
  afforded is_next = afforded-in (turn st) (turn_is st) is_next

  pub paid : (r : Reply) → asked w a st ≡ Some one → fits (due_of one.ask) r ≡ true → IsPaid st one.ask r (after w a st r)
  paid r is_next fit = paid-in (turn st) r (turn_is st) is_next fit

-- running out of memory costs no more
short-weighs : (w : Parts) (a : ℕ) (st : State) → weight (shorten w a st) ≤ weight st
short-weighs w a st =
    let all = hand-append st.hand (in_attempt w a st st.spots) in
    let back = by st.spots in
    omega (arith, all, back)
  where
    by : (spots : List Spot) → hand_weight (in_attempt w a st spots) ≤ phase_weight st.phase
    by [] = omega arith
    by (spot ∷ more) = let same = release-weighs (plan_of w spot) (name_at a st) st.phase in omega (arith, same)

next-weighs : (w : Parts) (a : ℕ) (st new : State) (r : Reply) → IsNextState w a st r new → weight new ≤ weight (after w a st r)
next-weighs w a st new r (inl is) = let same = ap weight is in omega (arith, same)
next-weighs w a st new r (inr is) = let same = ap weight is in let less = short-weighs w a (after w a st r) in omega (arith, same, less)

-- ---- along the steps of an actor

weighs-along : (w : Parts) (a : ℕ) (lack : Option ℕ) (given : List Reply) (owed : ℕ) (steps : List Step) → weight (state_after w a lack given) ≤ owed → AreNext w a lack given steps → AreFitting steps → weight (state_after w a lack (given ++ replies_of steps)) ≤ fold owed_after owed steps
weighs-along w a lack given owed [] less all fit = subst (λ g. weight (state_after w a lack g) ≤ owed) (sym (append-nil given)) less
weighs-along w a lack given owed (step ∷ steps) less all fit =
    let st = state_after w a lack given in
    let once = paid w a st step.asked step.reply all.0 fit.0 in
    let on = next-weighs w a st (state_after w a lack (given ++ step.reply ∷ [])) step.reply (state_after-push w a lack given step.reply) in
    subst (λ g. weight (state_after w a lack g) ≤ fold owed_after (owed_after owed step) steps) (append_assoc given (step.reply ∷ []) (replies_of steps))
    (weighs-along w a lack (given ++ step.reply ∷ []) (owed_after owed step) steps (omega (arith, less, once, on)) all.1 fit.1)

start-weighs : (w : Parts) (a : ℕ) (lack : Option ℕ) → weight (state_after w a lack []) ≡ 0
start-weighs w a lack = by lack
  where
    begins : weight (start w a) ≡ 0
    begins = elim (slice_get w.posters a) as (λ o. 0 + work_weight (option_map_or (λ (p : PosterPart). lines 0 p.posts) o round) ≡ 0) [ None ↦ refl | Some p ↦ refl ]

    by : (o : Option ℕ) → weight (state_after w a o []) ≡ 0
    by None = begins
    by (Some zero) = begins
    by (Some (suc n)) = let test : nat_le (suc n) 0 ≡ false = grind (arith, nat_tests) in rw test begins

-- what an actor asks next costs no more than what is owed to it
pub owed_enough : (w : Parts) (a : ℕ) (lack : Option ℕ) (steps : List Step) (one : Asked) → AreNext w a lack [] steps → AreFitting steps → next w a lack (replies_of steps) ≡ Some one → cost one.ask ≤ owed_by steps
owed_enough w a lack steps one all fit asks =
    let none = start-weighs w a lack in
    let within = weighs-along w a lack [] 0 steps (omega (arith, none)) all fit in
    let costs = afforded w a (state_after w a lack (replies_of steps)) one asks in
    omega (arith, within, costs)

-- ---- costs and gains

-- an ask that settles costs more than its reply brings
pub settling_costs : (ask : Ask) (r : Reply) → is_settling ask ≡ true → fits (due_of ask) r ≡ true → gain r + 1 ≤ cost ask
settling_costs ask r settles fit = by ask settles fit
  where
    done : (n : ℕ) (x : Reply) → 1 ≤ n → fits dues.Settled x ≡ true → gain x + 1 ≤ n
    done n replies.Done some fit = omega (arith, some)
    done n (replies.Got m) some fit = absurd (cc)
    done n (replies.Busy t) some fit = absurd (cc)
    done n (replies.Short k) some fit = absurd (cc)
    done n (replies.Fired t cuts) some fit = absurd (cc)
    done n (replies.Dead x) some fit = absurd (cc)
    done n (replies.Admitted t) some fit = absurd (cc)
    done n replies.Booked some fit = absurd (cc)
    done n (replies.Full k) some fit = absurd (cc)
    done n (replies.Dropped t) some fit = absurd (cc)
    done n (replies.Taken t) some fit = absurd (cc)
    done n (replies.Drawn k) some fit = absurd (cc)
    done n replies.Spent some fit = absurd (cc)
    done n (replies.Left k) some fit = absurd (cc)

    dropped : (x : Reply) → fits dues.Put x ≡ true → gain x + 1 ≤ 2
    dropped replies.Done fit = absurd (cc)
    dropped (replies.Got m) fit = absurd (cc)
    dropped (replies.Busy t) fit = absurd (cc)
    dropped (replies.Short n) fit = absurd (cc)
    dropped (replies.Fired (Some t) cuts) fit = absurd (cc)
    dropped (replies.Fired None cuts) fit = absurd (cc)
    dropped (replies.Dead x) fit = absurd (cc)
    dropped (replies.Admitted (Some t)) fit = absurd (cc)
    dropped (replies.Admitted None) fit = absurd (cc)
    dropped replies.Booked fit = absurd (cc)
    dropped (replies.Full n) fit = absurd (cc)
    dropped (replies.Dropped (Some t)) fit = omega arith
    dropped (replies.Dropped None) fit = omega arith
    dropped (replies.Taken (Some t)) fit = absurd (cc)
    dropped (replies.Taken None) fit = absurd (cc)
    dropped (replies.Drawn n) fit = absurd (cc)
    dropped replies.Spent fit = absurd (cc)
    dropped (replies.Left n) fit = absurd (cc)

    by : (x : Ask) → is_settling x ≡ true → fits (due_of x) r ≡ true → gain r + 1 ≤ cost x
    by (asks.Consume t) is fit = done 1 r (omega arith) fit
    by (asks.Free t) is fit = done 1 r (omega arith) fit
    by (asks.Over t root how) is fit = done 1 r (omega arith) fit
    by (asks.Unbook t) is fit = done 2 r (omega arith) fit
    by (asks.Put t) is fit = dropped r fit
    by (asks.Post m) is fit = absurd (cc)
    by (asks.Claim t s) is fit = absurd (cc)
    by (asks.Commit t m) is fit = absurd (cc)
    by asks.Admit is fit = absurd (cc)
    by (asks.Suspend t) is fit = absurd (cc)
    by (asks.Book t b) is fit = absurd (cc)
    by asks.Take is fit = absurd (cc)
    by asks.Draw is fit = absurd (cc)
    by asks.Leave is fit = absurd (cc)
    by asks.Left is fit = absurd (cc)

-- it costs something
pub settling_some : (ask : Ask) → is_settling ask ≡ true → 1 ≤ cost ask
settling_some (asks.Consume t) is = omega arith
settling_some (asks.Free t) is = omega arith
settling_some (asks.Over t root how) is = omega arith
settling_some (asks.Unbook t) is = omega arith
settling_some (asks.Put t) is = omega arith
settling_some (asks.Post m) is = absurd (cc)
settling_some (asks.Claim t s) is = absurd (cc)
settling_some (asks.Commit t m) is = absurd (cc)
settling_some asks.Admit is = absurd (cc)
settling_some (asks.Suspend t) is = absurd (cc)
settling_some (asks.Book t b) is = absurd (cc)
settling_some asks.Take is = absurd (cc)
settling_some asks.Draw is = absurd (cc)
settling_some asks.Leave is = absurd (cc)
settling_some asks.Left is = absurd (cc)

-- how many tasks the reply cuts
abbrev pub cuts_in : Reply → ℕ
cuts_in (replies.Fired task cuts) = length cuts
cuts_in replies.Done = 0
cuts_in (replies.Got m) = 0
cuts_in (replies.Busy t) = 0
cuts_in (replies.Short n) = 0
cuts_in (replies.Dead x) = 0
cuts_in (replies.Admitted t) = 0
cuts_in replies.Booked = 0
cuts_in (replies.Full n) = 0
cuts_in (replies.Dropped t) = 0
cuts_in (replies.Taken t) = 0
cuts_in (replies.Drawn n) = 0
cuts_in replies.Spent = 0
cuts_in (replies.Left n) = 0

some_room : (count : ℕ) (ask : Ask) → 2 ≤ most count ask
some_room count (asks.Post m) = omega arith
some_room count (asks.Claim t s) = omega arith
some_room count (asks.Consume t) = omega arith
some_room count (asks.Free t) = omega arith
some_room count (asks.Commit t m) = omega arith
some_room count asks.Admit = omega arith
some_room count (asks.Over t x how) = omega arith
some_room count (asks.Suspend t) = omega arith
some_room count (asks.Book t b) = omega arith
some_room count (asks.Unbook t) = omega arith
some_room count (asks.Put t) = omega arith
some_room count asks.Take = omega arith
some_room count asks.Draw = omega arith
some_room count asks.Leave = omega arith
some_room count asks.Left = omega arith

firing-gains : (count : ℕ) (ask : Ask) (task : Option Task) (cuts : List Cut) → fits (due_of ask) (replies.Fired task cuts) ≡ true → length cuts ≤ count → gain (replies.Fired task cuts) ≤ most count ask
firing-gains count (asks.Post m) task cuts fit few = absurd (cc)
firing-gains count (asks.Claim t s) task cuts fit few = absurd (cc)
firing-gains count (asks.Consume t) task cuts fit few = absurd (cc)
firing-gains count (asks.Free t) task cuts fit few = absurd (cc)
firing-gains count (asks.Commit t m) (Some task) cuts fit few = omega (arith, few)
firing-gains count (asks.Commit t m) None cuts fit few = omega (arith, few)
firing-gains count asks.Admit task cuts fit few = absurd (cc)
firing-gains count (asks.Over t x how) task cuts fit few = absurd (cc)
firing-gains count (asks.Suspend t) task cuts fit few = absurd (cc)
firing-gains count (asks.Book t b) task cuts fit few = absurd (cc)
firing-gains count (asks.Unbook t) task cuts fit few = absurd (cc)
firing-gains count (asks.Put t) task cuts fit few = absurd (cc)
firing-gains count asks.Take task cuts fit few = absurd (cc)
firing-gains count asks.Draw task cuts fit few = absurd (cc)
firing-gains count asks.Leave task cuts fit few = absurd (cc)
firing-gains count asks.Left task cuts fit few = absurd (cc)

-- what a reply brings is within the most that its ask lets
pub gains_within : (count : ℕ) (ask : Ask) (r : Reply) → fits (due_of ask) r ≡ true → cuts_in r ≤ count → gain r ≤ most count ask
gains_within count ask (replies.Fired task cuts) fit few = firing-gains count ask task cuts fit few
gains_within count ask replies.Done fit few = let room = some_room count ask in omega (arith, room)
gains_within count ask (replies.Got m) fit few = let room = some_room count ask in omega (arith, room)
gains_within count ask (replies.Busy t) fit few = let room = some_room count ask in omega (arith, room)
gains_within count ask (replies.Short n) fit few = let room = some_room count ask in omega (arith, room)
gains_within count ask (replies.Dead x) fit few = let room = some_room count ask in omega (arith, room)
gains_within count ask (replies.Admitted (Some t)) fit few = let room = some_room count ask in omega (arith, room)
gains_within count ask (replies.Admitted None) fit few = let room = some_room count ask in omega (arith, room)
gains_within count ask replies.Booked fit few = let room = some_room count ask in omega (arith, room)
gains_within count ask (replies.Full n) fit few = let room = some_room count ask in omega (arith, room)
gains_within count ask (replies.Dropped (Some t)) fit few = let room = some_room count ask in omega (arith, room)
gains_within count ask (replies.Dropped None) fit few = let room = some_room count ask in omega (arith, room)
gains_within count ask (replies.Taken (Some t)) fit few = let room = some_room count ask in omega (arith, room)
gains_within count ask (replies.Taken None) fit few = let room = some_room count ask in omega (arith, room)
gains_within count ask (replies.Drawn n) fit few = let room = some_room count ask in omega (arith, room)
gains_within count ask replies.Spent fit few = let room = some_room count ask in omega (arith, room)
gains_within count ask (replies.Left n) fit few = let room = some_room count ask in omega (arith, room)

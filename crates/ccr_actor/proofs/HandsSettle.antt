-- What an actor has in hand settles, whatever it is replied; once short it asks nothing else.
use Rattle.std.proofs.Common.{◌≡◌, ℕ, ◌+◌, ◌≤◌, Bool, true, false, List, [], ◌∷◌, ◌++◌, length, take, drop, Option, Some, None, refl, sym, subst, cond}
use Rattle.std.specs.Prelude.{nat_le}
use Rattle.std.proofs.lemmas.Bool.{le-leb}
use Rattle.ccr_base.specs.declared.names.Spot.{Spot}
use Rattle.ccr_base.specs.declared.messages.Sent.{Sent}
use Rattle.ccr_base.specs.declared.tasks.Task.{Task}
use Rattle.ccr_handler.specs.declared.segments.Play.{Play}
use Rattle.ccr_handler.specs.declared.segments.PlayEnd.{PlayEnd}
use Rattle.ccr_handler.specs.declared.segments.PlayEnd.TheVariants as plays
use Rattle.ccr_wiring.specs.declared.parts.Parts.{Parts}
use Rattle.ccr_wiring.specs.declared.parts.QueuePart.{QueuePart}
use Rattle.ccr_claim.specs.declared.asks.Asked.{Asked}
use Rattle.ccr_claim.specs.declared.asks.Reply.{Reply}
use Rattle.ccr_claim.specs.declared.asks.Reply.TheVariants as replies
use Rattle.ccr_claim.specs.Asks.{AreSettling, is_settling}
use Rattle.ccr_claim.specs.Attempts.{had_in}
use Rattle.ccr_claim.proofs.AttemptHandsSettle.{release_settles, firing_settles}
use Rattle.ccr_actor.specs.Plans.{plan_of}
use Rattle.ccr_actor.specs.Actors.{State, Work, lines, round, taking, playing, posting, shedding, resting, Turn, settle, admit, drive, go_on, stop, turn, turn_of, spots_left, name_at, asked, ask_in, settled, after_admit, after_attempt, after_work, after_line, after_round, after_take, after_play, after_end, take_from, after_in, after, after_all, in_attempt, shorten, start, state_after, next}
use Rattle.ccr_actor.proofs.TurnsTellStates.{IsTurnOf, turn_is}
use Rattle.ccr_actor.proofs.WhatCountsIsKept.{all_short}

joined : (front back : List Asked) → AreSettling front → AreSettling back → AreSettling (front ++ back)
joined [] back one two = two
joined (ask ∷ front) back one two = (one.0, joined front back one.1 two)

-- ---- one reply

settled-settles : (wiring : Parts) (state : State) (more : List Asked) (reply : Reply) → AreSettling more → AreSettling (settled wiring state more reply).hand
settled-settles wiring state more replies.Done all = all
settled-settles wiring state more (replies.Got m) all = all
settled-settles wiring state more (replies.Busy t) all = all
settled-settles wiring state more (replies.Short n) all = all
settled-settles wiring state more (replies.Fired t cuts) all = all
settled-settles wiring state more (replies.Dead by) all = all
settled-settles wiring state more (replies.Admitted t) all = all
settled-settles wiring state more replies.Booked all = all
settled-settles wiring state more (replies.Full n) all = all
settled-settles wiring state more (replies.Dropped (Some task)) all = (refl, all)
settled-settles wiring state more (replies.Dropped None) all = all
settled-settles wiring state more (replies.Taken t) all = all
settled-settles wiring state more (replies.Drawn n) all = all
settled-settles wiring state more replies.Spent all = all
settled-settles wiring state more (replies.Left n) all = all

strike-settles : (wiring : Parts) (state : State) (more : List ℕ) (reply : Reply) → AreSettling state.hand → AreSettling (after_admit state more reply).hand
strike-settles wiring state [] replies.Done all = all
strike-settles wiring state (one ∷ more) replies.Done all = all
strike-settles wiring state [] (replies.Got m) all = all
strike-settles wiring state (one ∷ more) (replies.Got m) all = all
strike-settles wiring state [] (replies.Busy t) all = all
strike-settles wiring state (one ∷ more) (replies.Busy t) all = all
strike-settles wiring state [] (replies.Short n) all = all
strike-settles wiring state (one ∷ more) (replies.Short n) all = all
strike-settles wiring state [] (replies.Fired t cuts) all = all
strike-settles wiring state (one ∷ more) (replies.Fired t cuts) all = all
strike-settles wiring state [] (replies.Dead by) all = all
strike-settles wiring state (one ∷ more) (replies.Dead by) all = all
strike-settles wiring state more (replies.Admitted (Some task)) all = (refl, tt)
strike-settles wiring state [] (replies.Admitted None) all = all
strike-settles wiring state (one ∷ more) (replies.Admitted None) all = all
strike-settles wiring state [] replies.Booked all = all
strike-settles wiring state (one ∷ more) replies.Booked all = all
strike-settles wiring state [] (replies.Full n) all = all
strike-settles wiring state (one ∷ more) (replies.Full n) all = all
strike-settles wiring state [] (replies.Dropped d) all = all
strike-settles wiring state (one ∷ more) (replies.Dropped d) all = all
strike-settles wiring state [] (replies.Taken t) all = all
strike-settles wiring state (one ∷ more) (replies.Taken t) all = all
strike-settles wiring state [] (replies.Drawn n) all = all
strike-settles wiring state (one ∷ more) (replies.Drawn n) all = all
strike-settles wiring state [] replies.Spent all = all
strike-settles wiring state (one ∷ more) replies.Spent all = all
strike-settles wiring state [] (replies.Left n) all = all
strike-settles wiring state (one ∷ more) (replies.Left n) all = all

attempt-settles : (wiring : Parts) (actor : ℕ) (state : State) (spot : Spot) (more : List Spot) (reply : Reply) → AreSettling state.hand → AreSettling (after_attempt wiring actor state spot more reply).hand
attempt-settles wiring actor state spot more replies.Done all = release_settles (plan_of wiring spot) (name_at actor state) state.phase
attempt-settles wiring actor state spot more (replies.Got m) all = all
attempt-settles wiring actor state spot more (replies.Busy t) all = release_settles (plan_of wiring spot) (name_at actor state) state.phase
attempt-settles wiring actor state spot more (replies.Short n) all = release_settles (plan_of wiring spot) (name_at actor state) state.phase
attempt-settles wiring actor state spot more (replies.Fired t cuts) all = firing_settles (name_at actor state) (had_in state.phase) t cuts
attempt-settles wiring actor state spot more (replies.Dead by) all = release_settles (plan_of wiring spot) (name_at actor state) state.phase
attempt-settles wiring actor state spot more (replies.Admitted t) all = release_settles (plan_of wiring spot) (name_at actor state) state.phase
attempt-settles wiring actor state spot more replies.Booked all = all
attempt-settles wiring actor state spot more (replies.Full n) all = release_settles (plan_of wiring spot) (name_at actor state) state.phase
attempt-settles wiring actor state spot more (replies.Dropped d) all = release_settles (plan_of wiring spot) (name_at actor state) state.phase
attempt-settles wiring actor state spot more (replies.Taken t) all = release_settles (plan_of wiring spot) (name_at actor state) state.phase
attempt-settles wiring actor state spot more (replies.Drawn n) all = release_settles (plan_of wiring spot) (name_at actor state) state.phase
attempt-settles wiring actor state spot more replies.Spent all = release_settles (plan_of wiring spot) (name_at actor state) state.phase
attempt-settles wiring actor state spot more (replies.Left n) all = release_settles (plan_of wiring spot) (name_at actor state) state.phase

take-same : (wiring : Parts) (state : State) (left queue : ℕ) (parts : List QueuePart) → (take_from wiring state left queue parts).hand ≡ state.hand
take-same wiring state left queue [] = refl
take-same wiring state left queue (part ∷ parts) = refl

end-same : (wiring : Parts) (state : State) (task : Task) (end : PlayEnd) → (after_end wiring state task end).hand ≡ state.hand
end-same wiring state task plays.Done = refl
end-same wiring state task (plays.Failed value) = refl
end-same wiring state task (plays.Yield site) = refl

line-same : (wiring : Parts) (state : State) (index : ℕ) (sents : List Sent) → (after_line wiring state index sents).hand ≡ state.hand
line-same wiring state index [] = refl
line-same wiring state index (sent ∷ sents) = refl

pub play-same : (wiring : Parts) (state : State) (task : Task) (index : ℕ) (play : Play) (posts : List Sent) (reply : Reply) → (after_play wiring state task index play posts reply).hand ≡ state.hand
play-same wiring state task index play [] reply = end-same wiring state task play.end
play-same wiring state task index play (sent ∷ posts) replies.Done = refl
play-same wiring state task index play (sent ∷ posts) (replies.Got m) = refl
play-same wiring state task index play (sent ∷ posts) (replies.Busy t) = refl
play-same wiring state task index play (sent ∷ posts) (replies.Short n) = refl
play-same wiring state task index play (sent ∷ posts) (replies.Fired t cuts) = refl
play-same wiring state task index play (sent ∷ posts) (replies.Dead by) = refl
play-same wiring state task index play (sent ∷ posts) (replies.Admitted t) = refl
play-same wiring state task index play (sent ∷ posts) replies.Booked = refl
play-same wiring state task index play (sent ∷ posts) (replies.Full n) = refl
play-same wiring state task index play (sent ∷ posts) (replies.Dropped d) = refl
play-same wiring state task index play (sent ∷ posts) (replies.Taken t) = refl
play-same wiring state task index play (sent ∷ posts) (replies.Drawn n) = refl
play-same wiring state task index play (sent ∷ posts) replies.Spent = refl
play-same wiring state task index play (sent ∷ posts) (replies.Left n) = refl

round-same : (wiring : Parts) (state : State) (reply : Reply) → (after_round wiring state reply).hand ≡ state.hand
round-same wiring state replies.Done = refl
round-same wiring state (replies.Got m) = refl
round-same wiring state (replies.Busy t) = refl
round-same wiring state (replies.Short n) = refl
round-same wiring state (replies.Fired t cuts) = refl
round-same wiring state (replies.Dead by) = refl
round-same wiring state (replies.Admitted t) = refl
round-same wiring state replies.Booked = refl
round-same wiring state (replies.Full n) = refl
round-same wiring state (replies.Dropped d) = refl
round-same wiring state (replies.Taken t) = refl
round-same wiring state (replies.Drawn n) = refl
round-same wiring state replies.Spent = refl
round-same wiring state (replies.Left n) = take-same wiring state n 0 wiring.queues

taking-same : (wiring : Parts) (state : State) (left queue : ℕ) (more : List QueuePart) (reply : Reply) → (after_take wiring state left queue more reply).hand ≡ state.hand
taking-same wiring state left queue more replies.Done = take-same wiring state left (queue + 1) more
taking-same wiring state left queue more (replies.Got m) = take-same wiring state left (queue + 1) more
taking-same wiring state left queue more (replies.Busy t) = take-same wiring state left (queue + 1) more
taking-same wiring state left queue more (replies.Short n) = take-same wiring state left (queue + 1) more
taking-same wiring state left queue more (replies.Fired t cuts) = take-same wiring state left (queue + 1) more
taking-same wiring state left queue more (replies.Dead by) = take-same wiring state left (queue + 1) more
taking-same wiring state left queue more (replies.Admitted t) = take-same wiring state left (queue + 1) more
taking-same wiring state left queue more replies.Booked = take-same wiring state left (queue + 1) more
taking-same wiring state left queue more (replies.Full n) = take-same wiring state left (queue + 1) more
taking-same wiring state left queue more (replies.Dropped d) = take-same wiring state left (queue + 1) more
taking-same wiring state left queue more (replies.Taken (Some task)) = refl
taking-same wiring state left queue more (replies.Taken None) = take-same wiring state left (queue + 1) more
taking-same wiring state left queue more (replies.Drawn n) = take-same wiring state left (queue + 1) more
taking-same wiring state left queue more replies.Spent = take-same wiring state left (queue + 1) more
taking-same wiring state left queue more (replies.Left n) = take-same wiring state left (queue + 1) more

pub work-same : (wiring : Parts) (state : State) (work : Work) (reply : Reply) → (after_work wiring state work reply).hand ≡ state.hand
work-same wiring state (lines index sents) reply = line-same wiring state index sents
work-same wiring state round reply = round-same wiring state reply
work-same wiring state (taking left queue more) reply = taking-same wiring state left queue more reply
work-same wiring state (playing task index play) reply = play-same wiring state task index play play.posts reply
work-same wiring state (posting task index play sent) reply = refl
work-same wiring state (shedding task) reply = refl
work-same wiring state resting reply = refl

in-settles : (wiring : Parts) (actor : ℕ) (state : State) (t : Turn) (reply : Reply) → IsTurnOf state t → AreSettling state.hand → AreSettling (after_in wiring actor state t reply).hand
in-settles wiring actor state (settle one more) reply is all = settled-settles wiring state more reply ((subst AreSettling is all).1)
in-settles wiring actor state (admit domain more) reply is all = strike-settles wiring state more reply all
in-settles wiring actor state (drive spot more) reply is all = attempt-settles wiring actor state spot more reply all
in-settles wiring actor state go_on reply is all = subst AreSettling (sym (work-same wiring state state.work reply)) all
in-settles wiring actor state stop reply is all = all

after-settles : (wiring : Parts) (actor : ℕ) (state : State) (reply : Reply) → AreSettling state.hand → AreSettling (after wiring actor state reply).hand
after-settles wiring actor state reply all = in-settles wiring actor state (turn state) reply (turn_is state) all

along : (wiring : Parts) (actor : ℕ) (state : State) (given : List Reply) → AreSettling state.hand → AreSettling (after_all wiring actor state given).hand
along wiring actor state [] all = all
along wiring actor state (reply ∷ given) all = along wiring actor (after wiring actor state reply) given (after-settles wiring actor state reply all)

attempt-hand : (wiring : Parts) (actor : ℕ) (state : State) (spots : List Spot) → AreSettling (in_attempt wiring actor state spots)
attempt-hand wiring actor state [] = tt
attempt-hand wiring actor state (spot ∷ more) = release_settles (plan_of wiring spot) (name_at actor state) state.phase

shorten-settles : (wiring : Parts) (actor : ℕ) (state : State) → AreSettling state.hand → AreSettling (shorten wiring actor state).hand
shorten-settles wiring actor state all = joined state.hand (in_attempt wiring actor state state.spots) all (attempt-hand wiring actor state state.spots)

abbrev early : Parts → ℕ → ℕ → List Reply → State
early wiring actor n given = shorten wiring actor (after_all wiring actor (start wiring actor) (take n given))

early-settles : (wiring : Parts) (actor n : ℕ) (given : List Reply) → AreSettling (early wiring actor n given).hand
early-settles wiring actor n given = shorten-settles wiring actor (after_all wiring actor (start wiring actor) (take n given)) (along wiring actor (start wiring actor) (take n given) tt)

split-settles : (b : Bool) (wiring : Parts) (actor n : ℕ) (given : List Reply) → AreSettling (cond b (after_all wiring actor (early wiring actor n given) (drop n given)) (after_all wiring actor (start wiring actor) given)).hand
split-settles true wiring actor n given = along wiring actor (early wiring actor n given) (drop n given) (early-settles wiring actor n given)
split-settles false wiring actor n given = along wiring actor (start wiring actor) given tt

pub all_settle : (wiring : Parts) (actor : ℕ) (lack : Option ℕ) (given : List Reply) → AreSettling (state_after wiring actor lack given).hand
all_settle wiring actor None given = along wiring actor (start wiring actor) given tt
all_settle wiring actor (Some n) given = split-settles (nat_le n (length given)) wiring actor n given

-- ---- once short

abbrev IsShort : State → Type 0
IsShort state = state.is_short ≡ true

-- a short actor settles or stops
short-ask : (wiring : Parts) (actor : ℕ) (state : State) (hand : List Asked) (domains : List ℕ) (spots : List Spot) (one : Asked) → AreSettling hand → ask_in wiring actor state (turn_of true hand domains spots) ≡ Some one → is_settling one.ask ≡ true
short-ask wiring actor state [] domains spots one all is = cc is
short-ask wiring actor state (first ∷ more) domains spots one all is = let same : first ≡ one = cc is in subst (λ (a : Asked). is_settling a.ask ≡ true) same all.0

asks-short : (wiring : Parts) (actor : ℕ) (state : State) (one : Asked) → IsShort state → AreSettling state.hand → asked wiring actor state ≡ Some one → is_settling one.ask ≡ true
asks-short wiring actor state one short all =
    let P : Bool → Type 0 = λ b. ask_in wiring actor state (turn_of b state.hand state.domains (spots_left state)) ≡ Some one → is_settling one.ask ≡ true in
    subst P (sym short) (short-ask wiring actor state state.hand state.domains (spots_left state) one all)

pub short_settles : (wiring : Parts) (actor n : ℕ) (given : List Reply) (one : Asked) → n ≤ length given → next wiring actor (Some n) given ≡ Some one → is_settling one.ask ≡ true
short_settles wiring actor n given one within =
    let P : Bool → Type 0 = λ b. asked wiring actor (cond b (after_all wiring actor (early wiring actor n given) (drop n given)) (after_all wiring actor (start wiring actor) given)) ≡ Some one → is_settling one.ask ≡ true in
    let yes : nat_le n (length given) ≡ true = le-leb n (length given) within in
    subst P (sym yes) (asks-short wiring actor (after_all wiring actor (early wiring actor n given) (drop n given)) one (all_short wiring actor (early wiring actor n given) (drop n given)) (split-settles true wiring actor n given))

-- Each step of an actor leaves it less to do.
use Rattle.std.proofs.Common.{◌≡◌, ◌<◌, ◌≤◌, ℕ, ◌+◌, ◌*◌, ◌^◌, Bool, true, false, List, [], Some, None, Ok, Err, refl, sym, ap, subst, cond, arith, inl, inr, ◌∙◌}
use Rattle.std.specs.Prelude.{nat_lt}
use Rattle.ccr_base.specs.declared.names.Spot.{Spot}
use Rattle.ccr_base.proofs.TwoDigits.{radix}
use Rattle.ccr_wiring.specs.declared.parts.Parts.{Parts}
use Rattle.ccr_wiring.specs.Valid.{IsValid}
use Rattle.ccr_claim.specs.declared.asks.Asked.{Asked}
use Rattle.ccr_claim.specs.declared.asks.Reply.{Reply}
use Rattle.ccr_claim.specs.declared.asks.Reply.TheVariants as replies
use Rattle.ccr_claim.specs.Asks.{AreSettling, MaybeReply, due_of, fits, is_settling, may_come}
use Rattle.ccr_actor.specs.Nets.{Step, replies_of}
use Rattle.ccr_actor.specs.Following.{Follows}
use Rattle.ccr_actor.proofs.HandsSettle.{all_settle}
use Rattle.ccr_actor.proofs.TurnsTellStates.{IsTurnOf, turn_is}
use Rattle.ccr_claim.specs.Attempts.{attempt_ask}
use Rattle.ccr_actor.specs.Acting.{Acting, due_in, kept, kept_if, at_state, sent, next, answered, shortened, IsAfter}
use Rattle.ccr_actor.specs.Actors.{State, Turn, settle, admit, drive, go_on, stop, turn, name_at, ask_in, work_ask, settled, after_admit, after_attempt, after_work, after_in, after, in_attempt, shorten, state_after}
use Rattle.ccr_actor.specs.Courses.{owing}
use Rattle.ccr_actor.specs.Plans.{plan_of}
use Rattle.ccr_actor.specs.Within.{IsWithin}
use Rattle.ccr_actor.proofs.WhatCountsIsKept.{after_short, kept_hand, kept_short, kept_whole}
use Rattle.ccr_actor.proofs.ActorsFollowTheirSteps.{never-refused, step_is}
use Rattle.ccr_actor.proofs.Dues.{due_sent}
use Rattle.ccr_dispatch.specs.Ranks.{settles_in, admissions_left, drive_left, drive_most, owed_by, steps_left}
use Rattle.ccr_dispatch.specs.ToRest.{IsSettled}
use Rattle.ccr_dispatch.proofs.WorkLeftFalls.{Fitting, all_work, admit_falls, attempt_waits, calm_drive, calm_waits, drive_falls, hand_falls, settles_append, work_calms, work_falls}
use Rattle.ccr_actor.proofs.Bounds.{below as some-few, left-few}
use Rattle.ccr_actor.proofs.StepsOfAttempts.{same-attempt}

-- what is left behind the hand
abbrev rank : Parts → State → ℕ
rank wiring state = (all_work state * drive_most wiring + drive_left state) * 98400 + admissions_left state

by-admissions : (wiring : Parts) (old new : State) → all_work new ≡ all_work old → drive_left new ≡ drive_left old → admissions_left new < admissions_left old → rank wiring new < rank wiring old
by-admissions wiring old new work same_drive less =
    let same : all_work new * drive_most wiring + drive_left new ≡ all_work old * drive_most wiring + drive_left old = rw (work, same_drive) refl in
    omega (arith, same, less)

no-more : (wiring : Parts) (old new : State) → all_work new ≡ all_work old → drive_left new ≡ drive_left old → admissions_left new ≤ admissions_left old → rank wiring new ≤ rank wiring old
no-more wiring old new work same_drive less =
    let same : all_work new * drive_most wiring + drive_left new ≡ all_work old * drive_most wiring + drive_left old = rw (work, same_drive) refl in
    omega (arith, same, less)

by-drive : (wiring : Parts) (old new : State) → all_work new ≡ all_work old → drive_left new < drive_left old → admissions_left new < 98400 → rank wiring new < rank wiring old
by-drive wiring old new work less few =
    let same : all_work new * drive_most wiring ≡ all_work old * drive_most wiring = ap (λ n. n * drive_most wiring) work in
    omega (arith, same, less, few)

by-work : (wiring : Parts) (old new : State) → all_work new < all_work old → drive_left new < drive_most wiring → admissions_left new < 98400 → rank wiring new < rank wiring old
by-work wiring old new less below few =
    let behind = radix (all_work new) (all_work old) (drive_most wiring) (drive_left new) (drive_left old) less below in
    omega (arith, behind, few)

admit-alike : (state : State) (more : List ℕ) (reply : Reply) → (all_work (after_admit state more reply) ≡ all_work state) × (drive_left (after_admit state more reply) ≡ drive_left state)
admit-alike state more replies.Done = (refl, refl)
admit-alike state more (replies.Got m) = (refl, refl)
admit-alike state more (replies.Busy t) = (refl, refl)
admit-alike state more (replies.Short n) = (refl, refl)
admit-alike state more (replies.Fired t cuts) = (refl, refl)
admit-alike state more (replies.Dead by) = (refl, refl)
admit-alike state more (replies.Admitted None) = (refl, refl)
admit-alike state more (replies.Admitted (Some task)) = (refl, refl)
admit-alike state more replies.Booked = (refl, refl)
admit-alike state more (replies.Full n) = (refl, refl)
admit-alike state more (replies.Dropped d) = (refl, refl)
admit-alike state more (replies.Taken t) = (refl, refl)
admit-alike state more (replies.Drawn n) = (refl, refl)
admit-alike state more replies.Spent = (refl, refl)
admit-alike state more (replies.Left n) = (refl, refl)

attempt-alike : (wiring : Parts) (actor : ℕ) (state : State) (spot : Spot) (more : List Spot) (reply : Reply) → all_work (after_attempt wiring actor state spot more reply) ≡ all_work state
attempt-alike wiring actor state spot more replies.Done = refl
attempt-alike wiring actor state spot more (replies.Got m) = refl
attempt-alike wiring actor state spot more (replies.Busy t) = refl
attempt-alike wiring actor state spot more (replies.Short n) = refl
attempt-alike wiring actor state spot more (replies.Fired t cuts) = refl
attempt-alike wiring actor state spot more (replies.Dead by) = refl
attempt-alike wiring actor state spot more (replies.Admitted t) = refl
attempt-alike wiring actor state spot more replies.Booked = refl
attempt-alike wiring actor state spot more (replies.Full n) = refl
attempt-alike wiring actor state spot more (replies.Dropped d) = refl
attempt-alike wiring actor state spot more (replies.Taken t) = refl
attempt-alike wiring actor state spot more (replies.Drawn n) = refl
attempt-alike wiring actor state spot more replies.Spent = refl
attempt-alike wiring actor state spot more (replies.Left n) = refl

-- a step of the hand leaves the work, the drive and the attempt alone
pub record IsAlike (wiring : Parts) (actor : ℕ) (state new : State) : Type 0 where
  pub work : all_work new ≡ all_work state
  pub drive : drive_left new ≡ drive_left state
  pub attempt : in_attempt wiring actor new new.spots ≡ in_attempt wiring actor state state.spots

settled-alike : (wiring : Parts) (actor : ℕ) (state : State) (more : List Asked) (reply : Reply) → IsAlike wiring actor state (settled wiring state more reply)
settled-alike wiring actor state more replies.Done = record { work = refl; drive = refl; attempt = same-attempt wiring actor (settled wiring state more replies.Done) state state.spots refl refl }
settled-alike wiring actor state more (replies.Got m) = record { work = refl; drive = refl; attempt = same-attempt wiring actor (settled wiring state more (replies.Got m)) state state.spots refl refl }
settled-alike wiring actor state more (replies.Busy t) = record { work = refl; drive = refl; attempt = same-attempt wiring actor (settled wiring state more (replies.Busy t)) state state.spots refl refl }
settled-alike wiring actor state more (replies.Short n) = record { work = refl; drive = refl; attempt = same-attempt wiring actor (settled wiring state more (replies.Short n)) state state.spots refl refl }
settled-alike wiring actor state more (replies.Fired t cuts) = record { work = refl; drive = refl; attempt = same-attempt wiring actor (settled wiring state more (replies.Fired t cuts)) state state.spots refl refl }
settled-alike wiring actor state more (replies.Dead by) = record { work = refl; drive = refl; attempt = same-attempt wiring actor (settled wiring state more (replies.Dead by)) state state.spots refl refl }
settled-alike wiring actor state more (replies.Admitted t) = record { work = refl; drive = refl; attempt = same-attempt wiring actor (settled wiring state more (replies.Admitted t)) state state.spots refl refl }
settled-alike wiring actor state more replies.Booked = record { work = refl; drive = refl; attempt = same-attempt wiring actor (settled wiring state more replies.Booked) state state.spots refl refl }
settled-alike wiring actor state more (replies.Full n) = record { work = refl; drive = refl; attempt = same-attempt wiring actor (settled wiring state more (replies.Full n)) state state.spots refl refl }
settled-alike wiring actor state more (replies.Dropped None) = record { work = refl; drive = refl; attempt = same-attempt wiring actor (settled wiring state more (replies.Dropped None)) state state.spots refl refl }
settled-alike wiring actor state more (replies.Dropped (Some task)) = record { work = refl; drive = refl; attempt = same-attempt wiring actor (settled wiring state more (replies.Dropped (Some task))) state state.spots refl refl }
settled-alike wiring actor state more (replies.Taken t) = record { work = refl; drive = refl; attempt = same-attempt wiring actor (settled wiring state more (replies.Taken t)) state state.spots refl refl }
settled-alike wiring actor state more (replies.Drawn n) = record { work = refl; drive = refl; attempt = same-attempt wiring actor (settled wiring state more (replies.Drawn n)) state state.spots refl refl }
settled-alike wiring actor state more replies.Spent = record { work = refl; drive = refl; attempt = same-attempt wiring actor (settled wiring state more replies.Spent) state state.spots refl refl }
settled-alike wiring actor state more (replies.Left n) = record { work = refl; drive = refl; attempt = same-attempt wiring actor (settled wiring state more (replies.Left n)) state state.spots refl refl }

lowers : (wiring : Parts) (actor : ℕ) (state : State) (t : Turn) (one : Asked) (reply : Reply) → IsTurnOf state t → state.hand ≡ [] → IsValid wiring → IsWithin state → IsWithin (after_in wiring actor state t reply)
    → ask_in wiring actor state t ≡ Some one → fits (due_of one.ask) reply ≡ true → rank wiring (after_in wiring actor state t reply) < rank wiring state
lowers wiring actor state (settle first more) one reply at none valid old new asks fit = cc (sym at ∙ none)
lowers wiring actor state (admit domain more) one reply at none valid old new asks fit =
    by-admissions wiring state (after_admit state more reply) (admit-alike state more reply).0 (admit-alike state more reply).1 (admit_falls state domain more reply none at.2 (some-few state.domains domain more state.admitted at.2 old.bounded.domains))
lowers wiring actor state (drive spot more) one reply at none valid old new asks fit =
    let below = left-few (nat_lt state.attempt (2 ^ 32)) state.spots spot more state.fired at.3 old.bounded.spots in
    let fitting : Fitting (Some (attempt_ask (plan_of wiring spot) (name_at actor state) state.phase)) reply = subst (λ o. Fitting o reply) (sym asks) fit in
    by-drive wiring state (after_attempt wiring actor state spot more reply) (attempt-alike wiring actor state spot more reply) (drive_falls wiring actor state spot more reply valid at.3 below fitting) (attempt_waits wiring actor state spot more reply none at.2)
lowers wiring actor state go_on one reply at none valid old new asks fit =
    let fitting : Fitting (work_ask actor state.work) reply = subst (λ o. Fitting o reply) (sym asks) fit in
    let calm = work_calms wiring state reply none at.2 at.3 (old.driven at.3) in
    by-work wiring state (after_work wiring state state.work reply) (work_falls wiring actor state reply valid old.paced new.paced fitting) (calm_drive wiring (after_work wiring state state.work reply) calm) (calm_waits wiring (after_work wiring state state.work reply) calm)
lowers wiring actor state stop one reply at none valid old new asks fit = absurd (cc asks)

-- ---- an actor

left-short : (a : Acting) → a.state.is_short ≡ true → steps_left a ≡ 0
left-short a is = ap (λ b. cond b 0 (1 + rank a.wiring a.state)) is

left-long : (a : Acting) → a.state.is_short ≡ false → steps_left a ≡ 1 + rank a.wiring a.state
left-long a is = ap (λ b. cond b 0 (1 + rank a.wiring a.state)) is

-- an actor in this state, as far as it counts
abbrev as-kept : Acting → State → Acting
as-kept a state = at_state a.wiring a.actor state

-- the state that a reply leads to
reply-state : (a : Acting) (one : Asked) (reply : Reply) → next a ≡ Some one → answered (sent a) reply ≡ as-kept a (after a.wiring a.actor a.state reply)
reply-state a one reply asks = ap (as-kept a) (step_is a.wiring a.actor a.state one reply asks)

asks-long : (a : Acting) (one : Asked) → next a ≡ Some one → a.state.hand ≡ [] → a.state.is_short ≡ false
asks-long a one asks none = long-in a.wiring a.actor a.state (turn a.state) one (turn_is a.state) none asks
  where
    long-in : (wiring : Parts) (actor : ℕ) (state : State) (t : Turn) (one : Asked) → IsTurnOf state t → state.hand ≡ [] → ask_in wiring actor state t ≡ Some one → state.is_short ≡ false
    long-in wiring actor state (settle first more) one at none asks = cc (sym at ∙ none)
    long-in wiring actor state (admit domain more) one at none asks = at.0
    long-in wiring actor state (drive spot more) one at none asks = at.0
    long-in wiring actor state go_on one at none asks = at.0
    long-in wiring actor state stop one at none asks = absurd (cc asks)

-- where nothing is in hand, each answer leaves fewer steps
pub less_left : (a new : Acting) (one : Asked) (answer : MaybeReply) → next a ≡ Some one → a.state.hand ≡ [] → may_come (due_in (sent a).asking) answer ≡ true → IsAfter (sent a) answer new → IsValid a.wiring → (a.state.is_short ≡ false → IsWithin a.state) → (new.state.is_short ≡ false → IsWithin new.state)
    → steps_left new < steps_left a
less_left a new one (Ok reply) asks none may (inl so) valid old_in new_in =
    let long = asks-long a one asks none in
    let state = after a.wiring a.actor a.state reply in
    let is : new ≡ as-kept a state = so ∙ reply-state a one reply asks in
    let still : state.is_short ≡ false = after_short a.wiring a.actor a.state reply ∙ long in
    let whole : new.state ≡ state = ap (λ (x : Acting). x.state) is ∙ kept_whole state still in
    let wiring : new.wiring ≡ a.wiring = ap (λ (x : Acting). x.wiring) is in
    let new_long : new.state.is_short ≡ false = ap (λ (s : State). s.is_short) whole ∙ still in
    let fit : fits (due_of one.ask) reply ≡ true = subst (λ d. fits d reply ≡ true) (due_sent a one asks) may in
    let less = lowers a.wiring a.actor a.state (turn a.state) one reply (turn_is a.state) none valid (old_in long) (subst IsWithin whole (new_in new_long)) asks fit in
    let left : steps_left new ≡ 1 + rank a.wiring state = left-long new new_long ∙ (ap (λ w. 1 + rank w new.state) wiring ∙ ap (λ s. 1 + rank a.wiring s) whole) in
    let before = left-long a long in
    omega (arith, left, before, less)
less_left a new one (Ok reply) asks none may (inr short) valid old_in new_in =
    let before = left-long a (asks-long a one asks none) in
    let left = left-short new (ap (λ (x : Acting). x.state.is_short) short.1) in
    omega (arith, before, left)
less_left a new one (Err refused) asks none may so valid old_in new_in =
    let before = left-long a (asks-long a one asks none) in
    let left = left-short new (ap (λ (x : Acting). x.state.is_short) so) in
    omega (arith, before, left)

-- ---- where something is in hand

-- no more is left behind the hand, and less is owed
pub record IsFallen (wiring : Parts) (actor : ℕ) (state new : State) : Type 0 where
  pub left : rank wiring new ≤ rank wiring state
  pub owed : settles_in (owing wiring actor new) < settles_in (owing wiring actor state)

settled-in : (wiring : Parts) (actor : ℕ) (state : State) (t : Turn) (one : Asked) (reply : Reply) → IsTurnOf state t → (state.hand ≡ [] → ⊥) → ask_in wiring actor state t ≡ Some one → fits (due_of one.ask) reply ≡ true → IsFallen wiring actor state (after_in wiring actor state t reply)
settled-in wiring actor state (settle first more) one reply at some asks fit =
    let fitting : Fitting (Some first) reply = subst (λ o. Fitting o reply) (sym asks) fit in
    let new = settled wiring state more reply in
    let alike = settled-alike wiring actor state more reply in
    let less = hand_falls wiring state first more reply at fitting in
    let hand = less.hand in
    let front = settles_append new.hand (in_attempt wiring actor new new.spots) in
    let back = settles_append state.hand (in_attempt wiring actor state state.spots) in
    let same = ap settles_in alike.attempt in
    record { left = no-more wiring state new alike.work alike.drive less.admissions; owed = omega (arith, hand, front, back, same) }
settled-in wiring actor state (admit domain more) one reply at some asks fit = absurd (some at.1)
settled-in wiring actor state (drive spot more) one reply at some asks fit = absurd (some at.1)
settled-in wiring actor state go_on one reply at some asks fit = absurd (some at.1)
settled-in wiring actor state stop one reply at some asks fit = absurd (some at)

bare-owed : (b : Bool) (wiring : Parts) (actor : ℕ) (state : State) → settles_in (owing wiring actor (kept_if b state)) ≤ settles_in (owing wiring actor state)
bare-owed true wiring actor state = (let one = settles_append state.hand [] in let two = settles_append state.hand (in_attempt wiring actor state state.spots) in omega (arith, one, two))
bare-owed false wiring actor state = omega arith

kept-owed : (wiring : Parts) (actor : ℕ) (state : State) → settles_in (owing wiring actor (kept state)) ≤ settles_in (owing wiring actor state)
kept-owed wiring actor state = bare-owed state.is_short wiring actor state

owed-seen : (a new : Acting) (state : State) → new ≡ as-kept a state → owed_by new ≡ settles_in (owing a.wiring a.actor (kept state))
owed-seen a new state is = ap owed_by is

rank-seen : (b : Bool) (a new : Acting) (state : State) → a.state.is_short ≡ b → state.is_short ≡ a.state.is_short → new ≡ as-kept a state → rank a.wiring state ≤ rank a.wiring a.state → steps_left new ≤ steps_left a
rank-seen true a new state short same is less = (let none = left-short new (ap (λ (x : Acting). x.state.is_short) is ∙ (kept_short state ∙ (same ∙ short))) in omega (arith, none))
rank-seen false a new state long same is less =
    let still = same ∙ long in
    let whole : new.state ≡ state = ap (λ (x : Acting). x.state) is ∙ kept_whole state still in
    let wiring : new.wiring ≡ a.wiring = ap (λ (x : Acting). x.wiring) is in
    let left : steps_left new ≡ 1 + rank a.wiring state = left-long new (ap (λ (s : State). s.is_short) whole ∙ still) ∙ (ap (λ w. 1 + rank w new.state) wiring ∙ ap (λ s. 1 + rank a.wiring s) whole) in
    let before = left-long a long in
    omega (arith, left, before, less)

pub settled_less : (a new : Acting) (one : Asked) (answer : MaybeReply) → next a ≡ Some one → (a.state.hand ≡ [] → ⊥) → AreSettling a.state.hand → may_come (due_in (sent a).asking) answer ≡ true → IsAfter (sent a) answer new → IsSettled a new
settled_less a new one (Ok reply) asks some all may so = by-so so
  where
    fit : fits (due_of one.ask) reply ≡ true
    fit = subst (λ d. fits d reply ≡ true) (due_sent a one asks) may

    fallen : IsFallen a.wiring a.actor a.state (after a.wiring a.actor a.state reply)
    fallen = settled-in a.wiring a.actor a.state (turn a.state) one reply (turn_is a.state) some asks fit

    by-so : IsAfter (sent a) (Ok reply) new → IsSettled a new
    by-so (inl so) =
        let state = after a.wiring a.actor a.state reply in
        let is : new ≡ as-kept a state = so ∙ reply-state a one reply asks in
        let less = fallen.owed in
        let kept_less = kept-owed a.wiring a.actor state in
        let seen = owed-seen a new state is in
        record { owed = omega (arith, less, kept_less, seen); left = rank-seen a.state.is_short a new state refl (after_short a.wiring a.actor a.state reply) is fallen.left }
    by-so (inr short) =
        let state = after a.wiring a.actor a.state reply in
        let is : new ≡ as-kept a (shorten a.wiring a.actor (kept state)) = short.1 ∙ ap shortened (reply-state a one reply asks) in
        let less = fallen.owed in
        let kept_less = kept-owed a.wiring a.actor state in
        let seen = owed-seen a new (shorten a.wiring a.actor (kept state)) is in
        let bare = settles_append (owing a.wiring a.actor (kept state)) [] in
        let none = left-short new (ap (λ (x : Acting). x.state.is_short) is) in
        record { owed = omega (arith, less, kept_less, seen, bare); left = omega (arith, none) }
settled_less a new one (Err refused) asks some all may so =
    absurd (refused-in a.wiring a.actor a.state (turn a.state) one (turn_is a.state) some all asks (subst (λ d. may_come d (Err refused) ≡ true) (due_sent a one asks) may))
  where
    refused-in : (wiring : Parts) (actor : ℕ) (state : State) (t : Turn) (one : Asked) → IsTurnOf state t → (state.hand ≡ [] → ⊥) → AreSettling state.hand → ask_in wiring actor state t ≡ Some one → may_come (due_of one.ask) (Err refused) ≡ true → ⊥
    refused-in wiring actor state (settle first more) one at some all asks may =
        let same : first ≡ one = cc asks in
        never-refused one.ask (subst (λ (x : Asked). is_settling x.ask ≡ true) same (subst AreSettling at all).0) may
    refused-in wiring actor state (admit domain more) one at some all asks may = some at.1
    refused-in wiring actor state (drive spot more) one at some all asks may = some at.1
    refused-in wiring actor state go_on one at some all asks may = some at.1
    refused-in wiring actor state stop one at some all asks may = some at

-- what it has in hand settles
pub in_hand : (wiring : Parts) (actor : ℕ) (steps : List Step) (a : Acting) → Follows wiring actor steps a → AreSettling a.state.hand
in_hand wiring actor steps a (lack, (all, (is, from))) = subst AreSettling (sym (ap (λ (x : Acting). x.state.hand) is ∙ kept_hand (state_after wiring actor lack (replies_of steps)))) (all_settle wiring actor lack (replies_of steps))

-- What an actor has still to do falls with each step.
use Rattle.std.proofs.Common.{◌≡◌, ◌<◌, ◌≤◌, ℕ, suc, ◌+◌, ◌-◌, ◌*◌, ◌^◌, Bool, true, false, List, [], ◌∷◌, ◌++◌, length, map, fold, reverse, Option, Some, None, refl, sym, ap, subst, cond, arith}
use Rattle.std.specs.Prelude.{nat_lt, nat_le, ◌==◌, ◌&&◌, ◌||◌, not}
use Rattle.std.specs.List.{list_any}
use Rattle.std.specs.Option.{option_map_or}
use Rattle.std.proofs.lemmas.List.{length-append}
use Rattle.ccr_base.specs.declared.messages.Sent.{Sent}
use Rattle.ccr_base.specs.declared.names.Spot.{Spot}
use Rattle.ccr_base.specs.declared.names.Spot.TheVariants.{Branch, Site}
use Rattle.ccr_base.specs.declared.names.TaskId.{TaskId}
use Rattle.ccr_base.specs.declared.patterns.Pattern.{Pattern}
use Rattle.ccr_base.specs.declared.patterns.Pattern.TheVariants.{Slots, Gather}
use Rattle.ccr_base.specs.declared.patterns.Slot.{Slot}
use Rattle.ccr_base.specs.declared.policies.Policy.{Policy}
use Rattle.ccr_base.specs.declared.policies.Policy.TheVariants as policies
use Rattle.ccr_base.specs.declared.tasks.Cut.{Cut}
use Rattle.ccr_base.specs.declared.tasks.Task.{Task}
use Rattle.ccr_base.proofs.Filters.{length-kept}
use Rattle.ccr_handler.specs.declared.segments.Play.{Play}
use Rattle.ccr_handler.specs.declared.segments.PlayEnd.{PlayEnd}
use Rattle.ccr_handler.specs.declared.segments.PlayEnd.TheVariants as plays
use Rattle.ccr_wiring.specs.declared.parts.Parts.{Parts}
use Rattle.ccr_wiring.specs.declared.parts.QueuePart.{QueuePart}
use Rattle.ccr_wiring.specs.Valid.{IsValid, IsPatternFilled}
use Rattle.ccr_wiring.specs.Wirings.{Placement, placement, spots, site_port, policy_of, next_site}
use Rattle.ccr_wiring.proofs.Soundness.{sound}
use Rattle.ccr_claim.specs.declared.asks.Ask.{Ask}
use Rattle.ccr_claim.specs.declared.asks.Ask.TheVariants as asks
use Rattle.ccr_claim.specs.declared.asks.Asked.{Asked}
use Rattle.ccr_claim.specs.declared.asks.Reply.{Reply}
use Rattle.ccr_claim.specs.declared.asks.Reply.TheVariants as replies
use Rattle.ccr_claim.specs.declared.plan.ClaimPlan.{ClaimPlan}
use Rattle.ccr_claim.specs.declared.plan.Had.{Had}
use Rattle.ccr_claim.specs.Asks.{due_of, fits}
use Rattle.ccr_claim.specs.Plans.{slots_in, gather_slots, insert_slot, narrowed}
use Rattle.ccr_claim.specs.Attempts.{Phase, booking, claiming, had_in, attempt_ask, claimed, release, firing_hand, free_ask, consume_ask, unbook_ask, cut_ask, put_asks}
use Rattle.ccr_claim.proofs.HandsAreOwed.{narrowed-length}
use Rattle.ccr_wiring.specs.Takers.{spots_at, takes_from, is_for}
use Rattle.ccr_actor.specs.Plans.{plan_of, one_of, no_pattern, throttled, is_interleave_number}
use Rattle.ccr_actor.specs.Actors.{State, Work, lines, round, taking, playing, posting, shedding, resting, spots_left, work_ask, name_at, add_domain, admit_too, settled, strike, after_admit, give_up, driven_on, fire, after_attempt, after_work, after_line, after_round, after_take, after_play, after_end, after_over, take_from}
use Rattle.ccr_actor.specs.Within.{IsPaced}
use Rattle.ccr_dispatch.specs.Ranks.{puts_by, put_count, settles_in, admissions_left, phase_left, drive_left, drive_most, work_left}

-- the reply is one that the ask may have
abbrev pub Fitting : Option Asked → Reply → Type 0
Fitting None reply = ⊥
Fitting (Some one) reply = fits (due_of one.ask) reply ≡ true

cond-length : {A : Type 0} (b : Bool) (xs : List A) → length (cond b xs []) ≤ length xs
cond-length true xs = omega arith
cond-length false xs = omega arith

-- ---- the slots of a plan

insert-length : (slot : Slot) (slots : List Slot) → length (insert_slot slot slots) ≡ suc (length slots)
insert-length slot [] = refl
insert-length slot (other ∷ slots) = by-test (nat_lt slot.port other.port) (insert-length slot slots)
  where
    by-test : (b : Bool) → length (insert_slot slot slots) ≡ suc (length slots) → length (cond b (slot ∷ other ∷ slots) (other ∷ insert_slot slot slots)) ≡ suc (suc (length slots))
    by-test true rest = refl
    by-test false rest = ap (λ n. suc n) rest

sort-length : (sorted slots : List Slot) → length (fold (λ sorted slot. insert_slot slot sorted) sorted slots) ≡ length sorted + length slots
sort-length sorted [] = omega arith
sort-length sorted (slot ∷ slots) = (let rest = sort-length (insert_slot slot sorted) slots in let one = insert-length slot sorted in omega (arith, rest, one))

few-in : (pattern : Pattern) → IsPatternFilled pattern → length (slots_in pattern) ≤ 8
few-in (Slots slots) filled = (let all = sort-length [] slots in let few = filled.1 in omega (arith, all, few))
few-in (Gather total first second) filled = by-test (nat_lt first second)
  where
    by-test : (b : Bool) → length (cond b (gather_slots total first second) (gather_slots total second first)) ≤ 8
    by-test true = omega arith
    by-test false = omega arith

few-at : (wiring : Parts) (branch : ℕ) (found : Option Placement) → IsValid wiring → placement wiring branch ≡ found → length (slots_in (option_map_or (λ (s : Placement). s.branch.pattern) found no_pattern)) ≤ 8
few-at wiring branch None valid is = omega arith
few-at wiring branch (Some s) valid is = few-in s.branch.pattern ((sound wiring valid).patterns branch s is)

one-at : (port : Option ℕ) → length (slots_in (option_map_or one_of port no_pattern)) ≤ 8
one-at None = omega arith
one-at (Some port) = omega arith

-- a plan has at most eight slots
few_slots : (wiring : Parts) (spot : Spot) → IsValid wiring → length (slots_in (plan_of wiring spot).pattern) ≤ 8
few_slots wiring (Branch branch) valid = few-at wiring branch (placement wiring branch) valid refl
few_slots wiring (Site branch site) valid = one-at (site_port wiring branch site)

-- ---- puts

put_count-append : (front back : List Asked) → put_count (front ++ back) ≡ put_count front + put_count back
put_count-append [] back = omega arith
put_count-append (one ∷ front) back = (let rest = put_count-append front back in omega (arith, rest))

pub settles_append : (front back : List Asked) → settles_in (front ++ back) ≡ settles_in front + settles_in back
settles_append front back = (let puts = put_count-append front back in let all = length-append front back in omega (arith, puts, all))

put_count-frees : (task : TaskId) (had : List Had) → put_count (map (free_ask task) had) ≡ 0
put_count-frees task [] = refl
put_count-frees task (h ∷ had) = (let rest = put_count-frees task had in omega (arith, rest))

put_count-consumes : (task : TaskId) (had : List Had) → put_count (map (consume_ask task) had) ≡ 0
put_count-consumes task [] = refl
put_count-consumes task (h ∷ had) = (let rest = put_count-consumes task had in omega (arith, rest))

put_count-cuts : (cuts : List Cut) → put_count (map cut_ask cuts) ≡ 0
put_count-cuts [] = refl
put_count-cuts (cut ∷ cuts) = (let rest = put_count-cuts cuts in omega (arith, rest))

put_count-release : (plan : ClaimPlan) (task : TaskId) (phase : Phase) → put_count (release plan task phase) ≡ 0
put_count-release plan task booking = refl
put_count-release plan task (claiming left had) = (let all = put_count-append (map (free_ask task) (reverse had)) (unbook_ask plan.queue task ∷ []) in let none = put_count-frees task (reverse had) in omega (arith, all, none))

put_count-firing : (task : TaskId) (had : List Had) (fired : Option Task) (cuts : List Cut) → put_count (firing_hand task had fired cuts) ≡ put_count (put_asks fired)
put_count-firing task had fired cuts =
    let all = put_count-append (map (consume_ask task) had) (map cut_ask cuts ++ put_asks fired) in
    let rest = put_count-append (map cut_ask cuts) (put_asks fired) in
    let none = put_count-consumes task had in
    let also = put_count-cuts cuts in
    omega (arith, all, rest, none, also)

-- ---- the admissions

strike-falls : (state : State) (domain : ℕ) (more : List ℕ) → state.hand ≡ [] → state.domains ≡ domain ∷ more → admissions_left (strike state more) < admissions_left state
strike-falls state domain more none at = (let all : length state.domains ≡ suc (length more) = ap length at in omega (arith, all))

-- the admission of a task, or the first Interleave struck off, leaves less
pub admit_falls : (state : State) (domain : ℕ) (more : List ℕ) (reply : Reply) → state.hand ≡ [] → state.domains ≡ domain ∷ more → state.admitted < 32768 → admissions_left (after_admit state more reply) < admissions_left state
admit_falls state domain more replies.Done none at few = strike-falls state domain more none at
admit_falls state domain more (replies.Got m) none at few = strike-falls state domain more none at
admit_falls state domain more (replies.Busy t) none at few = strike-falls state domain more none at
admit_falls state domain more (replies.Short n) none at few = strike-falls state domain more none at
admit_falls state domain more (replies.Fired t cuts) none at few = strike-falls state domain more none at
admit_falls state domain more (replies.Dead by) none at few = strike-falls state domain more none at
admit_falls state domain more (replies.Admitted None) none at few = strike-falls state domain more none at
admit_falls state domain more (replies.Admitted (Some task)) none at few = (let all = cond-length (nat_lt (state.admitted + 1) 32768) state.domains in omega (arith, few, all))
admit_falls state domain more replies.Booked none at few = strike-falls state domain more none at
admit_falls state domain more (replies.Full n) none at few = strike-falls state domain more none at
admit_falls state domain more (replies.Dropped d) none at few = strike-falls state domain more none at
admit_falls state domain more (replies.Taken t) none at few = strike-falls state domain more none at
admit_falls state domain more (replies.Drawn n) none at few = strike-falls state domain more none at
admit_falls state domain more replies.Spent none at few = strike-falls state domain more none at
admit_falls state domain more (replies.Left n) none at few = strike-falls state domain more none at

none-waits : (state : State) → state.hand ≡ [] → state.domains ≡ [] → admissions_left state < 98400
none-waits state none at =
    let puts : put_count state.hand ≡ 0 = ap put_count none in
    let count : length state.domains ≡ 0 = ap length at in
    omega (arith, puts, count)

fire-waits : (wiring : Parts) (actor : ℕ) (state : State) (spot : Spot) (more : List Spot) (task : Option Task) (cuts : List Cut) → admissions_left (fire wiring actor state spot more task cuts) < 98400
fire-waits wiring actor state spot more None cuts = (let puts = put_count-firing (name_at actor state) (had_in state.phase) None cuts in omega (arith, puts))
fire-waits wiring actor state spot more (Some task) cuts = (let puts = put_count-firing (name_at actor state) (had_in state.phase) (Some task) cuts in omega (arith, puts))

give-waits : (wiring : Parts) (actor : ℕ) (state : State) (spot : Spot) (more : List Spot) → state.domains ≡ [] → admissions_left (give_up wiring actor state spot more) < 98400
give-waits wiring actor state spot more at =
    let puts = put_count-release (plan_of wiring spot) (name_at actor state) state.phase in
    let count : length state.domains ≡ 0 = ap length at in
    omega (arith, puts, count)

pub attempt_waits : (wiring : Parts) (actor : ℕ) (state : State) (spot : Spot) (more : List Spot) (reply : Reply) → state.hand ≡ [] → state.domains ≡ [] → admissions_left (after_attempt wiring actor state spot more reply) < 98400
attempt_waits wiring actor state spot more replies.Done none at = give-waits wiring actor state spot more at
attempt_waits wiring actor state spot more (replies.Got m) none at = none-waits state none at
attempt_waits wiring actor state spot more (replies.Busy t) none at = give-waits wiring actor state spot more at
attempt_waits wiring actor state spot more (replies.Short n) none at = give-waits wiring actor state spot more at
attempt_waits wiring actor state spot more (replies.Fired t cuts) none at = fire-waits wiring actor state spot more t cuts
attempt_waits wiring actor state spot more (replies.Dead by) none at = give-waits wiring actor state spot more at
attempt_waits wiring actor state spot more (replies.Admitted t) none at = give-waits wiring actor state spot more at
attempt_waits wiring actor state spot more replies.Booked none at = none-waits state none at
attempt_waits wiring actor state spot more (replies.Full n) none at = give-waits wiring actor state spot more at
attempt_waits wiring actor state spot more (replies.Dropped d) none at = give-waits wiring actor state spot more at
attempt_waits wiring actor state spot more (replies.Taken t) none at = give-waits wiring actor state spot more at
attempt_waits wiring actor state spot more (replies.Drawn n) none at = give-waits wiring actor state spot more at
attempt_waits wiring actor state spot more replies.Spent none at = give-waits wiring actor state spot more at
attempt_waits wiring actor state spot more (replies.Left n) none at = give-waits wiring actor state spot more at

-- ---- the drive

some-left : (phase : Phase) → 1 ≤ phase_left phase
some-left booking = omega arith
some-left (claiming slots had) = omega arith

-- what a drive of so many spots, with so many firings, has left in this phase
abbrev left_at : ℕ → ℕ → Phase → ℕ
left_at count fired phase = (count + (32768 - fired)) * 16 + phase_left phase

give-falls : (wiring : Parts) (actor : ℕ) (state : State) (spot : Spot) (more : List Spot) (phase : Phase) → drive_left (give_up wiring actor state spot more) < left_at (suc (length more)) state.fired phase
give-falls wiring actor state spot more phase = (let few = cond-length (nat_lt (state.attempt + 1) (2 ^ 32)) more in let some = some-left phase in omega (arith, few, some))

fire-falls : (wiring : Parts) (actor : ℕ) (state : State) (spot : Spot) (more : List Spot) (task : Option Task) (cuts : List Cut) (phase : Phase) → state.fired < 32768 → drive_left (fire wiring actor state spot more task cuts) < left_at (suc (length more)) state.fired phase
fire-falls wiring actor state spot more task cuts phase below =
    let few = cond-length (nat_lt (state.attempt + 1) (2 ^ 32)) (driven_on state spot more) in
    let also = cond-length (nat_lt (state.fired + 1) 32768) (spot ∷ more) in
    let some = some-left phase in
    omega (arith, few, also, some, below)

book-falls : (wiring : Parts) (state : State) (spot : Spot) (more : List Spot) → IsValid wiring → spots_left state ≡ spot ∷ more → drive_left (record state { phase = claiming (slots_in (plan_of wiring spot).pattern) [] }) < left_at (suc (length more)) state.fired booking
book-falls wiring state spot more valid at = (let few = few_slots wiring spot valid in let count : length (spots_left state) ≡ suc (length more) = ap length at in omega (arith, few, count))

got-falls : (wiring : Parts) (state : State) (spot : Spot) (more : List Spot) (slot : Slot) (slots : List Slot) (had all : List Had) (got : ℕ) → spots_left state ≡ spot ∷ more → drive_left (record state { phase = claiming (narrowed (plan_of wiring spot).pattern got slots) all }) < left_at (suc (length more)) state.fired (claiming (slot ∷ slots) had)
got-falls wiring state spot more slot slots had all got at = (let same = narrowed-length (plan_of wiring spot).pattern got slots in let count : length (spots_left state) ≡ suc (length more) = ap length at in omega (arith, same, count))

drive-in : (wiring : Parts) (actor : ℕ) (state : State) (spot : Spot) (more : List Spot) (phase : Phase) (reply : Reply) → IsValid wiring → state.phase ≡ phase → spots_left state ≡ spot ∷ more → state.fired < 32768 → Fitting (Some (attempt_ask (plan_of wiring spot) (name_at actor state) phase)) reply
    → drive_left (after_attempt wiring actor state spot more reply) < left_at (suc (length more)) state.fired phase
drive-in wiring actor state spot more booking replies.Done valid is at below fit = give-falls wiring actor state spot more booking
drive-in wiring actor state spot more booking (replies.Got m) valid is at below fit = cc fit
drive-in wiring actor state spot more booking (replies.Busy t) valid is at below fit = give-falls wiring actor state spot more booking
drive-in wiring actor state spot more booking (replies.Short n) valid is at below fit = give-falls wiring actor state spot more booking
drive-in wiring actor state spot more booking (replies.Fired t cuts) valid is at below fit = fire-falls wiring actor state spot more t cuts booking below
drive-in wiring actor state spot more booking (replies.Dead by) valid is at below fit = give-falls wiring actor state spot more booking
drive-in wiring actor state spot more booking (replies.Admitted t) valid is at below fit = give-falls wiring actor state spot more booking
drive-in wiring actor state spot more booking replies.Booked valid is at below fit = book-falls wiring state spot more valid at
drive-in wiring actor state spot more booking (replies.Full n) valid is at below fit = give-falls wiring actor state spot more booking
drive-in wiring actor state spot more booking (replies.Dropped d) valid is at below fit = give-falls wiring actor state spot more booking
drive-in wiring actor state spot more booking (replies.Taken t) valid is at below fit = give-falls wiring actor state spot more booking
drive-in wiring actor state spot more booking (replies.Drawn n) valid is at below fit = give-falls wiring actor state spot more booking
drive-in wiring actor state spot more booking replies.Spent valid is at below fit = give-falls wiring actor state spot more booking
drive-in wiring actor state spot more booking (replies.Left n) valid is at below fit = give-falls wiring actor state spot more booking
drive-in wiring actor state spot more (claiming [] had) replies.Done valid is at below fit = give-falls wiring actor state spot more (claiming [] had)
drive-in wiring actor state spot more (claiming [] had) (replies.Got m) valid is at below fit = cc fit
drive-in wiring actor state spot more (claiming [] had) (replies.Busy t) valid is at below fit = give-falls wiring actor state spot more (claiming [] had)
drive-in wiring actor state spot more (claiming [] had) (replies.Short n) valid is at below fit = give-falls wiring actor state spot more (claiming [] had)
drive-in wiring actor state spot more (claiming [] had) (replies.Fired t cuts) valid is at below fit = fire-falls wiring actor state spot more t cuts (claiming [] had) below
drive-in wiring actor state spot more (claiming [] had) (replies.Dead by) valid is at below fit = give-falls wiring actor state spot more (claiming [] had)
drive-in wiring actor state spot more (claiming [] had) (replies.Admitted t) valid is at below fit = give-falls wiring actor state spot more (claiming [] had)
drive-in wiring actor state spot more (claiming [] had) replies.Booked valid is at below fit = cc fit
drive-in wiring actor state spot more (claiming [] had) (replies.Full n) valid is at below fit = give-falls wiring actor state spot more (claiming [] had)
drive-in wiring actor state spot more (claiming [] had) (replies.Dropped d) valid is at below fit = give-falls wiring actor state spot more (claiming [] had)
drive-in wiring actor state spot more (claiming [] had) (replies.Taken t) valid is at below fit = give-falls wiring actor state spot more (claiming [] had)
drive-in wiring actor state spot more (claiming [] had) (replies.Drawn n) valid is at below fit = give-falls wiring actor state spot more (claiming [] had)
drive-in wiring actor state spot more (claiming [] had) replies.Spent valid is at below fit = give-falls wiring actor state spot more (claiming [] had)
drive-in wiring actor state spot more (claiming [] had) (replies.Left n) valid is at below fit = give-falls wiring actor state spot more (claiming [] had)
drive-in wiring actor state spot more (claiming (slot ∷ slots) had) replies.Done valid is at below fit = give-falls wiring actor state spot more (claiming (slot ∷ slots) had)
drive-in wiring actor state spot more (claiming (slot ∷ slots) had) (replies.Got m) valid is at below fit = subst (λ (p : Phase). drive_left (record state { phase = claimed (plan_of wiring spot) m p }) < left_at (suc (length more)) state.fired (claiming (slot ∷ slots) had)) (sym is) (got-falls wiring state spot more slot slots had (had ++ (record { slot = slot; messages = m }) ∷ []) (length m) at)
drive-in wiring actor state spot more (claiming (slot ∷ slots) had) (replies.Busy t) valid is at below fit = give-falls wiring actor state spot more (claiming (slot ∷ slots) had)
drive-in wiring actor state spot more (claiming (slot ∷ slots) had) (replies.Short n) valid is at below fit = give-falls wiring actor state spot more (claiming (slot ∷ slots) had)
drive-in wiring actor state spot more (claiming (slot ∷ slots) had) (replies.Fired t cuts) valid is at below fit = fire-falls wiring actor state spot more t cuts (claiming (slot ∷ slots) had) below
drive-in wiring actor state spot more (claiming (slot ∷ slots) had) (replies.Dead by) valid is at below fit = give-falls wiring actor state spot more (claiming (slot ∷ slots) had)
drive-in wiring actor state spot more (claiming (slot ∷ slots) had) (replies.Admitted t) valid is at below fit = give-falls wiring actor state spot more (claiming (slot ∷ slots) had)
drive-in wiring actor state spot more (claiming (slot ∷ slots) had) replies.Booked valid is at below fit = cc fit
drive-in wiring actor state spot more (claiming (slot ∷ slots) had) (replies.Full n) valid is at below fit = give-falls wiring actor state spot more (claiming (slot ∷ slots) had)
drive-in wiring actor state spot more (claiming (slot ∷ slots) had) (replies.Dropped d) valid is at below fit = give-falls wiring actor state spot more (claiming (slot ∷ slots) had)
drive-in wiring actor state spot more (claiming (slot ∷ slots) had) (replies.Taken t) valid is at below fit = give-falls wiring actor state spot more (claiming (slot ∷ slots) had)
drive-in wiring actor state spot more (claiming (slot ∷ slots) had) (replies.Drawn n) valid is at below fit = give-falls wiring actor state spot more (claiming (slot ∷ slots) had)
drive-in wiring actor state spot more (claiming (slot ∷ slots) had) replies.Spent valid is at below fit = give-falls wiring actor state spot more (claiming (slot ∷ slots) had)
drive-in wiring actor state spot more (claiming (slot ∷ slots) had) (replies.Left n) valid is at below fit = give-falls wiring actor state spot more (claiming (slot ∷ slots) had)

-- an attempt's step leaves less of the drive
pub drive_falls : (wiring : Parts) (actor : ℕ) (state : State) (spot : Spot) (more : List Spot) (reply : Reply) → IsValid wiring → spots_left state ≡ spot ∷ more → state.fired < 32768 → Fitting (Some (attempt_ask (plan_of wiring spot) (name_at actor state) state.phase)) reply
    → drive_left (after_attempt wiring actor state spot more reply) < drive_left state
drive_falls wiring actor state spot more reply valid at below fit =
    let less = drive-in wiring actor state spot more state.phase reply valid refl at below fit in
    let count : length (spots_left state) ≡ suc (length more) = ap length at in
    subst (λ n. drive_left (after_attempt wiring actor state spot more reply) < left_at n state.fired state.phase) (sym count) less

-- ---- the work

-- after a step of the work, few spots are driven, nothing is in hand and at most one Interleave admits
pub record IsCalm (wiring : Parts) (state : State) : Type 0 where
  pub driven : length (spots_left state) ≤ length (spots wiring) + 1
  pub phase : state.phase ≡ booking
  pub hand : state.hand ≡ []
  pub domains : length state.domains ≤ 1

pub calm_drive : (wiring : Parts) (state : State) → IsCalm wiring state → drive_left state < drive_most wiring
calm_drive wiring state is = (let few = is.driven in let left : phase_left state.phase ≡ 11 = ap phase_left is.phase in omega (arith, few, left))

pub calm_waits : (wiring : Parts) (state : State) → IsCalm wiring state → admissions_left state < 98400
calm_waits wiring state is = (let few = is.domains in let puts : put_count state.hand ≡ 0 = ap put_count is.hand in omega (arith, few, puts))

calm-from : (wiring : Parts) (state : State) (left queue : ℕ) (parts : List QueuePart) → IsCalm wiring state → IsCalm wiring (take_from wiring state left queue parts)
calm-from wiring state left queue [] is = record { driven = is.driven; phase = is.phase; hand = is.hand; domains = is.domains }
calm-from wiring state left queue (part ∷ parts) is = record { driven = is.driven; phase = is.phase; hand = is.hand; domains = is.domains }

throttled-few : (wiring : Parts) (queue : ℕ) (policy : Policy) → length (throttled wiring queue policy) ≤ length (spots wiring)
throttled-few wiring queue policies.Unbounded = omega arith
throttled-few wiring queue (policies.Discard n) = omega arith
throttled-few wiring queue (policies.Throttle n) = length-kept (is_for wiring queue) (spots wiring)

-- a drive of these spots
calm-spots : (wiring : Parts) (b : Bool) (front : List Spot) (n : ℕ) → length front ≤ n → length (cond b front []) ≤ n
calm-spots wiring b front n few = (let all = cond-length b front in omega (arith, few, all))

calm-take : (wiring : Parts) (state : State) (left queue : ℕ) (more : List QueuePart) (reply : Reply) → IsCalm wiring state → IsCalm wiring (after_take wiring state left queue more reply)
calm-take wiring state left queue more replies.Done is = calm-from wiring state left (queue + 1) more is
calm-take wiring state left queue more (replies.Got m) is = calm-from wiring state left (queue + 1) more is
calm-take wiring state left queue more (replies.Busy t) is = calm-from wiring state left (queue + 1) more is
calm-take wiring state left queue more (replies.Short n) is = calm-from wiring state left (queue + 1) more is
calm-take wiring state left queue more (replies.Fired t cuts) is = calm-from wiring state left (queue + 1) more is
calm-take wiring state left queue more (replies.Dead by) is = calm-from wiring state left (queue + 1) more is
calm-take wiring state left queue more (replies.Admitted t) is = calm-from wiring state left (queue + 1) more is
calm-take wiring state left queue more replies.Booked is = calm-from wiring state left (queue + 1) more is
calm-take wiring state left queue more (replies.Full n) is = calm-from wiring state left (queue + 1) more is
calm-take wiring state left queue more (replies.Dropped d) is = calm-from wiring state left (queue + 1) more is
calm-take wiring state left queue more (replies.Taken None) is = calm-from wiring state left (queue + 1) more is
calm-take wiring state left queue more (replies.Taken (Some task)) is = record { driven = (let few = throttled-few wiring queue (policy_of wiring queue) in calm-spots wiring (nat_lt state.attempt (2 ^ 32)) (throttled wiring queue (policy_of wiring queue)) (length (spots wiring) + 1) (omega (arith, few))); phase = is.phase; hand = is.hand; domains = is.domains }
calm-take wiring state left queue more (replies.Drawn n) is = calm-from wiring state left (queue + 1) more is
calm-take wiring state left queue more replies.Spent is = calm-from wiring state left (queue + 1) more is
calm-take wiring state left queue more (replies.Left n) is = calm-from wiring state left (queue + 1) more is

add-few : (wiring : Parts) (domain : ℕ) (domains : List ℕ) → length (add_domain wiring domain domains) ≤ suc (length domains)
add-few wiring domain domains = by-test (is_interleave_number wiring domain && not (list_any (λ other. other == domain) domains))
  where
    by-test : (b : Bool) → length (cond b (domains ++ domain ∷ []) domains) ≤ suc (length domains)
    by-test true = (let all = length-append domains (domain ∷ []) in omega (arith, all))
    by-test false = omega arith

calm-over : (wiring : Parts) (state : State) (task : Task) → state.domains ≡ [] → IsCalm wiring state → IsCalm wiring (after_over wiring state task)
calm-over wiring state task at is = record { driven = is.driven; phase = is.phase; hand = is.hand; domains = (let few = add-few wiring task.arbiter state.domains in let none : length state.domains ≡ 0 = ap length at in omega (arith, few, none)) }

calm-end : (wiring : Parts) (state : State) (task : Task) (end : PlayEnd) → state.domains ≡ [] → IsCalm wiring state → IsCalm wiring (after_end wiring state task end)
calm-end wiring state task plays.Done at is = calm-over wiring state task at is
calm-end wiring state task (plays.Failed value) at is = calm-over wiring state task at is
calm-end wiring state task (plays.Yield site) at is = record { driven = calm-spots wiring (nat_lt state.attempt (2 ^ 32)) (next_site task.spot ∷ []) (length (spots wiring) + 1) (omega arith); phase = is.phase; hand = is.hand; domains = is.domains }

calm-play : (wiring : Parts) (state : State) (task : Task) (index : ℕ) (play : Play) (posts : List Sent) (reply : Reply) → state.domains ≡ [] → IsCalm wiring state → IsCalm wiring (after_play wiring state task index play posts reply)
calm-play wiring state task index play [] reply at is = calm-end wiring state task play.end at is
calm-play wiring state task index play (sent ∷ posts) replies.Done at is = record { driven = is.driven; phase = is.phase; hand = is.hand; domains = is.domains }
calm-play wiring state task index play (sent ∷ posts) (replies.Got m) at is = record { driven = is.driven; phase = is.phase; hand = is.hand; domains = is.domains }
calm-play wiring state task index play (sent ∷ posts) (replies.Busy t) at is = record { driven = is.driven; phase = is.phase; hand = is.hand; domains = is.domains }
calm-play wiring state task index play (sent ∷ posts) (replies.Short n) at is = record { driven = is.driven; phase = is.phase; hand = is.hand; domains = is.domains }
calm-play wiring state task index play (sent ∷ posts) (replies.Fired t cuts) at is = record { driven = is.driven; phase = is.phase; hand = is.hand; domains = is.domains }
calm-play wiring state task index play (sent ∷ posts) (replies.Dead by) at is = record { driven = is.driven; phase = is.phase; hand = is.hand; domains = is.domains }
calm-play wiring state task index play (sent ∷ posts) (replies.Admitted t) at is = record { driven = is.driven; phase = is.phase; hand = is.hand; domains = is.domains }
calm-play wiring state task index play (sent ∷ posts) replies.Booked at is = record { driven = is.driven; phase = is.phase; hand = is.hand; domains = is.domains }
calm-play wiring state task index play (sent ∷ posts) (replies.Full n) at is = record { driven = is.driven; phase = is.phase; hand = is.hand; domains = is.domains }
calm-play wiring state task index play (sent ∷ posts) (replies.Dropped d) at is = record { driven = is.driven; phase = is.phase; hand = is.hand; domains = is.domains }
calm-play wiring state task index play (sent ∷ posts) (replies.Taken t) at is = record { driven = is.driven; phase = is.phase; hand = is.hand; domains = is.domains }
calm-play wiring state task index play (sent ∷ posts) (replies.Drawn n) at is = record { driven = is.driven; phase = is.phase; hand = is.hand; domains = is.domains }
calm-play wiring state task index play (sent ∷ posts) replies.Spent at is = record { driven = is.driven; phase = is.phase; hand = is.hand; domains = is.domains }
calm-play wiring state task index play (sent ∷ posts) (replies.Left n) at is = record { driven = is.driven; phase = is.phase; hand = is.hand; domains = is.domains }

calm-at : (wiring : Parts) (state : State) (port : ℕ) → length (spots_left (record state { spots = spots_at wiring port })) ≤ length (spots wiring) + 1
calm-at wiring state port = (let few = length-kept (takes_from wiring port) (spots wiring) in calm-spots wiring (nat_lt state.attempt (2 ^ 32)) (spots_at wiring port) (length (spots wiring) + 1) (omega (arith, few)))

calm-line : (wiring : Parts) (state : State) (index : ℕ) (sents : List Sent) → IsCalm wiring state → IsCalm wiring (after_line wiring state index sents)
calm-line wiring state index [] is = record { driven = is.driven; phase = is.phase; hand = is.hand; domains = is.domains }
calm-line wiring state index (sent ∷ sents) is = record { driven = calm-at wiring state sent.port; phase = is.phase; hand = is.hand; domains = is.domains }

calm-round : (wiring : Parts) (state : State) (reply : Reply) → IsCalm wiring state → IsCalm wiring (after_round wiring state reply)
calm-round wiring state replies.Done is = is
calm-round wiring state (replies.Got m) is = is
calm-round wiring state (replies.Busy t) is = is
calm-round wiring state (replies.Short n) is = is
calm-round wiring state (replies.Fired t cuts) is = is
calm-round wiring state (replies.Dead by) is = is
calm-round wiring state (replies.Admitted t) is = is
calm-round wiring state replies.Booked is = is
calm-round wiring state (replies.Full n) is = is
calm-round wiring state (replies.Dropped d) is = is
calm-round wiring state (replies.Taken t) is = is
calm-round wiring state (replies.Drawn n) is = is
calm-round wiring state replies.Spent is = is
calm-round wiring state (replies.Left n) is = calm-from wiring state n 0 wiring.queues is

calm-work : (wiring : Parts) (state : State) (work : Work) (reply : Reply) → state.domains ≡ [] → IsCalm wiring state → IsCalm wiring (after_work wiring state work reply)
calm-work wiring state (lines index sents) reply at is = calm-line wiring state index sents is
calm-work wiring state round reply at is = calm-round wiring state reply is
calm-work wiring state (taking left queue more) reply at is = calm-take wiring state left queue more reply is
calm-work wiring state (playing task index play) reply at is = calm-play wiring state task index play play.posts reply at is
calm-work wiring state (posting task index play sent) reply at is = record { driven = calm-at wiring state sent.port; phase = is.phase; hand = is.hand; domains = is.domains }
calm-work wiring state (shedding task) reply at is = calm-over wiring state task at is
calm-work wiring state resting reply at is = is

pub work_calms : (wiring : Parts) (state : State) (reply : Reply) → state.hand ≡ [] → state.domains ≡ [] → spots_left state ≡ [] → state.phase ≡ booking → IsCalm wiring (after_work wiring state state.work reply)
work_calms wiring state reply none at driven phase =
    let spots-none : length (spots_left state) ≡ 0 = ap length driven in
    let no-domains : length state.domains ≡ 0 = ap length at in
    calm-work wiring state state.work reply at (record { driven = omega (arith, spots-none); phase = phase; hand = none; domains = omega (arith, no-domains) })

-- what is left of the work, the tasks that may still be taken first
abbrev pub all_work : State → ℕ
all_work state = (32768 - state.taken) * 2 ^ 40 + work_left state.work state.empty

-- and of this work
abbrev work_at : State → Work → ℕ
work_at state work = (32768 - state.taken) * 2 ^ 40 + work_left work state.empty

round-left : (b : Bool) (empty : ℕ) → work_left (cond b round resting) empty ≤ 180018
round-left true empty = omega arith
round-left false empty = omega arith

rest-left : (b : Bool) (empty : ℕ) → work_left (cond b resting round) empty ≤ (10000 - empty) * 18 + 18
rest-left true empty = omega arith
rest-left false empty = omega arith

from-falls : (wiring : Parts) (state : State) (left queue : ℕ) (parts : List QueuePart) → state.empty < 10000 → all_work (take_from wiring state left queue parts) ≤ (32768 - state.taken) * 2 ^ 40 + ((10000 - state.empty) * 18 + length parts)
from-falls wiring state left queue [] few = (let less = rest-left ((left == length wiring.posters) || nat_le 10000 (state.empty + 1)) (state.empty + 1) in omega (arith, few, less))
from-falls wiring state left queue (part ∷ parts) few = omega arith

take-falls : (wiring : Parts) (state : State) (left queue : ℕ) (more : List QueuePart) (reply : Reply) → state.taken < 32768 → state.empty < 10000 → IsPaced (after_take wiring state left queue more reply).work (after_take wiring state left queue more reply).taken (after_take wiring state left queue more reply).empty
    → all_work (after_take wiring state left queue more reply) < work_at state (taking left queue more)
take-falls wiring state left queue more replies.Done few rounds new = (let less = from-falls wiring state left (queue + 1) more rounds in omega (arith, less))
take-falls wiring state left queue more (replies.Got m) few rounds new = (let less = from-falls wiring state left (queue + 1) more rounds in omega (arith, less))
take-falls wiring state left queue more (replies.Busy t) few rounds new = (let less = from-falls wiring state left (queue + 1) more rounds in omega (arith, less))
take-falls wiring state left queue more (replies.Short n) few rounds new = (let less = from-falls wiring state left (queue + 1) more rounds in omega (arith, less))
take-falls wiring state left queue more (replies.Fired t cuts) few rounds new = (let less = from-falls wiring state left (queue + 1) more rounds in omega (arith, less))
take-falls wiring state left queue more (replies.Dead by) few rounds new = (let less = from-falls wiring state left (queue + 1) more rounds in omega (arith, less))
take-falls wiring state left queue more (replies.Admitted t) few rounds new = (let less = from-falls wiring state left (queue + 1) more rounds in omega (arith, less))
take-falls wiring state left queue more replies.Booked few rounds new = (let less = from-falls wiring state left (queue + 1) more rounds in omega (arith, less))
take-falls wiring state left queue more (replies.Full n) few rounds new = (let less = from-falls wiring state left (queue + 1) more rounds in omega (arith, less))
take-falls wiring state left queue more (replies.Dropped d) few rounds new = (let less = from-falls wiring state left (queue + 1) more rounds in omega (arith, less))
take-falls wiring state left queue more (replies.Taken None) few rounds new = (let less = from-falls wiring state left (queue + 1) more rounds in omega (arith, less))
take-falls wiring state left queue more (replies.Taken (Some task)) few rounds new = (let posts = new.0 in omega (arith, few, posts))
take-falls wiring state left queue more (replies.Drawn n) few rounds new = (let less = from-falls wiring state left (queue + 1) more rounds in omega (arith, less))
take-falls wiring state left queue more replies.Spent few rounds new = (let less = from-falls wiring state left (queue + 1) more rounds in omega (arith, less))
take-falls wiring state left queue more (replies.Left n) few rounds new = (let less = from-falls wiring state left (queue + 1) more rounds in omega (arith, less))

over-falls : (wiring : Parts) (state : State) (task : Task) → all_work (after_over wiring state task) < work_at state (shedding task)
over-falls wiring state task = (let less = round-left (nat_lt state.taken 32768) state.empty in omega (arith, less))

end-falls : (wiring : Parts) (state : State) (task : Task) (end : PlayEnd) → all_work (after_end wiring state task end) < work_at state (shedding task)
end-falls wiring state task plays.Done = over-falls wiring state task
end-falls wiring state task (plays.Failed value) = over-falls wiring state task
end-falls wiring state task (plays.Yield site) = (let less = round-left (nat_lt state.taken 32768) state.empty in omega (arith, less))

play-falls : (wiring : Parts) (state : State) (task : Task) (index : ℕ) (play : Play) (posts : List Sent) (reply : Reply) → play.posts ≡ posts → all_work (after_play wiring state task index play posts reply) < work_at state (playing task index play)
play-falls wiring state task index play [] reply is = (let less = end-falls wiring state task play.end in let none : length play.posts ≡ 0 = ap length is in omega (arith, less, none))
play-falls wiring state task index play (sent ∷ posts) replies.Done is = (let some : length play.posts ≡ suc (length posts) = ap length is in omega (arith, some))
play-falls wiring state task index play (sent ∷ posts) (replies.Got m) is = (let some : length play.posts ≡ suc (length posts) = ap length is in omega (arith, some))
play-falls wiring state task index play (sent ∷ posts) (replies.Busy t) is = (let some : length play.posts ≡ suc (length posts) = ap length is in omega (arith, some))
play-falls wiring state task index play (sent ∷ posts) (replies.Short n) is = (let some : length play.posts ≡ suc (length posts) = ap length is in omega (arith, some))
play-falls wiring state task index play (sent ∷ posts) (replies.Fired t cuts) is = (let some : length play.posts ≡ suc (length posts) = ap length is in omega (arith, some))
play-falls wiring state task index play (sent ∷ posts) (replies.Dead by) is = (let some : length play.posts ≡ suc (length posts) = ap length is in omega (arith, some))
play-falls wiring state task index play (sent ∷ posts) (replies.Admitted t) is = (let some : length play.posts ≡ suc (length posts) = ap length is in omega (arith, some))
play-falls wiring state task index play (sent ∷ posts) replies.Booked is = (let some : length play.posts ≡ suc (length posts) = ap length is in omega (arith, some))
play-falls wiring state task index play (sent ∷ posts) (replies.Full n) is = (let some : length play.posts ≡ suc (length posts) = ap length is in omega (arith, some))
play-falls wiring state task index play (sent ∷ posts) (replies.Dropped d) is = (let some : length play.posts ≡ suc (length posts) = ap length is in omega (arith, some))
play-falls wiring state task index play (sent ∷ posts) (replies.Taken t) is = (let some : length play.posts ≡ suc (length posts) = ap length is in omega (arith, some))
play-falls wiring state task index play (sent ∷ posts) (replies.Drawn n) is = (let some : length play.posts ≡ suc (length posts) = ap length is in omega (arith, some))
play-falls wiring state task index play (sent ∷ posts) replies.Spent is = (let some : length play.posts ≡ suc (length posts) = ap length is in omega (arith, some))
play-falls wiring state task index play (sent ∷ posts) (replies.Left n) is = (let some : length play.posts ≡ suc (length posts) = ap length is in omega (arith, some))

line-falls : (wiring : Parts) (state : State) (index : ℕ) (sents : List Sent) → all_work (after_line wiring state index sents) < work_at state (lines index sents)
line-falls wiring state index [] = omega arith
line-falls wiring state index (sent ∷ sents) = omega arith

round-falls : (wiring : Parts) (state : State) (reply : Reply) → IsValid wiring → state.empty < 10000 → Fitting (work_ask 0 round) reply → all_work (after_round wiring state reply) < work_at state round
round-falls wiring state replies.Done valid few fit = cc fit
round-falls wiring state (replies.Got m) valid few fit = cc fit
round-falls wiring state (replies.Busy t) valid few fit = cc fit
round-falls wiring state (replies.Short n) valid few fit = cc fit
round-falls wiring state (replies.Fired t cuts) valid few fit = cc fit
round-falls wiring state (replies.Dead by) valid few fit = cc fit
round-falls wiring state (replies.Admitted t) valid few fit = cc fit
round-falls wiring state replies.Booked valid few fit = cc fit
round-falls wiring state (replies.Full n) valid few fit = cc fit
round-falls wiring state (replies.Dropped d) valid few fit = cc fit
round-falls wiring state (replies.Taken t) valid few fit = cc fit
round-falls wiring state (replies.Drawn n) valid few fit = cc fit
round-falls wiring state replies.Spent valid few fit = cc fit
round-falls wiring state (replies.Left n) valid few fit = (let less = from-falls wiring state n 0 wiring.queues few in let queues = (sound wiring valid).small.queues in omega (arith, less, queues))

work-in : (wiring : Parts) (actor : ℕ) (state : State) (work : Work) (reply : Reply) → IsValid wiring → IsPaced work state.taken state.empty → IsPaced (after_work wiring state work reply).work (after_work wiring state work reply).taken (after_work wiring state work reply).empty → Fitting (work_ask actor work) reply
    → all_work (after_work wiring state work reply) < work_at state work
work-in wiring actor state (lines index sents) reply valid old new fit = line-falls wiring state index sents
work-in wiring actor state round reply valid old new fit = round-falls wiring state reply valid old.1 fit
work-in wiring actor state (taking left queue more) reply valid old new fit = take-falls wiring state left queue more reply old.0 old.1 new
work-in wiring actor state (playing task index play) reply valid old new fit = play-falls wiring state task index play play.posts reply refl
work-in wiring actor state (posting task index play sent) reply valid old new fit = omega arith
work-in wiring actor state (shedding task) reply valid old new fit = over-falls wiring state task
work-in wiring actor state resting reply valid old new fit = absurd fit

-- a step of the work leaves less of it
pub work_falls : (wiring : Parts) (actor : ℕ) (state : State) (reply : Reply) → IsValid wiring → IsPaced state.work state.taken state.empty → IsPaced (after_work wiring state state.work reply).work (after_work wiring state state.work reply).taken (after_work wiring state state.work reply).empty → Fitting (work_ask actor state.work) reply
    → all_work (after_work wiring state state.work reply) < all_work state
work_falls wiring actor state reply valid old new fit = work-in wiring actor state state.work reply valid old new fit

-- ---- what is in hand

put-fits : (ask : Ask) (task : Option Task) → fits (due_of ask) (replies.Dropped task) ≡ true → puts_by ask ≡ 1
put-fits (asks.Post m) task fit = cc fit
put-fits (asks.Claim t slot) task fit = cc fit
put-fits (asks.Consume t) task fit = cc fit
put-fits (asks.Free t) task fit = cc fit
put-fits (asks.Commit t m) task fit = cc fit
put-fits asks.Admit task fit = cc fit
put-fits (asks.Over t r how) task fit = cc fit
put-fits (asks.Suspend t) task fit = cc fit
put-fits (asks.Book t r) task fit = cc fit
put-fits (asks.Unbook t) task fit = cc fit
put-fits (asks.Put t) task fit = refl
put-fits asks.Take task fit = cc fit
put-fits asks.Draw task fit = cc fit
put-fits asks.Leave task fit = cc fit
put-fits asks.Left task fit = cc fit

too-few : (wiring : Parts) (state : State) (task : Task) → length (admit_too wiring state task) ≤ suc (length state.domains)
too-few wiring state task = by-test (nat_lt state.admitted 32768)
  where
    by-test : (b : Bool) → length (cond b (add_domain wiring task.arbiter state.domains) state.domains) ≤ suc (length state.domains)
    by-test true = add-few wiring task.arbiter state.domains
    by-test false = omega arith

-- a step of the hand leaves no more admissions, and less in hand
pub record IsLess (state new : State) : Type 0 where
  pub admissions : admissions_left new ≤ admissions_left state
  pub hand : settles_in new.hand < settles_in state.hand

goes : (state : State) (one : Asked) (more : List Asked) → state.hand ≡ one ∷ more → IsLess state (record state { hand = more })
goes state one more at =
    let puts : put_count state.hand ≡ puts_by one.ask + put_count more = ap put_count at in
    let count : length state.hand ≡ suc (length more) = ap length at in
    record { admissions = omega (arith, puts); hand = omega (arith, puts, count) }

pub hand_falls : (wiring : Parts) (state : State) (one : Asked) (more : List Asked) (reply : Reply) → state.hand ≡ one ∷ more → fits (due_of one.ask) reply ≡ true → IsLess state (settled wiring state more reply)
hand_falls wiring state one more replies.Done at fit = goes state one more at
hand_falls wiring state one more (replies.Got m) at fit = goes state one more at
hand_falls wiring state one more (replies.Busy t) at fit = goes state one more at
hand_falls wiring state one more (replies.Short n) at fit = goes state one more at
hand_falls wiring state one more (replies.Fired t cuts) at fit = goes state one more at
hand_falls wiring state one more (replies.Dead by) at fit = goes state one more at
hand_falls wiring state one more (replies.Admitted t) at fit = goes state one more at
hand_falls wiring state one more replies.Booked at fit = goes state one more at
hand_falls wiring state one more (replies.Full n) at fit = goes state one more at
hand_falls wiring state one more (replies.Dropped None) at fit = goes state one more at
hand_falls wiring state one more (replies.Dropped (Some task)) at fit =
    let puts : put_count state.hand ≡ puts_by one.ask + put_count more = ap put_count at in
    let count : length state.hand ≡ suc (length more) = ap length at in
    let put = put-fits one.ask (Some task) fit in
    let few = too-few wiring state task in
    record { admissions = omega (arith, puts, put, few); hand = omega (arith, puts, count, put) }
hand_falls wiring state one more (replies.Taken t) at fit = goes state one more at
hand_falls wiring state one more (replies.Drawn n) at fit = goes state one more at
hand_falls wiring state one more replies.Spent at fit = goes state one more at
hand_falls wiring state one more (replies.Left n) at fit = goes state one more at

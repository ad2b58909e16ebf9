-- How much an actor has still to do.
use Rattle.std.specs.Prelude.{ℕ, ◌+◌, ◌-◌, ◌*◌, ◌^◌, List, [], ◌∷◌, length, if◌then◌else◌}
use Rattle.ccr_base.specs.Bounds.{most_empty_rounds, most_queues}
use Rattle.ccr_wiring.specs.declared.parts.Parts.{Parts}
use Rattle.ccr_wiring.specs.Wirings.{spots}
use Rattle.ccr_claim.specs.declared.asks.Ask.{Ask}
use Rattle.ccr_claim.specs.declared.asks.Ask.TheVariants as asks
use Rattle.ccr_claim.specs.declared.asks.Asked.{Asked}
use Rattle.ccr_claim.specs.Attempts.{Phase, booking, claiming}
use Rattle.ccr_actor.specs.Acting.{Acting}
use Rattle.ccr_actor.specs.Actors.{most_admitted, most_fired, most_taken, State, Work, lines, round, taking, playing, posting, shedding, resting, spots_left}
use Rattle.ccr_actor.specs.Courses.{owing}

-- ---- what is in hand

-- how many tasks the ask queues
abbrev pub puts_by : Ask → ℕ
puts_by (asks.Put task) = 1
puts_by _ = 0

-- how many tasks are still to be put
abbrev pub put_count : List Asked → ℕ
put_count [] = 0
put_count (one ∷ more) = puts_by one.ask + put_count more

-- how many asks it takes to settle these: a put may leave one more
abbrev pub settles_in : List Asked → ℕ
settles_in hand = length hand + put_count hand

-- what it takes to settle all that the actor has, and what its attempt would hand back
abbrev pub owed_by : Acting → ℕ
owed_by a = settles_in (owing a.wiring a.actor a.state)

-- ---- what comes behind that

-- the admissions that are left in this run, a put may add an Interleave
abbrev pub admissions_left : State → ℕ
admissions_left state = 3 * (most_admitted - state.admitted) + (length state.domains + 2 * put_count state.hand)

-- more than what is left of the admissions where none has begun
abbrev pub admissions_most : ℕ
admissions_most = 3 * most_admitted + 96

-- more asks than an attempt has
abbrev pub attempt_most : ℕ
attempt_most = 16

-- the asks that are left of the attempt: a booking is followed by at most eight claims and the commit
abbrev pub phase_left : Phase → ℕ
phase_left booking = 11
phase_left (claiming slots had) = 1 + length slots

-- the attempts that are left in this drive
abbrev pub drive_left : State → ℕ
drive_left state = (length (spots_left state) + (most_fired - state.fired)) * attempt_most + phase_left state.phase

-- more than a drive of these spots has
abbrev pub drive_most : Parts → ℕ
drive_most wiring = (length (spots wiring) + (most_fired + 1)) * attempt_most + 12

-- more asks than a round has: of the meter, and of at most 16 queues
abbrev pub round_most : ℕ
round_most = most_queues + 2

-- what all empty rounds take
abbrev pub rounds_most : ℕ
rounds_most = most_empty_rounds * round_most

-- what is left of the work until the next task is taken: at most 10,000 empty rounds of at most 16 queues
abbrev pub work_left : Work → ℕ → ℕ
work_left (lines index sents) empty = 1 + length sents
work_left round empty = (most_empty_rounds - empty) * round_most + round_most
work_left (taking left queue more) empty = (most_empty_rounds - empty) * round_most + (1 + length more)
work_left (playing task index play) empty = rounds_most + 22 + 2 * length play.posts
work_left (posting task index play sent) empty = rounds_most + 23 + 2 * length play.posts
work_left (shedding task) empty = rounds_most + 21
work_left resting empty = 0

-- the tasks that may still be taken come first, then the work, the drive and the admissions; nothing is left once it is short
abbrev pub steps_left : Acting → ℕ
steps_left a =
    if a.state.is_short then 0 else
    (1 + ((((most_taken - a.state.taken) * 2 ^ 40 + work_left a.state.work a.state.empty) * drive_most a.wiring + drive_left a.state) * admissions_most + admissions_left a.state))

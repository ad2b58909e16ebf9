-- What an actor asks next: a machine whose state follows from the replies alone.
use Rattle.std.specs.Prelude.{ℕ, ◌+◌, ◌^◌, Bool, true, false, not, ◌==◌, ◌&&◌, ◌||◌, nat_lt, nat_le, List, [], ◌∷◌, ◌++◌, length, take, drop, fold, Option, Some, None, if◌then◌else◌}
use Rattle.std.specs.List.{slice_get, list_any}
use Rattle.std.specs.Option.{option_map_or}
use Rattle.ccr_base.specs.Bounds.{most_empty_rounds}
use Rattle.ccr_base.specs.declared.messages.Msg.{Msg}
use Rattle.ccr_base.specs.declared.messages.Sent.{Sent}
use Rattle.ccr_base.specs.declared.names.MsgId.TheVariants as names
use Rattle.ccr_base.specs.declared.names.Place.TheVariants as places
use Rattle.ccr_base.specs.declared.names.Spot.{Spot}
use Rattle.ccr_base.specs.declared.names.TaskId.{TaskId}
use Rattle.ccr_base.specs.declared.tasks.Cut.{Cut}
use Rattle.ccr_base.specs.declared.tasks.How.TheVariants as hows
use Rattle.ccr_base.specs.declared.tasks.Task.{Task}
use Rattle.ccr_handler.specs.declared.segments.Play.{Play}
use Rattle.ccr_handler.specs.declared.segments.PlayEnd.{PlayEnd}
use Rattle.ccr_handler.specs.declared.segments.PlayEnd.TheVariants as plays
use Rattle.ccr_handler.specs.Playing.{branch_play}
use Rattle.ccr_wiring.specs.declared.parts.Parts.{Parts}
use Rattle.ccr_wiring.specs.declared.parts.PosterPart.{PosterPart}
use Rattle.ccr_wiring.specs.declared.parts.QueuePart.{QueuePart}
use Rattle.ccr_wiring.specs.Wirings.{branch_of, segment_of, next_site, policy_of, domain_of_spot}
use Rattle.ccr_claim.specs.declared.asks.Ask.TheVariants as asks
use Rattle.ccr_claim.specs.declared.asks.Asked.{Asked}
use Rattle.ccr_claim.specs.declared.asks.Reply.{Reply}
use Rattle.ccr_claim.specs.declared.asks.Reply.TheVariants as replies
use Rattle.ccr_claim.specs.Lines.{line_ask}
use Rattle.ccr_claim.specs.Plans.{slots_in}
use Rattle.ccr_claim.specs.Attempts.{at_place, Phase, booking, claiming, had_in, attempt_ask, release, firing_hand, put_ask, over_dropped, claimed}
use Rattle.ccr_wiring.specs.Takers.{spots_at}
use Rattle.ccr_actor.specs.Plans.{plan_of, throttled, is_interleave_number}

-- of an actor, at most: the firings of one drive, the admissions of one run of them, the tasks that a worker takes
abbrev pub most_fired : ℕ
most_fired = 32768

abbrev pub most_admitted : ℕ
most_admitted = 32768

abbrev pub most_taken : ℕ
most_taken = 32768

-- what an actor does between drives: the rest of a script, a round, a take (how many posters have left, the queue, those
-- behind it), a play (its task, how many posts are made, the rest), a post that was drawn, an end for want of budget, rest
pub data Work : Type 0 where
  lines : ℕ → List Sent → Work
  round : Work
  taking : ℕ → ℕ → List QueuePart → Work
  playing : Task → ℕ → Play → Work
  posting : Task → ℕ → Play → Sent → Work
  shedding : Task → Work
  resting : Work

-- it settles what it has in hand, then does the admissions, then drives its spots, then goes on with its work
pub record State : Type 0 where
  pub hand : List Asked
  pub domains : List ℕ
  pub admitted : ℕ
  pub spots : List Spot
  pub phase : Phase
  pub fired : ℕ
  pub work : Work
  pub attempt : ℕ
  pub taken : ℕ
  pub empty : ℕ
  pub is_short : Bool

-- the name of the actor's attempt
abbrev pub name_at : ℕ → State → TaskId
name_at actor state = record { actor = actor; attempt = state.attempt }

-- ---- the ask

-- the message that a task's post is
abbrev pub task_message : TaskId → ℕ → Sent → Msg
task_message task index sent = record { id = names.Task task index; port = sent.port; value = sent.value; causes = sent.causes }

-- how the end of a play is told: the root is over, or the task is suspended
abbrev pub end_ask : Task → Play → PlayEnd → Asked
end_ask task play plays.Done = at_place (places.Arbiter task.arbiter) (asks.Over task.id task.root hows.Done)
end_ask task play (plays.Failed value) = at_place (places.Arbiter task.arbiter) (asks.Over task.id task.root (hows.Failed value))
end_ask task play (plays.Yield site) = at_place (places.Site (branch_of task.spot) (segment_of task.spot)) (asks.Suspend (record task { causes = play.causes }))

-- a draw from the budget for the next post; the end where no post is left
abbrev pub play_ask : Task → Play → List Sent → Asked
play_ask task play [] = end_ask task play play.end
play_ask task play (sent ∷ posts) = at_place places.Meter asks.Draw

-- the post that was drawn for
abbrev pub post_ask : Task → ℕ → Sent → Asked
post_ask task index sent = at_place (places.Port sent.port) (asks.Post (task_message task.id index sent))

-- what the work asks next; nothing where it rests
abbrev pub work_ask : ℕ → Work → Option Asked
work_ask actor (lines index sents) = Some (line_ask actor index sents)
work_ask actor round = Some (at_place places.Meter asks.Left)
work_ask actor (taking left queue more) = Some (at_place (places.Queue queue) asks.Take)
work_ask actor (playing task index play) = Some (play_ask task play play.posts)
work_ask actor (posting task index play sent) = Some (post_ask task index sent)
work_ask actor (shedding task) = Some (at_place (places.Arbiter task.arbiter) (asks.Over task.id task.root hows.Shed))
work_ask actor resting = None

-- which part of the state asks
pub data Turn : Type 0 where
  settle : Asked → List Asked → Turn
  admit : ℕ → List ℕ → Turn
  drive : Spot → List Spot → Turn
  go_on : Turn
  stop : Turn

-- what comes first: what is owed, then admissions, then attempts, then the work
abbrev pub turn_of : Bool → List Asked → List ℕ → List Spot → Turn
turn_of short (asked ∷ more) domains spots = settle asked more
turn_of true [] domains spots = stop
turn_of false [] (domain ∷ domains) spots = admit domain domains
turn_of false [] [] (spot ∷ spots) = drive spot spots
turn_of false [] [] [] = go_on

-- the spots that are driven while attempt numbers are left
abbrev pub spots_left : State → List Spot
spots_left state = if nat_lt state.attempt (2 ^ 32) then state.spots else []

-- what the actor turns to next
abbrev pub turn : State → Turn
turn state = turn_of state.is_short state.hand state.domains (spots_left state)

-- the ask of this turn
abbrev pub ask_in : Parts → ℕ → State → Turn → Option Asked
ask_in wiring actor state (settle asked more) = Some asked
ask_in wiring actor state (admit domain more) = Some (at_place (places.Arbiter domain) asks.Admit)
ask_in wiring actor state (drive spot more) = Some (attempt_ask (plan_of wiring spot) (name_at actor state) state.phase)
ask_in wiring actor state go_on = work_ask actor state.work
ask_in wiring actor state stop = None

-- what the actor asks in this state
abbrev pub asked : Parts → ℕ → State → Option Asked
asked wiring actor state = ask_in wiring actor state (turn state)

-- ---- the state after a reply

-- the domain, where it is one of Interleaves and isn't in the list
abbrev pub add_domain : Parts → ℕ → List ℕ → List ℕ
add_domain wiring domain domains = if is_interleave_number wiring domain && not (list_any (λ other. other == domain) domains) then domains ++ domain ∷ [] else domains

-- the Interleave of a dropped task, unless the run of admissions has reached its bound
abbrev pub admit_too : Parts → State → Task → List ℕ
admit_too wiring state task = if nat_lt state.admitted most_admitted then add_domain wiring task.arbiter state.domains else state.domains

-- a dropped task is noted over at once, and admissions follow at its Interleave
abbrev pub dropping : Parts → State → Task → State
dropping wiring state task = record state { hand = over_dropped task ∷ state.hand; domains = admit_too wiring state task }

-- the asks in hand go on; a dropped task is noted over at once
abbrev pub settled : Parts → State → List Asked → Reply → State
settled wiring state more (replies.Dropped (Some task)) = record state { hand = over_dropped task ∷ more; domains = admit_too wiring state task }
settled wiring state more _ = record state { hand = more }

-- the first Interleave is struck off
abbrev pub strike : State → List ℕ → State
strike state more = record state { domains = more }

-- an admitted task is put; after so many, which no run within the limits reaches, the run of admissions ends. The count
-- begins anew with a firing and with an end, so no put of this run begins another
abbrev pub put_admitted : State → List ℕ → Task → State
put_admitted state more task = record state { hand = put_ask task ∷ []; admitted = state.admitted + 1; domains = if nat_lt (state.admitted + 1) most_admitted then state.domains else [] }

-- an admitted task is queued; else this domain is done
abbrev pub after_admit : State → List ℕ → Reply → State
after_admit state more (replies.Admitted (Some task)) = put_admitted state more task
after_admit state more _ = strike state more

-- the attempt has ended, with these asks to be settled, and these spots are driven on
abbrev pub end_attempt : State → List Asked → List Spot → State
end_attempt state hand spots = record state { hand = hand; spots = spots; phase = booking; attempt = state.attempt + 1 }

-- the attempt ends, and hands back what it has
abbrev pub give_up : Parts → ℕ → State → Spot → List Spot → State
give_up wiring actor state spot more = end_attempt state (release (plan_of wiring spot) (name_at actor state) state.phase) more

-- after a firing that waits, admissions at its Interleave
abbrev pub admissions_after : Parts → Spot → Option Task → List ℕ
admissions_after wiring spot None = domain_of_spot wiring spot ∷ []
admissions_after wiring spot (Some task) = []

-- after so many firings the drive ends
abbrev pub driven_on : State → Spot → List Spot → List Spot
driven_on state spot more = if nat_lt (state.fired + 1) most_fired then spot ∷ more else []

-- the attempt ends with a firing; what that asks for is owed
abbrev pub fire : Parts → ℕ → State → Spot → List Spot → Option Task → List Cut → State
fire wiring actor state spot more task cuts =
    record (end_attempt state (firing_hand (name_at actor state) (had_in state.phase) task cuts) (driven_on state spot more)) {
      fired = state.fired + 1;
      domains = admissions_after wiring spot task;
      admitted = 0;
    }

-- the attempt after a reply
abbrev pub after_attempt : Parts → ℕ → State → Spot → List Spot → Reply → State
after_attempt wiring actor state spot more replies.Booked = record state { phase = claiming (slots_in (plan_of wiring spot).pattern) [] }
after_attempt wiring actor state spot more (replies.Got messages) = record state { phase = claimed (plan_of wiring spot) messages state.phase }
after_attempt wiring actor state spot more (replies.Fired task cuts) = fire wiring actor state spot more task cuts
after_attempt wiring actor state spot more _ = give_up wiring actor state spot more

-- a drive of these spots begins; no attempt is under way, so the phase is booking already
abbrev pub driving : State → List Spot → State
driving state spots = record state { spots = spots; fired = 0 }

-- an empty round: rest where all posters have left, or after so many
abbrev pub rest_or_round : Parts → State → ℕ → State
rest_or_round wiring state left = record state { work = if (left == length wiring.posters) || nat_le most_empty_rounds (state.empty + 1) then resting else round; empty = state.empty + 1 }

-- the queues from this one on are still to be asked
abbrev pub take_from : Parts → State → ℕ → ℕ → List QueuePart → State
take_from wiring state left queue [] = rest_or_round wiring state left
take_from wiring state left queue (part ∷ parts) = record state { work = taking left queue parts }

-- the play of the task's segment
abbrev pub play_in : Parts → Task → Play
play_in wiring task = branch_play wiring (branch_of task.spot) (segment_of task.spot) task.values task.causes

-- the task that was taken is played
abbrev pub begin_play : Parts → State → ℕ → Task → State
begin_play wiring state queue task = record (driving state (throttled wiring queue (policy_of wiring queue))) { work = playing task 0 (play_in wiring task); taken = state.taken + 1 }

-- a task is played; where there was none the next queue is asked
abbrev pub after_take : Parts → State → ℕ → ℕ → List QueuePart → Reply → State
after_take wiring state left queue more (replies.Taken (Some task)) = begin_play wiring state queue task
after_take wiring state left queue more _ = take_from wiring state left (queue + 1) more

-- after so many tasks a worker takes no more
abbrev pub next_round : ℕ → Work
next_round taken = if nat_lt taken most_taken then round else resting

-- the work goes on, and the domain of the root is asked for admissions
abbrev pub after_over : Parts → State → Task → State
after_over wiring state task = record state { work = next_round state.taken; domains = add_domain wiring task.arbiter state.domains; admitted = 0 }

-- a suspended task's site is driven; else the root was over
abbrev pub after_end : Parts → State → Task → PlayEnd → State
after_end wiring state task (plays.Yield site) = record (driving state (next_site task.spot ∷ [])) { work = next_round state.taken }
after_end wiring state task _ = after_over wiring state task

-- a post that was drawn for comes next, a task without budget is shed, and an end goes on
abbrev pub after_play : Parts → State → Task → ℕ → Play → List Sent → Reply → State
after_play wiring state task index play [] reply = after_end wiring state task play.end
after_play wiring state task index play (sent ∷ posts) (replies.Drawn n) = record state { work = posting task index (record play { posts = posts }) sent }
after_play wiring state task index play (sent ∷ posts) _ = record state { work = shedding task }

-- the spots at the port of the line are driven; a poster that left rests
abbrev pub after_line : Parts → State → ℕ → List Sent → State
after_line wiring state index [] = record state { work = resting }
after_line wiring state index (sent ∷ sents) = record (driving state (spots_at wiring sent.port)) { work = lines (index + 1) sents }

-- the spots at the port of the post are driven, and the play goes on behind it
abbrev pub after_posting : Parts → State → Task → ℕ → Play → Sent → State
after_posting wiring state task index play sent = record (driving state (spots_at wiring sent.port)) { work = playing task (index + 1) play }

-- the queues are asked, where the meter said what is left
abbrev pub after_round : Parts → State → Reply → State
after_round wiring state (replies.Left n) = take_from wiring state n 0 wiring.queues
after_round wiring state _ = state

-- the work after a reply
abbrev pub after_work : Parts → State → Work → Reply → State
after_work wiring state (lines index sents) reply = after_line wiring state index sents
after_work wiring state round reply = after_round wiring state reply
after_work wiring state (taking left queue more) reply = after_take wiring state left queue more reply
after_work wiring state (playing task index play) reply = after_play wiring state task index play play.posts reply
after_work wiring state (posting task index play sent) reply = after_posting wiring state task index play sent
after_work wiring state (shedding task) reply = after_over wiring state task
after_work wiring state resting reply = state

-- the state after the reply to this turn's ask
abbrev pub after_in : Parts → ℕ → State → Turn → Reply → State
after_in wiring actor state (settle asked more) reply = settled wiring state more reply
after_in wiring actor state (admit domain more) reply = after_admit state more reply
after_in wiring actor state (drive spot more) reply = after_attempt wiring actor state spot more reply
after_in wiring actor state go_on reply = after_work wiring state state.work reply
after_in wiring actor state stop reply = state

-- ---- running out of memory

-- what the attempt under way hands back
abbrev pub in_attempt : Parts → ℕ → State → List Spot → List Asked
in_attempt wiring actor state [] = []
in_attempt wiring actor state (spot ∷ more) = release (plan_of wiring spot) (name_at actor state) state.phase

-- what is in hand is settled, and nothing else
abbrev pub shorten : Parts → ℕ → State → State
shorten wiring actor state = record (end_attempt state (state.hand ++ in_attempt wiring actor state state.spots) []) { is_short = true }

-- one step: the ask, and its reply
abbrev pub after : Parts → ℕ → State → Reply → State
after wiring actor state reply = after_in wiring actor state (turn state) reply

-- a poster's script; a worker begins with a round
abbrev pub work_of : Parts → ℕ → Work
work_of wiring actor = option_map_or (λ (p : PosterPart). lines 0 p.posts) (slice_get wiring.posters actor) round

-- an actor with this work that has made no step
abbrev pub fresh_state : Work → State
fresh_state work = record { hand = []; domains = []; admitted = 0; spots = []; phase = booking; fired = 0; work = work; attempt = 0; taken = 0; empty = 0; is_short = false }

-- before its first step
abbrev pub start : Parts → ℕ → State
start wiring actor = fresh_state (work_of wiring actor)

-- after these replies, where there was memory throughout
abbrev pub after_all : Parts → ℕ → State → List Reply → State
after_all wiring actor state given = fold (after wiring actor) state given

-- the actor after these replies, if it found no memory after so many steps
abbrev pub state_after : Parts → ℕ → Option ℕ → List Reply → State
state_after wiring actor None given = after_all wiring actor (start wiring actor) given
state_after wiring actor (Some n) given =
    if nat_le n (length given)
    then after_all wiring actor (shorten wiring actor (after_all wiring actor (start wiring actor) (take n given))) (drop n given)
    else after_all wiring actor (start wiring actor) given

-- what the actor asks after these replies
abbrev pub next : Parts → ℕ → Option ℕ → List Reply → Option Asked
next wiring actor lack given = asked wiring actor (state_after wiring actor lack given)

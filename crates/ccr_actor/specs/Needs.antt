-- Which replies an actor needs memory for, and which task it has no numbers for.
use Rattle.std.specs.Prelude.{ℕ, ◌^◌, Bool, true, false, not, ◌==◌, ◌&&◌, ◌||◌, nat_lt, nat_le, List, [], ◌∷◌, length, Some, None}
use Rattle.std.specs.List.{list_any}
use Rattle.ccr_base.specs.declared.messages.Sent.{Sent}
use Rattle.ccr_base.specs.declared.tasks.Task.{Task}
use Rattle.ccr_handler.specs.declared.segments.PlayEnd.{PlayEnd}
use Rattle.ccr_handler.specs.declared.segments.PlayEnd.TheVariants as plays
use Rattle.ccr_wiring.specs.declared.parts.Parts.{Parts}
use Rattle.ccr_wiring.specs.Wirings.{segment_of}
use Rattle.ccr_claim.specs.declared.asks.Reply.{Reply}
use Rattle.ccr_claim.specs.declared.asks.Reply.TheVariants as replies
use Rattle.ccr_claim.specs.Attempts.{Phase, booking, claiming}
use Rattle.ccr_actor.specs.Acting.{Acting, Asking, quiet, settling, going, state_after_reply}
use Rattle.ccr_actor.specs.Actors.{most_admitted, State, Work, lines, round, taking, playing, posting, shedding, resting, Turn, settle, admit, drive, go_on, stop, turn, play_in}
use Rattle.ccr_wiring.specs.Takers.{spots_at}
use Rattle.ccr_actor.specs.Plans.{is_interleave_number}

-- whether there is anything in the list
abbrev pub has_any : {A : Type 0} → List A → Bool
has_any [] = false
has_any (one ∷ more) = true

-- ---- what is kept of a reply

-- whether the domain is added to the run of admissions
abbrev pub adds_domain : Parts → ℕ → List ℕ → Bool
adds_domain wiring domain domains = is_interleave_number wiring domain && not (list_any (λ other. other == domain) domains)

-- that of a dropped task is, unless the run of admissions has reached its bound
abbrev pub settling_needs : Parts → State → Reply → Bool
settling_needs wiring state (replies.Dropped (Some task)) = nat_lt state.admitted most_admitted && adds_domain wiring task.arbiter state.domains
settling_needs wiring state _ = false

-- an attempt that runs on may make its commit ready; where a firing waits its domain is added
abbrev pub attempt_needs : Reply → Bool
attempt_needs replies.Booked = true
attempt_needs (replies.Got messages) = true
attempt_needs (replies.Fired None cuts) = true
attempt_needs _ = false

-- the site of a suspended task is to be driven; the Interleave of one that is over is added
abbrev pub end_needs : Parts → State → Task → PlayEnd → Bool
end_needs wiring state task (plays.Yield site) = true
end_needs wiring state task _ = adds_domain wiring task.arbiter state.domains

-- a draw needs none, the end of a play may
abbrev pub play_needs : Parts → State → Task → PlayEnd → List Sent → Bool
play_needs wiring state task end [] = end_needs wiring state task end
play_needs wiring state task end (sent ∷ posts) = false

-- the spots that name the port of a posted line are to be driven
abbrev pub line_needs : Parts → List Sent → Bool
line_needs wiring [] = false
line_needs wiring (sent ∷ sents) = has_any (spots_at wiring sent.port)

-- the play of a task that is taken is made
abbrev pub take_needs : Reply → Bool
take_needs (replies.Taken (Some task)) = true
take_needs _ = false

-- what the work keeps of a reply
abbrev pub work_needs : Parts → State → Work → Reply → Bool
work_needs wiring state (lines index sents) reply = line_needs wiring sents
work_needs wiring state round reply = false
work_needs wiring state (taking left queue more) reply = take_needs reply
work_needs wiring state (playing task index play) reply = play_needs wiring state task play.end play.posts
work_needs wiring state (posting task index play sent) reply = has_any (spots_at wiring sent.port)
work_needs wiring state (shedding task) reply = adds_domain wiring task.arbiter state.domains
work_needs wiring state resting reply = false

-- what the turn whose reply it is keeps of it
abbrev pub turn_needs : Parts → State → Turn → Reply → Bool
turn_needs wiring state (settle one more) reply = settling_needs wiring state reply
turn_needs wiring state (admit domain more) reply = false
turn_needs wiring state (drive spot more) reply = attempt_needs reply
turn_needs wiring state go_on reply = work_needs wiring state state.work reply
turn_needs wiring state stop reply = false

-- what the actor keeps of a reply, by what it waits for
abbrev pub kept_needs : Acting → Asking → Reply → Bool
kept_needs a quiet reply = false
kept_needs a (settling due) reply = settling_needs a.wiring a.state reply
kept_needs a (going due) reply = turn_needs a.wiring a.state (turn a.state) reply

-- ---- what is asked next

-- a post of a script goes out with a copy of its causes
abbrev pub post_needs : List Sent → Bool
post_needs [] = false
post_needs (sent ∷ sents) = has_any sent.causes

-- the next line of a script is such a post
abbrev pub next_work_needs : Work → Bool
next_work_needs (lines index sents) = post_needs sents
next_work_needs _ = false

-- an attempt begins with the plan at its spot
abbrev pub begins : Phase → Bool
begins booking = true
begins (claiming slots had) = false

-- whether making the turn's ask ready needs memory
abbrev pub ready_needs : State → Turn → Bool
ready_needs state (drive spot more) = begins state.phase
ready_needs state go_on = next_work_needs state.work
ready_needs state _ = false

-- whether what is asked next in this state needs memory
abbrev pub next_needs : State → Bool
next_needs state = ready_needs state (turn state)

-- ---- a step

-- whether the reply needs memory: for what is kept of it, or for what is asked next
abbrev pub needs_memory : Acting → Reply → Bool
needs_memory a reply = kept_needs a a.asking reply || next_needs (state_after_reply a a.asking reply)

-- ---- numbers

-- the task's segment has no number of 32 bits, or there are more posts in its play than such numbers
abbrev pub is_unnumbered : Parts → Task → Bool
is_unnumbered wiring task = nat_le (2 ^ 32) (segment_of task.spot) || nat_le (2 ^ 32) (length (play_in wiring task).posts)

-- whether a queue gave such a task
abbrev pub take_unnumbered : Parts → Reply → Bool
take_unnumbered wiring (replies.Taken (Some task)) = is_unnumbered wiring task
take_unnumbered wiring _ = false

-- whether a worker that takes was given such a task
abbrev pub work_unnumbered : Parts → Work → Reply → Bool
work_unnumbered wiring (taking left queue more) reply = take_unnumbered wiring reply
work_unnumbered wiring _ reply = false

-- whether the turn's reply is such a task
abbrev pub turn_unnumbered : Parts → State → Turn → Reply → Bool
turn_unnumbered wiring state go_on reply = work_unnumbered wiring state.work reply
turn_unnumbered wiring state _ reply = false

-- whether the reply that the actor waits for is such a task
abbrev pub taken_unnumbered : Acting → Asking → Reply → Bool
taken_unnumbered a (going due) reply = turn_unnumbered a.wiring a.state (turn a.state) reply
taken_unnumbered a _ reply = false

-- whether the reply is such a task, taken from a queue
abbrev pub takes_unnumbered : Acting → Reply → Bool
takes_unnumbered a reply = taken_unnumbered a a.asking reply

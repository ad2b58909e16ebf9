-- An actor as its contracts see it: its state as far as it counts, and whether an ask of it is unanswered.
use Rattle.std.specs.Prelude.{◌≡◌, ◌⊎◌, ℕ, Bool, true, false, List, [], Option, Some, None, Ok, Err}
use Rattle.ccr_base.specs.declared.messages.Sent.{Sent}
use Rattle.ccr_base.specs.declared.names.Place.{Place}
use Rattle.ccr_base.specs.declared.tasks.Task.{Task}
use Rattle.ccr_handler.specs.declared.segments.Play.{Play}
use Rattle.ccr_handler.specs.declared.segments.PlayEnd.{PlayEnd}
use Rattle.ccr_handler.specs.declared.segments.PlayEnd.TheVariants as plays
use Rattle.ccr_wiring.specs.declared.parts.Parts.{Parts}
use Rattle.ccr_claim.specs.declared.asks.Ask.{Ask}
use Rattle.ccr_claim.specs.declared.asks.Asked.{Asked}
use Rattle.ccr_claim.specs.declared.asks.Due.{Due}
use Rattle.ccr_claim.specs.declared.asks.Due.TheVariants as dues
use Rattle.ccr_claim.specs.declared.asks.Reply.{Reply}
use Rattle.ccr_claim.specs.Asks.{MaybeReply, due_of}
use Rattle.ccr_actor.specs.Actors.{State, Work, playing, posting, resting, Turn, settle, go_on, turn, asked, settled, after, shorten, fresh_state, start}

-- what is unanswered: nothing, an ask of the hand, or another, with the replies that it may have
pub data Asking : Type 0 where
  quiet : Asking
  settling : Due → Asking
  going : Due → Asking

-- the wiring that it serves, its number, its state, and what is unanswered
pub record Acting : Type 0 where
  pub wiring : Parts
  pub actor : ℕ
  pub state : State
  pub asking : Asking

-- which replies the unanswered ask may have
abbrev pub due_in : Asking → Due
due_in quiet = dues.Nothing
due_in (settling due) = due
due_in (going due) = due

-- a short actor, of which nothing but its hand counts
abbrev pub bare : List Asked → State
bare hand = record (fresh_state resting) { hand = hand; is_short = true }

-- the state of an actor that was told that memory ran out, where it was
abbrev pub kept_if : Bool → State → State
kept_if true state = bare state.hand
kept_if false state = state

-- what of the state counts
abbrev pub kept : State → State
kept state = kept_if state.is_short state

-- the actor in this state, with no ask unanswered
abbrev pub at_state : Parts → ℕ → State → Acting
at_state wiring actor state = record { wiring = wiring; actor = actor; state = kept state; asking = quiet }

-- before its first step
abbrev pub started : Parts → ℕ → Acting
started wiring actor = at_state wiring actor (start wiring actor)

-- the place and what is asked of it
abbrev pub pair_of : Asked → Place × Ask
pair_of one = (one.place, one.ask)

-- ---- once the next ask is made

-- a suspended task goes out with its values and causes
abbrev pub sent_play : Task → ℕ → Play → List Sent → PlayEnd → Work
sent_play task index play [] (plays.Yield site) = playing (record task { values = []; causes = [] }) index (record play { causes = [] })
sent_play task index play posts end = playing task index play

-- and a post with its causes
abbrev pub sent_work : Work → Work
sent_work (playing task index play) = sent_play task index play play.posts play.end
sent_work (posting task index play sent) = posting task index play (record sent { causes = [] })
sent_work work = work

-- the state once the ask of this turn was sent
abbrev pub sent_state : State → Turn → State
sent_state state (settle one more) = record state { hand = more }
sent_state state go_on = record state { work = sent_work state.work }
sent_state state _ = state

-- what the actor waits for after this ask: an end of what it owes, or the next step
abbrev pub asking_by : Turn → Ask → Asking
asking_by (settle one more) ask = settling (due_of ask)
asking_by _ ask = going (due_of ask)

-- what the actor waits for; nothing where it asked nothing
abbrev pub asking_of : Turn → Option Asked → Asking
asking_of part None = quiet
asking_of part (Some one) = asking_by part one.ask

-- what it asks next
abbrev pub next : Acting → Option Asked
next a = asked a.wiring a.actor a.state

-- once it has asked that
abbrev pub sent : Acting → Acting
sent a = record a { state = sent_state a.state (turn a.state); asking = asking_of (turn a.state) (next a) }

-- ---- once that is answered

-- the state once the reply came
abbrev pub state_after_reply : Acting → Asking → Reply → State
state_after_reply a quiet reply = a.state
state_after_reply a (settling due) reply = settled a.wiring a.state a.state.hand reply
state_after_reply a (going due) reply = after a.wiring a.actor a.state reply

-- the actor once the reply came
abbrev pub answered : Acting → Reply → Acting
answered a reply = at_state a.wiring a.actor (state_after_reply a a.asking reply)

-- where it found no memory
abbrev pub shortened : Acting → Acting
shortened a = at_state a.wiring a.actor (shorten a.wiring a.actor a.state)

-- after this answer, or short then of memory
abbrev pub IsAfter : Acting → MaybeReply → Acting → Type 0
IsAfter a (Ok reply) new = (new ≡ answered a reply) ⊎ ((a.state.is_short ≡ false) × (new ≡ shortened (answered a reply)))
IsAfter a (Err refused) new = new ≡ shortened a

-- ---- rest

-- whether it waits for nothing and asks nothing
abbrev pub rests_by : Asking → Option Asked → Bool
rests_by quiet None = true
rests_by asking one = false

-- whether it asks nothing, and has nothing more to ask
abbrev pub is_at_rest : Acting → Bool
is_at_rest a = rests_by a.asking (next a)

-- Short runs of a poster and of workers, worked out by hand: what is asked, step by step, for these replies.
use Rattle.std.proofs.Common.{◌≡◌, ℕ, true, false, List, [], ◌∷◌, ◌++◌, map, Some, None, refl}
use Rattle.std.specs.Option.{option_to_list}
use Rattle.ccr_base.specs.declared.handlers.Action.{Action}
use Rattle.ccr_base.specs.declared.handlers.Action.TheVariants as actions
use Rattle.ccr_base.specs.declared.handlers.Expr.TheVariants.{Number}
use Rattle.ccr_base.specs.declared.messages.Msg.{Msg}
use Rattle.ccr_base.specs.declared.messages.Sent.{Sent}
use Rattle.ccr_base.specs.declared.names.MsgId.TheVariants as names
use Rattle.ccr_base.specs.declared.names.Place.{Place}
use Rattle.ccr_base.specs.declared.names.Place.TheVariants as places
use Rattle.ccr_base.specs.declared.names.Spot.TheVariants.{Branch}
use Rattle.ccr_base.specs.declared.names.TaskId.{TaskId}
use Rattle.ccr_base.specs.declared.patterns.Pattern.TheVariants.{Slots}
use Rattle.ccr_base.specs.declared.policies.Group.{Group}
use Rattle.ccr_base.specs.declared.policies.Group.TheVariants as groups
use Rattle.ccr_base.specs.declared.policies.Policy.TheVariants.{Unbounded}
use Rattle.ccr_base.specs.declared.tasks.Task.{Task}
use Rattle.ccr_wiring.specs.declared.parts.Kind.{Kind}
use Rattle.ccr_wiring.specs.declared.parts.Kind.TheVariants as kinds
use Rattle.ccr_wiring.specs.declared.parts.Parts.{Parts}
use Rattle.ccr_claim.specs.declared.asks.Ask.TheVariants as asks
use Rattle.ccr_claim.specs.declared.asks.Asked.{Asked}
use Rattle.ccr_claim.specs.declared.asks.Due.{Due}
use Rattle.ccr_claim.specs.declared.asks.Due.TheVariants as dues
use Rattle.ccr_claim.specs.declared.asks.Reply.{Reply}
use Rattle.ccr_claim.specs.declared.asks.Reply.TheVariants as replies
use Rattle.ccr_claim.specs.Asks.{due_of}
use Rattle.ccr_claim.specs.Attempts.{at_place}
use Rattle.ccr_claim.specs.Plans.{any_slot}
use Rattle.ccr_actor.specs.Actors.{State, asked, after, start}

-- all asks: one before each reply, and the one behind the last
abbrev asks_from : Parts → ℕ → State → List Reply → List Asked
asks_from wiring actor state [] = option_to_list (asked wiring actor state)
asks_from wiring actor state (reply ∷ given) = option_to_list (asked wiring actor state) ++ asks_from wiring actor (after wiring actor state reply) given

abbrev asks_for : Parts → ℕ → List Reply → List Asked
asks_for wiring actor given = asks_from wiring actor (start wiring actor) given

record Short : Type 0 where
  place : Place
  due : Due

abbrev short : Place → Due → Short
short place due = record { place = place; due = due }

-- the places, and which replies may come
abbrev in_short : List Asked → List Short
in_short given = map (λ (one : Asked). short one.place (due_of one.ask)) given

-- one queue, a handler with these actions, an arbiter with one branch for one message of port 0, and a poster
abbrev wired : Kind → Group → List Action → List Sent → Parts
wired kind group actions posts = record {
  version = 1;
  budget = 10;
  queues = (record { name = []; policy = Unbounded }) ∷ [];
  ports = [] ∷ [] ∷ [];
  sets = [];
  causes = (record { name = []; port = 1 }) ∷ [];
  handlers = (record { name = []; handler = record { actions = actions } }) ∷ [];
  arbiters = (record { name = []; kind = kind; branches = (record { name = []; group = group; queue = 0; handler = 0; pattern = Slots (any_slot 0 1 1 ∷ []) }) ∷ [] }) ∷ [];
  domains = [];
  posters = (record { name = []; posts = posts }) ∷ [];
  open_posters = [];
  open_handlers = [];
}

abbrev name : ℕ → ℕ → TaskId
name actor attempt = record { actor = actor; attempt = attempt }

abbrev task_of : TaskId → Task
task_of id = record { id = id; root = id; spot = Branch 0; arbiter = 0; queue = 0; values = (7 ∷ []) ∷ []; causes = [] }

abbrev line : ℕ → Sent
line value = record { port = 0; value = value ∷ []; causes = [] }

abbrev posted : ℕ → ℕ → Msg
posted place value = record { id = names.Script 0 place; port = 0; value = value ∷ []; causes = [] }

-- a poster of one line fires once, loses its second attempt, and leaves
poster_fires : in_short (asks_for (wired kinds.Receive groups.Always [] (line 7 ∷ [])) 0 (replies.Done ∷ replies.Booked ∷ replies.Got (posted 0 7 ∷ []) ∷ replies.Fired (Some (task_of (name 0 0))) [] ∷ replies.Done ∷ replies.Dropped None ∷ replies.Booked ∷ replies.Short 0 ∷ replies.Done ∷ replies.Done ∷ [])) ≡ short (places.Port 0) dues.Done ∷ short (places.Queue 0) dues.Booking ∷ short (places.Port 0) (dues.Claim (any_slot 0 1 1)) ∷ short (places.Arbiter 0) dues.Commit ∷ short (places.Port 0) dues.Settled ∷ short (places.Queue 0) dues.Put ∷ short (places.Queue 0) dues.Booking ∷ short (places.Port 0) (dues.Claim (any_slot 0 1 1)) ∷ short (places.Queue 0) dues.Settled ∷ short places.Meter dues.Done ∷ []
poster_fires = refl

-- a poster's lines, each once and in order
lines_in_order : asks_for (wired kinds.Receive groups.Always [] (line 7 ∷ line 8 ∷ [])) 0 (replies.Done ∷ replies.Full 1 ∷ replies.Done ∷ replies.Full 1 ∷ []) ≡ at_place (places.Port 0) (asks.Post (posted 0 7)) ∷ at_place (places.Queue 0) (asks.Book (name 0 0) false) ∷ at_place (places.Port 0) (asks.Post (posted 1 8)) ∷ at_place (places.Queue 0) (asks.Book (name 0 1) false) ∷ at_place places.Meter asks.Leave ∷ []
lines_in_order = refl

-- a worker plays a task of an Interleave: it draws and posts, notes it over, asks for admissions, and rests once the poster has left
worker_plays : in_short (asks_for (wired kinds.Interleave groups.Exclusive (actions.Post 1 (Number (9 ∷ [])) ∷ []) []) 1 (replies.Left 0 ∷ replies.Taken (Some (task_of (name 0 0))) ∷ replies.Drawn 0 ∷ replies.Done ∷ replies.Done ∷ replies.Admitted None ∷ replies.Left 1 ∷ replies.Taken None ∷ [])) ≡ short places.Meter dues.Left ∷ short (places.Queue 0) dues.Take ∷ short places.Meter dues.Draw ∷ short (places.Port 1) dues.Done ∷ short (places.Arbiter 0) dues.Settled ∷ short (places.Arbiter 0) dues.Admission ∷ short places.Meter dues.Left ∷ short (places.Queue 0) dues.Take ∷ []
worker_plays = refl

-- a task that awaits is suspended with the causes at the end of its play, and its site is driven
worker_suspends : asks_for (wired kinds.Receive groups.Always (actions.Add 0 ∷ actions.Await 1 ∷ []) []) 1 (replies.Left 0 ∷ replies.Taken (Some (task_of (name 0 0))) ∷ replies.Done ∷ []) ≡ at_place places.Meter asks.Left ∷ at_place (places.Queue 0) asks.Take ∷ at_place (places.Site 0 0) (asks.Suspend (record (task_of (name 0 0)) { causes = 0 ∷ [] })) ∷ at_place (places.Queue 0) (asks.Book (name 1 0) true) ∷ []
worker_suspends = refl

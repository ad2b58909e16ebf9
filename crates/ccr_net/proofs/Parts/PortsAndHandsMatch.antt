-- What ties ports, claims and hands after some entries to the history that they show.
use Rattle.std.proofs.Common.{◌≡◌, ◌<◌, ◌≤◌, ℕ, ◌⊎◌, ◌||◌, true, false, List, [], ◌∷◌, length, flat_map, Some}
use Rattle.ccr_base.specs.declared.names.MsgId.{MsgId}
use Rattle.ccr_base.specs.declared.names.Place.{Place}
use Rattle.ccr_base.specs.declared.names.Place.TheVariants as places
use Rattle.ccr_base.specs.declared.names.TaskId.{TaskId}
use Rattle.ccr_base.specs.declared.tasks.How.{How}
use Rattle.ccr_base.specs.declared.tasks.How.TheVariants as hows
use Rattle.ccr_base.specs.Names.{has_task, has_message}
use Rattle.ccr_base.specs.Selection.{fitting}
use Rattle.ccr_wiring.specs.declared.parts.Parts.{Parts}
use Rattle.ccr_model.specs.declared.history.Event.{Event}
use Rattle.ccr_model.specs.Posts.{posts, taken, held}
use Rattle.ccr_model.specs.Firings.{fired, put, cut, ever_admitted}
use Rattle.ccr_model.specs.Rules.{needs_no_admission}
use Rattle.ccr_model.specs.Tasks.{is_over}
use Rattle.ccr_model.proofs.Members.{Among}
use Rattle.ccr_model.proofs.FiredTasks.{IsFired}
use Rattle.ccr_places.specs.declared.claims.StandingClaim.{StandingClaim}
use Rattle.ccr_places.specs.Ports.{PortState, first_fitting, unmarked_by}
use Rattle.ccr_claim.specs.declared.asks.Ask.{Ask}
use Rattle.ccr_claim.specs.declared.asks.Ask.TheVariants as asks
use Rattle.ccr_claim.specs.declared.plan.Had.{Had}
use Rattle.ccr_claim.specs.declared.asks.Asked.{Asked}
use Rattle.ccr_claim.specs.Attempts.{had_in}
use Rattle.ccr_actor.specs.Actors.{State, name_at}
use Rattle.ccr_runs.specs.Views.{queue_of}
use Rattle.ccr_net.proofs.Parts.PostsKeepMarks.{has_name}

-- the ports
pub record PortsMatch (history : List Event) (port : ℕ → PortState) : Type 0 where
  pub holds_so : (p : ℕ) → held history p ≡ unmarked_by (fired history) (port p)
  pub enough : (p : ℕ) (c : StandingClaim) → (port p).claim ≡ Some c → c.count ≤ length (fitting c.pred (port p).items)
  pub items_posted : (p : ℕ) (name : MsgId) → has_name (port p).items name ≡ true → has_name (posts history) name ≡ true
  pub taken_posted : (name : MsgId) → has_message (taken history) name ≡ true → has_name (posts history) name ≡ true

-- of ends only that of a dropped task is in hand, whose root is over
abbrev pub IsOwedOver : List Event → TaskId → How → Type 0
IsOwedOver history root hows.Dropped = is_over history root ≡ true
IsOwedOver history root _ = ⊥

-- a task that may be put: it fired, was neither put nor cut, and was admitted where it needs to be
pub record IsToPut (w : Parts) (history : List Event) (t : TaskId) : Type 0 where
  pub fires : IsFired history t
  pub unput : has_task (put history) t ≡ false
  pub uncut : has_task (cut history) t ≡ false
  pub entered : needs_no_admission w (fires.0).spot || has_task (ever_admitted history) t ≡ true

-- what an actor owes by an ask that it has in hand; its attempts so far are below the bound
abbrev pub IsOwed : Parts → List Event → ℕ → ℕ → Place → Ask → Type 0
IsOwed w history actor bound place (asks.Consume task) = (task.actor ≡ actor) × (has_task (fired history) task ≡ true)
IsOwed w history actor bound place (asks.Free task) = (task.actor ≡ actor) × (task.attempt < bound) × (has_task (fired history) task ≡ false)
IsOwed w history actor bound place (asks.Unbook task) = ((task.actor ≡ actor) × (task.attempt < bound) × (has_task (fired history) task ≡ false)) ⊎ (has_task (cut history) task ≡ true)
IsOwed w history actor bound place (asks.Put task) = IsToPut w history task.id × (place ≡ places.Queue (queue_of w history task.id))
IsOwed w history actor bound place (asks.Over task root how) = IsOwedOver history root how
IsOwed w history actor bound place _ = ⊥

-- the tasks that the ask puts
abbrev pub put_in : Ask → List TaskId
put_in (asks.Put task) = task.id ∷ []
put_in _ = []

abbrev pub puts_in : List Asked → List TaskId
puts_in hand = flat_map (λ (x : Asked). put_in x.ask) hand

-- the claim that got these messages
abbrev pub claim_for : TaskId → Had → StandingClaim
claim_for name d = record { task = name; pred = d.slot.pred; count = length d.messages }

-- an actor's claims, and what it has in hand
pub record ActorMatches (w : Parts) (history : List Event) (port : ℕ → PortState) (actor : ℕ) (state : State) : Type 0 where
  pub fired_below : (t : TaskId) → t.actor ≡ actor → has_task (fired history) t ≡ true → t.attempt < state.attempt
  pub claims_below : (p : ℕ) (c : StandingClaim) → (port p).claim ≡ Some c → c.task.actor ≡ actor → c.task.attempt ≤ state.attempt
  pub claims_had : (p : ℕ) (c : StandingClaim) → (port p).claim ≡ Some c → c.task ≡ name_at actor state → (d : Had) × Among d (had_in state.phase) × (d.slot.port ≡ p)
  pub had_claimed : (d : Had) → Among d (had_in state.phase) → (port d.slot.port).claim ≡ Some (claim_for (name_at actor state) d)
  pub had_marked : (d : Had) → Among d (had_in state.phase) → first_fitting (length d.messages) d.slot.pred (port d.slot.port).items ≡ d.messages
  pub had_enough : (d : Had) → Among d (had_in state.phase) → (d.slot.least ≤ length d.messages) × (length d.messages ≤ d.slot.most)
  pub owed : (x : Asked) → Among x state.hand → IsOwed w history actor state.attempt x.place x.ask
  pub one_put : length (puts_in state.hand) ≤ 1

-- The answers of all requests, and the tables by which they are told.
use Rattle.std.specs.Prelude.{◌≡◌, ℕ, ◌+◌, ◌==◌, ◌&&◌, Bool, true, false, List, [], ◌∷◌, ◌++◌, find, Option, Some, None, option_map, if◌then◌else◌}
use Rattle.std.specs.Option.{option_map_or, option_or}
use Rattle.std.specs.Borrow.{Bor}
use Rattle.indexmap.specs.IndexMap.{get}
use Rattle.indexmap.specs.IndexSet.{contains}
use Rattle.ccr_base.specs.declared.names.TaskId.{TaskId}
use Rattle.ccr_base.specs.declared.names.MsgId.{MsgId}
use Rattle.ccr_base.specs.declared.names.MsgId.TheVariants.{Script}
use Rattle.ccr_base.specs.declared.messages.Msg.{Msg}
use Rattle.ccr_base.specs.Names.{same_task, has_task, has_message}
use Rattle.ccr_model.specs.declared.history.Event.{Event}
use Rattle.ccr_model.specs.Posts.{posts, is_message_of}
use Rattle.ccr_model.specs.Firings.{cut, dropped}
use Rattle.ccr_model.specs.Fates.{taker}
use Rattle.ccr_service.specs.declared.answer.Answer.{Answer}
use Rattle.ccr_service.specs.declared.answer.Answer.TheVariants as told
use Rattle.ccr_service.specs.declared.parts.AskPart.{AskPart}
use Rattle.ccr_service.specs.declared.parts.ClientPart.{ClientPart}
use Rattle.ccr_service.specs.declared.parts.ServiceParts.{ServiceParts}
use Rattle.ccr_service.specs.declared.tables.RequestId.{RequestId}
use Rattle.ccr_service.specs.declared.tables.Tables.{Tables}
use Rattle.ccr_service.specs.Answered.{answer_of}

-- of a client's requests, of which the first has this index
abbrev pub answers_from : ServiceParts → List Event → ℕ → ℕ → List AskPart → List Answer
answers_from service history client index [] = []
answers_from service history client index (ask ∷ asks) = answer_of service history client index ask.op ∷ answers_from service history client (index + 1) asks

-- of the clients, of which the first has this number
abbrev pub clients_answers : ServiceParts → List Event → ℕ → List ClientPart → List Answer
clients_answers service history number [] = []
clients_answers service history number (client ∷ clients) = answers_from service history number 0 client.asks ++ clients_answers service history (number + 1) clients

-- one for each request, client by client in order
abbrev pub answers_of : ServiceParts → List Event → List Answer
answers_of service history = clients_answers service history 0 service.clients

-- the first post of the task
abbrev pub first_post : List Event → TaskId → Option Msg
first_post history task = find (λ (m : Msg). is_message_of task m.id) (posts history)

-- whether two requests are the same
abbrev pub same_request : RequestId → RequestId → Bool
same_request r q = (r.client == q.client) && (r.index == q.index)

-- the name of its message
abbrev pub name_of : RequestId → MsgId
name_of r = Script r.client r.index

-- the message that was found, if any
abbrev pub message_in : Option (Bor Msg) → Option Msg
message_in found = option_map (λ (m : Bor Msg). m.now) found

-- the task took the requests of these names that nobody had taken
abbrev pub AreTaken : List MsgId → TaskId → (RequestId → Option TaskId) → (RequestId → Option TaskId) → Type 0
AreTaken names task old new = (request : RequestId) → new request ≡ option_or (old request) (if has_message names (name_of request) then Some task else None)

-- the task took those of the names that stand before the rest: with the rest, it takes what it takes of all
abbrev pub AreTakenBefore : List MsgId → List MsgId → TaskId → (RequestId → Option TaskId) → (RequestId → Option TaskId) → Type 0
AreTakenBefore rest names task old new =
    (request : RequestId) → option_or (new request) (if has_message rest (name_of request) then Some task else None)
    ≡ option_or (old request) (if has_message names (name_of request) then Some task else None)

-- the task posted the message first, unless another of it was known
abbrev pub IsPosted : TaskId → Msg → (TaskId → Option (Bor Msg)) → (TaskId → Option (Bor Msg)) → Type 0
IsPosted task message old new = (other : TaskId) → message_in (new other) ≡ option_or (message_in (old other)) (if same_task task other then Some message else None)

-- the tables tell who took a message, who was cut or dropped, and what a task posted first
pub record Tells (history : List Event) (tables : Tables) : Type 0 where
  pub takers : (request : RequestId) → get same_request tables.takers request ≡ taker history (name_of request)
  pub cuts : (task : TaskId) → contains same_task tables.cuts task ≡ has_task (cut history) task
  pub drops : (task : TaskId) → contains same_task tables.drops task ≡ has_task (dropped history) task
  pub posts : (task : TaskId) → message_in (get same_task tables.posts task) ≡ first_post history task

-- the answer by the task's first post, where faults go to this port
abbrev pub told_by : ℕ → Bool → Bool → Option Msg → Answer
told_by faults true was_dropped post = told.Cut
told_by faults false true post = told.Dropped
told_by faults false false None = told.Held
told_by faults false false (Some m) = if m.port == faults then told.Fault m else told.Success m

-- what the tables tell of a request that this task took
abbrev pub told_of : Tables → ℕ → TaskId → Answer
told_of tables faults task =
    told_by faults (contains same_task tables.cuts task) (contains same_task tables.drops task) (option_map (λ (m : Bor Msg). m.now) (get same_task tables.posts task))

-- what the tables tell of the request
abbrev pub told_from : Tables → ℕ → RequestId → Answer
told_from tables faults request = option_map_or (told_of tables faults) (get same_request tables.takers request) told.Held

-- the answers of a client's requests, from this index on
abbrev pub told_asks : Tables → ℕ → ℕ → ℕ → List AskPart → List Answer
told_asks tables faults client index [] = []
told_asks tables faults client index (ask ∷ asks) = told_from tables faults (record { client = client; index = index }) ∷ told_asks tables faults client (index + 1) asks

-- the answers of the clients' requests, client by client from this number on
abbrev pub told_clients : Tables → ℕ → ℕ → List ClientPart → List Answer
told_clients tables faults number [] = []
told_clients tables faults number (client ∷ clients) = told_asks tables (faults + number) number 0 client.asks ++ told_clients tables faults (number + 1) clients

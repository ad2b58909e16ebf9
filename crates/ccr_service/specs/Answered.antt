-- What became of each request of a service.
use Rattle.std.specs.Prelude.{◌≡◌, ℕ, ◌==◌, ◌&&◌, ◌||◌, Bool, true, false, List, [], ◌∷◌, filter, Some, if◌then◌else◌}
use Rattle.std.specs.List.{slice_get}
use Rattle.std.specs.Option.{option_map_or}
use Rattle.ccr_base.specs.declared.names.TaskId.{TaskId}
use Rattle.ccr_base.specs.declared.names.MsgId.{MsgId}
use Rattle.ccr_base.specs.declared.names.MsgId.TheVariants.{Script, Task}
use Rattle.ccr_base.specs.declared.messages.Msg.{Msg}
use Rattle.ccr_base.specs.declared.messages.Sent.{Sent}
use Rattle.ccr_base.specs.declared.policies.Policy.TheVariants.{Discard}
use Rattle.ccr_base.specs.Names.{has_task}
use Rattle.ccr_model.specs.declared.history.Event.{Event}
use Rattle.ccr_model.specs.declared.history.EndHow.{EndHow}
use Rattle.ccr_model.specs.declared.history.EndHow.TheVariants.{Done, Failed}
use Rattle.ccr_model.specs.Posts.{posts, is_message_of, message_named}
use Rattle.ccr_model.specs.Firings.{cut, dropped}
use Rattle.ccr_model.specs.Fates.{taker}
use Rattle.ccr_model.specs.Legal.{IsLegal, IsQuiet, has_shed, is_complete}
use Rattle.ccr_laws.specs.OneFate.{IsHeld, IsTakenBy, HasEnded}
use Rattle.ccr_service.specs.declared.answer.Answer.{Answer}
use Rattle.ccr_service.specs.declared.answer.Answer.TheVariants as told
use Rattle.ccr_service.specs.declared.parts.AskPart.{AskPart}
use Rattle.ccr_service.specs.declared.parts.ClientPart.{ClientPart}
use Rattle.ccr_service.specs.declared.parts.OpPart.{OpPart}
use Rattle.ccr_service.specs.declared.parts.ServiceParts.{ServiceParts}
use Rattle.ccr_service.specs.Expansion.{request, response_port, fault_port, expansion}
use Rattle.ccr_service.specs.Replies.{is_past, success, fault}
use Rattle.ccr_service.specs.Served.{is_torn_down}
use Rattle.ccr_service.specs.Stillness.{IsStill}

-- the post as a message of this name
abbrev pub message_of : MsgId → Sent → Msg
message_of name sent = record { id = name; port = sent.port; value = sent.value; causes = sent.causes }

-- whether responses come there: on the operation's port, or on the asking client's
abbrev pub is_response_port : ServiceParts → ℕ → ℕ → ℕ → Bool
is_response_port service client op port = (port == response_port op) || (port == fault_port service client)

-- what the task posted there
abbrev pub responses_of : ServiceParts → List Event → ℕ → ℕ → TaskId → List Msg
responses_of service history client op task = filter (λ (m : Msg). is_message_of task m.id && is_response_port service client op m.port) (posts history)

-- the responses of a request: what the task whose firing names it posted there
abbrev pub responses : ServiceParts → List Event → ℕ → ℕ → ℕ → List Msg
responses service history client index op = option_map_or (responses_of service history client op) (taker history (Script client index)) []

-- a task took the request and ended so, and its one post is the one response
pub record HasResponse (service : ServiceParts) (history : List Event) (client index op : ℕ) (sent : Sent) (how : EndHow) (response : Msg) : Type 0 where
  pub task : TaskId
  pub taken : IsTakenBy history (Script client index) task
  pub ended : HasEnded history task how
  pub alone : responses service history client index op ≡ response ∷ []
  pub is : response ≡ message_of (Task task 0) sent

-- a task took the request and stands in this list, and there is no response
pub record HasNone (service : ServiceParts) (history : List Event) (client index op : ℕ) (tasks : List TaskId) : Type 0 where
  pub task : TaskId
  pub taken : IsTakenBy history (Script client index) task
  pub among : has_task tasks task ≡ true
  pub none : responses service history client index op ≡ []

-- what each answer says. A success comes where the value isn't past the bound of the operation, a fault where it is; a request is held or its task cut
-- only where a teardown operation has fired, and the task is dropped only where the policy is discard
abbrev pub IsAnswer : ServiceParts → List Event → ℕ → ℕ → AskPart → OpPart → Answer → Type 0
IsAnswer service history client index ask op (told.Success m) = HasResponse service history client index ask.op (success ask.op op client ask.value) Done m × (is_past op.below ask.value ≡ false)
IsAnswer service history client index ask op (told.Fault m) =
    HasResponse service history client index ask.op (fault service client ask.value) (Failed (ask.value ∷ [])) m
    × (is_past op.below ask.value ≡ true)
IsAnswer service history client index ask op told.Held = IsHeld history (Script client index) × (responses service history client index ask.op ≡ []) × (is_torn_down service history ≡ true)
IsAnswer service history client index ask op told.Cut = HasNone service history client index ask.op (cut history) × (is_torn_down service history ≡ true)
IsAnswer service history client index ask op told.Dropped = HasNone service history client index ask.op (dropped history) × ((most : ℕ) × (service.policy ≡ Discard most))

-- the answer by where the task stands that took the request, and its first response
abbrev pub answer_by : ServiceParts → ℕ → Bool → Bool → List Msg → Answer
answer_by service client true was_dropped found = told.Cut
answer_by service client false true found = told.Dropped
answer_by service client false false [] = told.Held
answer_by service client false false (m ∷ more) = if m.port == fault_port service client then told.Fault m else told.Success m

-- the answer that is told of the request
abbrev pub answer_of : ServiceParts → List Event → ℕ → ℕ → ℕ → Answer
answer_of service history client index op =
    option_map_or
    (λ task. answer_by service client (has_task (cut history) task) (has_task (dropped history) task) (responses_of service history client op task))
    (taker history (Script client index))
    told.Held

-- the request was posted, and one answer is true of it and no other: the one that is told
pub record HasOneAnswer (service : ServiceParts) (history : List Event) (client index : ℕ) (ask : AskPart) (op : OpPart) : Type 0 where
  pub posted : message_named history (Script client index) ≡ Some (message_of (Script client index) (request client ask))
  pub its : Answer
  pub has : IsAnswer service history client index ask op its
  pub alone : (other : Answer) → IsAnswer service history client index ask op other → other ≡ its
  pub told : answer_of service history client index ask.op ≡ its

-- the request of the client at the index: what it asks, and its operation
abbrev pub IsRequestOf : ServiceParts → ℕ → ℕ → ClientPart → AskPart → OpPart → Type 0
IsRequestOf service client index part ask op = (slice_get service.clients client ≡ Some part) × (slice_get part.asks index ≡ Some ask) × (slice_get service.ops ask.op ≡ Some op)

-- nobody was shed, all is still, and each request has one answer
pub record IsServedWhole (service : ServiceParts) (history : List Event) : Type 0 where
  pub unshed : has_shed history ≡ false
  pub still : IsStill (expansion service) history
  pub answered : (client index : ℕ) (part : ClientPart) (ask : AskPart) (op : OpPart) → IsRequestOf service client index part ask op → HasOneAnswer service history client index ask op

-- the law holds of each whole run of the service: a legal history in which its script is posted and behind which nothing more is allowed
abbrev pub OfWholeRuns : ServiceParts → (List Event → Type 0) → Type 0
OfWholeRuns service law = (history : List Event) → IsLegal (expansion service) history → is_complete (expansion service) history ≡ true → IsQuiet (expansion service) history → law history

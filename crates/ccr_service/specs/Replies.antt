-- What becomes of a request, and its response.
use Rattle.std.specs.Prelude.{ℕ, Bool, true, false, not, nat_lt, List, [], ◌∷◌, filter, Option, Some, None}
use Rattle.ccr_base.specs.declared.names.TaskId.{TaskId}
use Rattle.ccr_base.specs.declared.messages.Msg.{Msg}
use Rattle.ccr_base.specs.declared.messages.Sent.{Sent}
use Rattle.ccr_handler.specs.declared.segments.Play.{Play}
use Rattle.ccr_handler.specs.declared.segments.PlayEnd.TheVariants.{Done, Failed}
use Rattle.ccr_handler.specs.Evaluating.{value_of}
use Rattle.ccr_model.specs.declared.history.Event.{Event}
use Rattle.ccr_model.specs.Posts.{posts, is_message_of}
use Rattle.ccr_service.specs.declared.parts.OpPart.{OpPart}
use Rattle.ccr_service.specs.declared.parts.ServiceParts.{ServiceParts}
use Rattle.ccr_service.specs.Expansion.{response_port, fault_port}

-- whether the value isn't below the bound, where there is one
abbrev pub is_past : Option ℕ → ℕ → Bool
is_past None value = false
is_past (Some bound) value = not (nat_lt value bound)

-- the success of a request: on the operation's port, under the client's cause
abbrev pub success : ℕ → OpPart → ℕ → ℕ → Sent
success op part client value = record { port = response_port op; value = value_of part.expr ((value ∷ []) ∷ []); causes = client ∷ [] }

-- its fault: on the client's port, with the request's value
abbrev pub fault : ServiceParts → ℕ → ℕ → Sent
fault service client value = record { port = fault_port service client; value = value ∷ []; causes = [] }

-- what the task of a request posts, and how it ends
abbrev pub reply_by : Bool → ServiceParts → ℕ → OpPart → ℕ → ℕ → Play
reply_by false service op part client value = record { posts = success op part client value ∷ []; end = Done; causes = client ∷ [] }
reply_by true service op part client value = record { posts = fault service client value ∷ []; end = Failed (value ∷ []); causes = client ∷ [] }

-- what the operation replies to a client's value: a fault past its bound, else a response
abbrev pub reply : ServiceParts → ℕ → OpPart → ℕ → ℕ → Play
reply service op part client value = reply_by (is_past part.below value) service op part client value

-- what the task has posted
abbrev pub posted_by : List Event → TaskId → List Msg
posted_by history task = filter (λ (m : Msg). is_message_of task m.id) (posts history)

-- The wiring that a service stands for.
use Rattle.std.specs.Prelude.{ℕ, ◌+◌, Bool, true, false, List, [], ◌∷◌, ◌++◌, length, map, Option, Some, None, codes, if◌then◌else◌}
use Rattle.std.specs.List.{list_any}
use Rattle.ccr_base.specs.Bounds.{most_task_posts}
use Rattle.ccr_base.specs.declared.policies.Group.{Group}
use Rattle.ccr_base.specs.declared.handlers.Action.{Action}
use Rattle.ccr_base.specs.declared.handlers.Action.TheVariants.{Post, Fail}
use Rattle.ccr_base.specs.declared.handlers.Expr.TheVariants.{Arg}
use Rattle.ccr_base.specs.declared.patterns.Pred.{Pred}
use Rattle.ccr_base.specs.declared.patterns.Pred.TheVariants.{Any, Lt, Ge}
use Rattle.ccr_base.specs.declared.patterns.Pattern.TheVariants.{Slots}
use Rattle.ccr_base.specs.declared.messages.Sent.{Sent}
use Rattle.ccr_wiring.specs.declared.parts.Parts.{Parts}
use Rattle.ccr_wiring.specs.declared.parts.HandlerPart.{HandlerPart}
use Rattle.ccr_wiring.specs.declared.parts.BranchPart.{BranchPart}
use Rattle.ccr_wiring.specs.declared.parts.ArbiterPart.{ArbiterPart}
use Rattle.ccr_wiring.specs.declared.parts.CausePart.{CausePart}
use Rattle.ccr_wiring.specs.declared.parts.PosterPart.{PosterPart}
use Rattle.ccr_wiring.specs.declared.parts.Kind.TheVariants as kinds
use Rattle.ccr_service.specs.declared.parts.OpPart.{OpPart}
use Rattle.ccr_service.specs.declared.parts.AskPart.{AskPart}
use Rattle.ccr_service.specs.declared.parts.ClientPart.{ClientPart}
use Rattle.ccr_service.specs.declared.parts.ServiceParts.{ServiceParts}

-- the port of an operation's requests
abbrev pub request_port : ℕ → ℕ
request_port op = op + op

-- the port of its responses
abbrev pub response_port : ℕ → ℕ
response_port op = op + op + 1

-- the port of a client's faults
abbrev pub fault_port : ServiceParts → ℕ → ℕ
fault_port service client = length service.ops + length service.ops + client

-- two ports an operation
abbrev pub op_ports : List OpPart → List (List ℕ)
op_ports [] = []
op_ports (op ∷ ops) = (op.name ++ codes "-rq") ∷ (op.name ++ codes "-rs") ∷ op_ports ops

-- then one a client
abbrev pub ports : ServiceParts → List (List ℕ)
ports service = op_ports service.ops ++ map (λ (c : ClientPart). c.name ++ codes "-f") service.clients

-- one cause a client; the first has this port
abbrev pub causes_from : ℕ → List ClientPart → List CausePart
causes_from port [] = []
causes_from port (client ∷ clients) = record { name = client.name ++ codes "-c"; port = port } ∷ causes_from (port + 1) clients

-- a handler of one action
abbrev pub one_action : List ℕ → Action → HandlerPart
one_action name action = record { name = name; handler = record { actions = action ∷ [] } }

-- one handler an operation; the first is of the operation of this number
abbrev pub handlers_from : ℕ → List OpPart → List HandlerPart
handlers_from number [] = []
handlers_from number (op ∷ ops) = one_action (op.name ++ codes "-h") (Post (response_port number) op.expr) ∷ handlers_from (number + 1) ops

-- whether the operation has a bound
abbrev pub is_bounded : OpPart → Bool
is_bounded op = bounded op.below
  where
    bounded : Option ℕ → Bool
    bounded None = false
    bounded (Some n) = true

-- the handler of faults
abbrev pub fault_handler : HandlerPart
fault_handler = one_action (codes "svc-e") (Fail (Arg 0))

-- where some operation has a bound, the handler of faults stands last
abbrev pub handlers : List OpPart → List HandlerPart
handlers ops = handlers_from 0 ops ++ (if list_any is_bounded ops then fault_handler ∷ [] else [])

-- a branch that takes one message
abbrev pub takes_one : List ℕ → Group → ℕ → ℕ → Pred → BranchPart
takes_one name group handler port pred = record { name = name; group = group; queue = 0; handler = handler; pattern = Slots (record { port = port; least = 1; most = 1; pred = pred } ∷ []) }

-- the branches of an operation: one where it has no bound, else one for what is below and one for what isn't
abbrev pub op_branches : ℕ → ℕ → OpPart → Option ℕ → List BranchPart
op_branches faults number op None = takes_one op.name op.group number (request_port number) Any ∷ []
op_branches faults number op (Some bound) = takes_one op.name op.group number (request_port number) (Lt bound) ∷ takes_one (op.name ++ codes "-x") op.group faults (request_port number) (Ge bound) ∷ []

-- those of all operations; the first has this number
abbrev pub branches_from : ℕ → ℕ → List OpPart → List BranchPart
branches_from faults number [] = []
branches_from faults number (op ∷ ops) = op_branches faults number op op.below ++ branches_from faults (number + 1) ops

-- the one Interleave
abbrev pub interleave : List OpPart → ArbiterPart
interleave ops = record { name = codes "svc-i"; kind = kinds.Interleave; branches = branches_from (length ops) 0 ops }

-- the post of a request: on the operation's port, under the client's cause
abbrev pub request : ℕ → AskPart → Sent
request client ask = record { port = request_port ask.op; value = ask.value ∷ []; causes = client ∷ [] }

-- one poster a client; the first has this number
abbrev pub posters_from : ℕ → List ClientPart → List PosterPart
posters_from number [] = []
posters_from number (client ∷ clients) = record { name = client.name; posts = map (request number) client.asks } ∷ posters_from (number + 1) clients

-- the whole wiring
abbrev pub expansion : ServiceParts → Parts
expansion service = record {
  version = 1;
  budget = most_task_posts;
  queues = record { name = codes "svc-q"; policy = service.policy } ∷ [];
  ports = ports service;
  sets = [];
  causes = causes_from (length service.ops + length service.ops) service.clients;
  handlers = handlers service.ops;
  arbiters = interleave service.ops ∷ [];
  domains = [];
  posters = posters_from 0 service.clients;
  open_posters = [];
  open_handlers = [];
}

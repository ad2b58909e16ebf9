-- The parts of the wirings that tests start from.
use Rattle.std.specs.Prelude.{ℕ, List, [], ◌∷◌, codes}
use Rattle.ccr_base.specs.declared.handlers.Action.{Action}
use Rattle.ccr_base.specs.declared.patterns.Pattern.TheVariants.{Slots}
use Rattle.ccr_base.specs.declared.patterns.Pred.TheVariants.{Any}
use Rattle.ccr_base.specs.declared.policies.Group.TheVariants.{Always}
use Rattle.ccr_base.specs.declared.policies.Policy.{Policy}
use Rattle.ccr_base.specs.declared.policies.Policy.TheVariants.{Unbounded}
use Rattle.ccr_wiring.specs.declared.parts.ArbiterPart.{ArbiterPart}
use Rattle.ccr_wiring.specs.declared.parts.BranchPart.{BranchPart}
use Rattle.ccr_wiring.specs.declared.parts.CausePart.{CausePart}
use Rattle.ccr_wiring.specs.declared.parts.HandlerPart.{HandlerPart}
use Rattle.ccr_wiring.specs.declared.parts.Kind.TheVariants.{Receive}
use Rattle.ccr_wiring.specs.declared.parts.Parts.{Parts}
use Rattle.ccr_wiring.specs.declared.parts.PosterPart.{PosterPart}
use Rattle.ccr_wiring.specs.declared.parts.QueuePart.{QueuePart}

-- a queue q of this policy
abbrev pub one_queue : Policy → List QueuePart
one_queue policy = record { name = codes "q"; policy = policy } ∷ []

-- a handler h of these actions
abbrev pub one_handler : List Action → List HandlerPart
one_handler actions = record { name = codes "h"; handler = record { actions = actions } } ∷ []

-- a branch x that takes one message of port 0, each time that one is held
abbrev pub branch : BranchPart
branch = record { name = codes "x"; group = Always; queue = 0; handler = 0; pattern = Slots (record { port = 0; least = 1; most = 1; pred = Any } ∷ []) }

-- a receive of this branch
abbrev pub one_receive : List ArbiterPart
one_receive = record { name = codes "x"; kind = Receive; branches = branch ∷ [] } ∷ []

-- a cause k with this port
abbrev pub one_cause : ℕ → List CausePart
one_cause port = record { name = codes "k"; port = port } ∷ []

-- a poster p that posts 7 to port 0, without causes
abbrev pub one_post : List PosterPart
one_post = record { name = codes "p"; posts = record { port = 0; value = 7 ∷ []; causes = [] } ∷ [] } ∷ []

-- the receive of one port a, with a queue without a bound and a handler without actions
abbrev pub one_receiver : Parts
one_receiver = record {
  version = 1;
  budget = 5;
  queues = one_queue Unbounded;
  ports = codes "a" ∷ [];
  sets = [];
  causes = [];
  handlers = one_handler [];
  arbiters = one_receive;
  domains = [];
  posters = [];
  open_posters = [];
  open_handlers = [];
}

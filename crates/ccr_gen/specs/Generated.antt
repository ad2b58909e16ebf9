-- The generated wiring. Its ports are a, b, c, up and out, numbered from 0; its queues q and t; its handlers hj and ho.
use Rattle.std.specs.Prelude.{ℕ, List, [], ◌∷◌, codes}
use Rattle.ccr_base.specs.Bounds.{most_task_posts}
use Rattle.ccr_base.specs.declared.policies.Policy.TheVariants.{Unbounded, Throttle}
use Rattle.ccr_base.specs.declared.policies.Group.{Group}
use Rattle.ccr_base.specs.declared.policies.Group.TheVariants as groups
use Rattle.ccr_base.specs.declared.handlers.Action.{Action}
use Rattle.ccr_base.specs.declared.handlers.Action.TheVariants.{Post}
use Rattle.ccr_base.specs.declared.handlers.Expr.TheVariants.{Sum, Arg}
use Rattle.ccr_base.specs.declared.patterns.Slot.{Slot}
use Rattle.ccr_base.specs.declared.patterns.Pred.TheVariants.{Any}
use Rattle.ccr_base.specs.declared.patterns.Pattern.TheVariants.{Slots}
use Rattle.ccr_wiring.specs.declared.parts.Parts.{Parts}
use Rattle.ccr_wiring.specs.declared.parts.QueuePart.{QueuePart}
use Rattle.ccr_wiring.specs.declared.parts.HandlerPart.{HandlerPart}
use Rattle.ccr_wiring.specs.declared.parts.BranchPart.{BranchPart}
use Rattle.ccr_wiring.specs.declared.parts.ArbiterPart.{ArbiterPart}
use Rattle.ccr_wiring.specs.declared.parts.Kind.{Kind}
use Rattle.ccr_wiring.specs.declared.parts.Kind.TheVariants as kinds
use Rattle.ccr_gen.specs.Posters.{posters}

-- so many messages of the port, of any value
abbrev pub any_of : ℕ → ℕ → Slot
any_of port count = record { port = port; least = count; most = count; pred = Any }

-- an unbounded queue, and one that takes eight tasks at a time
abbrev pub queues : List QueuePart
queues = record { name = codes "q"; policy = Unbounded } ∷ record { name = codes "t"; policy = Throttle 8 } ∷ []

-- the ports: three that are posted to, the one of the sums, and the one behind them all
abbrev pub ports : List (List ℕ)
ports = codes "a" ∷ codes "b" ∷ codes "c" ∷ codes "up" ∷ codes "out" ∷ []

-- a handler of one action
abbrev pub handler : List ℕ → Action → HandlerPart
handler name action = record { name = name; handler = record { actions = action ∷ [] } }

-- hj posts the sum to up, ho the first value to out
abbrev pub handlers : List HandlerPart
handlers = handler (codes "hj") (Post 3 Sum) ∷ handler (codes "ho") (Post 4 (Arg 0)) ∷ []

-- a branch whose pattern is these slots
abbrev pub branch : List ℕ → Group → ℕ → ℕ → List Slot → BranchPart
branch name group queue handler slots = record { name = name; group = group; queue = queue; handler = handler; pattern = Slots slots }

-- an arbiter of one branch
abbrev pub arbiter : List ℕ → Kind → BranchPart → ArbiterPart
arbiter name kind part = record { name = name; kind = kind; branches = part ∷ [] }

-- pair takes one of a and one of b
abbrev pub pair : ArbiterPart
pair = arbiter (codes "pair") kinds.Receive (branch (codes "pair") groups.Always 0 0 (any_of 0 1 ∷ any_of 1 1 ∷ []))

-- batch takes four of c
abbrev pub batch : ArbiterPart
batch = arbiter (codes "batch") kinds.Receive (branch (codes "batch") groups.Always 1 0 (any_of 2 4 ∷ []))

-- keep's branch upd takes one of up
abbrev pub keep : ArbiterPart
keep = arbiter (codes "keep") kinds.Interleave (branch (codes "upd") groups.Exclusive 0 1 (any_of 3 1 ∷ []))

-- the wiring of this many posts
abbrev pub generated : ℕ → Parts
generated size = record {
  version = 1;
  budget = most_task_posts;
  queues = queues;
  ports = ports;
  sets = [];
  causes = [];
  handlers = handlers;
  arbiters = pair ∷ batch ∷ keep ∷ [];
  domains = [];
  posters = posters size;
  open_posters = [];
  open_handlers = [];
}

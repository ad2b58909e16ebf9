-- The canonical text of the parts: which lines it has, and which words stand on each.
use Rattle.std.specs.Prelude.{ℕ, List, [], ◌∷◌, ◌++◌, ◌==◌, if◌then◌else◌, map, flat_map, codes, decimal}
use Rattle.ccr_base.specs.declared.policies.Policy.{Policy}
use Rattle.ccr_base.specs.declared.policies.Policy.TheVariants as policies
use Rattle.ccr_base.specs.declared.policies.Group.{Group}
use Rattle.ccr_base.specs.declared.policies.Group.TheVariants as groups
use Rattle.ccr_base.specs.declared.handlers.Expr.{Expr}
use Rattle.ccr_base.specs.declared.handlers.Expr.TheVariants as exprs
use Rattle.ccr_base.specs.declared.handlers.Action.{Action}
use Rattle.ccr_base.specs.declared.handlers.Action.TheVariants as actions
use Rattle.ccr_base.specs.declared.messages.Sent.{Sent}
use Rattle.ccr_base.specs.declared.patterns.Pred.{Pred}
use Rattle.ccr_base.specs.declared.patterns.Pred.TheVariants as preds
use Rattle.ccr_base.specs.declared.patterns.Slot.{Slot}
use Rattle.ccr_base.specs.declared.patterns.Pattern.{Pattern}
use Rattle.ccr_base.specs.declared.patterns.Pattern.TheVariants as patterns
use Rattle.ccr_wiring.specs.declared.parts.Parts.{Parts}
use Rattle.ccr_wiring.specs.declared.parts.QueuePart.{QueuePart}
use Rattle.ccr_wiring.specs.declared.parts.SetPart.{SetPart}
use Rattle.ccr_wiring.specs.declared.parts.CausePart.{CausePart}
use Rattle.ccr_wiring.specs.declared.parts.HandlerPart.{HandlerPart}
use Rattle.ccr_wiring.specs.declared.parts.BranchPart.{BranchPart}
use Rattle.ccr_wiring.specs.declared.parts.ArbiterPart.{ArbiterPart}
use Rattle.ccr_wiring.specs.declared.parts.PosterPart.{PosterPart}
use Rattle.ccr_wiring.specs.declared.parts.DomainPart.{DomainPart}
use Rattle.ccr_wiring.specs.declared.parts.Kind.TheVariants as arbiters
use Rattle.ccr_wiring.specs.PartNames.{port_name, queue_name, cause_name, handler_name, arbiter_name}
use Rattle.ccr_text.specs.Spelling.{text_of}
use Rattle.ccr_text.specs.Exact.{value_word}
use Rattle.ccr_text.specs.Fields.{Words}

-- the line that gives the version
abbrev pub version_words : ℕ → Words
version_words version = codes "ccr" ∷ (if version == 2 then codes "2" else codes "1") ∷ []

-- the line of the budget
abbrev pub budget_words : ℕ → Words
budget_words budget = codes "budget" ∷ decimal budget ∷ []

-- how a policy is written
abbrev pub policy_words : Policy → Words
policy_words policies.Unbounded = codes "unbounded" ∷ []
policy_words (policies.Discard n) = codes "discard" ∷ decimal n ∷ []
policy_words (policies.Throttle n) = codes "throttle" ∷ decimal n ∷ []

-- the line of a queue
abbrev pub queue_words : QueuePart → Words
queue_words part = codes "queue" ∷ part.name ∷ policy_words part.policy

-- the line of a port
abbrev pub port_words : List ℕ → Words
port_words name = codes "port" ∷ name ∷ []

-- the line of a set of ports
abbrev pub set_words : Parts → SetPart → Words
set_words parts part = codes "portset" ∷ part.name ∷ map (port_name parts) part.ports

-- the line of a cause
abbrev pub cause_words : Parts → CausePart → Words
cause_words parts part = codes "cause" ∷ part.name ∷ port_name parts part.port ∷ []

-- how an expression is written
abbrev pub expr_words : Expr → Words
expr_words (exprs.Number value) = value_word value ∷ []
expr_words (exprs.Part message index) = codes "part" ∷ decimal message ∷ decimal index ∷ []
expr_words (exprs.Arg k) = codes "arg" ∷ decimal k ∷ []
expr_words exprs.Sum = codes "sum" ∷ []
expr_words exprs.Count = codes "count" ∷ []

-- the line of an action
abbrev pub action_words : Parts → Action → Words
action_words parts (actions.Post port value) = codes "post" ∷ port_name parts port ∷ expr_words value
action_words parts (actions.Fail value) = codes "fail" ∷ expr_words value
action_words parts (actions.Add cause) = codes "add" ∷ cause_name parts cause ∷ []
action_words parts (actions.Remove cause) = codes "remove" ∷ cause_name parts cause ∷ []
action_words parts (actions.Await port) = codes "await" ∷ port_name parts port ∷ []

-- a block closes
abbrev pub end_words : Words
end_words = codes "end" ∷ []

-- the block of a handler
abbrev pub handler_lines : Parts → HandlerPart → List Words
handler_lines parts part = (codes "handler" ∷ part.name ∷ []) ∷ (map (action_words parts) part.handler.actions ++ end_words ∷ [])

-- how a predicate is written
abbrev pub pred_words : Pred → Words
pred_words preds.Any = codes "any" ∷ []
pred_words (preds.Eq n) = codes "eq" ∷ decimal n ∷ []
pred_words (preds.Lt n) = codes "lt" ∷ decimal n ∷ []
pred_words (preds.Ge n) = codes "ge" ∷ decimal n ∷ []

-- how a slot is written
abbrev pub slot_words : Parts → Slot → Words
slot_words parts slot = port_name parts slot.port ∷ decimal slot.least ∷ pred_words slot.pred

-- how a pattern is written
abbrev pub pattern_words : Parts → Pattern → Words
pattern_words parts (patterns.Slots slots) = codes "take" ∷ flat_map (slot_words parts) slots
pattern_words parts (patterns.Gather total first second) = codes "gather" ∷ decimal total ∷ port_name parts first ∷ port_name parts second ∷ []

-- the words of a branch up to its group
abbrev pub group_words : List ℕ → Group → Words
group_words name groups.Once = codes "receive" ∷ name ∷ codes "once" ∷ []
group_words name groups.Always = codes "receive" ∷ name ∷ codes "always" ∷ []
group_words name groups.Choice = codes "branch" ∷ name ∷ []
group_words name groups.Teardown = codes "teardown" ∷ name ∷ []
group_words name groups.Exclusive = codes "exclusive" ∷ name ∷ []
group_words name groups.Concurrent = codes "concurrent" ∷ name ∷ []

-- the line of a branch in an arbiter's block
abbrev pub branch_words : Parts → BranchPart → Words
branch_words parts branch = group_words branch.name branch.group ++ queue_name parts branch.queue ∷ handler_name parts branch.handler ∷ pattern_words parts branch.pattern

-- the block of a choice or Interleave
abbrev pub block_lines : Parts → List ℕ → ArbiterPart → List Words
block_lines parts first part = (first ∷ part.name ∷ []) ∷ (map (branch_words parts) part.branches ++ end_words ∷ [])

-- a receive is the line of its branch
abbrev pub arbiter_lines : Parts → ArbiterPart → List Words
arbiter_lines parts part = elim part.kind [
  | arbiters.Receive ↦ map (branch_words parts) part.branches
  | arbiters.Choice ↦ block_lines parts (codes "choice") part
  | arbiters.Interleave ↦ block_lines parts (codes "interleave") part
]

-- the line of a domain of several arbiters
abbrev pub combine_words : Parts → DomainPart → Words
combine_words parts part = codes "combine" ∷ map (arbiter_name parts) part.members

-- the line of a post in a poster's block
abbrev pub post_words : Parts → Sent → Words
post_words parts post = codes "post" ∷ port_name parts post.port ∷ value_word post.value ∷ map (cause_name parts) post.causes

-- the block of a poster
abbrev pub poster_lines : Parts → PosterPart → List Words
poster_lines parts part = (codes "poster" ∷ part.name ∷ []) ∷ (map (post_words parts) part.posts ++ end_words ∷ [])

-- the version, the budget (always) and the queues
unfoldable pub queue_lines : Parts → List Words
queue_lines parts = version_words parts.version ∷ budget_words parts.budget ∷ map queue_words parts.queues

-- the ports, the port sets and the causes
unfoldable pub port_lines : Parts → List Words
port_lines parts = map port_words parts.ports ++ map (set_words parts) parts.sets ++ map (cause_words parts) parts.causes

-- the handlers, the arbiters, the combined Interleaves and the posters
unfoldable pub acting_lines : Parts → List Words
acting_lines parts =
    flat_map (handler_lines parts) parts.handlers
    ++ flat_map (arbiter_lines parts) parts.arbiters
    ++ map (combine_words parts) parts.domains
    ++ flat_map (poster_lines parts) parts.posters

-- the lines in their order, each kind in the order of its numbers
abbrev pub canonical_lines : Parts → List Words
canonical_lines parts = queue_lines parts ++ port_lines parts ++ acting_lines parts

-- the canonical text
abbrev pub spelling : Parts → List ℕ
spelling parts = text_of (canonical_lines parts)

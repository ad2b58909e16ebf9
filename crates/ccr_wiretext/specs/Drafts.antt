-- What the lines so far declare.
use Rattle.std.specs.Prelude.{ℕ, Bool, true, false, List, [], ◌∷◌, ◌++◌, length, map, sum}
use Rattle.std.specs.List.{slice_get}
use Rattle.std.specs.Option.{option_map_or}
use Rattle.ccr_base.specs.Bounds.{most_task_posts}
use Rattle.ccr_base.specs.declared.handlers.Action.{Action}
use Rattle.ccr_base.specs.declared.messages.Sent.{Sent}
use Rattle.ccr_wiring.specs.declared.parts.Parts.{Parts}
use Rattle.ccr_wiring.specs.declared.parts.QueuePart.{QueuePart}
use Rattle.ccr_wiring.specs.declared.parts.SetPart.{SetPart}
use Rattle.ccr_wiring.specs.declared.parts.CausePart.{CausePart}
use Rattle.ccr_wiring.specs.declared.parts.ArbiterPart.{ArbiterPart}
use Rattle.ccr_wiring.specs.declared.parts.BranchPart.{BranchPart}
use Rattle.ccr_wiring.specs.declared.parts.HandlerPart.{HandlerPart}
use Rattle.ccr_wiring.specs.declared.parts.PosterPart.{PosterPart}
use Rattle.ccr_wiring.specs.declared.parts.DomainPart.{DomainPart}
use Rattle.ccr_wiring.specs.declared.parts.Kind.{Kind}
use Rattle.ccr_wiring.specs.declared.parts.Kind.TheVariants as arbiters
use Rattle.ccr_wiring.specs.Limits.{posts_in_all}
use Rattle.ccr_wiring.specs.Spots.{branch_named}
use Rattle.ccr_wiretext.specs.declared.named.Named.{Named}
use Rattle.ccr_wiretext.specs.declared.named.Named.TheVariants as kinds
use Rattle.ccr_wiretext.specs.declared.draft.Block.{Block}
use Rattle.ccr_wiretext.specs.declared.draft.Block.TheVariants as blocks
use Rattle.ccr_wiretext.specs.Names.{Naming}

-- the parts so far, whether a budget line gave the budget, the declared names, the ports that the spots so far name
-- (once for each spot), and the block that is open with what stands in it
pub record Declared : Type 0 where
  pub parts : Parts
  pub budgeted : Bool
  pub names : Naming
  pub spotted : List ℕ
  pub block : Block

-- before the first declaration, by the version
abbrev pub nothing : ℕ → Declared
nothing version = record {
  parts = record { version = version; budget = most_task_posts; queues = []; ports = []; sets = []; causes = []; handlers = []; arbiters = []; domains = []; posters = []; open_posters = []; open_handlers = [] };
  budgeted = false;
  names = [];
  spotted = [];
  block = blocks.Outside;
}

-- one name more
abbrev pub with_name : Declared → List ℕ → Named → Declared
with_name draft name what = record draft { names = draft.names ++ (name, what) ∷ [] }

-- the wiring so far, with its budget
abbrev pub with_budget : Declared → ℕ → Declared
with_budget draft budget = record draft { parts = record draft.parts { budget = budget }; budgeted = true }

-- one part more of a kind, and its name
abbrev pub with_queue : Declared → QueuePart → Declared
with_queue draft part = with_name (record draft { parts = record draft.parts { queues = draft.parts.queues ++ part ∷ [] } }) part.name (kinds.Queue (length draft.parts.queues))

-- the wiring so far, with one port more
abbrev pub with_port : Declared → List ℕ → Declared
with_port draft name = with_name (record draft { parts = record draft.parts { ports = draft.parts.ports ++ name ∷ [] } }) name (kinds.Port (length draft.parts.ports))

-- the wiring so far, with one set of ports more
abbrev pub with_set : Declared → SetPart → Declared
with_set draft part = with_name (record draft { parts = record draft.parts { sets = draft.parts.sets ++ part ∷ [] } }) part.name (kinds.Set (length draft.parts.sets))

-- the wiring so far, with one cause more
abbrev pub with_cause : Declared → CausePart → Declared
with_cause draft part = with_name (record draft { parts = record draft.parts { causes = draft.parts.causes ++ part ∷ [] } }) part.name (kinds.Cause (length draft.parts.causes))

-- the ports that a branch and its sites name count from now on
abbrev pub with_spots : Declared → BranchPart → Declared
with_spots draft branch = record draft { spotted = draft.spotted ++ branch_named draft.parts branch }

-- a receive is an arbiter and its one branch
abbrev pub receiver : BranchPart → ArbiterPart
receiver branch = record { name = branch.name; kind = arbiters.Receive; branches = branch ∷ [] }

-- the wiring so far, with one receiver more
abbrev pub with_receive : Declared → BranchPart → Declared
with_receive draft branch = with_name (record (with_spots draft branch) { parts = record draft.parts { arbiters = draft.parts.arbiters ++ receiver branch ∷ [] } }) branch.name kinds.Branch

-- Interleaves are combined, which declares no name
abbrev pub with_domain : Declared → DomainPart → Declared
with_domain draft part = record draft { parts = record draft.parts { domains = draft.parts.domains ++ part ∷ [] } }

-- a block opens, and its name is declared
abbrev pub with_handler : Declared → List ℕ → Declared
with_handler draft name = with_name (record draft { block = blocks.Handler (record { name = name; handler = record { actions = [] } }) }) name (kinds.Handler (length draft.parts.handlers))

-- the wiring so far, in the block of a new arbiter
abbrev pub with_arbiter : Declared → Kind → List ℕ → Declared
with_arbiter draft kind name = with_name (record draft { block = blocks.Arbiter (record { name = name; kind = kind; branches = [] }) }) name (kinds.Arbiter (length draft.parts.arbiters))

-- the wiring so far, in the block of a new poster
abbrev pub with_poster : Declared → List ℕ → Declared
with_poster draft name = with_name (record draft { block = blocks.Poster (record { name = name; posts = [] }) }) name kinds.Poster

-- one line more in an open block
abbrev pub with_action : Declared → HandlerPart → Action → Declared
with_action draft part action = record draft { block = blocks.Handler (record part { handler = record { actions = part.handler.actions ++ action ∷ [] } }) }

-- the wiring so far, with one branch more in the block of its arbiter
abbrev pub with_branch : Declared → ArbiterPart → BranchPart → Declared
with_branch draft part branch = with_name (record (with_spots draft branch) { block = blocks.Arbiter (record part { branches = part.branches ++ branch ∷ [] }) }) branch.name kinds.Branch

-- the wiring so far, with one post more in the block of its poster
abbrev pub with_post : Declared → PosterPart → Sent → Declared
with_post draft part post = record draft { block = blocks.Poster (record part { posts = part.posts ++ post ∷ [] }) }

-- a block closes
abbrev pub end_handler : Declared → HandlerPart → Declared
end_handler draft part = record draft { parts = record draft.parts { handlers = draft.parts.handlers ++ part ∷ [] }; block = blocks.Outside }

-- the wiring so far, with the arbiter whose block ends
abbrev pub end_arbiter : Declared → ArbiterPart → Declared
end_arbiter draft part = record draft { parts = record draft.parts { arbiters = draft.parts.arbiters ++ part ∷ [] }; block = blocks.Outside }

-- the wiring so far, with the poster whose block ends
abbrev pub end_poster : Declared → PosterPart → Declared
end_poster draft part = record draft { parts = record draft.parts { posters = draft.parts.posters ++ part ∷ [] }; block = blocks.Outside }

-- how many branches the arbiters have together
abbrev pub branch_count : Parts → ℕ
branch_count parts = sum (map (λ (arbiter : ArbiterPart). length arbiter.branches) parts.arbiters)

-- how many posts the scripts have together
abbrev pub script_count : Parts → ℕ
script_count parts = posts_in_all parts.posters

-- the ports of a set
abbrev pub members_of : Declared → ℕ → List ℕ
members_of draft set = option_map_or (λ (part : SetPart). part.ports) (slice_get draft.parts.sets set) []

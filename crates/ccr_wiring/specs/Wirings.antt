-- What a wiring says of a branch, a queue, a handler and a cause.
use Rattle.std.specs.Prelude.{ℕ, suc, ◌+◌, Bool, true, false, List, [], ◌∷◌, ◌++◌, map, filter_map, Option, Some, None, option_map, zero, length}
use Rattle.std.specs.List.{slice_get}
use Rattle.std.specs.Option.{option_map_or}
use Rattle.ccr_base.specs.declared.names.Spot.{Spot}
use Rattle.ccr_base.specs.declared.names.Spot.TheVariants.{Branch, Site}
use Rattle.ccr_base.specs.declared.handlers.Action.{Action}
use Rattle.ccr_base.specs.declared.handlers.Action.TheVariants.{Await}
use Rattle.ccr_wiring.specs.declared.parts.Parts.{Parts}
use Rattle.ccr_wiring.specs.declared.parts.ArbiterPart.{ArbiterPart}
use Rattle.ccr_wiring.specs.declared.parts.BranchPart.{BranchPart}
use Rattle.ccr_wiring.specs.declared.parts.QueuePart.{QueuePart}
use Rattle.ccr_base.specs.declared.policies.Policy.{Policy}
use Rattle.ccr_base.specs.declared.policies.Policy.TheVariants.{Unbounded}
use Rattle.ccr_wiring.specs.declared.parts.Kind.{Kind}
use Rattle.ccr_wiring.specs.declared.parts.Kind.TheVariants as kinds
use Rattle.ccr_wiring.specs.declared.parts.DomainPart.{DomainPart}
use Rattle.ccr_wiring.specs.Domains.{domain_of}
use Rattle.ccr_wiring.specs.Groups.{is_interleave}

-- a branch with the number of its domain and the kind of its arbiter
pub record Placement : Type 0 where
  pub domain : ℕ
  pub kind : Kind
  pub branch : BranchPart

-- the arbiter's branches, each with the arbiter's kind and, as if it were its own domain, its number
abbrev pub placements_of : ℕ → ArbiterPart → List Placement
placements_of number arbiter = map (λ branch. record { domain = number; kind = arbiter.kind; branch = branch }) arbiter.branches

-- the branches of the arbiters, of which the first has this number
abbrev pub placements_from : ℕ → List ArbiterPart → List Placement
placements_from number [] = []
placements_from number (arbiter ∷ arbiters) = placements_of number arbiter ++ placements_from (number + 1) arbiters

-- how many branches the first arbiters have, so many of them
abbrev pub branches_before : ℕ → List ArbiterPart → ℕ
branches_before zero arbiters = 0
branches_before (suc number) [] = 0
branches_before (suc number) (arbiter ∷ arbiters) = length arbiter.branches + branches_before number arbiters

-- the branch in the domain of its arbiter
abbrev pub in_domain : List DomainPart → Placement → Placement
in_domain domains s = record { domain = domain_of domains s.domain; kind = s.kind; branch = s.branch }

-- all branches, in the order of their numbers
abbrev pub placements : Parts → List Placement
placements wiring = map (in_domain wiring.domains) (placements_from 0 wiring.arbiters)

-- the branch of this number
abbrev pub placement : Parts → ℕ → Option Placement
placement wiring branch = slice_get (placements wiring) branch

-- the arbiter's kind; a number that names no arbiter counts as an Interleave, and has no branches
abbrev pub kind_of : Parts → ℕ → Kind
kind_of wiring arbiter = option_map_or (λ (part : ArbiterPart). part.kind) (slice_get wiring.arbiters arbiter) kinds.Interleave

-- whether the domain of this number is of Interleaves: so is the arbiter of its number, the least of the domain
abbrev pub is_interleave_number : Parts → ℕ → Bool
is_interleave_number wiring arbiter = option_map_or (λ (part : ArbiterPart). is_interleave part.kind) (slice_get wiring.arbiters arbiter) false

-- the queue's policy; a number that names no queue counts as an unbounded one
abbrev pub policy_of : Parts → ℕ → Policy
policy_of wiring queue = option_map_or (λ (part : QueuePart). part.policy) (slice_get wiring.queues queue) Unbounded

-- the handler's actions; none where the number names no handler
abbrev pub actions_of : Parts → ℕ → List Action
actions_of wiring handler = option_map_or (λ part. part.handler.actions) (slice_get wiring.handlers handler) []

-- the actions of the branch's handler; none where the wiring has no such branch
abbrev pub actions_at : Parts → ℕ → List Action
actions_at wiring branch = option_map_or (λ (s : Placement). actions_of wiring s.branch.handler) (placement wiring branch) []

-- the port to which failures under the cause post
abbrev pub exception_port : Parts → ℕ → Option ℕ
exception_port wiring cause = option_map (λ part. part.port) (slice_get wiring.causes cause)

-- the port that the action awaits, where it is an await
abbrev pub await_port : Action → Option ℕ
await_port (Await port) = Some port
await_port _ = None

-- the ports that a handler's actions await, site by site
abbrev pub awaited : List Action → List ℕ
awaited actions = filter_map await_port actions

-- the branch of which the spot is, or is a site
abbrev pub branch_of : Spot → ℕ
branch_of (Branch branch) = branch
branch_of (Site branch site) = branch

-- the queue of the spot's branch
abbrev pub queue_of_spot : Parts → Spot → ℕ
queue_of_spot wiring spot = option_map_or (λ (s : Placement). s.branch.queue) (placement wiring (branch_of spot)) 0

-- the domain of the spot's branch
abbrev pub domain_of_spot : Parts → Spot → ℕ
domain_of_spot wiring spot = option_map_or (λ (s : Placement). s.domain) (placement wiring (branch_of spot)) 0

-- whether the spot is a branch and not a site
abbrev pub is_branch : Spot → Bool
is_branch (Branch branch) = true
is_branch (Site branch site) = false

-- the segment that a task fired at the spot runs
abbrev pub segment_of : Spot → ℕ
segment_of (Branch branch) = 0
segment_of (Site branch site) = suc site

-- the site at which a task fired at the spot is suspended
abbrev pub next_site : Spot → Spot
next_site spot = Site (branch_of spot) (segment_of spot)

-- the port that is awaited at this site of the branch
abbrev pub site_port : Parts → ℕ → ℕ → Option ℕ
site_port wiring branch site = option_map_or (λ (s : Placement). slice_get (awaited (actions_of wiring s.branch.handler)) site) (placement wiring branch) None

-- a site for each awaited port, of which the first has this number
abbrev pub sites_from : ℕ → ℕ → List ℕ → List Spot
sites_from branch site [] = []
sites_from branch site (port ∷ ports) = Site branch site ∷ sites_from branch (site + 1) ports

-- the branches, of which the first has this number, each followed by its sites
abbrev pub spots_from : Parts → ℕ → List Placement → List Spot
spots_from wiring branch [] = []
spots_from wiring branch (s ∷ ss) = Branch branch ∷ sites_from branch 0 (awaited (actions_of wiring s.branch.handler)) ++ spots_from wiring (branch + 1) ss

-- each branch, followed by its sites
abbrev pub spots : Parts → List Spot
spots wiring = spots_from wiring 0 (placements wiring)

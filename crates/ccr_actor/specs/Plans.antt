-- What the wiring says of attempts: their plans, and the spots to drive.
use Rattle.std.specs.Prelude.{ℕ, List, [], ◌∷◌}
use Rattle.std.specs.Option.{option_map_or}
use Rattle.ccr_base.specs.declared.names.Spot.{Spot}
use Rattle.ccr_base.specs.declared.names.Spot.TheVariants.{Branch, Site}
use Rattle.ccr_base.specs.declared.patterns.Pattern.{Pattern}
use Rattle.ccr_base.specs.declared.patterns.Pattern.TheVariants.{Slots}
use Rattle.ccr_base.specs.declared.policies.Policy.{Policy}
use Rattle.ccr_base.specs.declared.policies.Policy.TheVariants.{Throttle}
use Rattle.ccr_wiring.specs.declared.parts.Parts.{Parts}
use Rattle.ccr_wiring.specs.Takers.{branches_of}
pub use Rattle.ccr_wiring.specs.Wirings.{is_interleave_number}
use Rattle.ccr_wiring.specs.Wirings.{Placement, placement, site_port, queue_of_spot, domain_of_spot}
use Rattle.ccr_claim.specs.declared.plan.ClaimPlan.{ClaimPlan}
use Rattle.ccr_claim.specs.Plans.{any_slot}

-- the one message that a site takes
abbrev pub one_of : ℕ → Pattern
one_of port = Slots (any_slot port 1 1 ∷ [])

-- a pattern that takes nothing
abbrev pub no_pattern : Pattern
no_pattern = Slots []

-- what a firing at the spot takes
abbrev pub pattern_at : Parts → Spot → Pattern
pattern_at wiring (Branch branch) = option_map_or (λ (s : Placement). s.branch.pattern) (placement wiring branch) no_pattern
pattern_at wiring (Site branch site) = option_map_or one_of (site_port wiring branch site) no_pattern

-- the plan of attempts on the spot
abbrev pub plan_of : Parts → Spot → ClaimPlan
plan_of wiring spot = record { spot = spot; pattern = pattern_at wiring spot; queue = queue_of_spot wiring spot; arbiter = domain_of_spot wiring spot }

-- the branches of a throttle queue
abbrev pub throttled : Parts → ℕ → Policy → List Spot
throttled wiring queue (Throttle n) = branches_of wiring queue
throttled wiring queue _ = []

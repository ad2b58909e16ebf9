-- What valid wirings have, and what their legal histories have.
use Rattle.std.proofs.Common.{◌⊎◌, ◌≡◌, ℕ, true, false, [], Some}
use Rattle.std.specs.Prelude.{slice_get}
use Rattle.ccr_base.specs.declared.names.Spot.{Spot}
use Rattle.ccr_base.specs.declared.names.Spot.TheVariants.{Branch}
use Rattle.ccr_base.specs.declared.patterns.Pattern.{Pattern}
use Rattle.ccr_base.specs.declared.patterns.Pattern.TheVariants.{Slots, Gather}
use Rattle.ccr_base.specs.declared.patterns.Slot.{Slot}
use Rattle.ccr_base.specs.declared.policies.Group.TheVariants as groups
use Rattle.ccr_base.specs.declared.tasks.Task.{Task}
use Rattle.ccr_handler.specs.declared.segments.PlayEnd.TheVariants as plays
use Rattle.ccr_wiring.specs.declared.parts.ArbiterPart.{ArbiterPart}
use Rattle.ccr_wiring.specs.declared.parts.Parts.{Parts}
use Rattle.ccr_wiring.specs.Groups.{may_have}
use Rattle.ccr_wiring.specs.Wirings.{Placement, placement, spots, next_site}
use Rattle.ccr_model.specs.Tasks.{is_interleave}
use Rattle.ccr_model.proofs.Members.{Among}
use Rattle.ccr_net.proofs.Parts.PhasesFitPlans.{SpotFits}
use Rattle.ccr_places.specs.Arbiters as arbiters
use Rattle.ccr_actor.specs.Actors.{play_in}
use Rattle.ccr_runs.specs.Places.{arbiter_after, first_branch}

-- each slot takes a fixed number; a gather as it is
abbrev pub IsEven : Pattern → Type 0
IsEven (Slots slots) = (slot : Slot) → Among slot slots → slot.least ≡ slot.most
IsEven (Gather total first second) = Unit {0}

-- a branch fires always, or one firing retires its arbiter
abbrev pub Retires : Parts → Placement → ArbiterPart → Type 0
Retires w s part = (s.branch.group ≡ groups.Always) ⊎ (((arbiter_after (first_branch w s.domain) part []).once ≡ true) × ((s.branch.group ≡ groups.Once) ⊎ (s.branch.group ≡ groups.Choice)))

-- what the proofs use of a valid wiring
pub record PlainFacts (w : Parts) : Type 0 where
  pub kinds_so : (b : ℕ) (s : Placement) (part : ArbiterPart) → placement w b ≡ Some s → slice_get w.arbiters s.domain ≡ Some part → part.kind ≡ s.kind
  pub groups_so : (b : ℕ) (s : Placement) → placement w b ≡ Some s → may_have s.kind s.branch.group ≡ true
  pub retires : (b : ℕ) (s : Placement) (part : ArbiterPart) → placement w b ≡ Some s → slice_get w.arbiters s.domain ≡ Some part → is_interleave s.kind ≡ false → arbiters.has_spot (arbiter_after (first_branch w s.domain) part []) (Branch b) ≡ true → Retires w s part
  pub even : (b : ℕ) (s : Placement) → placement w b ≡ Some s → IsEven s.branch.pattern
  pub places_so : (spot : Spot) → Among spot (spots w) → SpotFits w spot
  pub sites_so : (task : Task) (site : ℕ) → (play_in w task).end ≡ plays.Yield site → SpotFits w (next_site task.spot)

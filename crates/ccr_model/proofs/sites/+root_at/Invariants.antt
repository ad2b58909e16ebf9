use Rattle.ccr_wiring.specs.Wirings.{segment_of}
use Rattle.ccr_model.proofs.sites.+root_at.Given as goal

abbrev pub decreases-root_at : goal.decreases-root_at
decreases-root_at l = segment_of l.spot

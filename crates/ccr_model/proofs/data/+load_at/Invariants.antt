use Rattle.ccr_wiring.specs.Wirings.{segment_of}
use Rattle.ccr_model.proofs.data.+load_at.Given as goal

abbrev pub decreases-load_at : goal.decreases-load_at
decreases-load_at l = segment_of l.spot

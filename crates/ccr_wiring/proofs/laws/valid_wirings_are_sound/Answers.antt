use Rattle.ccr_wiring.proofs.Soundness.{sound}
use Rattle.ccr_wiring.proofs.laws.valid_wirings_are_sound.Goals as goal

pub returns : goal.returns
returns c = sound

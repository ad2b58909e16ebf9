use Rattle.std.proofs.Common.{arith}
use Rattle.std.proofs.lemmas.Grind.{common_steps}
use Rattle.ccr_wiring.specs.Wirings.{branch_of, segment_of}
use Rattle.ccr_model.specs.Views.{load_seen}
use Rattle.ccr_model.proofs.PlayPast.{play_at-past}
use Rattle.ccr_model.proofs.data.play_at_spot.Goals as goal

pub returns-in-None : goal.returns-in-None
returns-in-None c =
    let past = play_at-past c.args.wiring.now c.parts-valid.ensures.valid (branch_of c.args.spot) (segment_of c.args.spot) (load_seen c.args.load.now) (grind (arith, common_steps)) in
    grind (arith, common_steps, past)

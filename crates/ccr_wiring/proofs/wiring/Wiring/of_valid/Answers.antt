use Rattle.ccr_wiring.proofs.Validity.{no_codes}
use Rattle.ccr_wiring.proofs.wiring.Wiring.of_valid.Goals as goal

pub all_spots-requires : goal.all_spots-requires
all_spots-requires c = (no_codes c.args.parts c.requires).limits

pub all_positions-requires : goal.all_positions-requires
all_positions-requires c = (no_codes c.args.parts c.requires).limits

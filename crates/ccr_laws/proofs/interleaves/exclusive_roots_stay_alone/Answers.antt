use Rattle.ccr_laws.proofs.Exclusion.{alone_since}
use Rattle.ccr_laws.proofs.interleaves.exclusive_roots_stay_alone.Goals as goal

pub returns : goal.returns
returns c = alone_since

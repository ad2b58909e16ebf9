use Rattle.std.proofs.Common.{length}
use Rattle.ccr_ledger.proofs.held.+count_shared.Given as goal

abbrev pub decreases-count_shared : goal.decreases-count_shared
decreases-count_shared l = length l.oldest.now
